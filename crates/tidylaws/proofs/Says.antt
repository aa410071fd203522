-- Each line's copy is what the rules say of it, and the copy has the copies of the lines that are kept. Assumes nothing.
use mathlib.Core.Path.{◌≡◌, refl, sym, ap, ◌∙◌}
use mathlib.Core.Logic.{◌≢◌}
use mathlib.Core.List.{List, [], ◌∷◌, ◌++◌, map}
use Rattle.rules.specs.Text.{Text, trim, cut_at, around, first_cut}
use Rattle.requests.specs.Tidy.{squeezed, tidy_rest, tidy_line, tidy_lines, parted, tidy}
use Rattle.promises.specs.Tidy.{Kind, skip, fin, origin, step4, kind_of, up_to_end, without_skipped, lines_kept, CopyHasLines, CopyOf, end_line, org_line, no_colon, not_data, one_colon, two_colons, LinesAreCopied}
use Rattle.promises.proofs.Compared.{clash}
use Rattle.tidylaws.proofs.Shapes.{around_none, around_some, rest_data, rest_code, Rest, code, data_whole, data_parts, Open, open_whole, open_parts, open_of, copy_by, copy_by_lem, before_by, lines_more}
use Rattle.tidylaws.proofs.Spaced.{squeezes_trim, squeezes_is}
use Rattle.tidylaws.proofs.Passes.{LinesOf, same_lines, one_line, lines_of_lem}

-- ---- a line
module _ (l : Text) where
  says_rest : {n : Text} (r : Text) {t : Text} → kind_of (trim l) ≡ step4 → first_cut 58 (trim l) ≡ around n r → Rest (trim r) t → CopyOf l (trim n ++ (58 ∷ t))
  says_rest r e f (code g) = not_data e f g (squeezes_trim r)
  says_rest r e f (data_whole g h) = one_colon e f g h (squeezes_trim r)
  says_rest r e f (data_parts {l = m} {r = d} g h) = two_colons e f g h (squeezes_trim d)

  says_open : {t : Text} → kind_of (trim l) ≡ step4 → Open (trim l) t → CopyOf l t
  says_open e (open_whole f) = no_colon e f (squeezes_trim l)
  says_open e (open_parts {r = r} f q) = says_rest r e f q

  says : (k : Kind) → kind_of (trim l) ≡ k → k ≢ skip → CopyOf l (copy_by k (trim l))
  unfolding copy_by
  says skip e d = absurd (d refl)
  says fin e d = end_line e (squeezes_trim l)
  says origin e d = org_line e (squeezes_trim l)
  says step4 e d = says_open e (open_of (trim l))

  by : (k : Kind) → kind_of (trim l) ≡ k → tidy_line l ≡ copy_by k (trim l)
  by k e = copy_by_lem l ∙ rw e

  is_said : {t : Text} → CopyOf l t → tidy_line l ≡ t
  unfolding copy_by
  is_said (end_line e q) = by fin e ∙ squeezes_is q
  is_said (org_line e q) = by origin e ∙ squeezes_is q
  is_said (no_colon e f q) = by step4 e ∙ around_none tidy_rest (trim l) f ∙ squeezes_is q
  is_said (not_data {r = r} e f g q) = by step4 e ∙ around_some tidy_rest (trim l) f ∙ rw (rest_code (trim r) g, squeezes_is q)
  is_said (one_colon {r = r} e f g h q) = by step4 e ∙ around_some tidy_rest (trim l) f ∙ rw (rest_data (trim r) g, around_none squeezed (trim r) h, squeezes_is q)
  is_said (two_colons {r = r} e f g h q) = by step4 e ∙ around_some tidy_rest (trim l) f ∙ rw (rest_data (trim r) g, around_some squeezed (trim r) h, squeezes_is q)

pub lines_are_copied : LinesAreCopied
unfolding LinesAreCopied
lines_are_copied l t d = (λ e. rw (sym e ∙ copy_by_lem l) (says l (kind_of (trim l)) refl d), is_said l)

-- ---- the lines
lines_read : (ls : List Text) → tidy_lines ls ≡ map tidy_line (without_skipped (up_to_end ls))
unfolding tidy_lines without_skipped up_to_end before_by
lines_read [] = refl
lines_read (l ∷ ls) = rw (lines_more l ls) (go (kind_of (trim l)) refl (lines_read ls))
  where
    go : (k : Kind) → kind_of (trim l) ≡ k → tidy_lines ls ≡ map tidy_line (without_skipped (up_to_end ls)) → before_by (kind_of (trim l)) (tidy_line l) (tidy_lines ls) ≡ map tidy_line (without_skipped (up_to_end (l ∷ ls)))
    go skip e ih = rw (up_to_end, e, without_skipped, e) ih
    go fin e ih = rw (up_to_end, e, without_skipped, e)
    go origin e ih = rw (up_to_end, e, without_skipped, e, ih)
    go step4 e ih = rw (up_to_end, e, without_skipped, e, ih)

kept : (s : Text) → tidy_lines (cut_at 10 s) ≡ map tidy_line (lines_kept s)
unfolding lines_kept
kept s = lines_read (cut_at 10 s)

some_lines : {ts us : List Text} → LinesOf ts us → (l : Text) (ls : List Text) → ts ≡ l ∷ ls → us ≡ l ∷ ls
some_lines (same_lines k ks) l ls e = e
some_lines one_line l ls e = clash cc

pub copy_has_lines : CopyHasLines
unfolding tidy parted
copy_has_lines =
    record {
      some = λ s l ls e. some_lines (lines_of_lem s) (tidy_line l) (map tidy_line ls) (kept s ∙ ap (map tidy_line) e);
      none = λ s e. ap parted (kept s ∙ ap (map tidy_line) e);
    }
