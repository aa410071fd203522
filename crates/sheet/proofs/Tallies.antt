-- Totals by their lines: one line more, all lines of an accepted source, and how low they are. Assumes nothing.
use Rattle.std.specs.Prelude.{Option, None, Some}
use mathlib.Core.Path.{◌≡◌, refl, sym, ap, ◌∙◌}
use mathlib.Core.Bool.{Bool, true, false, cond}
use mathlib.Core.List.{List, [], ◌∷◌, ◌++◌, flat_map, append_assoc, map-append}
use Prim.Native.Nat.{ℕ, zero, suc, ◌+◌, ◌-◌}
use native.Mathlib.Nat.{add-zero, max-zero}
use native.Mathlib.Omega.{arith}
use lib.Dec.{eqb}
use lib.ListN.{length, replicate, length-append}
use Rattle.rules.specs.Text.{Text, cut_at}
use Rattle.rules.specs.Label.{Table}
use Rattle.rules.specs.Assemble.{Put, Pass as Ruled, Place, places_at, data_contents, code_contents_by, data_places, code_places_by, code_places, second_pass_by}
use Rattle.requests.specs.Sheet.{Class, skip, origin, bare_label, datum, emitting, wordless, ending, class_number, word_class, class_of, read_classes, classes, how_many, marked_in, Totals as Said, totals, plus, accepted_sheet}
use Rattle.text.specs.declared.Span.{Span}
use Rattle.line.specs.declared.Task.{Task}
use Rattle.line.specs.declared.Task.TheVariants.{Skipped, End, Org, NoOrg, LabelOnly, Instruction, Value, Space}
use Rattle.encode.specs.Code.{places_of}
use Rattle.encode.specs.declared.Code.{Code}
use Rattle.encode.specs.declared.Code.TheVariants.{Word, Value as WithValue, Label}
use Rattle.sheet.specs.Lines.{counted_code, put_of, tally_of}

-- ---- equal totals
pub same_totals : {a a' b b' c c' d d' e e' f f' g g' h h' i i' j j' k k' l l' : ℕ} → a ≡ a' → b ≡ b' → c ≡ c' → d ≡ d' → e ≡ e' → f ≡ f' → g ≡ g' → h ≡ h' → i ≡ i'
    → j ≡ j' → k ≡ k' → l ≡ l' → totals a b c d e f g h i j k l ≡ totals a' b' c' d' e' f' g' h' i' j' k' l'
same_totals p q r s t u v w x y z o = rw (p, q, r, s, t, u, v, w, x, y, z, o)

-- ---- counts of two lists, one after the other
many_append : (c : Class) (xs ys : List Class) → how_many c (xs ++ ys) ≡ how_many c xs + how_many c ys
unfolding how_many
many_append c [] ys = omega arith
many_append c (x ∷ xs) ys = go (eqb (class_number c) (class_number x)) (many_append c xs ys)
  where
    go : (y : Bool) → how_many c (xs ++ ys) ≡ how_many c xs + how_many c ys
        → cond y (suc (how_many c (xs ++ ys))) (how_many c (xs ++ ys)) ≡ cond y (suc (how_many c xs)) (how_many c xs) + how_many c ys
    go true e = omega arith
    go false e = e

marked_append : (xs ys : List Place) → marked_in (xs ++ ys) ≡ marked_in xs + marked_in ys
unfolding marked_in
marked_append [] ys = omega arith
marked_append (x ∷ xs) ys = go (eqb x.mark 1) (marked_append xs ys)
  where
    go : (y : Bool) → marked_in (xs ++ ys) ≡ marked_in xs + marked_in ys
        → cond y (suc (marked_in (xs ++ ys))) (marked_in (xs ++ ys)) ≡ cond y (suc (marked_in xs)) (marked_in xs) + marked_in ys
    go true e = omega arith
    go false e = e

flat_append : {A B : Type 0} (f : A → List B) (xs ys : List A) → flat_map f (xs ++ ys) ≡ flat_map f xs ++ flat_map f ys
unfolding flat_map
flat_append f [] ys = refl
flat_append f (x ∷ xs) ys = rw (flat_append f xs ys) (sym (append_assoc (f x) (flat_map f xs) (flat_map f ys)))

-- ---- one line more
module _ (ls : Table) (us : List Put) (u : Put) where
  class_more : (c : Class) → how_many c (read_classes ls (us ++ (u ∷ []))) ≡ how_many c (read_classes ls us) + how_many c (read_classes ls (u ∷ []))
  unfolding read_classes
  class_more c = ap (how_many c) (map-append _ us (u ∷ [])) ∙ many_append c (read_classes ls us) (read_classes ls (u ∷ []))

  places_more : (f : Put → List Place) → length (flat_map f (us ++ (u ∷ []))) ≡ length (flat_map f us) + length (flat_map f (u ∷ []))
  places_more f = ap length (flat_append f us (u ∷ [])) ∙ length-append (flat_map f us) (flat_map f (u ∷ []))

  marks_more : (f : Put → List Place) → marked_in (flat_map f (us ++ (u ∷ []))) ≡ marked_in (flat_map f us) + marked_in (flat_map f (u ∷ []))
  marks_more f = ap marked_in (flat_append f us (u ∷ [])) ∙ marked_append (flat_map f us) (flat_map f (u ∷ []))

  pub tally_more : tally_of ls (us ++ (u ∷ [])) ≡ plus (tally_of ls us) (tally_of ls (u ∷ []))
  unfolding tally_of plus
  tally_more =
      same_totals (class_more skip) (class_more origin) (class_more bare_label) (class_more datum) (class_more emitting) (class_more wordless) (class_more ending)
      (omega (arith, places_more data_places, places_more (code_places ls))) (omega (arith, marks_more data_places, marks_more (code_places ls))) refl refl refl

-- ---- by its task, and an instruction by its code
-- an instruction's totals, by its places
unfoldable places_totals : List Place → Said
places_totals l =
    let c = word_class l ∷ [] in
    totals (how_many skip c) (how_many origin c) (how_many bare_label c) (how_many datum c) (how_many emitting c) (how_many wordless c) (how_many ending c) (0 + length (l ++ []))
    (0 + marked_in (l ++ [])) 0 0 0

by_code : (a : ℕ) (c : Option Code) → counted_code c ≡ places_totals (places_of a c)
unfolding places_totals how_many class_number word_class marked_in
by_code a None = refl
by_code a (Some (Word w)) = refl
by_code a (Some (WithValue w v)) = refl
by_code a (Some (Label w x)) = refl

-- what each kind of line adds
abbrev pub OneLine : Table → Text → ℕ → Task → Said → Type 0
OneLine ls source a k u = u ≡ tally_of ls (put_of source a k ∷ [])

module _ (ls : Table) (source : Text) (a : ℕ) where
  pub code_line : (s : Span) (c : Option Code) → places_of a c ≡ code_places ls (put_of source a (Instruction s)) → OneLine ls source a (Instruction s) (counted_code c)
  unfolding tally_of read_classes class_of data_places data_contents places_at flat_map marked_in places_totals
  code_line s c e = by_code a c ∙ ap places_totals e

  pub skipped_line : OneLine ls source a Skipped (totals 1 0 0 0 0 0 0 0 0 0 0 0)
  unfolding tally_of read_classes class_of how_many class_number marked_in data_places data_contents code_places_by code_contents_by places_at flat_map
  skipped_line = refl

  pub end_line : OneLine ls source a End (totals 0 0 0 0 0 0 1 0 0 0 0 0)
  unfolding tally_of read_classes class_of how_many class_number marked_in data_places data_contents code_places_by code_contents_by places_at flat_map
  end_line = refl

  pub org_line : (v : ℕ) → OneLine ls source a (Org v) (totals 0 1 0 0 0 0 0 0 0 0 0 0)
  unfolding tally_of read_classes class_of how_many class_number marked_in data_places data_contents code_places_by code_contents_by places_at flat_map
  org_line v = refl

  pub no_org_line : OneLine ls source a NoOrg (totals 0 1 0 0 0 0 0 0 0 0 0 0)
  unfolding tally_of read_classes class_of how_many class_number marked_in data_places data_contents code_places_by code_contents_by places_at flat_map
  no_org_line = refl

  pub label_line_lem : OneLine ls source a LabelOnly (totals 0 0 1 0 0 0 0 0 0 0 0 0)
  unfolding tally_of read_classes class_of how_many class_number marked_in data_places data_contents code_places_by code_contents_by places_at flat_map
  label_line_lem = refl

  pub value_line : (n v : ℕ) → OneLine ls source a (Value n v) (totals 0 0 0 1 0 0 0 2 0 0 0 0)
  unfolding tally_of read_classes class_of how_many class_number marked_in data_places data_contents code_places_by code_contents_by places_at flat_map
  value_line n v = refl

  pub space_line : (n : ℕ) → OneLine ls source a (Space n) (totals 0 0 0 1 0 0 0 0 0 0 0 0)
  unfolding tally_of read_classes class_of how_many class_number marked_in data_places data_contents code_places_by code_contents_by places_at flat_map
  space_line n = refl

-- totals with a line more, an instruction's as it is told
abbrev pub with_line : Said → Said → Task → Said
with_line t u Skipped = record t { skipped_lines = t.skipped_lines + 1 }
with_line t u End = record t { end_lines = t.end_lines + 1 }
with_line t u (Org v) = record t { org_lines = t.org_lines + 1 }
with_line t u NoOrg = record t { org_lines = t.org_lines + 1 }
with_line t u LabelOnly = record t { label_lines = t.label_lines + 1 }
with_line t u (Instruction s) = plus t u
with_line t u (Value n v) = record t { data_lines = t.data_lines + 1; words = t.words + 2 }
with_line t u (Space n) = record t { data_lines = t.data_lines + 1 }

pub with_line_lem : (ls : Table) (source : Text) (a : ℕ) (t : Said) (k : Task)
    → with_line t (tally_of ls (put_of source a k ∷ [])) k ≡ plus t (tally_of ls (put_of source a k ∷ []))
unfolding plus
with_line_lem ls source a t Skipped = rw (← skipped_line ls source a) (simp (add-zero, max-zero))
with_line_lem ls source a t End = rw (← end_line ls source a) (simp (add-zero, max-zero))
with_line_lem ls source a t (Org v) = rw (← org_line ls source a v) (simp (add-zero, max-zero))
with_line_lem ls source a t NoOrg = rw (← no_org_line ls source a) (simp (add-zero, max-zero))
with_line_lem ls source a t LabelOnly = rw (← label_line_lem ls source a) (simp (add-zero, max-zero))
with_line_lem ls source a t (Instruction s) = refl
with_line_lem ls source a t (Value n v) = rw (← value_line ls source a n v) (simp (add-zero, max-zero))
with_line_lem ls source a t (Space n) = rw (← space_line ls source a n) (simp (add-zero, max-zero))

-- ---- the whole source
none_ended : (c : Class) (n : ℕ) → eqb (class_number c) 6 ≡ false → how_many c (replicate n ending) ≡ 0
unfolding how_many class_number
none_ended c zero e = refl
none_ended c (suc n) e = rw e (none_ended c n e)

all_ended : (n : ℕ) → how_many ending (replicate n ending) ≡ n
unfolding how_many class_number
all_ended zero = refl
all_ended (suc n) = ap suc (all_ended n)

module _ (s : Text) (p : Ruled) where
  abbrev rest : ℕ
  rest = length (cut_at 10 s) - length p.puts

  class_all : (c : Class) → how_many c (classes s p) ≡ how_many c (read_classes p.labels p.puts) + how_many c (replicate rest ending)
  unfolding classes
  class_all c = many_append c (read_classes p.labels p.puts) (replicate rest ending)

  class_read : (c : Class) → eqb (class_number c) 6 ≡ false → how_many c (classes s p) ≡ how_many c (read_classes p.labels p.puts) + 0
  class_read c e = class_all c ∙ ap (λ (n : ℕ). how_many c (read_classes p.labels p.puts) + n) (none_ended c rest e)

  pub sheet_is : (ended labels : ℕ) → ended ≡ rest → labels ≡ length p.labels
      → plus (tally_of p.labels p.puts) (totals 0 0 0 0 0 0 ended 0 0 labels 1 0) ≡ accepted_sheet s p
  unfolding plus tally_of accepted_sheet second_pass_by class_number
  sheet_is n m e f =
      same_totals (sym (class_read skip refl)) (sym (class_read origin refl)) (sym (class_read bare_label refl)) (sym (class_read datum refl)) (sym (class_read emitting refl))
      (sym (class_read wordless refl)) (rw e (sym (class_all ending ∙ ap (λ (x : ℕ). how_many ending (read_classes p.labels p.puts) + x) (all_ended rest))))
      (omega (arith, length-append (flat_map data_places p.puts) (flat_map (code_places p.labels) p.puts)))
      (omega (arith, marked_append (flat_map data_places p.puts) (flat_map (code_places p.labels) p.puts))) (omega arith) refl refl
