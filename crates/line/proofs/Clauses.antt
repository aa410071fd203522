-- The rules' steps as laws, by the tests that decide them. Assumes nothing.
use mathlib.Core.Path.{◌≡◌, refl}
use mathlib.Core.Bool.{true, false}
use mathlib.Core.List.{List, [], ◌∷◌, ◌++◌}
use Prim.Native.Nat.{ℕ, ◌+◌, ◌<◌}
use native.Mathlib.Omega.{arith}
use borrow.Author.Tests.{eq-eqb, ne_eqb}
use lib.ListN.{length, get_or}
use Rattle.rules.specs.Text.{Text, bytes, uppers, leading, trim, pieces, uncut, around, first_cut, starts, nth}
use Rattle.rules.specs.Assemble.{is_end}
use Rattle.line.specs.Line.{task_at}
use Rattle.line.specs.declared.Task.{Task}
use Rattle.line.specs.declared.Task.TheVariants.{Skipped, End, Org, NoOrg, LabelOnly, Instruction, Value, Space}
use Rattle.rules.specs.Directive.{piece_directive, directive_of}
use Rattle.rules.specs.Line.{Name, name, skipped, end, label_only, instruction, line, number_in, instruction_of, data_task, data_pieces, nonempty, is_data, data_line, rest_line, after_label, label_line, org_task, trimmed_line}

-- ---- step 5
module _ (t : Text) where
  pub directive_pieces : first_cut 58 t ≡ uncut → directive_of t ≡ piece_directive t (pieces t)
  unfolding directive_of
  directive_pieces e = rw (e, directive_of)

  pub directive_colon : {l d : Text} → first_cut 58 t ≡ around l d → directive_of t ≡ trim d
  unfolding directive_of
  directive_colon e = rw (e, directive_of)

module _ (ns : List Name) (i : ℕ) (t : Text) where
  pub data_pieces_lem : first_cut 58 t ≡ uncut → data_line ns i t ≡ data_pieces ns i t (pieces t)
  unfolding data_line
  data_pieces_lem e = rw (e, data_line)

  pub data_colon : {l d : Text} → first_cut 58 t ≡ around l d → data_line ns i t ≡ line (ns ++ nonempty i (trim l)) (data_task t (trim d))
  unfolding data_line
  data_colon e = rw (e, data_line)

  -- ---- steps 5 and 6
  pub rest_data : is_data t ≡ true → rest_line ns i t ≡ data_line ns i t
  unfolding rest_line
  rest_data e = rw (e, rest_line)

  pub rest_instruction : is_data t ≡ false → rest_line ns i t ≡ line ns (instruction (instruction_of t))
  unfolding rest_line
  rest_instruction e = rw (e, rest_line)

-- ---- step 4
pub after_some : (n : Name) (i : ℕ) (t : Text) → 0 < length t → after_label n i t ≡ rest_line (n ∷ []) i t
unfolding after_label
after_some n i [] h = absurd (omega arith)
after_some n i (b ∷ t) h = refl

pub after_none : (n : Name) (i : ℕ) (t : Text) → length t ≡ 0 → after_label n i t ≡ line (n ∷ []) label_only
unfolding after_label
after_none n i [] h = refl
after_none n i (b ∷ t) h = absurd (omega arith)

module _ (i : ℕ) (t : Text) where
  pub label_none : first_cut 58 t ≡ uncut → label_line i t ≡ rest_line [] i t
  unfolding label_line
  label_none e = rw (e, label_line)

  pub label_some : {l r : Text} → first_cut 58 t ≡ around l r → label_line i t ≡ after_label (name i (trim l)) (i + length l + 1 + leading r) (trim r)
  unfolding label_line
  label_some e = rw (e, label_line)

-- ---- steps 1 to 3
module _ (i : ℕ) where
  pub first_none : (t : Text) → length t ≡ 0 → trimmed_line i t ≡ line [] skipped
  unfolding trimmed_line
  first_none [] z = refl
  first_none (b ∷ t) z = absurd (omega arith)

  pub first_note : (t : Text) → 0 < length t → get_or t 0 0 ≡ 59 → trimmed_line i t ≡ line [] skipped
  unfolding trimmed_line
  first_note [] l e = absurd (omega arith)
  first_note (b ∷ t) l e = rw (eq-eqb b 59 e, trimmed_line)

  pub first_end : (t : Text) → 0 < length t → (get_or t 0 0 ≡ 59 → ⊥) → starts (bytes "END") (uppers t) ≡ true → trimmed_line i t ≡ line [] end
  unfolding trimmed_line
  first_end [] l d e = absurd (omega arith)
  first_end (b ∷ t) l d e = rw (ne_eqb b 59 d, e, trimmed_line)

  pub first_org : (t : Text) → 0 < length t → (get_or t 0 0 ≡ 59 → ⊥) → starts (bytes "END") (uppers t) ≡ false → starts (bytes "ORG") (uppers t) ≡ true
      → trimmed_line i t ≡ line [] (org_task (number_in (nth 1 (pieces t))))
  unfolding trimmed_line
  first_org [] l d e o = absurd (omega arith)
  first_org (b ∷ t) l d e o = rw (ne_eqb b 59 d, e, o, trimmed_line)

  pub first_label : (t : Text) → 0 < length t → (get_or t 0 0 ≡ 59 → ⊥) → starts (bytes "END") (uppers t) ≡ false → starts (bytes "ORG") (uppers t) ≡ false
      → trimmed_line i t ≡ label_line i t
  unfolding trimmed_line
  first_label [] l d e o = absurd (omega arith)
  first_label (b ∷ t) l d e o = rw (ne_eqb b 59 d, e, o, trimmed_line)

-- ---- END alone ends the passes
pub end_alone : (source : Text) (k : Task) → (k ≡ End → ⊥) → false ≡ is_end (task_at source k)
unfolding is_end
end_alone source Skipped d = refl
end_alone source End d = absurd (d refl)
end_alone source (Org v) d = refl
end_alone source NoOrg d = refl
end_alone source LabelOnly d = refl
end_alone source (Instruction s) d = refl
end_alone source (Value n v) d = refl
end_alone source (Space n) d = refl
