-- The verdicts at every base: no verdict changes with labels and lines b higher. Assumes nothing.
use Rattle.std.specs.Prelude.{Option, None, Some, option_map}
use Rattle.rules.specs.Option.{bind, or_else}
use Prim.Native.Nat.{ℕ, ◌+◌}
use mathlib.Core.Path.{◌≡◌, refl, sym, ap, ap₂, ◌∙◌}
use mathlib.Core.Bool.{◌&&◌, ◌||◌}
use mathlib.Core.List.{List, [], ◌∷◌, map-map}
use lib.ListN.{length-map}
use lib.IntN.{ℤ}
use Rattle.rules.specs.Text.{Text, bytes, after}
use Rattle.rules.specs.Number.{Reading}
use Rattle.rules.specs.Line.{Task, skipped, end, org, no_org, label_only, instruction, value, space}
use Rattle.rules.specs.Label.{Table, find}
use Rattle.rules.specs.Encode.{Operation, Mnemonic, operation_in, is_some, reach, written_reading}
use Rattle.rules.specs.Forms.{Operand, i8, u16, hash_label, Dn, An, AtAn, label, jump_target, branch_target, form_with}
use Rattle.rules.specs.Answer.{accepted}
use Rattle.rules.specs.Assemble.{Pass}
use Rattle.requests.specs.Explain.{Reason, unknown_mnemonic, wrong_kinds, not_recorded, out_of_reach, Verdict, because, meets, failing, unless_found, unless_reached, fault, met, one_met, fault_in, unless, why_kinds, why_forms, why_operation, why, why_task, verdicts}
use Rattle.requests.proofs.Answers.{all_told}
use Rattle.promises.specs.Lawful.{shift_table, shift_put, shift_pass}
use Rattle.promises.specs.Explain.{ExplainsAtEveryBase}
use Rattle.promises.proofs.Shift.{find_shift}
use Rattle.promises.proofs.Words.{is_some_mapped, reach_shift, displacement_shift, jumps_shift}
use Rattle.promises.proofs.Nearest.{pass_at_lem}

module _ (b : ℕ) (ls : Table) (a : ℕ) where
  abbrev up : Table
  up = shift_table b ls

  -- an operand in a form's place
  found_shift : (l : Text) → is_some (find l up) ≡ is_some (find l ls)
  found_shift l = rw (find_shift b l ls, is_some_mapped (λ x. b + x) (find l ls))

  meets_shift : (x : Operand) (s : Text) → meets up (b + a) x s ≡ meets ls a x s
  unfolding meets bind
  meets_shift i8 s = refl
  meets_shift u16 s = refl
  meets_shift hash_label s = go (after (bytes "#") s)
    where
      go : (o : Option Text) → is_some (bind o λ l. find l up) ≡ is_some (bind o λ l. find l ls)
      go None = refl
      go (Some l) = found_shift l
  meets_shift Dn s = refl
  meets_shift An s = refl
  meets_shift AtAn s = refl
  meets_shift label s = found_shift s
  meets_shift jump_target s = jumps_shift b ls s
  meets_shift branch_target s = ap is_some (displacement_shift b ls a s)

  unfound_shift : (l : Text) → unless_found up l ≡ unless_found ls l
  unfolding unless_found
  unfound_shift l = rw (unless_found, find_shift b l ls) (go (find l ls))
    where
      go : (o : Option ℕ)
          → ◌≡◌ {A = Option Reason} (elim (option_map (λ x. b + x) o) [ None ↦ Some not_recorded | Some x ↦ None ]) (elim o [ None ↦ Some not_recorded | Some x ↦ None ])
      go None = refl
      go (Some x) = refl

  unreached_shift : (l : Text) → unless_reached up (b + a) l ≡ unless_reached ls a l
  unfolding unless_reached
  unreached_shift l = rw (unless_reached, find_shift b l ls) (go (find l ls))
    where
      go : (o : Option ℕ)
          → ◌≡◌ {A = Option Reason} (elim (option_map (λ x. b + x) o) [ None ↦ Some not_recorded | Some x ↦ elim (reach x (b + a)) [ None ↦ Some out_of_reach | Some z ↦ None ] ])
          (elim o [ None ↦ Some not_recorded | Some x ↦ elim (reach x a) [ None ↦ Some out_of_reach | Some z ↦ None ] ])
      go None = refl
      go (Some x) = rw (reach_shift b x a)

  fault_shift : (x : Operand) (s : Text) → fault up (b + a) x s ≡ fault ls a x s
  unfolding fault bind
  fault_shift i8 s = refl
  fault_shift u16 s = refl
  fault_shift hash_label s = go (after (bytes "#") s)
    where
      go : (o : Option Text) → bind o (unless_found up) ≡ bind o (unless_found ls)
      go None = refl
      go (Some l) = unfound_shift l
  fault_shift Dn s = refl
  fault_shift An s = refl
  fault_shift AtAn s = refl
  fault_shift label s = unfound_shift s
  fault_shift jump_target s = rw (fault, unfound_shift s)
  fault_shift branch_target s = go (written_reading s)
    where
      go : (o : Option (Reading ℤ))
          → ◌≡◌ {A = Option Reason} (elim o [ None ↦ unless_reached up (b + a) s | Some r ↦ failing r ]) (elim o [ None ↦ unless_reached ls a s | Some r ↦ failing r ])
      go None = unreached_shift s
      go (Some r) = refl

  -- a form's places
  met_shift : (f : List Operand) (ps : List Text) → met up (b + a) f ps ≡ met ls a f ps
  unfolding met
  met_shift [] ps = refl
  met_shift (x ∷ f) [] = refl
  met_shift (x ∷ f) (s ∷ ps) = ap₂ ◌&&◌ (meets_shift x s) (met_shift f ps)

  one_met_shift : (fs : List (List Operand)) (ps : List Text) → one_met up (b + a) fs ps ≡ one_met ls a fs ps
  unfolding one_met
  one_met_shift [] ps = refl
  one_met_shift (f ∷ fs) ps = ap₂ ◌||◌ (met_shift f ps) (one_met_shift fs ps)

  fault_in_shift : (f : List Operand) (ps : List Text) → fault_in up (b + a) f ps ≡ fault_in ls a f ps
  unfolding fault_in
  fault_in_shift [] ps = refl
  fault_in_shift (x ∷ f) [] = refl
  fault_in_shift (x ∷ f) (s ∷ ps) = ap₂ or_else (fault_shift x s) (fault_in_shift f ps)

  -- a line
  kinds_shift : (fs : List (List Operand)) (ps : List Text) → why_kinds up (b + a) fs ps ≡ why_kinds ls a fs ps
  unfolding why_kinds
  kinds_shift fs ps = go (form_with fs ps)
    where
      go : (o : Option (List Operand))
          → ◌≡◌ {A = Verdict} (elim o [ None ↦ because wrong_kinds | Some f ↦ unless (fault_in up (b + a) f ps) ])
          (elim o [ None ↦ because wrong_kinds | Some f ↦ unless (fault_in ls a f ps) ])
      go None = refl
      go (Some f) = ap unless (fault_in_shift f ps)

  forms_shift : (fs : List (List Operand)) (ps : List Text) → why_forms up (b + a) fs ps ≡ why_forms ls a fs ps
  unfolding why_forms
  forms_shift fs ps = rw (one_met_shift fs ps, kinds_shift fs ps)

  operation_shift : (o : Operation) (ps : List Text) → why_operation up (b + a) o ps ≡ why_operation ls a o ps
  unfolding why_operation
  operation_shift o ps = simp forms_shift

  task_shift : (names : List Mnemonic) (k : Task) → why_task names up (b + a) k ≡ why_task names ls a k
  unfolding why_task why
  task_shift names skipped = refl
  task_shift names end = refl
  task_shift names (org v) = refl
  task_shift names no_org = refl
  task_shift names label_only = refl
  task_shift names (instruction i) = go (operation_in names i.mnemonic)
    where
      go : (x : Option Operation)
          → ◌≡◌ {A = Verdict} (elim x [ None ↦ because unknown_mnemonic | Some o ↦ why_operation up (b + a) o i.operands ])
          (elim x [ None ↦ because unknown_mnemonic | Some o ↦ why_operation ls a o i.operands ])
      go None = refl
      go (Some o) = operation_shift o i.operands
  task_shift names (value n v) = refl
  task_shift names (space n) = refl

verdicts_shift : (names : List Mnemonic) (b : ℕ) (s : Text) (p : Pass) → verdicts names s (shift_pass b p) ≡ verdicts names s p
unfolding verdicts shift_pass shift_put
verdicts_shift names b s p = simp (length-map, map-map, task_shift)

pub explains_at_every_base : ExplainsAtEveryBase
unfolding ExplainsAtEveryBase
explains_at_every_base names b s p e =
    let h = pass_at_lem b s p e in
    all_told names b s p e ∙ ap accepted (ap (verdicts names s) h.2 ∙ verdicts_shift names b s h.0) ∙ sym (all_told names 0 s h.0 h.1)
