-- Conditions 1 to 3, 1 to 6 and 1 to 7 are those by which the checks, the pass at a base and assembling refuse, in the rules' order.
-- Assumes nothing.
use Prim.Native.Nat.{ℕ, suc, ◌<◌}
use mathlib.Core.Path.{◌≡◌, refl, ap, ◌∙◌}
use mathlib.Core.Bool.{Bool, true, false, cond}
use mathlib.Core.List.{List, [], ◌∷◌}
use native.Mathlib.Omega.{arith}
use borrow.Author.Tests.{ltb-true, ltb-false, lt-ltb, leb-true, leb-false, le-leb}
use lib.ListN.{length, get_or}
use lib.Dec.{leb, ltb, eqb}
use Rattle.rules.specs.Limits.{max_source, max_lines, address_limit}
use Rattle.rules.specs.Text.{Text, on_first, cut_where, cut_at}
use Rattle.rules.specs.Line.{size}
use Rattle.rules.specs.Encode.{encode}
use Rattle.rules.specs.Answer.{Answer, accepted}
use Rattle.rules.specs.Assemble.{Sizes, first_high, checks, pass_at_by, pass_at, encoded, assemble_by, assemble, Place, Slices, short, room, assemble_answer}
use Rattle.rules.specs.Relocate.{first_index}
use Rattle.promises.specs.Stages.{Stage, all, Checked}
use Rattle.promises.specs.Refusals.{line_count, Lowest, SourceCondition, source_over, byte_over, lines_over, PassCondition, of_source, base_over, address_over, labels_over, AssembleCondition, of_pass, slice_short, checking, passing, assembling}
use Rattle.promises.proofs.RefusalsSearch.{Found, search_finds}
use Rattle.promises.proofs.Stages.{is_checked, not_checked, checked_by, still_checked, Runs, done, refuse_if_lem, refuse_at_lem, and_then_lem, runs_by}
use Rattle.promises.proofs.RefusalsShort.{shorter, is_short}
use Rattle.promises.proofs.RefusalsPasses.{pass_through}

-- the lines are counted by their ends
first_length : (b : ℕ) (ps : List Text) → 0 < length ps → length (on_first b ps) ≡ length ps
unfolding on_first
first_length b [] h = absurd (omega arith)
first_length b (p ∷ ps) h = refl

-- as many lines as the cut at byte 10 gives, and at least one
pub counted : (s : Text) → (length (cut_at 10 s) ≡ line_count s) × (0 < line_count s)
unfolding cut_at cut_where line_count
counted [] = (refl, omega arith)
counted (b ∷ s) = go (eqb 10 b) refl (counted s)
  where
    go : (y : Bool) → eqb 10 b ≡ y → (length (cut_where (eqb 10) s) ≡ line_count s) × (0 < line_count s)
        → (length (cut_where (eqb 10) (b ∷ s)) ≡ cond (eqb 10 b) (suc (line_count s)) (line_count s)) × (0 < cond (eqb 10 b) (suc (line_count s)) (line_count s))
    go true e h = rw (e, cut_where) (ap suc h.0, omega arith)
    go false e h = rw (e, cut_where) (first_length b (cut_where (eqb 10) s) (omega (arith, h.0, h.1)) ∙ h.0, h.1)

-- the first byte over 127 by the search of the mover
high_first : (i : ℕ) (s : Text) → first_high i s ≡ first_index (λ b. ltb 127 b) i (length s) s
unfolding first_high first_index
high_first i [] = refl
high_first i (b ∷ s) = go (ltb 127 b) refl (high_first (suc i) s)
  where
    go : (y : Bool) → ltb 127 b ≡ y → first_high (suc i) s ≡ first_index (λ b. ltb 127 b) (suc i) (length s) s
        → first_high i (b ∷ s) ≡ first_index (λ b. ltb 127 b) i (suc (length s)) (b ∷ s)
    go true e h = rw (e, first_high, first_index)
    go false e h = rw (e, first_high, first_index) h

-- condition 2 by that search
pub high_found : (s : Text) → Found (λ i. 127 < get_or s i 0) (length s) (first_high 0 s)
high_found s = rw (high_first 0 s) (search_finds (λ b. ltb 127 b) (λ b. 127 < b) (λ b. ltb-true 127 b) (λ b e h. let k = ltb-false 127 b e in omega arith) (length s) s (omega arith))

-- the number that a condition has is one of its stages'
pub source_known : (s : Text) (n p : ℕ) → SourceCondition s n p → Checked n checking
unfolding is_checked
source_known s n p (source_over h) = checked_by 1 checking refl
source_known s n p (byte_over h) = checked_by 2 checking refl
source_known s n p (lines_over h) = checked_by 3 checking refl

-- the checks, and what follows them where they pass
module _ (s : Text) where
  to_1 : (q : ℕ) → SourceCondition s 1 q → (ltb max_source (length s) ≡ true) × (q ≡ length s)
  to_1 q (source_over h) = (lt-ltb max_source (length s) h, refl)

  to_2 : (q : ℕ) → SourceCondition s 2 q → Lowest (λ i. 127 < get_or s i 0) (length s) q
  to_2 q (byte_over h) = h

  to_3 : (q : ℕ) → SourceCondition s 3 q → (ltb max_lines (line_count s) ≡ true) × (q ≡ line_count s)
  to_3 q (lines_over h) = (lt-ltb max_lines (line_count s) h, refl)

  -- among conditions that have those of a source
  module _ (C : ℕ → ℕ → Type 0) (to : (n p : ℕ) → SourceCondition s n p → C n p) (from : (n p : ℕ) → Checked n checking → C n p → SourceCondition s n p) where
    pub checks_run : {A : Type 0} {ss : List Stage} (a : Answer A) → Runs C ss a → Runs C (all 1 ∷ all 2 ∷ all 3 ∷ ss) (checks s a)
    unfolding checks is_checked
    checks_run a r =
        refuse_if_lem C 1 (length s) (ltb max_source (length s)) _
        (λ e. to 1 (length s) (source_over (ltb-true max_source (length s) e)))
        (λ q c. to_1 q (from 1 q (checked_by 1 checking refl) c)) λ e1.
        refuse_at_lem C (λ i. 127 < get_or s i 0) 2 (length s) (first_high 0 s) _ (high_found s)
        (λ p h. to 2 p (byte_over h)) (λ q c. to_2 q (from 2 q (checked_by 2 checking refl) c))
        (rw (counted s).0
        (refuse_if_lem C 3 (line_count s) (ltb max_lines (line_count s)) a
        (λ e. to 3 (line_count s) (lines_over (ltb-true max_lines (line_count s) e)))
        (λ q c. to_3 q (from 3 q (checked_by 3 checking refl) c)) (λ e3. r)))

pub checks_answered : (A : Type 0) (s : Text) (a : A) → Runs (SourceCondition s) checking (checks s (accepted a))
checks_answered A s a = checks_run s (SourceCondition s) (λ n p c. c) (λ n p k c. c) (accepted a) done

-- the pass at a base
module _ (z : Sizes) (base : ℕ) (s : Text) where
  pub pass_known : (n p : ℕ) → PassCondition z base s n p → Checked n passing
  unfolding is_checked
  pass_known n p (of_source (source_over h)) = checked_by 1 passing refl
  pass_known n p (of_source (byte_over h)) = checked_by 2 passing refl
  pass_known n p (of_source (lines_over h)) = checked_by 3 passing refl
  pass_known n p (base_over h) = checked_by 4 passing refl
  pass_known n p (address_over r e h) = checked_by 5 passing refl
  pass_known n p (labels_over r e h) = checked_by 6 passing refl

  from_pass : (n p : ℕ) → Checked n checking → PassCondition z base s n p → SourceCondition s n p
  unfolding is_checked
  from_pass n p k (of_source c) = c
  from_pass n p k (base_over h) = absurd (not_checked 4 checking refl k)
  from_pass n p k (address_over r e h) = absurd (not_checked 5 checking refl k)
  from_pass n p k (labels_over r e h) = absurd (not_checked 6 checking refl k)

  to_4 : (q : ℕ) → PassCondition z base s 4 q → (leb address_limit base ≡ true) × (q ≡ 0)
  unfolding is_checked
  to_4 q (base_over h) = (le-leb address_limit base h, refl)
  to_4 q (of_source c) = absurd (not_checked 4 checking refl (source_known s 4 q c))

  pub pass_answered : Runs (PassCondition z base s) passing (pass_at_by z base s)
  unfolding pass_at_by
  pass_answered =
      checks_run s (PassCondition z base s) (λ n p. of_source) from_pass _
      (refuse_if_lem (PassCondition z base s) 4 0 (leb address_limit base) _
      (λ e. base_over (leb-true address_limit base e)) to_4
      (λ e. pass_through z base s (leb-false address_limit base e)))

-- assembling
module _ (base : ℕ) (s : Text) (x : Slices) where
  abbrev C : ℕ → ℕ → Type 0
  C = AssembleCondition base s x

  pub known : (n p : ℕ) → C n p → Checked n assembling
  unfolding is_checked
  known n p (of_pass c) = still_checked (all 7 ∷ []) (pass_known size base s n p c)
  known n p (slice_short e h) = checked_by 7 assembling refl

  from_assemble : (n p : ℕ) → Checked n passing → C n p → PassCondition size base s n p
  unfolding is_checked
  from_assemble n p k (of_pass c) = c
  from_assemble n p k (slice_short e h) = absurd (not_checked 7 passing refl k)

  to_7 : (l : List Place) → assemble base s ≡ accepted l → (q : ℕ) → C 7 q → (short x (length l) ≡ true) × (q ≡ length l)
  unfolding is_checked
  to_7 l e q (slice_short {l = k} g h) = let u : k ≡ l = cc in (is_short x (length l) (rw u at h), ap length u)
  to_7 l e q (of_pass c) = absurd (not_checked 7 passing refl (pass_known size base s 7 q c))

  listed : Runs C passing (assemble base s)
  unfolding assemble_by
  listed =
      and_then_lem C [] (pass_at base s) (encoded encode)
      (runs_by (PassCondition size base s) C passing (pass_at base s) (λ n p. of_pass) from_assemble (pass_answered size base s)) (λ p e. done)

  pub answered : Runs C assembling (assemble_answer base s x)
  unfolding assemble_answer room
  answered =
      and_then_lem C (all 7 ∷ []) (assemble base s) (room x) listed λ l e.
      refuse_if_lem C 7 (length l) (short x (length l)) (accepted (length l)) (λ f. slice_short e (shorter x (length l) f)) (to_7 l e) (λ f. done)
