-- The call refuses exactly by 1 to 3 and 18, and what it leaves in the lent slice. Assumes nothing.
use Prim.Native.Nat.{ℕ}
use mathlib.Core.Path.{◌≡◌, refl}
use mathlib.Core.Bool.{true}
use mathlib.Core.List.{[], ◌∷◌}
use lib.Dec.{ltb}
use lib.ListN.{length, take, drop}
use lib.Seq.{take_at, drop_at}
use borrow.Author.Tests.{ltb-true, lt-ltb}
use Rattle.rules.specs.Text.{Text}
use Rattle.rules.specs.Answer.{accepted, refused}
use Rattle.rules.specs.Assemble.{over}
use Rattle.requests.specs.Tidy.{tidy, room_for, tidy_answer, write_copy, tidy_slice}
use Rattle.promises.specs.Stages.{all, Checked}
use Rattle.promises.specs.Refusals.{SourceCondition, checking}
use Rattle.promises.specs.Tidy.{TidyCondition, of_source, too_short, tidying, TidyRefusesExactly, TidyWrites}
use Rattle.promises.proofs.Stages.{is_checked, not_checked, checked_by, still_checked, apart, are_apart, Runs, done, refuse_if_lem, refuses_exactly}
use Rattle.promises.proofs.RefusalsAssemble.{source_known, checks_run}
use Rattle.promises.proofs.Accepted.{not_refused, checks_passed}

module _ (room : ℕ) (s : Text) where
  abbrev C : ℕ → ℕ → Type 0
  C = TidyCondition room s

  known : (n p : ℕ) → C n p → Checked n tidying
  unfolding is_checked
  known n p (of_source c) = still_checked (all 18 ∷ []) (source_known s n p c)
  known n p (too_short h) = checked_by 18 tidying refl

  from : (n p : ℕ) → Checked n checking → C n p → SourceCondition s n p
  unfolding is_checked
  from n p k (of_source c) = c
  from n p k (too_short h) = absurd (not_checked 18 checking refl k)

  to_18 : (q : ℕ) → C 18 q → (ltb room (length (tidy s)) ≡ true) × (q ≡ length (tidy s))
  unfolding is_checked
  to_18 q (too_short h) = (lt-ltb room (length (tidy s)) h, refl)
  to_18 q (of_source c) = absurd (not_checked 18 checking refl (source_known s 18 q c))

  answered : Runs C tidying (tidy_answer room s)
  unfolding tidy_answer room_for
  answered =
      checks_run s C (λ n p. of_source) from _
      (refuse_if_lem C 18 (length (tidy s)) (ltb room (length (tidy s))) _ (λ e. too_short (ltb-true room (length (tidy s)) e)) to_18 (λ e. done))

pub tidy_refuses_exactly : TidyRefusesExactly
unfolding TidyRefusesExactly apart
tidy_refuses_exactly room s = refuses_exactly (TidyCondition room s) tidying (are_apart tidying refl) (known room s) (tidy_answer room s) (answered room s)

-- an accepted answer is the copy's length
answer_length : (room : ℕ) (s : Text) (n : ℕ) → tidy_answer room s ≡ accepted n → n ≡ length (tidy s)
unfolding tidy_answer room_for
answer_length room s n h = let k = not_refused _ _ _ _ n (checks_passed s _ n h).1 in cc k.1

unwritten : (s out : Text) (n p : ℕ) → tidy_answer (length out) s ≡ refused n p → tidy_slice s out ≡ out
unfolding tidy_slice write_copy
unwritten s out n p e = rw e

written : (s out : Text) (n : ℕ) → tidy_answer (length out) s ≡ accepted n
    → (n ≡ length (tidy s)) × (take n (tidy_slice s out) ≡ tidy s) × (drop n (tidy_slice s out) ≡ drop n out)
unfolding tidy_slice write_copy over
written s out n e =
    let k : n ≡ length (tidy s) = answer_length (length out) s n e in
    (k, rw (e, k) (take_at (tidy s) _ _ refl), rw (e, k) (drop_at (tidy s) _ _ refl))

pub tidy_writes : TidyWrites
tidy_writes = record { refusal = unwritten; copied = written }
