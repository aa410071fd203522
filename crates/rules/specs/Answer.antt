-- A call's answer, by the rules: accepted, or a refusal's number and place. Assumes nothing.
use Rattle.std.specs.Prelude.{ℕ, Bool, true, false, Option, None, Some}

-- "Each is (number, place)"; a place is what the rules say at each number: a length, an index, a line or a count
pub data Answer (A : Type 0) : Type 0 where
  accepted : A → Answer A
  refused : ℕ → ℕ → Answer A

-- refusal n at place p if the test holds, else what comes next
unfoldable pub refuse_if : {A : Type 0} → Bool → ℕ → ℕ → Answer A → Answer A
refuse_if true n p a = refused n p
refuse_if false n p a = a

-- refusal n at the index found, else what comes next
unfoldable pub refuse_at : {A : Type 0} → Option ℕ → ℕ → Answer A → Answer A
refuse_at None n a = a
refuse_at (Some p) n a = refused n p

-- what follows an accepted answer
unfoldable pub and_then : {A B : Type 0} → Answer A → (A → Answer B) → Answer B
and_then (accepted a) f = f a
and_then (refused n p) f = refused n p
