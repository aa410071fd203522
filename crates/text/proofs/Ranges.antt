-- What `all` and `any` say over a range of numbers, said of each number. Assumes nothing.
use Rattle.std.proofs.Common.{ℕ, ◌+◌, ◌<◌, Bool, true, false, length, arith}
use Rattle.std.specs.Bool.{MatchBool}
use Rattle.std.specs.List.{range_with_len, AllWithin, HoldsAt}
use Rattle.std.proofs.lemmas.List.FromFn.{get_or-range_with_len, length-range_with_len}

pub over_range : (r : Bool) (P Q : ℕ → Type 0) (a n : ℕ)
    → MatchBool r (AllWithin P (range_with_len a n) 0 (length (range_with_len a n))) ((k : ℕ) × (k < length (range_with_len a n)) × HoldsAt Q (range_with_len a n) k)
    → MatchBool r ((i : ℕ) → i < n → P (a + i)) ((i : ℕ) × (i < n) × Q (a + i))
over_range true P Q a n h = λ i l. rw (get_or-range_with_len a n i 0 l) at (h i 0 (omega arith) (rw (length-range_with_len a n) l))
over_range false P Q a n (k, l, h) =
    let m : k < n = rw (length-range_with_len a n) at l in
    (k, m, rw (get_or-range_with_len a n k 0 m) at (h 0))

pub any_range : (r : Bool) (P Q : ℕ → Type 0) (a n : ℕ)
    → MatchBool r ((k : ℕ) × (k < length (range_with_len a n)) × HoldsAt P (range_with_len a n) k) (AllWithin Q (range_with_len a n) 0 (length (range_with_len a n)))
    → MatchBool r ((i : ℕ) × (i < n) × P (a + i)) ((i : ℕ) → i < n → Q (a + i))
any_range true P Q a n h = over_range false Q P a n h
any_range false P Q a n h = over_range true Q P a n h
