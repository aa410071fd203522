-- The search for the first bad mark, place by place. Assumes nothing.
use Rattle.std.proofs.Common.{◌≡◌, ℕ, suc, ◌+◌, ◌<◌, ◌≤◌, true, false, List, ◌∷◌, length, get_or, drop, add-one, arith, drop-cons, drop_of_length-le, get_or-drop}
use Rattle.std.specs.Prelude.{None, Some}
use Rattle.rules.specs.Relocate.{first_in, bad_mark, first_bad_mark}
use Rattle.relocate.proofs.Sweep.{first_in_all}

-- none before i is bad, and b stands before it
pub record Scanned (ms : List ℕ) (b i : ℕ) : Type 0 where
  pub same : first_bad_mark 0 0 (length ms) ms ≡ first_bad_mark b i (length (drop i ms)) (drop i ms)

module _ {ms : List ℕ} {b i : ℕ} (s : Scanned ms b i) where
  pub scan_ends : length ms ≤ i → None ≡ first_bad_mark 0 0 (length ms) ms
  unfolding first_bad_mark
  scan_ends h = rw (s.same, drop_of_length-le ms h)

  module _ (h : i < length ms) (a : ℕ) (e : a ≡ get_or ms (i + 1) 0) where
    next : first_in (length (drop (suc i) ms)) (drop (suc i) ms) ≡ a
    next = let z : suc i + 0 ≡ suc i = omega arith in rw (first_in_all (drop (suc i) ms), e, add-one i) (rw z at (get_or-drop (suc i) ms 0 0))

    pub scan_finds : bad_mark b (get_or ms i 0) a ≡ true → Some i ≡ first_bad_mark 0 0 (length ms) ms
    unfolding first_bad_mark
    scan_finds t = let p = rw (← next) at t in rw (s.same, drop-cons ms i 0 h, p, first_bad_mark)

    pub scan_passes : bad_mark b (get_or ms i 0) a ≡ false → Scanned ms (get_or (0 ∷ ms) (i + 1) 0) (i + 1)
    unfolding first_bad_mark
    scan_passes t = let p = rw (← next) at t in record { same = rw (add-one i) (rw (drop-cons ms i 0 h, p, first_bad_mark) at s.same) }
