-- The filled memory, byte by byte. Assumes nothing.
use Prim.Native.Nat.{ℕ, zero, suc, ◌+◌, ◌/◌, ◌%◌, ◌≤◌, ◌<◌}
use mathlib.Core.Path.{◌≡◌, refl, sym, ◌∙◌}
use mathlib.Core.Bool.{Bool, true, false}
use mathlib.Core.List.{List}
use native.Mathlib.Omega.{arith}
use lib.Dec.{eqb}
use lib.ListN.{length, get_or, set, replicate, length-set, length-replicate}
use lib.Seq.{get_or-set_same, get_or-set_other, ext_get_or}
use borrow.Author.Tests.{eqb-true, eqb-false}
use Rattle.machine.specs.Bench.{placed, fill_of}
use Rattle.promises_bench.specs.BenchCall.{Placed, LastAt, NoneOn, Filled, FillsExactly}

-- the two bytes of a word that is put there, and any other byte
high_there : (mem : List ℕ) (p w : ℕ) → p + 2 ≤ length mem → get_or (placed mem p w) p 0 ≡ w / 256
high_there mem p w h = rw (get_or-set_other (set mem p (w / 256)) (p + 1) p (w % 256) 0 (λ e. omega arith)) (get_or-set_same mem p (w / 256) 0 (omega arith))

low_there : (mem : List ℕ) (p w : ℕ) → p + 2 ≤ length mem → get_or (placed mem p w) (p + 1) 0 ≡ w % 256
low_there mem p w h =
    let l : length (set mem p (w / 256)) ≡ length mem = length-set mem p (w / 256) in
    get_or-set_same (set mem p (w / 256)) (p + 1) (w % 256) 0 (omega arith)

elsewhere : (mem : List ℕ) (p q w : ℕ) → ¬ (p ≡ q) → ¬ (p + 1 ≡ q) → get_or (placed mem p w) q 0 ≡ get_or mem q 0
elsewhere mem p q w d e = get_or-set_other (set mem p (w / 256)) (p + 1) q (w % 256) 0 (λ k. e (sym k)) ∙ get_or-set_other mem p q (w / 256) 0 (λ k. d (sym k))

-- every byte of the empty memory is 0
all_zero : (n i : ℕ) → ◌≡◌ {A = ℕ} (get_or {A = ℕ} (replicate {A = ℕ} n 0) i 0) 0
all_zero zero i = refl
all_zero (suc n) zero = refl
all_zero (suc n) (suc i) = all_zero n i

-- filling keeps the memory's length
filled_length : (n : ℕ) (xs ws mem : List ℕ) → length (fill_of n xs ws mem) ≡ length mem
unfolding fill_of
filled_length zero xs ws mem = refl
filled_length (suc n) xs ws mem = rw (length-set, length-set) (filled_length n xs ws mem)

-- the last entry with an address, or none
data Looked (n : ℕ) (xs : List ℕ) (p : ℕ) : Type 0 where
  last : {i : ℕ} → LastAt n xs p i → Looked n xs p
  never : ((i : ℕ) → i < n → ¬ (get_or xs i 0 ≡ p)) → Looked n xs p

look : (n : ℕ) (xs : List ℕ) (p : ℕ) → Looked n xs p
look zero xs p = never (λ i l. absurd (omega arith))
look (suc n) xs p = go (eqb (get_or xs n 0) p) refl (look n xs p)
  where
    -- the entry at n has another address
    past : ¬ (get_or xs n 0 ≡ p) → Looked n xs p → Looked (suc n) xs p
    past d (last {i} l) =
        last {i = i} (record {
          inside = let k = l.inside in omega arith;
          there = l.there;
          later = λ j a b. then_later i l j a b (eqb j n) refl d;
        })
      where
        then_later : (i : ℕ) → LastAt n xs p i → (j : ℕ) → i < j → j < suc n → (x : Bool) → eqb j n ≡ x → ¬ (get_or xs n 0 ≡ p) → ¬ (get_or xs j 0 ≡ p)
        then_later i l j a b true e d = let m = eqb-true j n e in rw m d
        then_later i l j a b false e d = let m = eqb-false j n e in l.later j a (omega arith)
    past d (never h) = never (λ i l. then_never i l (eqb i n) refl)
      where
        then_never : (i : ℕ) → i < suc n → (x : Bool) → eqb i n ≡ x → ¬ (get_or xs i 0 ≡ p)
        then_never i l true e = let m = eqb-true i n e in rw m d
        then_never i l false e = let m = eqb-false i n e in h i (omega arith)

    go : (x : Bool) → eqb (get_or xs n 0) p ≡ x → Looked n xs p → Looked (suc n) xs p
    go true e o = last {i = n} (record { inside = omega arith; there = eqb-true (get_or xs n 0) p e; later = λ j a b. absurd (omega arith) })
    go false e o = past (eqb-false (get_or xs n 0) p e) o

module _ (xs ws : List ℕ) where
  abbrev filled : ℕ → List ℕ
  filled n = fill_of n xs ws (replicate 16384 0)

  long : (n : ℕ) → length (filled n) ≡ 16384
  long n = filled_length n xs ws (replicate 16384 0) ∙ length-replicate {A = ℕ} 16384 0

  -- fewer entries are placed too
  fewer : (n : ℕ) → Placed (suc n) xs → Placed n xs
  fewer n c i l = c i (omega arith)

  -- a byte on which no entry is
  untouched : (n q : ℕ) → NoneOn n xs q → get_or (filled n) q 0 ≡ 0
  unfolding fill_of
  untouched zero q d = all_zero 16384 q
  untouched (suc n) q d =
      let k = d n (omega arith) in
      elsewhere (filled n) (get_or xs n 0) q (get_or ws n 0) k.0 k.1
      ∙ untouched n q (λ i l. d i (omega arith))

  -- the bytes of the last entry of an address
  module _ (p i : ℕ) where
    abbrev Stands : ℕ → Type 0
    Stands n = (get_or (filled n) p 0 ≡ get_or ws i 0 / 256) × (get_or (filled n) (p + 1) 0 ≡ get_or ws i 0 % 256)

    stands : (n : ℕ) → Placed n xs → LastAt n xs p i → Stands n
    unfolding fill_of
    stands zero c l = let k = l.inside in absurd (omega arith)
    stands (suc n) c l = go (eqb i n) refl (λ d a. stands n d a)
      where
        go : (x : Bool) → eqb i n ≡ x → (Placed n xs → LastAt n xs p i → Stands n) → Stands (suc n)
        go true e ih =
            let m : i ≡ n = eqb-true i n e in
            let q : get_or xs n 0 ≡ p = rw m at l.there in
            let h = (c n (omega arith)).1 in
            let f = long n in
            rw (q, m) (high_there (filled n) p (get_or ws n 0) (omega arith), low_there (filled n) p (get_or ws n 0) (omega arith))
        go false e ih =
            let m = eqb-false i n e in
            let k = l.inside in
            let h = (c i (omega arith)).0 in
            let q : p % 2 ≡ 0 = rw l.there at h in
            let g = (c n (omega arith)).0 in
            let d = l.later n (omega arith) (omega arith) in
            let s = ih (fewer n c) (record { inside = omega arith; there = l.there; later = λ j a b. l.later j a (omega arith) }) in (
              elsewhere (filled n) (get_or xs n 0) p (get_or ws n 0) d (λ z. omega arith) ∙ s.0,
              elsewhere (filled n) (get_or xs n 0) (p + 1) (get_or ws n 0) (λ z. omega arith) (λ z. d (omega arith)) ∙ s.1,
            )

  -- so the memory is filled
  is_filled : (n : ℕ) → Placed n xs → Filled n xs ws (filled n)
  is_filled n c =
      record {
        size = long n;
        high = λ p i l. (stands p i n c l).0;
        low = λ p i l. (stands p i n c l).1;
        other = untouched n;
      }

  -- and of two that are, each byte is the same
  same_byte : (n : ℕ) {m k : List ℕ} → Filled n xs ws m → Filled n xs ws k → (q : ℕ) → get_or m q 0 ≡ get_or k q 0
  same_byte n {m} {k} f g q = go q (look n xs q)
    where
      behind : (q : ℕ) → ((i : ℕ) → i < n → ¬ (get_or xs i 0 ≡ suc q)) → Looked n xs q → get_or m (suc q) 0 ≡ get_or k (suc q) 0
      behind q h (last {i} l) = let e : q + 1 ≡ suc q = omega arith in rw e at (f.low q i l ∙ sym (g.low q i l))
      behind q h (never d) =
          let none : NoneOn n xs (suc q) = λ i l. (h i l, λ e. d i l (omega arith)) in
          f.other (suc q) none ∙ sym (g.other (suc q) none)

      go : (q : ℕ) → Looked n xs q → get_or m q 0 ≡ get_or k q 0
      go q (last {i} l) = f.high q i l ∙ sym (g.high q i l)
      go zero (never d) =
          let none : NoneOn n xs 0 = λ i l. (d i l, λ e. omega arith) in
          f.other 0 none ∙ sym (g.other 0 none)
      go (suc q) (never d) = behind q d (look n xs q)

  only_filled : (n : ℕ) (mem : List ℕ) → Placed n xs → Filled n xs ws mem → filled n ≡ mem
  only_filled n mem c f = ext_get_or 0 (filled n) mem (long n ∙ sym f.size) (λ q l. same_byte n (is_filled n c) f q)

pub fills_exactly : FillsExactly
unfolding FillsExactly
fills_exactly n xs ws mem c = ((λ e. rw e at (is_filled xs ws n c)), only_filled xs ws n mem c)
