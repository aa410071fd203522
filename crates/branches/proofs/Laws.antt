-- Laws of branch tables in the shape of the code's needs. Assumes nothing.
use Rattle.std.specs.Prelude.{None, Some}
use Rattle.std.specs.Bool.{MatchBool}
use Rattle.std.specs.List.{list_any, range_with_len, AllWithin, HoldsAt}
use Rattle.text.proofs.Ranges.{any_range}
use Rattle.std.proofs.Common.{take_all}
use Prim.Native.Nat.{ℕ, zero, suc, ◌+◌, ◌*◌, ◌-◌, ◌<◌, ◌≤◌}
use mathlib.Core.Path.{◌≡◌, refl, sym, ap, ◌∙◌}
use mathlib.Core.Bool.{Bool, true, false, ◌&&◌, ◌||◌, cond}
use mathlib.Core.List.{[], ◌∷◌, ◌++◌}
use native.Mathlib.Omega.{arith}
use native.Mathlib.Numerals.{add-one}
use borrow.Author.Tests.{ltb-true, ltb-false, ne_eqb}
use lib.Dec.{leb, ltb, eqb}
use lib.ListN.{length, take, drop, get_or}
use lib.Seq.{drop-cons, take-suc}
use lib.Pointwise.{pointwise}
use Rattle.rules.specs.Text.{Text, blank, upper, uppers, same}
use Rattle.rules.specs.Answer.{accepted, refused, refuse_if}
use Rattle.rules.specs.Encode.{mnemonics, other_mnemonics, operation_in, is_some}
use Rattle.requests.specs.Branches.{byte_of, is_end, four_of, condition_of, keep_name, unpadded, row_of, broken, any_lower, earlier, misnamed, check_from, checked, rows_from, rows}
use Rattle.opcode.specs.Operation.{operation_of}
use Rattle.opcode.specs.declared.mnemonic.Operation.TheVariants.{Branch}
use Rattle.branches.specs.Branch.{is_other}
use Rattle.branches.proofs.Others.{other_taken}

impossible : {A : Type 0} → false ≡ true → A
impossible e = let z : ◌≡◌ {A = ℕ} 0 1 = cc in absurd (omega arith)

-- ---- lower case
abbrev pub lower : ℕ → Bool
lower b = leb 97 b && leb b 122

or_true : (a : Bool) → true ≡ (a || true)
or_true true = refl
or_true false = refl

or_false : (a b : Bool) → (a || b) ≡ false → (a ≡ false) × (b ≡ false)
or_false true b e = impossible (sym e)
or_false false b e = (refl, e)

-- the bytes, asked one after another
pub lower_any : (s : Text) → any_lower s ≡ list_any lower s
unfolding any_lower
lower_any [] = refl
lower_any (b ∷ s) = rw (lower_any s)

lower_take : (n : ℕ) (s : Text) → any_lower s ≡ false → any_lower (take n s) ≡ false
unfolding any_lower
lower_take zero s e = refl
lower_take (suc n) [] e = refl
lower_take (suc n) (b ∷ s) e =
    let p = or_false (lower b) (any_lower s) e in rw (p.0, lower_take n s p.1)

upper_same : (b : ℕ) → lower b ≡ false → upper b ≡ b
unfolding upper
upper_same b e = rw e

uppers_same : (s : Text) → any_lower s ≡ false → uppers s ≡ s
unfolding any_lower uppers
uppers_same [] e = refl
uppers_same (b ∷ s) e =
    let p = or_false (lower b) (any_lower s) e in rw (upper_same b p.0, uppers_same s p.1)

-- ---- names compared, as `==` compares them
pub same_pointwise : (s t : Text) → same s t ≡ pointwise eqb s t
unfolding same
same_pointwise [] [] = refl
same_pointwise [] (b ∷ t) = refl
same_pointwise (a ∷ s) [] = refl
same_pointwise (a ∷ s) (b ∷ t) = go (eqb a b) (same_pointwise s t)
  where
    go : (x : Bool) → same s t ≡ pointwise eqb s t → elim x [ true ↦ same s t | false ↦ false ] ≡ (x && pointwise eqb s t)
    go true e = e
    go false e = refl

-- ---- earlier rows
pub earlier_at : (t four : Text) (k n : ℕ) → n < k → same (four_of t n) four ≡ true → true ≡ earlier t four k
unfolding earlier
earlier_at t four zero n h e = absurd (omega arith)
earlier_at t four (suc k) n h e = go (ltb n k) refl (earlier_at t four k n)
  where
    go : (x : Bool) → ltb n k ≡ x → (n < k → same (four_of t n) four ≡ true → true ≡ earlier t four k) → true ≡ (same (four_of t k) four || earlier t four k)
    go true l ih = rw (← ih (ltb-true n k l) e) (or_true (same (four_of t k) four))
    go false l ih = let z : k ≡ n = omega (arith, ltb-false n k l) in rw (z, e)

earlier_none : (t four : Text) (k : ℕ) → ((i : ℕ) → i < k → same (four_of t i) four ≡ false) → false ≡ earlier t four k
unfolding earlier
earlier_none t four zero h = refl
earlier_none t four (suc k) h = let ih = earlier_none t four k (λ i l. h i (omega arith)) in rw (h k (omega arith)) ih

-- as `any` says it over the rows before
pub earlier_by : (r : Bool) (t four : Text) (k : ℕ)
    → MatchBool r ((j : ℕ) × (j < length (range_with_len 0 k)) × HoldsAt (λ i. same (four_of t i) four ≡ true) (range_with_len 0 k) j)
    (AllWithin (λ i. same (four_of t i) four ≡ false) (range_with_len 0 k) 0 (length (range_with_len 0 k)))
    → r ≡ earlier t four k
earlier_by r t four k h = go r (any_range r (λ i. same (four_of t i) four ≡ true) (λ i. same (four_of t i) four ≡ false) 0 k h)
  where
    go : (y : Bool) → MatchBool y ((i : ℕ) × (i < k) × (same (four_of t (0 + i)) four ≡ true)) ((i : ℕ) → i < k → same (four_of t (0 + i)) four ≡ false) → y ≡ earlier t four k
    go true (i, l, d) = earlier_at t four k (0 + i) (omega arith) d
    go false f = earlier_none t four k (λ i l. let z : 0 + i ≡ i = omega arith in rw z at (f i l))

-- ---- padding: a space at the end is taken off, and nothing else
pub unpadded_space : (s : Text) → unpadded (s ++ 32 ∷ []) ≡ unpadded s
unfolding unpadded keep_name
unpadded_space [] = refl
unpadded_space (b ∷ s) = rw (unpadded_space s)

pub unpadded_kept : (s : Text) (b : ℕ) → (b ≡ 32 → ⊥) → unpadded (s ++ b ∷ []) ≡ s ++ b ∷ []
unfolding unpadded keep_name
unpadded_kept [] b h = rw (ne_eqb b 32 h)
unpadded_kept (c ∷ s) b h = rw (unpadded_kept s b h) (keeps s)
  where
    keeps : (s : Text) → keep_name c (s ++ b ∷ []) ≡ c ∷ (s ++ b ∷ [])
    keeps [] = refl
    keeps (d ∷ s) = refl

split_last : (s : Text) → 1 ≤ length s → s ≡ take (length s - 1) s ++ get_or s (length s - 1) 0 ∷ []
split_last s h = let z : suc (length s - 1) ≡ length s = omega arith in sym (take_all (length s) s (omega arith)) ∙ (rw z at (take-suc s (length s - 1) 0 (omega arith)))

-- as the code takes it off
pub last_space : (s : Text) → 1 ≤ length s → get_or s (length s - 1) 0 ≡ 32 → unpadded (take (length s - 1) s) ≡ unpadded s
last_space s h e = sym (ap unpadded (split_last s h ∙ rw e) ∙ unpadded_space (take (length s - 1) s))

pub last_kept : (s : Text) → 1 ≤ length s → (get_or s (length s - 1) 0 ≡ 32 → ⊥) → s ≡ unpadded s
last_kept s h n = let p = split_last s h in sym (ap unpadded p ∙ unpadded_kept _ _ n ∙ sym p)

pub none_kept : (s : Text) → length s < 1 → s ≡ unpadded s
unfolding unpadded
none_kept [] h = refl
none_kept (b ∷ s) h = absurd (omega arith)

unpadded_take : (s : Text) → unpadded s ≡ take (length (unpadded s)) s
unfolding unpadded keep_name
unpadded_take [] = refl
unpadded_take (b ∷ s) = go (unpadded s) (unpadded_take s) (eqb b 32)
  where
    kept : (x : Bool) → ◌≡◌ {A = Text} (cond x [] (b ∷ [])) (take (length (cond {A = Text} x [] (b ∷ []))) (b ∷ s))
    kept true = refl
    kept false = refl

    go : (u : Text) → u ≡ take (length u) s → (x : Bool) → keep_name b u ≡ take (length (keep_name b u)) (b ∷ s)
    go [] ih x = kept (eqb b 32)
    go (c ∷ u) ih x = ap (λ (r : Text). b ∷ r) ih

-- a row's name in the bytes
module _ (t : Text) (k : ℕ) where
  next : (i : ℕ) → 6 * k + i < length t → drop (6 * k + i) t ≡ byte_of t k i ∷ drop (6 * k + suc i) t
  next i h = let z : suc (6 * k + i) ≡ 6 * k + suc i = omega arith in rw z at (drop-cons t (6 * k + i) 0 h)

  pub four_part : 6 * k + 5 < length t → take 4 (drop (6 * k + 1) t) ≡ four_of t k
  unfolding four_of
  four_part h = rw (next 1 (omega arith), next 2 (omega arith), next 3 (omega arith), next 4 (omega arith))

name_upper : (t : Text) (k : ℕ) → any_lower (four_of t k) ≡ false → uppers (unpadded (four_of t k)) ≡ unpadded (four_of t k)
name_upper t k e =
    let q : any_lower (unpadded (four_of t k)) ≡ false = rw (unpadded_take (four_of t k)) (lower_take (length (unpadded (four_of t k))) (four_of t k) e) in
    uppers_same _ q

-- ---- the test of a name, as the code asks
pub named_is : (t : Text) (k : ℕ)
    → misnamed t k
    ≡ (blank (byte_of t k 1) || list_any lower (four_of t k) || earlier t (four_of t k) k || is_other (operation_of (operation_in mnemonics (uppers (unpadded (four_of t k))))))
unfolding misnamed
named_is t k = rw (lower_any (four_of t k)) (go (list_any lower (four_of t k)) refl)
  where
    go : (x : Bool) → list_any lower (four_of t k) ≡ x
        → (blank (byte_of t k 1) || x || earlier t (four_of t k) k || is_some (operation_in other_mnemonics (unpadded (four_of t k))))
        ≡ (blank (byte_of t k 1) || x || earlier t (four_of t k) k || is_other (operation_of (operation_in mnemonics (uppers (unpadded (four_of t k))))))
    go true e = rw (sym (or_true (blank (byte_of t k 1))))
    go false e = rw (name_upper t k (lower_any (four_of t k) ∙ e), other_taken (unpadded (four_of t k)))

-- ---- loading, command by command
pub record Checking (t : Text) (k : ℕ) : Type 0 where
  pub left : ℕ
  pub sum : k + left ≡ 16
  pub so_far : check_from left t k ≡ checked t

pub checking_start : {t : Text} → Checking t 0
unfolding checked
checking_start = record { left = 16; sum = refl; so_far = refl }

module _ (t : Text) (k : ℕ) where
  ended : (left : ℕ) → is_end t k ≡ true → check_from left t k ≡ accepted k
  unfolding check_from
  ended zero e = rw e
  ended (suc left) e = rw e

  pub check_end : Checking t k → is_end t k ≡ true → accepted k ≡ checked t
  check_end r e = sym (ended r.left e) ∙ r.so_far

  pub check_full : Checking t k → 16 ≤ k → is_end t 16 ≡ true → accepted 16 ≡ checked t
  check_full r l e =
      let s : k + r.left ≡ 16 = r.sum in
      let z : 16 ≡ k = omega arith in rw z (check_end r (rw z at e))

  pub check_past : Checking t k → 16 ≤ k → is_end t 16 ≡ false → refused 16 96 ≡ checked t
  unfolding check_from
  check_past r l e = go r.left r.sum r.so_far
    where
      go : (x : ℕ) → k + x ≡ 16 → check_from x t k ≡ checked t → refused 16 96 ≡ checked t
      go zero s q = let z : k ≡ 16 = omega arith in rw (z, e) at q
      go (suc x) s q = absurd (omega arith)

  module _ (r : Checking t k) (l : k < 16) (x : is_end t k ≡ false) where
    pub check_broken : broken t k ≡ true → refused 16 (6 * k) ≡ checked t
    unfolding check_from refuse_if
    check_broken y = go r.left r.sum r.so_far
      where
        go : (n : ℕ) → k + n ≡ 16 → check_from n t k ≡ checked t → refused 16 (6 * k) ≡ checked t
        go zero s q = absurd (omega arith)
        go (suc n) s q = rw (x, y) at q

    module _ (y : broken t k ≡ false) where
      pub check_misnamed : misnamed t k ≡ true → refused 17 (6 * k) ≡ checked t
      unfolding check_from refuse_if
      check_misnamed z = go r.left r.sum r.so_far
        where
          go : (n : ℕ) → k + n ≡ 16 → check_from n t k ≡ checked t → refused 17 (6 * k) ≡ checked t
          go zero s q = absurd (omega arith)
          go (suc n) s q = rw (x, y, z) at q

      pub check_more : misnamed t k ≡ false → Checking t (k + 1)
      unfolding check_from refuse_if
      check_more z = go r.left r.sum r.so_far
        where
          go : (n : ℕ) → k + n ≡ 16 → check_from n t k ≡ checked t → Checking t (k + 1)
          go zero s q = absurd (omega arith)
          go (suc n) s q = rw (add-one k) (record { left = n; sum = omega arith; so_far = rw (x, y, z) at q })

-- ---- finding, row by row
pub record Looking (t m : Text) (k : ℕ) : Type 0 where
  pub left : ℕ
  pub sum : k + left ≡ 16
  pub so_far : operation_in (rows_from left t k) m ≡ operation_in (rows t) m

pub looking_start : {t m : Text} → Looking t m 0
unfolding rows
looking_start = record { left = 16; sum = refl; so_far = refl }

module _ (t m : Text) (k : ℕ) (r : Looking t m k) where
  pub look_past : 16 ≤ k → None ≡ operation_of (operation_in (rows t) m)
  unfolding rows_from operation_in
  look_past l = go r.left r.sum r.so_far
    where
      go : (n : ℕ) → k + n ≡ 16 → operation_in (rows_from n t k) m ≡ operation_in (rows t) m → None ≡ operation_of (operation_in (rows t) m)
      go zero s q = ap operation_of q
      go (suc n) s q = absurd (omega arith)

  pub look_end : k < 16 → broken t k ≡ true → None ≡ operation_of (operation_in (rows t) m)
  unfolding rows_from operation_in
  look_end l e = go r.left r.sum r.so_far
    where
      go : (n : ℕ) → k + n ≡ 16 → operation_in (rows_from n t k) m ≡ operation_in (rows t) m → None ≡ operation_of (operation_in (rows t) m)
      go zero s q = absurd (omega arith)
      go (suc n) s q = ap operation_of (rw e at q)

  module _ (l : k < 16) (x : broken t k ≡ false) where
    pub look_hit : same m (unpadded (four_of t k)) ≡ true → Some (Branch (byte_of t k 5)) ≡ operation_of (operation_in (rows t) m)
    unfolding rows_from operation_in row_of condition_of
    look_hit y = go r.left r.sum r.so_far
      where
        go : (n : ℕ) → k + n ≡ 16 → operation_in (rows_from n t k) m ≡ operation_in (rows t) m → Some (Branch (byte_of t k 5)) ≡ operation_of (operation_in (rows t) m)
        go zero s q = absurd (omega arith)
        go (suc n) s q = ap operation_of (rw (x, y, operation_in) at q)

    pub look_more : same m (unpadded (four_of t k)) ≡ false → Looking t m (k + 1)
    unfolding rows_from operation_in row_of
    look_more y = go r.left r.sum r.so_far
      where
        go : (n : ℕ) → k + n ≡ 16 → operation_in (rows_from n t k) m ≡ operation_in (rows t) m → Looking t m (k + 1)
        go zero s q = absurd (omega arith)
        go (suc n) s q = rw (add-one k) (record { left = n; sum = omega arith; so_far = rw (x, y, operation_in) at q })
