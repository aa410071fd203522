-- Well paired marks are those that refusal 10 lets pass; which lists have them. Assumes nothing.
use Rattle.std.specs.Prelude.{Option, None, Some}
use Prim.Native.Nat.{ℕ, suc, ◌≤◌}
use mathlib.Core.Path.{◌≡◌, refl}
use mathlib.Core.Bool.{Bool, true, false, false≢true}
use mathlib.Core.List.{List, [], ◌∷◌, map, ◌++◌}
use native.Mathlib.Omega.{arith}
use borrow.Author.Tests.{le-ltb, eqb-true, ne_eqb}
use lib.Dec.{eqb}
use lib.ListN.{length, length-map}
use Rattle.rules.specs.Assemble.{Place}
use Rattle.rules.specs.Relocate.{first_in, bad_mark, first_bad_mark}
use Rattle.promises.specs.Refusals.{BadMark}
use Rattle.promises.specs.Pairs.{WellPaired}
use Rattle.promises.proofs.RefusalsSearch.{Found, found, nowhere}
use Rattle.promises.proofs.RefusalsMarks.{marks_found}
use Rattle.promises.proofs.Twice.{first_mark, Paired}

-- refusal 10 names no place of the list
abbrev pub NoBadMark : List Place → Type 0
NoBadMark l = first_bad_mark 0 0 (length l) (map (λ p. p.mark) l) ≡ None

pub no_bad_mark : (l : List Place) → WellPaired l → NoBadMark l
unfolding WellPaired
no_bad_mark l h = go (first_bad_mark 0 0 (length l) (map (λ p. p.mark) l)) (marks_found (map (λ p. p.mark) l) (length l) (rw (length-map l (λ p. p.mark)) (omega arith)))
  where
    go : (o : Option ℕ) → Found (BadMark (map (λ p. p.mark) l) (length l)) (length l) o → o ≡ None
    go (Some p) (found k) = absurd (h p k.inside k.holds)
    go None (nowhere k) = refl

-- a mark that is not bad: a 2 is followed by a 3
not_bad : (b m a : ℕ) → bad_mark b m a ≡ false → m ≡ 2 → a ≡ 3
unfolding bad_mark
not_bad b m a e h = go (eqb a 3) refl
  where
    go : (x : Bool) → eqb a 3 ≡ x → a ≡ 3
    go true f = eqb-true a 3 f
    go false f = let c = rw (h, f) at e in absurd (false≢true cc)

-- the first mark of a list
first_is : (l : List Place) → first_in (length l) (map (λ p. p.mark) l) ≡ first_mark l
unfolding first_in first_mark
first_is [] = refl
first_is (p ∷ ps) = refl

-- so the scan that finds none tells that each 2 has its 3
paired_from : (b i : ℕ) (l : List Place) → first_bad_mark b i (length l) (map (λ p. p.mark) l) ≡ None → Paired l
unfolding first_bad_mark
paired_from b i [] e = tt
paired_from b i (p ∷ ps) e = go (bad_mark b p.mark (first_in (length ps) (map (λ q. q.mark) ps))) refl (paired_from p.mark (suc i) ps)
  where
    go : (x : Bool) → bad_mark b p.mark (first_in (length ps) (map (λ q. q.mark) ps)) ≡ x
        → (first_bad_mark p.mark (suc i) (length ps) (map (λ q. q.mark) ps) ≡ None → Paired ps) → Paired (p ∷ ps)
    go true f ih = let g = rw (f, first_bad_mark) at e in absurd (false≢true cc)
    go false f ih = (λ h. rw (first_is ps) at (not_bad b p.mark _ f h), ih (rw (f, first_bad_mark) at e))

pub all_paired : (l : List Place) → NoBadMark l → Paired l
all_paired l e = paired_from 0 0 l e

-- marks 0 and 1, and pairs 2 and 3, one after the other
pub data Grouped : List Place → Type 0 where
  over : Grouped []
  single : {p : Place} {ps : List Place} → p.mark ≤ 1 → Grouped ps → Grouped (p ∷ ps)
  double : {p q : Place} {ps : List Place} → p.mark ≡ 2 → q.mark ≡ 3 → Grouped ps → Grouped (p ∷ q ∷ ps)

pub grouped_append : {l : List Place} → Grouped l → (k : List Place) → Grouped k → Grouped (l ++ k)
grouped_append over k h = h
grouped_append (single e g) k h = single e (grouped_append g k h)
grouped_append (double e f g) k h = double e f (grouped_append g k h)

-- none of them is bad, whatever stands before them
pub plain_mark : (b m a : ℕ) → m ≤ 1 → bad_mark b m a ≡ false
unfolding bad_mark
plain_mark b m a h = rw (le-ltb 3 m (omega arith), ne_eqb m 2 (λ e. omega arith), ne_eqb m 3 (λ e. omega arith))

grouped_from : (b i : ℕ) {l : List Place} → Grouped l → first_bad_mark b i (length l) (map (λ p. p.mark) l) ≡ None
unfolding first_bad_mark bad_mark first_in
grouped_from b i over = refl
grouped_from b i (single {p} {ps} e g) = rw (plain_mark b p.mark (first_in (length ps) (map (λ q. q.mark) ps)) e, first_bad_mark) (grouped_from p.mark (suc i) g)
grouped_from b i (double e f g) = rw (e, f) (grouped_from 3 (suc (suc i)) g)

pub grouped_good : {l : List Place} → Grouped l → NoBadMark l
grouped_good h = grouped_from 0 0 h

pub grouped_paired : {l : List Place} → Grouped l → Paired l
grouped_paired {l} h = all_paired l (grouped_good h)
