-- The manual's second pass: from what its look for faults answered to the list. Assumes nothing.
use Rattle.std.specs.Prelude.{Option, None, Some}
use Rattle.std.proofs.Common.{◌≡◌, ℕ, suc, List, [], ◌∷◌, length, refl}
use mathlib.Core.Bool.{false≢true}
use Rattle.rules.specs.Label.{Table}
use Rattle.rules.specs.Answer.{Answer, accepted, refused, and_then}
use Rattle.rules.specs.Assemble.{Put, Pass, Place, second_pass_by}
use Rattle.requests.specs.ManualCall.{manual_encode}
use Rattle.requests.specs.ManualAssemble.{task_fault, faultless, encoded_manual}
use Rattle.emit.specs.Codes.{counted}

-- what is accepted is what comes when no line has a fault
faultless_is : {A : Type 0} (t : Table) (n : ℕ) (ps : List Put) (m l : A) → faultless t n ps (accepted m) ≡ accepted l → l ≡ m
unfolding faultless
faultless_is t n [] m l e = cc
faultless_is t n (p ∷ ps) m l e = go (task_fault t p.address p.task) refl (λ f. faultless_is t (suc n) ps m l f)
  where
    go : (o : Option ℕ) → task_fault t p.address p.task ≡ o → (faultless t (suc n) ps (accepted m) ≡ accepted l → l ≡ m) → l ≡ m
    go None d ih = ih (rw (d, faultless) at e)
    go (Some f) d ih = let c = rw (d, faultless) at e in absurd (false≢true cc)

pub counted_refused : (list : Answer (List Place)) (n p : ℕ) → refused n p ≡ counted list → list ≡ refused n p
unfolding and_then
counted_refused (accepted l) n p e = absurd (false≢true cc)
counted_refused (refused m q) n p e = let u : m ≡ n = cc in let v : q ≡ p = cc in rw (u, v)

counted_accepted : (list : Answer (List Place)) (n : ℕ) → accepted n ≡ counted list → (l : List Place) × (list ≡ accepted l) × (n ≡ length l)
unfolding and_then
counted_accepted (accepted l) n e = (l, refl, cc)
counted_accepted (refused m q) n e = absurd (false≢true cc)

abbrev pub manual_list : Pass → List Place
manual_list p = second_pass_by manual_encode p

-- no line has a fault
pub record Sound (p : Pass) (n : ℕ) : Type 0 where
  pub list : encoded_manual p ≡ accepted (manual_list p)
  pub count : n ≡ length (manual_list p)

pub sound : (p : Pass) (n : ℕ) → accepted n ≡ counted (encoded_manual p) → Sound p n
unfolding encoded_manual
sound p n e =
    let c = counted_accepted _ n e in
    let d = faultless_is _ _ _ _ _ c.1 in
    record { list = rw d at c.1; count = rw d at c.2 }
