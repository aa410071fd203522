-- The first pass line by line, by the sizes z: the four ways that it goes at a line, what each leaves of the answer and of the pass as far as
-- it went, and that an accepted pass is where it stops. Assumes nothing.
use Rattle.std.specs.Prelude.{Option, None, Some}
use mathlib.Core.Path.{◌≡◌, refl, sym, ap, ◌∙◌}
use mathlib.Core.Bool.{Bool, true, false, false≢true}
use mathlib.Core.List.{List, [], ◌∷◌}
use Prim.Native.Nat.{ℕ}
use lib.Dec.{ltb}
use Rattle.rules.specs.Limits.{address_limit}
use Rattle.rules.specs.Line.{SourceLine, Task, line_of}
use Rattle.rules.specs.Label.{Table, record_all}
use Rattle.rules.specs.Answer.{Answer, accepted, refused, and_then}
use Rattle.rules.specs.Assemble.{Sizes, Pass, Put, address_after, is_end, halt, full, next, leaving, step_by, putting, first_pass_by}
use Rattle.first.specs.Stopped.{record_some, only, before, stopped}

-- what a line of the source asks, and the labels t with its own, recorded at address a
abbrev pub asked : SourceLine → Task
asked l = (line_of l.text).task

abbrev pub labelled : ℕ → Table → SourceLine → Option Table
labelled a t l = record_all l a (line_of l.text).names t

-- it ends the pass, its labels are too many, the address after it is too high, or the pass goes on
pub data Way (z : Sizes) (base a : ℕ) (t : Table) (l : SourceLine) : Type 0 where
  halts : is_end (asked l) ≡ true → Way z base a t l
  fills : is_end (asked l) ≡ false → labelled a t l ≡ None → Way z base a t l
  leaves : is_end (asked l) ≡ false → (t' : Table) → labelled a t l ≡ Some t' → ltb (address_after z base a (asked l)) address_limit ≡ false → Way z base a t l
  passes : is_end (asked l) ≡ false → (t' : Table) → labelled a t l ≡ Some t' → ltb (address_after z base a (asked l)) address_limit ≡ true → Way z base a t l

module _ (z : Sizes) (base a : ℕ) (t : Table) (l : SourceLine) where
  pub way : Way z base a t l
  way = go (is_end (asked l)) refl (labelled a t l) refl (ltb (address_after z base a (asked l)) address_limit) refl
    where
      go : (x : Bool) → is_end (asked l) ≡ x → (o : Option Table) → labelled a t l ≡ o → (y : Bool) → ltb (address_after z base a (asked l)) address_limit ≡ y → Way z base a t l
      go true e o r y f = halts e
      go false e None r y f = fills e r
      go false e (Some t') r true f = passes e t' r f
      go false e (Some t') r false f = leaves e t' r f

  step_halts : is_end (asked l) ≡ true → step_by z base a t l (line_of l.text) ≡ halt
  unfolding step_by
  step_halts e = rw (e, step_by)

  module _ (e : is_end (asked l) ≡ false) where
    step_full : labelled a t l ≡ None → step_by z base a t l (line_of l.text) ≡ full
    unfolding step_by leaving
    step_full r = rw (e, step_by, r)

    step_next : (t' : Table) → labelled a t l ≡ Some t' → step_by z base a t l (line_of l.text) ≡ next (address_after z base a (asked l)) t'
    unfolding step_by leaving
    step_next t' r = rw (e, step_by, r)

  module _ (ls : List SourceLine) where
    pub pass_halts : is_end (asked l) ≡ true → first_pass_by z base a t (l ∷ ls) ≡ accepted (only t)
    unfolding first_pass_by
    pass_halts e = rw (step_halts e, first_pass_by)

    pub stop_halts : is_end (asked l) ≡ true → stopped z base a t (l ∷ ls) ≡ only t
    unfolding stopped
    stop_halts e = rw (step_halts e, stopped)

    module _ (e : is_end (asked l) ≡ false) where
      pub pass_full : labelled a t l ≡ None → first_pass_by z base a t (l ∷ ls) ≡ refused 6 l.number
      unfolding first_pass_by
      pass_full r = rw (step_full e r, first_pass_by)

      pub stop_full : labelled a t l ≡ None → stopped z base a t (l ∷ ls) ≡ only (record_some l a (line_of l.text).names t)
      unfolding stopped
      stop_full r = rw (step_full e r, stopped)

      module _ (t' : Table) (r : labelled a t l ≡ Some t') where
        pub pass_out : ltb (address_after z base a (asked l)) address_limit ≡ false → first_pass_by z base a t (l ∷ ls) ≡ refused 5 l.number
        unfolding first_pass_by
        pass_out f = rw (step_next e t' r, f, first_pass_by)

        pub stop_out : ltb (address_after z base a (asked l)) address_limit ≡ false → stopped z base a t (l ∷ ls) ≡ only t'
        unfolding stopped
        stop_out f = rw (step_next e t' r, f, stopped)

        pub pass_more : ltb (address_after z base a (asked l)) address_limit ≡ true
            → first_pass_by z base a t (l ∷ ls) ≡ and_then (first_pass_by z base (address_after z base a (asked l)) t' ls) (putting a (asked l))
        unfolding first_pass_by
        pass_more f = rw (step_next e t' r, f, first_pass_by)

        pub stop_more : ltb (address_after z base a (asked l)) address_limit ≡ true
            → stopped z base a t (l ∷ ls) ≡ before (record { address = a; task = asked l }) (stopped z base (address_after z base a (asked l)) t' ls)
        unfolding stopped
        stop_more f = rw (step_next e t' r, f, stopped)

-- ---- accepted answers
pub accepted_is : {A : Type 0} {x y : A} → accepted x ≡ accepted y → x ≡ y
accepted_is e = cc

-- what stands before an accepted answer is accepted too
then_accepted : {A B : Type 0} (x : Answer A) (f : A → Answer B) (y : B) → and_then x f ≡ accepted y → (q : A) × (x ≡ accepted q) × (f q ≡ accepted y)
unfolding and_then
then_accepted (accepted q) f y e = (q, refl, e)
then_accepted (refused n k) f y e = absurd (false≢true cc)

-- a line taken, and an accepted pass after it
pub record TakenLine (z : Sizes) (base a : ℕ) (t : Table) (ls : List SourceLine) (u : Put) (p : Pass) : Type 0 where
  pub rest : Pass
  pub passed : first_pass_by z base a t ls ≡ accepted rest
  pub whole : p ≡ before u rest

pub taken : (z : Sizes) (base a : ℕ) (t : Table) (l : SourceLine) (ls : List SourceLine) (p : Pass) → first_pass_by z base a t (l ∷ ls) ≡ accepted p
    → (n : is_end (asked l) ≡ false) (t' : Table) → labelled a t l ≡ Some t' → ltb (address_after z base a (asked l)) address_limit ≡ true
    → TakenLine z base (address_after z base a (asked l)) t' ls (record { address = a; task = asked l }) p
unfolding putting before
taken z base a t l ls p e n t' r f =
    let i = then_accepted _ _ _ (sym (pass_more z base a t l ls n t' r f) ∙ e) in
    record { rest = i.0; passed = i.1; whole = sym (accepted_is i.2) }

-- an accepted pass is where it stops
pub stop_accepted : (z : Sizes) (base a : ℕ) (t : Table) (ls : List SourceLine) (p : Pass) → first_pass_by z base a t ls ≡ accepted p → stopped z base a t ls ≡ p
unfolding first_pass_by stopped
stop_accepted z base a t [] p e = accepted_is e
stop_accepted z base a t (l ∷ ls) p e = go (way z base a t l) (λ a' t' q. stop_accepted z base a' t' ls q)
  where
    go : Way z base a t l → ((a' : ℕ) (t' : Table) (q : Pass) → first_pass_by z base a' t' ls ≡ accepted q → stopped z base a' t' ls ≡ q) → stopped z base a t (l ∷ ls) ≡ p
    go (halts n) ih = stop_halts z base a t l ls n ∙ accepted_is (sym (pass_halts z base a t l ls n) ∙ e)
    go (fills n r) ih = let c = sym (pass_full z base a t l ls n r) ∙ e in absurd (false≢true cc)
    go (leaves n t' r f) ih = let c = sym (pass_out z base a t l ls n t' r f) ∙ e in absurd (false≢true cc)
    go (passes n t' r f) ih =
        let i = taken z base a t l ls p e n t' r f in
        stop_more z base a t l ls n t' r f ∙ ap (before (record { address = a; task = asked l })) (ih _ t' i.rest i.passed) ∙ sym i.whole
