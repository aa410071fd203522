-- What is printed for an input that is a script, by where its reader stands, whatever text f a program prints for a script. Assumes nothing.
use Prim.Native.Nat.{ℕ, ◌<◌, ◌≤◌}
use mathlib.Core.Path.{◌≡◌, refl, sym, ap, ◌∙◌}
use mathlib.Core.Bool.{Bool, true, false, false≢true, cond}
use mathlib.Core.List.{List, []}
use native.Mathlib.Omega.{arith}
use lib.ListN.{length, take}
use lib.Dec.{ltb}
use lib.Seq.{take_all}
use borrow.Author.Tests.{lt-ltb, le-ltb, ltb-true, ltb-false}
use Rattle.rules.specs.Text.{Text}
use Rattle.rules.specs.Answer.{Answer, refused, refuse_if}
use Rattle.rules.specs.Assemble.{checks}
use Rattle.listing.specs.Listing.{refused_text}
use Rattle.station.specs.Station.{unless_failed, input_text}
use Rattle.station.specs.Printed.{Printed}
use Rattle.station.specs.Reads.{Reads}
use Rattle.station.specs.declared.input.Input.{Input}
use Rattle.station.proofs.Printed.{printed_none}

-- f refuses a script over the limit before it looks at its bytes
abbrev pub RefusesLong : (Text → Text) → Type 0
RefusesLong f = (t : Text) → 32768 < length t → f t ≡ refused_text 1 (length t)

-- so it is where f prints an answer that goes by refusals 1 to 3
pub checks_long : {A : Type 0} (t : Text) (a : Answer A) → 32768 < length t → checks t a ≡ refused 1 (length t)
unfolding checks refuse_if
checks_long t a h = rw (lt-ltb 32768 (length t) h)

module _ (f : Text → Text) (long : RefusesLong f) (i : Input) (buffer : List ℕ) where
  -- 32,768 bytes of a script are enough to print what the whole comes to
  pub front_is_enough : (t : Text) → (i.failed ≡ false → i.total ≤ 32768 → 32768 ≤ length buffer) → Reads t buffer i → input_text f i buffer ≡ unless_failed i (f t)
  unfolding input_text unless_failed
  front_is_enough t k r = rw r.total (go i.failed refl (ltb 32768 (length t)) refl)
    where
      go : (g : Bool) → i.failed ≡ g → (b : Bool) → ltb 32768 (length t) ≡ b
          → cond g [] (cond b (refused_text 1 (length t)) (f (take (length t) buffer))) ≡ cond g [] (f t)
      go true g b e = refl
      go false g true e = sym (long t (ltb-true 32768 (length t) e))
      go false g false e =
          let short = ltb-false 32768 (length t) e in
          ap f (sym (rw r.total at r.front) ∙ take_all (length buffer) t (omega (arith, short, k g (omega (arith, short, r.total)))))

  -- what a function owes that prints over the front of x, which gives y, and answers r
  abbrev Owed : ℕ → List ℕ → List ℕ → Type 0
  Owed r x y = Printed (input_text f i buffer) r x y × ((t : Text) → Reads t buffer i → input_text f i buffer ≡ unless_failed i (f t))

  -- an input that was not read to its end, one over the limit, and one that is all there
  pub script_failed : i.failed ≡ true → (x : List ℕ) → Owed 0 x x
  unfolding input_text unless_failed
  script_failed e x = (rw e (printed_none x), λ t r. front_is_enough t (λ g h. absurd (false≢true (sym g ∙ e))) r)

  pub script_long : i.failed ≡ false → 32768 < i.total → {r : ℕ} {x y : List ℕ} → Printed (refused_text 1 i.total) r x y → Owed r x y
  unfolding input_text unless_failed
  script_long e h p = (rw (e, lt-ltb 32768 i.total h) p, λ t r. front_is_enough t (λ g k. absurd (omega arith)) r)

  pub script_read : i.failed ≡ false → i.total ≤ 32768 → 32768 ≤ length buffer → {r : ℕ} {x y : List ℕ} → Printed (f (take i.total buffer)) r x y → Owed r x y
  unfolding input_text unless_failed
  script_read e h l p = (rw (e, le-ltb 32768 i.total h) p, λ t r. front_is_enough t (λ g k. l) r)
