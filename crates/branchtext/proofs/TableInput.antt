-- What is printed for a branch table and a script, by where their readers stand, whatever texts f and g a program prints without a table and
-- with one. Assumes nothing.
use Prim.Native.Nat.{ℕ, ◌<◌, ◌≤◌, min}
use mathlib.Core.Path.{◌≡◌, sym, ap, ◌∙◌}
use mathlib.Core.Bool.{Bool, true, false}
use mathlib.Core.List.{List}
use native.Mathlib.Omega.{arith}
use lib.ListN.{length, take}
use lib.Seq.{take_all}
use borrow.Author.Tests.{lt-ltb, le-ltb}
use Rattle.rules.specs.Text.{Text}
use Rattle.requests.specs.Branches.{checked}
use Rattle.station.specs.Station.{unless_failed, input_text}
use Rattle.station.specs.Printed.{Printed}
use Rattle.station.specs.Reads.{Reads}
use Rattle.station.specs.declared.input.Input.{Input}
use Rattle.station.proofs.Printed.{printed_none}
use Rattle.station.proofs.Kept.{take_lesser}
use Rattle.branchtext.specs.BranchText.{long_text, under_input_text, tabled_input_text, tabled_text}

-- g goes by the table before it looks at a script over the limit, and 97 bytes of the table are enough for it
pub record Loads (g : Text → Text → Text) : Type 0 where
  pub long : (t s : Text) → 32768 < length s → g t s ≡ long_text (checked t) (length s)
  pub front : (t s : Text) → g (take 97 t) s ≡ g t s

module _ (lent : Bool) (f : Text → Text) (g : Text → Text → Text) (b : Input) (x : List ℕ) (i : Input) (y : List ℕ) where
  -- what a function owes that prints over the front of o, which gives p, and answers r
  abbrev Owed : ℕ → List ℕ → List ℕ → Type 0
  Owed r o p = Printed (tabled_input_text lent f g b x i y) r o p × ((t s : Text) → Reads t x b → Reads s y i → tabled_input_text lent f g b x i y ≡ tabled_text lent f g b t i s)

  -- no table is lent
  pub not_lent : lent ≡ false → {r : ℕ} {o p : List ℕ} → Printed (input_text f i y) r o p → ((s : Text) → Reads s y i → input_text f i y ≡ unless_failed i (f s)) → Owed r o p
  unfolding tabled_input_text tabled_text
  not_lent e q k = (rw e q, λ t s m n. rw e (k s n))

  -- one of the two was not read to its end
  pub table_failed : lent ≡ true → b.failed ≡ true → (o : List ℕ) → Owed 0 o o
  unfolding tabled_input_text tabled_text under_input_text unless_failed
  table_failed e h o = (rw (e, h) (printed_none o), λ t s m n. rw (e, h))

  pub script_failed : lent ≡ true → b.failed ≡ false → i.failed ≡ true → (o : List ℕ) → Owed 0 o o
  unfolding tabled_input_text tabled_text under_input_text unless_failed
  script_failed e h j o = (rw (e, h, j) (printed_none o), λ t s m n. rw (e, h, j))

  module _ (loads : Loads g) (e : lent ≡ true) (h : b.failed ≡ false) (j : i.failed ≡ false) (l : length x ≡ 97) (k : ℕ) (a : k ≡ min 97 b.total) where
    kept : take k x ≡ take b.total x
    kept = take_lesser k b.total x (rw l a)

    -- what is kept of the table is enough
    enough : (t s : Text) → Reads t x b → g (take b.total x) s ≡ g t s
    enough t s m = ap (λ (u : Text). g u s) (sym (rw l at m.front)) ∙ loads.front t s

    -- a script over the limit
    pub script_long : 32768 < i.total → {r : ℕ} {o p : List ℕ} → Printed (long_text (checked (take k x)) i.total) r o p → Owed r o p
    unfolding tabled_input_text tabled_text under_input_text unless_failed
    script_long z q = (
      rw (e, h, j, lt-ltb 32768 i.total z) (rw kept at q),
      λ t s m n. rw (e, h, j, lt-ltb 32768 i.total z, n.total) (sym (loads.long (take b.total x) s (omega (arith, n.total))) ∙ enough t s m),
    )

    -- both are there
    pub both_read : i.total ≤ 32768 → 32768 ≤ length y → {r : ℕ} {o p : List ℕ} → Printed (g (take k x) (take i.total y)) r o p → Owed r o p
    unfolding tabled_input_text tabled_text under_input_text unless_failed
    both_read z w q = (
      rw (e, h, j, le-ltb 32768 i.total z) (rw kept at q),
      λ t s m n.
          rw (e, h, j, le-ltb 32768 i.total z)
          (ap (g (take b.total x)) (sym n.front ∙ take_all (length y) s (omega (arith, n.total))) ∙ enough t s m),
    )
