-- `fill` meets its contract: in each slice the parts of the places that are left are still to be put. Assumes nothing.
-- i parts f are in the slice l
use Prim.Native.Nat.{ℕ, ◌*◌, ◌≤◌}
use mathlib.Core.Path.{◌≡◌, refl, ap, ◌∙◌}
use mathlib.Core.List.{List, map}
use native.Mathlib.Omega.{arith}
use Rattle.rules.specs.Text.{Text}
use Rattle.rules.specs.Assemble.{Place, holding, over}
use lib.ListN.{drop}
use Rattle.listing.specs.Reading.{place_in, places_in}
use Rattle.listing.specs.Shown.{place_of}
use Rattle.text.proofs.Over.{putting_one, putting_end, put_over}
use Rattle.listing.proofs.Lines.{rest_is}
use Rattle.listing.proofs.Places.{shown_more, shown_end}
use Rattle.listing.proofs.reading.fill.Goals as goal
use Rattle.listing.proofs.reading.fill.Invariants.{Part}

done : (f : Place → ℕ) (t : Text) (count i : ℕ) (first l : List ℕ) → Part f t count i first l → count ≤ i → l ≡ over (map f (places_in count t)) first
done f t count i first l p h = putting_end p (shown_end f t count i h) ∙ put_over _ _

pub loop-i-preserved : goal.loop-i-preserved
loop-i-preserved c =
    let l = c.loop-i in
    let t = c.args.t.now in
    let n = c.args.count in
    let e : place_of c.read_shown-shown.result ≡ place_in (drop (16 * l.i) t) = rw (rest_is t (16 * l.i)) at c.read_shown-shown.ensures in (
      putting_one l.invariant.0 _ _ _ (shown_more (λ p. p.address) t n l.i _ (omega arith) (ap (λ (p : Place). p.address) e)) refl (omega arith),
      putting_one l.invariant.1 _ _ _ (shown_more (λ p. p.word) t n l.i _ (omega arith) (ap (λ (p : Place). p.word) e)) refl (omega arith),
      putting_one l.invariant.2 _ _ _ (shown_more (λ p. p.mark) t n l.i _ (omega arith) (ap (λ (p : Place). p.mark) e)) refl (omega arith),
    )

pub returns : goal.returns
unfolding holding
returns c =
    let inv = c.loop-i.invariant in
    rw (done _ _ _ _ _ _ inv.0 (omega arith), done _ _ _ _ _ _ inv.1 (omega arith), done _ _ _ _ _ _ inv.2 (omega arith))
