-- Joining two sheets refuses by 20 and 21 exactly, adds them up, and leaves the totals as they were where it refuses. Assumes nothing.
use Prim.Native.Nat.{ℕ, ◌+◌, ◌<◌}
use mathlib.Core.Path.{◌≡◌, refl}
use mathlib.Core.Bool.{Bool, true, false, ◌||◌}
use mathlib.Core.List.{List, [], ◌∷◌}
use native.Mathlib.Omega.{arith}
use borrow.Author.Tests.{ltb-true, lt-ltb}
use lib.Dec.{ltb}
use Rattle.rules.specs.Answer.{Answer, accepted, refused}
use Rattle.requests.specs.Sheet.{max_sources, max_total, Totals, numbers_in, plus, sources, any_over, add_source, add_sheet}
use Rattle.promises.specs.Stages.{Checked}
use Rattle.promises.specs.Nearest.{In, head, tail}
use Rattle.promises.specs.Sheet.{SheetRefusesExactly, SourcesAreAdded}
use Rattle.promises.proofs.Compared.{clash}
use Rattle.promises.proofs.Stages.{is_checked, checked_by, apart, are_apart, Runs, done, refuse_if_lem, refuses_exactly, none_holds}
use Rattle.promises.proofs.Accepted.{not_refused}
use Rattle.promises.proofs.SheetSums.{added, is_one, one_is}
use Rattle.promises.proofs.Sheet.{sheet_refuses_exactly, sources_are_added}
use Rattle.sheet.specs.Totals.{lent_totals}
use Rattle.sheet.specs.Called.{AddsTotals}
use Rattle.promises_calls.specs.Joined.{JoinCondition, sources_over, first_over, second_over, joining, JoinRefusesExactly, SheetsJoined, JoinAddsBoth}
use Rattle.promises_calls.specs.LentTotals.{JoinLeaves, sum_left, join_refused, JoinCallLeaves, SourceLeaves, source_left, source_refused, SourceCallLeaves}

-- ---- a total above 2^33, by the test
over_one : (ns : List ℕ) → any_over ns ≡ true → (n : ℕ) × In n ns × (max_total < n)
unfolding any_over
over_one [] e = clash cc
over_one (n ∷ ns) e = go (ltb max_total n) refl e (over_one ns)
  where
    go : (x : Bool) → ltb max_total n ≡ x → (x || any_over ns) ≡ true → (any_over ns ≡ true → (m : ℕ) × In m ns × (max_total < m)) → (m : ℕ) × In m (n ∷ ns) × (max_total < m)
    go true f g ih = (n, head refl, ltb-true max_total n f)
    go false f g ih = let h = ih g in (h.0, tail h.1, h.2)

either : (x : Bool) → (x || true) ≡ true
either true = refl
either false = refl

one_over : (ns : List ℕ) (n : ℕ) → In n ns → max_total < n → any_over ns ≡ true
unfolding any_over
one_over (m ∷ ns) n (head e) h = rw (lt-ltb max_total m (omega arith))
one_over (m ∷ ns) n (tail i) h = rw (one_over ns n i h) (either (ltb max_total m))
one_over [] n i h = elim i [ ]

-- ---- two sheets
module _ (t u : Totals) where
  abbrev C : ℕ → ℕ → Type 0
  C = JoinCondition t u

  abbrev over : Bool
  over = any_over (numbers_in t) || any_over (numbers_in u)

  known : (n q : ℕ) → C n q → Checked n joining
  unfolding is_checked
  known n q (sources_over h) = checked_by 20 joining refl
  known n q (first_over i h) = checked_by 21 joining refl
  known n q (second_over i h) = checked_by 21 joining refl

  to_20 : (q : ℕ) → C 20 q → (ltb max_sources (sources t + sources u) ≡ true) × (q ≡ max_sources)
  unfolding sources
  to_20 q (sources_over h) = (lt-ltb max_sources _ h, refl)

  to_21 : (q : ℕ) → C 21 q → (over ≡ true) × (q ≡ 0)
  to_21 q (first_over {n} i h) = (rw (one_over (numbers_in t) n (one_is t n i) h) refl, refl)
  to_21 q (second_over {n} i h) = (rw (one_over (numbers_in u) n (one_is u n i) h) (either (any_over (numbers_in t))), refl)

  from_21 : over ≡ true → C 21 0
  from_21 e = go (any_over (numbers_in t)) refl e
    where
      go : (x : Bool) → any_over (numbers_in t) ≡ x → (x || any_over (numbers_in u)) ≡ true → C 21 0
      go true f g = let h = over_one (numbers_in t) f in first_over (is_one t h.0 h.1) h.2
      go false f g = let h = over_one (numbers_in u) g in second_over (is_one u h.0 h.1) h.2

  runs : Runs C joining (add_sheet t u)
  unfolding add_sheet sources
  runs =
      refuse_if_lem C 20 max_sources (ltb max_sources (sources t + sources u)) _ (λ e. sources_over (ltb-true max_sources _ e)) to_20 λ e.
      refuse_if_lem C 21 0 over _ from_21 to_21 (λ f. done)

  both : (v : Totals) → add_sheet t u ≡ accepted v → SheetsJoined t u v
  unfolding add_sheet apart
  both v e =
      let k = not_refused (ltb max_sources (sources t + sources u)) 20 max_sources _ v e in
      let m = not_refused over 21 0 _ v k.1 in
      let g = m.1 in
      let s : plus t u ≡ v = cc in
      record { clear = none_holds C joining (are_apart joining refl) known v (add_sheet t u) e runs; added = rw s at (added t u) }

pub join_refuses_exactly : JoinRefusesExactly
unfolding JoinRefusesExactly apart
join_refuses_exactly t u = refuses_exactly (JoinCondition t u) joining (are_apart joining refl) (known t u) (add_sheet t u) (runs t u)

pub join_adds_both : JoinAddsBoth
unfolding JoinAddsBoth
join_adds_both t u v e = both t u v e

-- ---- what a call leaves
pub join_call_leaves : JoinCallLeaves
unfolding JoinCallLeaves JoinRefusesExactly numbers_in
join_call_leaves ns os ms n p h = go (add_sheet (lent_totals ns) (lent_totals os)) refl h
  where
    go : (r : Answer Totals) → add_sheet (lent_totals ns) (lent_totals os) ≡ r → AddsTotals r ns n p ms → JoinLeaves ns os n p ms
    go (accepted v) e k = rw (k.0, k.1, k.2) (sum_left (both (lent_totals ns) (lent_totals os) v e) refl)
    go (refused m q) e k = rw (k.0, k.1, k.2) (join_refused ((join_refuses_exactly (lent_totals ns) (lent_totals os) m q).0 e))

pub source_call_leaves : SourceCallLeaves
unfolding SourceCallLeaves SheetRefusesExactly SourcesAreAdded numbers_in
source_call_leaves ns ms s n p h = go (add_source (lent_totals ns) s) refl h
  where
    go : (r : Answer Totals) → add_source (lent_totals ns) s ≡ r → AddsTotals r ns n p ms → SourceLeaves ns s n p ms
    go (accepted v) e k = rw (k.0, k.1, k.2) (source_left (sources_are_added (lent_totals ns) s v e) refl)
    go (refused m q) e k = rw (k.0, k.1, k.2) (source_refused ((sheet_refuses_exactly (lent_totals ns) s m q).0 e))
