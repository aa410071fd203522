-- Scripts with no sheets are a plant's. Assumes nothing.
use Rattle.std.proofs.Common.{◌≡◌, refl, ap, List, [], ◌∷◌, ◌++◌}
use Rattle.rules.specs.Answer.{Answer, accepted, refused, and_then}
use Rattle.requests.specs.Sheet.{Totals, no_totals, add_source, add_all, plant_sheet}
use Rattle.cli_error.specs.Fault as Why
use Rattle.cli_run.specs.Input.{Named}
use Rattle.cli_totals.specs.Series.{Sum, summed, halts, sum_of, sum_then, with_file, with_files, sum_all}
use Rattle.cli_totals.specs.Stated.{texts_of, IsPlant, PlantSheet}
use Rattle.cli_totals.specs.declared.adding.Kind.TheVariants.{Script}

-- scripts added to t
IsFrom : Totals → List Named → Answer Totals → Sum → Type 0
IsFrom t scripts (accepted u) s = s ≡ summed u
IsFrom t scripts (refused n p) s =
    (before : List Named) × (b : Named) × (rest : List Named) × (u : Totals) × (scripts ≡ before ++ (b ∷ rest))
    × (add_all t (texts_of before) ≡ accepted u) × (add_all t (texts_of (before ++ (b ∷ []))) ≡ refused n p)
    × (s ≡ halts (Why.refused b.name n p []))

-- after one more
after_one : (t u : Totals) (b : Named) (bs : List Named) (x : Answer Totals) (s : Sum) → add_source t b.text ≡ accepted u → IsFrom u bs x s → IsFrom t (b ∷ bs) x s
unfolding IsFrom add_all and_then
after_one t u b bs (accepted v) s e f = f
after_one t u b bs (refused n p) s e f =
    let (before, c, rest, v, split, added, halted, sum) = f in
    (b ∷ before, c, rest, v, ap (λ (x : List Named). b ∷ x) split, rw e added, rw e halted, sum)

from_all : (t : Totals) (bs : List Named) → IsFrom t bs (add_all t (texts_of bs)) (with_files Script bs t)
unfolding IsFrom add_all and_then with_files with_file sum_of sum_then
from_all t [] = refl
from_all t (b ∷ bs) = go (add_source t b.text) refl (λ u. from_all u bs)
  where
    go : (a : Answer Totals) → add_source t b.text ≡ a → ((u : Totals) → IsFrom u bs (add_all u (texts_of bs)) (with_files Script bs u))
        → IsFrom t (b ∷ bs) (and_then a (λ u. add_all u (texts_of bs))) (sum_then (sum_of b.name a) (λ u. with_files Script bs u))
    go (accepted u) e ih = after_one t u b bs (add_all u (texts_of bs)) (with_files Script bs u) e (ih u)
    go (refused n p) e ih = ([], b, bs, t, refl, refl, rw e refl, refl)

as_plant : (bs : List Named) (x : Answer Totals) (s : Sum) → IsFrom no_totals bs x s → IsPlant bs x s
unfolding IsFrom plant_sheet
as_plant bs (accepted t) s f = f
as_plant bs (refused n p) s f = f

pub plant_scripts : PlantSheet
unfolding PlantSheet plant_sheet sum_all with_files sum_then
plant_scripts bs = as_plant bs (add_all no_totals (texts_of bs)) (with_files Script bs no_totals) (from_all no_totals bs)
