-- Moving is assembling, for the manual's call: accepted means that neither 14 nor 15 holds either. Assumes nothing.
use Rattle.std.specs.Prelude.{ℕ, ◌≡◌}
use Rattle.rules.specs.Text.{Text}
use Rattle.rules.specs.Answer.{accepted, refused}
use Rattle.rules.specs.Assemble.{Pass, pass_at_by}
use Rattle.requests.specs.ManualCall.{manual_size}
use Rattle.requests.specs.ManualAssemble.{encoded_manual, assemble_manual}
use Rattle.promises.specs.MovedLists.{MovesAsAssembledFor}
use Rattle.promises.specs.Pairs.{ListsArePairedFor}

-- "Scripts moved between bases still equal those assembled there, words differ only at marked places, and moves made one after another
-- add the accepted ones' total to each such pair modulo 2^32": all that is promised of moving, and of Pairs.antt, whose lists these are
unfoldable pub ManualMoves : Type 0
ManualMoves = MovesAsAssembledFor manual_size encoded_manual assemble_manual

unfoldable pub ManualListsArePaired : Type 0
ManualListsArePaired = ListsArePairedFor assemble_manual

-- 14 and 15 do not depend on the base: where none of 1 to 6 holds at either base, what is refused at the one is refused at the other, with
-- the same number and line; so what is accepted at the one is accepted at the other
unfoldable pub FaultsAtEveryBase : Type 0
FaultsAtEveryBase =
    (s : Text) (b c : ℕ) (p q : Pass) → pass_at_by manual_size b s ≡ accepted p → pass_at_by manual_size c s ≡ accepted q
    → (n k : ℕ) → assemble_manual b s ≡ refused n k → assemble_manual c s ≡ refused n k
