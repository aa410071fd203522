-- `unpadded`: spaces are taken off the end while there are any. Assumes nothing.
use Rattle.std.proofs.Common.{◌≡◌, length}
use Rattle.requests.specs.Branches.{unpadded}
use Rattle.branches.proofs.unpadded.Given as goal

abbrev pub invariant-loop-name : goal.invariant-loop-name
invariant-loop-name l = unpadded l.name ≡ unpadded l.fn.name

abbrev pub decreases-loop-name : goal.decreases-loop-name
decreases-loop-name l = length l.name
