-- The inputs so far, and the names that are left.
use Rattle.std.proofs.Common.{option_map}
use Rattle.asked.specs.Names.{input_of}
use Rattle.work.proofs.Inputs.{Rest}
use Rattle.work.proofs.calls.named.Given as goal

abbrev pub invariant-loop-k : goal.invariant-loop-k
invariant-loop-k l = Rest (λ n. input_of n.now) (λ o. option_map (λ s. s.now) o) l.names l.k l.inputs.items
