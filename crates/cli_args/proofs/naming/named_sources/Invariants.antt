-- The files so far, and those that are left.
use Rattle.std.proofs.Common.{map}
use Rattle.cli_run.specs.From.{from_of}
use Rattle.cli_args.proofs.Gathered.{Names}
use Rattle.cli_args.proofs.naming.named_sources.Given as goal

abbrev pub invariant-loop-k : goal.invariant-loop-k
invariant-loop-k l = Names (λ s. s.now) l.operands l.k (map from_of l.sources.items) l.was
