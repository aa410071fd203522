-- `write_kept` has before each line the verdicts on those before it. Assumes nothing.
use Rattle.std.proofs.Common.{◌≡◌}
use Rattle.std.specs.Option.{option_copied}
use Rattle.branches.specs.Branch.{names_in}
use Rattle.cells.specs.Puts.{address_at}
use Rattle.explain.specs.Verdict.{signs_of, put_over}
use Rattle.explain.specs.Lines.{verdicts_to}
use Rattle.explain.proofs.write_kept.Given as goal

abbrev pub invariant-loop-k : goal.invariant-loop-k
invariant-loop-k g l =
    record {
      here : l.address ≡ address_at l.pass.base l.cells l.k;
      put : l.verdicts ≡ put_over (signs_of g.V.VerdictSign.from_verdict (verdicts_to (names_in (option_copied l.names)) l.labels l.cells l.pass l.k)) l.initial.verdicts;
    }
