-- `command_lines` puts each text after those before it.
use Rattle.std.proofs.Common.{◌∙◌, arith}
use Rattle.cli_args.proofs.Lines.{next}
use Rattle.cli_args.proofs.help.command_lines.Goals as goal

pub loop-k-preserved : goal.loop-k-preserved
loop-k-preserved c = rw c.in_ok-push_str.ensures.bytes (next _ _ c.loop-k.k _ c.as_str.result.now _ c.loop-k.invariant (omega arith) (c.as_str.ensures.value ∙ c.in_ok-line.ensures))
