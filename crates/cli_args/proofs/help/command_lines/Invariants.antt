-- `command_lines` has the text so far, and the lines that are left.
use Rattle.std.proofs.Common.{string_bytes}
use Rattle.cli_args.specs.Help.{command_line}
use Rattle.cli_args.specs.declared.table.TheConstants.{COMMANDS}
use Rattle.cli_args.proofs.Lines.{Rest}
use Rattle.cli_args.proofs.help.command_lines.Given as goal

abbrev pub invariant-loop-k : goal.invariant-loop-k
invariant-loop-k l = Rest command_line COMMANDS l.k (string_bytes l.text)
