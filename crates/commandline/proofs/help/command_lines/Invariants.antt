-- `command_lines` has the text so far, and the lines that are left.
use Rattle.std.proofs.Common.{string_bytes}
use Rattle.commandline.specs.Help.{command_line}
use Rattle.commandline.specs.declared.table.TheConstants.{COMMANDS}
use Rattle.commandline.proofs.Lines.{Rest}
use Rattle.commandline.proofs.help.command_lines.Given as goal

abbrev pub invariant-loop-k : goal.invariant-loop-k
invariant-loop-k l = Rest command_line COMMANDS l.k (string_bytes l.text)
