-- `options_text` has the text so far, and the lines that are left.
use Rattle.std.proofs.Common.{string_bytes}
use Rattle.cli_args.specs.Help.{option_text}
use Rattle.cli_args.specs.declared.table.TheConstants.{SETTINGS}
use Rattle.cli_args.proofs.Lines.{Rest}
use Rattle.cli_args.proofs.help.options_text.Given as goal

abbrev pub invariant-loop-k : goal.invariant-loop-k
invariant-loop-k l = Rest (option_text l.command) SETTINGS l.k (string_bytes l.text)
