-- `add_masked` has appended the bytes so far. Assumes nothing.
use Rattle.std.proofs.Common.{◌≡◌, ◌++◌, map, take}
use Rattle.cli_error.specs.Shown.{shown_byte}
use Rattle.cli_error.proofs.shown.add_masked.Given as goal

abbrev pub invariant-loop-b : goal.invariant-loop-b
invariant-loop-b l = l.out.items ≡ l.fn.out.items ++ map shown_byte (take l.b-index l.bytes)
