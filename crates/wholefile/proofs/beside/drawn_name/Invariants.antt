use Rattle.std.proofs.Common.{◌≡◌, ◌++◌, take, map, string_bytes}
use Rattle.rules.specs.Text.{bytes}
use Rattle.wholefile.specs.Beside.{letter}
use Rattle.wholefile.proofs.beside.drawn_name.Given as goal

abbrev pub invariant-loop-b : goal.invariant-loop-b
invariant-loop-b l = string_bytes l.name ≡ bytes ".lagvettu-" ++ map letter (take l.b-index l.drawn)
