-- The registers so far are written. Assumes nothing.
use mathlib.Core.Path.{◌≡◌}
use Prim.Native.Nat.{◌+◌, ◌*◌}
use Rattle.listing.specs.Writer.{Adds}
use Rattle.benchtext.specs.BenchText.{registers_text}
use Rattle.benchtext.proofs.push_registers.Given as goal

abbrev pub invariant-loop-value : goal.invariant-loop-value
invariant-loop-value l = record { text : Adds (registers_text l.value-index l.d) l.initial.text l.text; len : l.text.len ≡ l.initial.text.len + 9 * l.value-index }
