-- `opcode::word::quick_word` meets its contract: the mask is the value modulo 8, then as for two registers. Assumes nothing.
use mathlib.Core.Path.{ap, ◌∙◌}
use Prim.Native.Nat.{ℕ, ◌*◌, ◌%◌}
use native.Mathlib.Omega.{arith}
use Rattle.rules.specs.Encode.{R}
use Rattle.rules.proofs.Fields.{fields}
use lib.Bits.{bit_or, and_mask}
use Rattle.opcode.proofs.word.quick_word.Goals as goal

pub returns : goal.returns
unfolding R
returns c =
    let v = c.args.value % 8 in
    ap (λ (x : ℕ). bit_or (bit_or c.args.opcode ((x * 512) % 65536)) c.args.register) (and_mask c.args.value 3)
    ∙ fields 16 9 3 3 c.args.opcode v c.args.register (omega arith) (omega arith) c.requires.1 c.requires.0 (omega arith) ∙ omega arith
