-- `step::write_long` meets its contract. Assumes nothing.
use Rattle.std.proofs.Common.{◌≡◌, ◌/◌, ◌%◌, ◌∙◌, refl, arith}
use Rattle.std.proofs.lemmas.Slice.{put_mid-paste}
use Rattle.step.proofs.Putting.{put_four}
use Rattle.step.proofs.write_long.Goals as goal

pub returns : goal.returns
returns c =
    let top : c.args.v / 16777216 % 256 ≡ c.args.v / 16777216 = omega arith in
    put_mid-paste c.args.p _ c.args.mem.now _ _ 4 (c.copy_from_slice.ensures.after ∙ rw top at c.to_be_bytes.ensures) (omega arith) refl
    ∙ put_four c.args.p c.args.mem.now _ _ _ _ (omega arith)
