-- The distance is a number of 32 bits.
use Rattle.std.proofs.Common.{rules, w32}
use mir.Facts.{to_z-of_z}
use mir.Val.{SFits}
use Rattle.cli_lists.proofs.moving.MovingOne.make.Goals as goal

pub returns : goal.returns
returns c = λ t b h i.
    let fits : SFits w32 c.args.self.now.distance = search rules in
    rw (to_z-of_z fits) at (c.move_list.ensures b i)
