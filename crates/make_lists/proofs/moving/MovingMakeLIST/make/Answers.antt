-- The front of a list's text is enough.
use Rattle.std.proofs.Common.{arith, rules, w32}
use mir.Facts.{to_z-of_z}
use mir.Val.{SFits}
use Rattle.make_lists.proofs.Moves.{front_moved}
use Rattle.make_lists.proofs.moving.MovingMakeLIST.make.Goals as goal

pub returns : goal.returns
returns c = λ t s p q.
    let fits : SFits w32 c.args.self.now.distance = search rules in
    rw (front_moved c.args.self.now.distance q (omega arith) c.min.result c.min.ensures) at (rw (to_z-of_z fits) at c.move_text.ensures)
