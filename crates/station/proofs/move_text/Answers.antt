-- The text is read, and either the list is moved and printed, or the wrong line is.
use Rattle.std.proofs.Common.{refl, replicate}
use mir.Facts.{to_z-of_z}
use Rattle.rules.specs.Assemble.{slices}
use Rattle.station.proofs.Moving.{moved_text_lem, refused_text}
use Rattle.station.proofs.Refusing.{answer_by_refusal}
use Rattle.station.proofs.move_text.Goals as goal

pub returns-in-Ok : goal.returns-in-Ok
returns-in-Ok c =
    let zeros = slices (replicate 12288 0) (replicate 12288 0) (replicate 12288 0) in
    let e = to_z-of_z c.ranges.distance in
    rw (moved_text_lem c.args.distance c.args.list.now zeros _ refl _ c.in-Ok.ensures.answer c.in-Ok.ensures.filled _ _ (rw e at c.relocate-answer.ensures.answer) (rw e at c.relocate-answer.ensures.slices)) at
    (rw (answer_by_refusal c.relocate-answer.result) at c.write_answer.ensures)

pub returns-in-Err : goal.returns-in-Err
returns-in-Err c =
    let zeros = slices (replicate 12288 0) (replicate 12288 0) (replicate 12288 0) in
    rw (refused_text c.args.distance c.args.list.now zeros zeros refl _ c.in-Err.ensures.answer) at c.write_wrong_line.ensures
