-- `read_number` meets its contract, by what the digits said. Assumes nothing.
use Rattle.sum.proofs.Readers.{end_in, number_says}
use Rattle.sum.proofs.read_number.Goals as goal

pub slice_bounds-plain_number-end : goal.slice_bounds-plain_number-end
slice_bounds-plain_number-end c = (end_in _ _ _ c.requires c.skip_to-end.ensures).1

pub returns-in-Ok : goal.returns-in-Ok
returns-in-Ok c = rw c.in-Ok.is at (number_says _ _ _ c.requires c.skip_to-end.ensures _ c.plain_number.ensures)

pub returns-in-Err-OutOfRange : goal.returns-in-Err-OutOfRange
returns-in-Err-OutOfRange c = let w = c.in-Err-OutOfRange in rw (w.is, w.field-0-is) at (number_says _ _ _ c.requires c.skip_to-end.ensures _ c.plain_number.ensures)

pub returns-in-Err-NoDigits : goal.returns-in-Err-NoDigits
returns-in-Err-NoDigits c = let w = c.in-Err-NoDigits in rw (w.is, w.field-0-is) at (number_says _ _ _ c.requires c.skip_to-end.ensures _ c.plain_number.ensures)

pub returns-in-Err-BadDigit : goal.returns-in-Err-BadDigit
returns-in-Err-BadDigit c = let w = c.in-Err-BadDigit in rw (w.is, w.field-0-is) at (number_says _ _ _ c.requires c.skip_to-end.ensures _ c.plain_number.ensures)
