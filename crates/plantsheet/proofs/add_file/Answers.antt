-- `add_file` meets its contract: the file is not read, or what was read is added. Assumes nothing.
use Rattle.std.proofs.Common.{sym}
use Rattle.sheettext.proofs.Filing.{not_read, is_read}
use Rattle.plantsheet.proofs.add_file.Goals as goal

pub returns-then-not-is_read : goal.returns-then-not-is_read
returns-then-not-is_read c = not_read _ _ (sym c.if-not-is_read.ensures)

pub returns : goal.returns
returns c =
    let read = c.read_script-input.ensures.part in
    is_read _ _ _ _ read.text (sym c.if-not-is_read.ensures) (c.with_file.ensures.result_value_2 read.text read.reads)
