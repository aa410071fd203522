-- The names are those of the file that is asked for.
use Rattle.work.proofs.sheets.sheet.Goals as goal

pub returns : goal.returns
returns g c = rw (c.as_slice.ensures.value, c.file_of-file.ensures) at c.serve_sheet.ensures
