-- A script is added for each name. Assumes nothing.
use Rattle.sheettext.proofs.Filing.{adding_none, adding_more, feeding_over}
use Rattle.promises_texts.specs.Sheets.{NamesAreAdded}

pub names_are_added : NamesAreAdded
names_are_added =
    record {
      none = adding_none;
      part = λ o p q t s name held a f. adding_more s a f;
      over = λ o p q t name held i total e a f. feeding_over (record { text = t; total = total; adding = a }) e f;
    }
