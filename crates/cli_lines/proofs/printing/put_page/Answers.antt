-- What is kept is enough. Assumes nothing.
use Rattle.std.proofs.Common.{refl}
use Rattle.printout.specs.Printout.{printout_of}
use Rattle.cli_lines.proofs.Fronts.{pages_load, both_read, too_long, put_within}
use Rattle.cli_lines.proofs.printing.put_page.Goals as goal

pub returns-in-Whole-clause-page : goal.returns-in-Whole-clause-page
returns-in-Whole-clause-page c = λ t b h i.
    let w = c.args.work.now in
    let j = rw c.in-Whole.is at i.text in
    rw (both_read (λ o s. printout_of o w.base s) (pages_load w.base) t _ (c.table_names-names.ensures t h) c.in-Whole.source.now b.text j.0) at c.put_printout.ensures

pub returns-in-TooLong-clause-page : goal.returns-in-TooLong-clause-page
returns-in-TooLong-clause-page c = λ t b h i.
    let w = c.args.work.now in
    let j = rw c.in-TooLong.is at i.text in
    (too_long (λ o s. printout_of o w.base s) (pages_load w.base) t _ (c.table_names-names.ensures t h) b.text c.in-TooLong.total j.1 j.2 _ _ c.long_script.ensures, refl)

pub returns-in-Whole-clause-within : goal.returns-in-Whole-clause-within
returns-in-Whole-clause-within c = put_within _ _ _ _ c.put_printout.ensures
