-- Nothing is listed yet. Assumes nothing.
use Rattle.std.proofs.Common.{[]}
use Rattle.cli_lines.specs.Lines.{page_of}
use Rattle.cli_lines.specs.Answered.{whole_page}
use Rattle.cli_lines.proofs.Steps.{begins}
use Rattle.cli_lines.proofs.printing.Printing.new.Goals as goal

pub returns : goal.returns
returns c = λ t h. record { names = t; done = []; under = h; so_far = c.new.ensures.items; continues = begins t (page_of c.args.base c.args.headed t) whole_page }
