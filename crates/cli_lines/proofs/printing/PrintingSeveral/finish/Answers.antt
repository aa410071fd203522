-- All listings. Assumes nothing.
use Rattle.std.proofs.Common.{◌∙◌, ap, sym}
use Rattle.rules.specs.Text.{Text}
use Rattle.cli_error.specs.Answered.{output_of}
use Rattle.cli_lines.specs.Lines.{page_of}
use Rattle.cli_lines.specs.Answered.{whole_page}
use Rattle.cli_lines.proofs.Steps.{all_done}
use Rattle.cli_lines.proofs.printing.PrintingSeveral.finish.Goals as goal

pub returns : goal.returns
returns c = λ f h.
    let s = c.args.self in
    all_done h.names (page_of s.base s.headed h.names) whole_page h.done f h.continues ∙ ap (λ (t : Text). output_of t 0) (sym h.so_far)
