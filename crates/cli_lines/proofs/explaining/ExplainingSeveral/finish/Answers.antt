-- The text of all scripts. Assumes nothing.
use Rattle.std.proofs.Common.{◌++◌, ◌∙◌, ap, sym}
use Rattle.rules.specs.Text.{Text}
use Rattle.cli_error.specs.Answered.{output_of}
use Rattle.cli_lines.specs.Lines.{explained_script}
use Rattle.cli_lines.specs.Answered.{whole_text}
use Rattle.cli_lines.specs.State.{text_so_far}
use Rattle.cli_lines.proofs.Joins.{all_so_far}
use Rattle.cli_lines.proofs.Steps.{all_done}
use Rattle.cli_lines.proofs.explaining.ExplainingSeveral.finish.Goals as goal

pub returns-in-Ok : goal.returns-in-Ok
returns-in-Ok c = λ f h.
    let s = c.args.self in
    all_done h.names (explained_script s.line s.base h.names) (whole_text s.json s.line s.headed) h.done f h.continues
    ∙ ap (λ (t : Text). output_of t 0)
    (sym (c.in-Ok.ensures.items ∙ ap (λ (t : Text). t ++ c.behind.result.now) h.so_far ∙ ap (λ (t : Text). text_so_far s.json s.line s.headed h.done ++ t) c.behind.ensures
    ∙ all_so_far s.json s.line s.headed h.done))
