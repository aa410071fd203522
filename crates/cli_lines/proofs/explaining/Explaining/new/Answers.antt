-- Nothing is written of a script yet. Assumes nothing.
use Rattle.std.proofs.Common.{[], ◌++◌, ◌∙◌, ap, refl}
use Rattle.rules.specs.Text.{Text}
use Rattle.cli_lines.specs.Lines.{explained_script}
use Rattle.cli_lines.specs.Answered.{whole_text}
use Rattle.cli_lines.proofs.Joins.{none_so_far}
use Rattle.cli_lines.proofs.Steps.{begins}
use Rattle.cli_lines.proofs.explaining.Explaining.new.Goals as goal

pub returns : goal.returns
returns c = λ t h.
    let a = c.args in
    record {
      names = t;
      done = [];
      under = h;
      so_far =
          none_so_far a.json a.line a.headed _
          (c.in_ok-extend_from_slice.ensures.items ∙ ap (λ (s : Text). s ++ c.front.result.now) c.new-text.ensures.items ∙ c.front.ensures);
      none = refl;
      continues = begins t (explained_script a.line a.base t) (whole_text a.json a.line a.headed);
    }
