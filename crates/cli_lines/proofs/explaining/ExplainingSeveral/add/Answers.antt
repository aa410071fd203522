-- A script more, or the end of the call. Assumes nothing.
use Rattle.std.proofs.Common.{[], ◌∷◌, ◌++◌, ◌∙◌}
use Rattle.cli_lines.specs.Lines.{explained_script}
use Rattle.cli_lines.specs.Answered.{whole_text}
use Rattle.cli_lines.specs.State.{written}
use Rattle.cli_lines.proofs.Joins.{one_more, not_none}
use Rattle.cli_lines.proofs.Steps.{text_told, goes_on, ends}
use Rattle.cli_lines.proofs.explaining.ExplainingSeveral.add.Goals as goal

pub returns-in-Ok-add_text-clause-goes_on : goal.returns-in-Ok-add_text-clause-goes_on
returns-in-Ok-add_text-clause-goes_on c = λ f h b i.
    let s = c.args.self.now in
    let part = explained_script s.line s.base h.names in
    let q = text_told (written s.json s.line s.headed) h.names b (part b) c.in-Ok.text.items (c.in-Ok.ensures h.names b h.under i) in
    record {
      names = h.names;
      done = h.done ++ (q.0 ∷ []);
      under = h.under;
      so_far = one_more s.json s.line s.headed h.done q.0 s.first _ _ _ _ h.so_far h.none c.lead-lead.ensures (c.deref.ensures.value ∙ q.2) c.in-Ok-add_text.ensures;
      none = not_none h.done q.0;
      continues = goes_on h.names part (whole_text s.json s.line s.headed) h.done f h.continues b q.0 q.1;
    }

pub returns-clause-ends : goal.returns-clause-ends
returns-clause-ends c = λ f h b i.
    let s = c.args.self.now in
    let part = explained_script s.line s.base h.names in
    ends h.names part (whole_text s.json s.line s.headed) h.done f h.continues b (written s.json s.line s.headed) _ _ (c.in-Err.ensures h.names b h.under i) c.failed.ensures
