-- A script more, or the end of the call. Assumes nothing.
use Rattle.std.proofs.Common.{[], ◌∷◌, ◌++◌, ◌∙◌}
use Rattle.cli_lines.specs.Lines.{page_of}
use Rattle.cli_lines.specs.Answered.{whole_page}
use Rattle.cli_lines.proofs.Joins.{page_more}
use Rattle.cli_lines.proofs.Steps.{text_told, goes_on, ends}
use Rattle.cli_lines.proofs.printing.PrintingSeveral.add.Goals as goal

pub returns-in-Ok-extend_from_slice-clause-goes_on : goal.returns-in-Ok-extend_from_slice-clause-goes_on
returns-in-Ok-extend_from_slice-clause-goes_on c = λ f h b i.
    let s = c.args.self.now in
    let part = page_of s.base s.headed h.names in
    let q = text_told (λ p. p) h.names b (part b) c.in-Ok.text.items (c.in-Ok.ensures h.names b h.under i) in
    record {
      names = h.names;
      done = h.done ++ (q.0 ∷ []);
      under = h.under;
      so_far = page_more h.done q.0 _ _ _ h.so_far (c.deref.ensures.value ∙ q.2) c.in-Ok-extend_from_slice.ensures.items;
      continues = goes_on h.names part whole_page h.done f h.continues b q.0 q.1;
    }

pub returns-clause-ends : goal.returns-clause-ends
returns-clause-ends c = λ f h b i.
    let s = c.args.self.now in
    ends h.names (page_of s.base s.headed h.names) whole_page h.done f h.continues b (λ p. p) _ _ (c.in-Err.ensures h.names b h.under i) c.failed.ensures
