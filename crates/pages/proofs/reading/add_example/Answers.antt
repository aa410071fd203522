use Rattle.std.proofs.Common.{◌∙◌, sym}
use Rattle.pages.specs.Page.{shown}
use Rattle.pages.proofs.Samples.{one_begins, no_begin}
use Rattle.pages.proofs.reading.add_example.Goals as goal

pub returns-then-not-begins : goal.returns-then-not-begins
returns-then-not-begins c = no_begin (λ l. l.now) (λ e. shown e) c.args.lines.now c.args.k _ c.args.examples.now.items c.requires (sym c.begins.ensures ∙ c.if-not-begins.true)

pub returns : goal.returns
returns c = one_begins (λ l. l.now) (λ e. shown e) c.args.lines.now c.args.k _ c.args.examples.now.items c.push.new.self.items c.read_example.result c.requires (sym c.begins.ensures ∙ c.if-not-begins.false) c.in_ok-push.ensures.items c.read_example.ensures
