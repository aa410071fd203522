use Rattle.std.proofs.Common.{◌∙◌, ap, ◌++◌, map, drop}
use Rattle.rules.specs.Text.{cut_at}
use Rattle.pages.specs.Page.{shown}
use Rattle.pages.specs.Files.{named}
use Rattle.pages.proofs.Calls.{comes_of}
use Rattle.pages.proofs.calling.call.Goals as goal

pub returns : goal.returns
returns g c =
    record {
      out = c.run-ended.new.out.text.items;
      said = c.run-ended.new.errors.items;
      both = c.in_ok-extend_from_slice.ensures.items ∙ ap (λ t. c.run-ended.new.out.text.items ++ t) c.deref-3.ensures.value;
      comes =
          comes_of (shown c.args.example.now) (map (λ l. l.now) c.in_ok-cut_at.field-0.items) (map (λ h. named h) c.deref.result.now) c.behind_first.result.now (record { text = c.new.result }) c.run-ended.new.out c.disk.result c.run-ended.result.disk c.run-ended.result.outcome c.new-said.result.items c.run-ended.new.errors.items
          (c.in_ok-cut_at.ensures ∙ ap (cut_at 32) c.behind.ensures)
          (ap (map (λ h. named h)) c.deref.ensures.value ∙ c.in_ok-files.ensures)
          (c.behind_first.ensures ∙ ap (drop 1) (c.deref-2.ensures.value ∙ c.in_ok-under.ensures))
          c.new-said.ensures.items c.new.ensures.items (record { runs = rw c.run-ended.ensures.1 at c.run-ended.ensures.2 });
    }
