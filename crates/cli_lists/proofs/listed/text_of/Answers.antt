-- The text fills the array.
use Rattle.std.proofs.Common.{arith, ◌∙◌}
use Rattle.std.proofs.lemmas.List.{with_items_is}
use Rattle.rules.specs.Tally.{held}
use Rattle.cli_lists.proofs.Places.{whole_text}
use Rattle.cli_lists.proofs.listed.text_of.Goals as goal

pub returns : goal.returns
unfolding held
returns c =
    let r = c.requires.room in
    let list = c.args.list.now in
    let text = rw (c.deref.ensures.value, c.deref-2.ensures.value, c.deref-3.ensures.value) at c.write_list.ensures.1 in
    with_items_is c.in_ok-text.text c.write_list.new.out (omega arith)
    ∙ text
    ∙ whole_text list.count list.addresses.items list.words.items list.marks.items c.deref_mut.result.now r.addresses r.words r.marks (omega (arith, c.in_ok-text.ensures.len))
