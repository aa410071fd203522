-- What the call left in the places that were made.
use Rattle.std.proofs.Common.{arith, ◌≤◌}
use Rattle.std.proofs.lemmas.List.{with_items_is}
use Rattle.rules.specs.Assemble.{slices, assemble_answer, assemble_slices, assemble}
use Rattle.requests.specs.Branches.{assemble_under, assemble_under_answer, assemble_under_slices}
use Rattle.requests.specs.ManualAssemble.{assemble_manual, manual_answer, manual_slices}
use Rattle.cli_lists.proofs.listed.assemble_within.Goals as goal

pub returns-in-Plain : goal.returns-in-Plain
unfolding assemble_answer assemble_slices
returns-in-Plain c =
    let x = slices c.deref_mut.result.now c.deref_mut-in-Plain.result.now c.deref_mut-in-Plain-2.result.now in
    let a = with_items_is c.in_ok-addresses.addresses c.assemble-count.new.addresses (omega arith) in
    let b = with_items_is c.in_ok-words.words c.assemble-count.new.words (omega arith) in
    let d = with_items_is c.in_ok-marks.marks c.assemble-count.new.marks (omega arith) in
    rw c.in-Plain.is
    (c.keep_list.ensures c.args.room (assemble c.in-Plain.base c.args.source.now)
    (record {
      before = x;
      addresses = omega (arith, c.in_ok-addresses.ensures.len);
      words = omega (arith, c.in_ok-words.ensures.len);
      marks = omega (arith, c.in_ok-marks.ensures.len);
      most = c.requires;
      places = rw (a, b, d) (record {
        addresses = omega (arith, c.in_ok-addresses.ensures.len);
        words = omega (arith, c.in_ok-words.ensures.len);
        marks = omega (arith, c.in_ok-marks.ensures.len);
      });
      answer = c.assemble-count.ensures.answer;
      after = rw (a, b, d) c.assemble-count.ensures.slices;
    }))

pub returns-in-Under : goal.returns-in-Under
unfolding assemble_under_answer assemble_under_slices
returns-in-Under c =
    let x = slices c.deref_mut-in-Under.result.now c.deref_mut-in-Under-2.result.now c.deref_mut-in-Under-3.result.now in
    let a = with_items_is c.in_ok-addresses.addresses c.assemble_branches-count.new.addresses (omega arith) in
    let b = with_items_is c.in_ok-words.words c.assemble_branches-count.new.words (omega arith) in
    let d = with_items_is c.in_ok-marks.marks c.assemble_branches-count.new.marks (omega arith) in
    rw c.in-Under.is
    (c.keep_list-in-Under.ensures c.args.room (assemble_under c.in-Under.names.now c.in-Under.base c.args.source.now)
    (record {
      before = x;
      addresses = omega (arith, c.in_ok-addresses.ensures.len);
      words = omega (arith, c.in_ok-words.ensures.len);
      marks = omega (arith, c.in_ok-marks.ensures.len);
      most = c.requires;
      places = rw (a, b, d) (record {
        addresses = omega (arith, c.in_ok-addresses.ensures.len);
        words = omega (arith, c.in_ok-words.ensures.len);
        marks = omega (arith, c.in_ok-marks.ensures.len);
      });
      answer = c.assemble_branches-count.ensures.answer;
      after = rw (a, b, d) c.assemble_branches-count.ensures.slices;
    }))

pub returns-in-Manual : goal.returns-in-Manual
unfolding manual_answer manual_slices
returns-in-Manual c =
    let x = slices c.deref_mut-in-Manual.result.now c.deref_mut-in-Manual-2.result.now c.deref_mut-in-Manual-3.result.now in
    let a = with_items_is c.in_ok-addresses.addresses c.assemble_manual-count.new.addresses (omega arith) in
    let b = with_items_is c.in_ok-words.words c.assemble_manual-count.new.words (omega arith) in
    let d = with_items_is c.in_ok-marks.marks c.assemble_manual-count.new.marks (omega arith) in
    rw c.in-Manual.is
    (c.keep_list-in-Manual.ensures c.args.room (assemble_manual c.in-Manual.base c.args.source.now)
    (record {
      before = x;
      addresses = omega (arith, c.in_ok-addresses.ensures.len);
      words = omega (arith, c.in_ok-words.ensures.len);
      marks = omega (arith, c.in_ok-marks.ensures.len);
      most = c.requires;
      places = rw (a, b, d) (record {
        addresses = omega (arith, c.in_ok-addresses.ensures.len);
        words = omega (arith, c.in_ok-words.ensures.len);
        marks = omega (arith, c.in_ok-marks.ensures.len);
      });
      answer = c.assemble_manual-count.ensures.answer;
      after = rw (a, b, d) c.assemble_manual-count.ensures.slices;
    }))
