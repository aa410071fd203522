-- A name more, or one whose script ends the call.
use Rattle.std.proofs.Common.{arith, drop_of_length-le}
use Rattle.cli_totals.proofs.Feeding.{used_within, held_within, chunk_begin, chunk_goes_on, chunk_ends, chunk_held, chunk_added}
use Rattle.cli_totals.proofs.names.add_chunk.Goals as goal

pub shared_ref_as_front-whole : goal.shared_ref_as_front-whole
shared_ref_as_front-whole g c = held_within c.args.chunk.now c.loop-at.at c.loop-at.held c.take_name-taken.ensures.value

pub overflow_add-at : goal.overflow_add-at
overflow_add-at g c =
    let within = used_within c.args.chunk.now c.loop-at.at c.loop-at.held c.take_name-taken.ensures.value c.loop-at-test.true in
    omega (arith, within)

pub loop-at-smaller : goal.loop-at-smaller
loop-at-smaller g c =
    let within = used_within c.args.chunk.now c.loop-at.at c.loop-at.held c.take_name-taken.ensures.value c.loop-at-test.true in
    omega (arith, within)

pub loop-at-init : goal.loop-at-init
loop-at-init g c =
    record { inside = omega arith; so = λ rest h. chunk_begin g.H.Host.world rest c.args.chunk.now _ c.args.host.now c.args.name.now _ h }

pub loop-at-preserved : goal.loop-at-preserved
loop-at-preserved g c =
    let within = used_within c.args.chunk.now c.loop-at.at c.loop-at.held c.take_name-taken.ensures.value c.loop-at-test.true in
    record {
      inside = within.1;
      so = λ rest h.
          chunk_goes_on g.H.Host.world _ _ _ c.args.chunk.now c.loop-at.at (c.loop-at.invariant.so rest h) c.take_name-taken.ensures.value
          c.take_name-taken.ensures.name_after c.add_if.new.host c.in-Ok.sum c.in-Ok.ensures c.held_on-held.ensures;
    }

pub returns-in-Err : goal.returns-in-Err
returns-in-Err g c = λ rest h.
    chunk_ends g.H.Host.world _ _ _ c.args.chunk.now c.loop-at.at (c.loop-at.invariant.so rest h) c.take_name-taken.ensures.value
    c.take_name-taken.ensures.name_after c.add_if.new.host c.in-Err.answer c.in-Err.ensures

pub returns : goal.returns
returns g c = λ rest h.
    let so = c.loop-at.invariant.so rest h in
    let none = drop_of_length-le _ c.loop-at-test.false in
    (chunk_held g.H.Host.world _ _ _ so none, chunk_added g.H.Host.world _ _ _ so none)
