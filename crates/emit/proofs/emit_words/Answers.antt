-- `emit_words` puts the words of the first k lines. Assumes nothing.
use Rattle.std.proofs.Common.{arith, refl}
use Rattle.emit.proofs.Emitting.{emitting_start, below, value_needs, rest_lent, instruction_needs, after_fits, emitting_more, all_counted, all_put}
use Rattle.emit.specs.Places.{Room, placed}
use Rattle.emit.proofs.emit_words.Goals.{After-put_value-values}
use Rattle.emit.proofs.emit_words.Goals as goal

pub loop-k-init : goal.loop-k-init
loop-k-init c = emitting_start _ _ _ _ _

pub put_value-values-requires : goal.put_value-values-requires
put_value-values-requires c =
    let k = c.kept_line-kept.ensures in
    (below c.requires c.loop-k.invariant c.loop-k-test.true k, value_needs c.requires c.loop-k.invariant c.loop-k-test.true k)

-- what is lent starts in the slices
lent : (c : After-put_value-values) → Room c.args.pass.values (placed c.put_value-values.new.self)
lent c = rest_lent c.requires c.loop-k.invariant c.loop-k-test.true c.kept_line-kept.ensures (c.put_value-values.ensures c.args.labels.now.source).puts

pub offset_bounds-places-rest : goal.offset_bounds-places-rest
offset_bounds-places-rest c = record { fits = omega (arith, (lent (goal.at.offset_bounds-places-rest c).After-put_value-values).addresses) }

pub offset_bounds-places-rest-in-loop-k : goal.offset_bounds-places-rest-in-loop-k
offset_bounds-places-rest-in-loop-k c = record { fits = omega (arith, (lent (goal.at.offset_bounds-places-rest-in-loop-k c).After-put_value-values).addresses) }

pub slice_bounds-put_instruction-count : goal.slice_bounds-put_instruction-count
slice_bounds-put_instruction-count c = (lent (goal.at.slice_bounds-put_instruction-count c).After-put_value-values).addresses

pub slice_bounds-put_instruction-start : goal.slice_bounds-put_instruction-start
slice_bounds-put_instruction-start c = (lent (goal.at.slice_bounds-put_instruction-start c).After-put_value-values).addresses

pub slice_bounds-put_instruction-count-in-loop-k : goal.slice_bounds-put_instruction-count-in-loop-k
slice_bounds-put_instruction-count-in-loop-k c = (lent (goal.at.slice_bounds-put_instruction-count-in-loop-k c).After-put_value-values).words

pub slice_bounds-put_instruction-start-in-loop-k : goal.slice_bounds-put_instruction-start-in-loop-k
slice_bounds-put_instruction-start-in-loop-k c = (lent (goal.at.slice_bounds-put_instruction-start-in-loop-k c).After-put_value-values).words

pub slice_bounds-put_instruction-count-in-loop-k-2 : goal.slice_bounds-put_instruction-count-in-loop-k-2
slice_bounds-put_instruction-count-in-loop-k-2 c = (lent (goal.at.slice_bounds-put_instruction-count-in-loop-k-2 c).After-put_value-values).marks

pub slice_bounds-put_instruction-start-in-loop-k-2 : goal.slice_bounds-put_instruction-start-in-loop-k-2
slice_bounds-put_instruction-start-in-loop-k-2 c = (lent (goal.at.slice_bounds-put_instruction-start-in-loop-k-2 c).After-put_value-values).marks

pub put_instruction-codes-requires : goal.put_instruction-codes-requires
put_instruction-codes-requires c = instruction_needs c.requires c.loop-k.invariant c.loop-k-test.true c.kept_line-kept.ensures (c.put_value-values.ensures c.args.labels.now.source).puts

pub overflow_cast-turn : goal.overflow_cast-turn
overflow_cast-turn c = record { fits = rw c.address_after.ensures (after_fits c.requires c.loop-k.invariant c.loop-k-test.true c.kept_line-kept.ensures) }

pub loop-k-preserved : goal.loop-k-preserved
loop-k-preserved c =
    emitting_more c.requires c.loop-k.invariant c.loop-k-test.true c.kept_line-kept.ensures c.put_value-values.ensures c.put_instruction-codes.ensures c.address_after.ensures _ (record { addresses = refl; words = refl; marks = refl }) refl

pub overflow_add-result : goal.overflow_add-result
overflow_add-result c = omega (arith, all_counted c.requires c.loop-k.invariant c.loop-k-test.false, c.requires.room)

pub returns-clause-value : goal.returns-clause-value
returns-clause-value c = all_counted c.requires c.loop-k.invariant c.loop-k-test.false

pub returns-clause-list : goal.returns-clause-list
returns-clause-list c = all_put c.requires c.loop-k.invariant c.loop-k-test.false
