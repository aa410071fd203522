-- `count_words` counts the words of the first k lines. Assumes nothing.
use Rattle.std.proofs.Common.{arith}
use Rattle.emit.proofs.Callers.{named_few}
use Rattle.emit.proofs.Emitting.{counting_start, counting_needs, counting_low, counting_fits, counting_more, counting_all}
use Rattle.emit.proofs.count_words.Goals as goal

pub loop-line-init : goal.loop-line-init
loop-line-init c = counting_start _ _ _ _

pub words_at-count-requires : goal.words_at-count-requires
words_at-count-requires c = counting_needs (named_few _) c.requires c.loop-line.invariant c.loop-line-test.true c.kept_line-kept.ensures

pub overflow_add-count : goal.overflow_add-count
overflow_add-count c = record { fits = counting_fits (named_few _) c.requires c.loop-line.invariant c.loop-line-test.true c.kept_line-kept.ensures c.words_at-count.ensures (omega arith) }

pub overflow_cast-address : goal.overflow_cast-address
overflow_cast-address c = record { fits = rw c.address_after-address.ensures (counting_low (named_few _) c.requires c.loop-line.invariant c.loop-line-test.true c.kept_line-kept.ensures) }

pub loop-line-preserved : goal.loop-line-preserved
loop-line-preserved c = counting_more (named_few _) c.requires c.loop-line.invariant c.loop-line-test.true c.kept_line-kept.ensures c.words_at-count.ensures c.address_after-address.ensures

pub returns : goal.returns
returns c = counting_all (named_few _) c.requires c.loop-line.invariant c.loop-line-test.false
