-- A chunk more of the names, or their end.
use Rattle.std.proofs.Common.{ℕ, arith}
use lib.ListN.{length-replicate}
use Rattle.cli_totals.proofs.Chaining.{names_begin, names_unread, names_over, names_more, names_halted, names_endless}
use Rattle.cli_totals.proofs.names.answer_names.Goals as goal

pub loop-init : goal.loop-init
loop-init g c = record { open_still = c.requires; so = names_begin g.H.Host.world _ _ _ _ _ _ (length-replicate {A = ℕ} 4097 0) }

pub loop-preserved : goal.loop-preserved
loop-preserved g c =
    let s = c.loop.invariant.so in
    let a = c.in-Ok-add_chunk.ensures s.rest s.holds in
    record {
      open_still = c.read_chunk.ensures.same;
      so =
          names_more g.H.Host.world _ _ _ _ _ s c.read_chunk.new.chunk c.in-Ok.n c.read_chunk.new.host c.add_chunk.new.host c.loop-test.true c.if-n-eq0.false c.in-Ok.ensures.taken
          a.0 a.1;
    }

pub returns-then-n-eq0 : goal.returns-then-n-eq0
returns-then-n-eq0 g c =
    names_over g.H.Host.world _ _ _ _ _ c.loop.invariant.so c.read_chunk.new.chunk c.in-Ok.n c.read_chunk.new.host c.answer_last.new.host c.answer_last.result c.loop-test.true
    c.if-n-eq0.true c.in-Ok.ensures.taken c.answer_last.ensures

pub returns-in-Err-add_chunk : goal.returns-in-Err-add_chunk
returns-in-Err-add_chunk g c =
    let s = c.loop.invariant.so in
    names_halted g.H.Host.world _ _ _ _ _ s c.read_chunk.new.chunk c.in-Ok.n c.read_chunk.new.host c.add_chunk.new.host c.loop-test.true c.if-n-eq0.false c.in-Ok.ensures.taken
    c.in-Err-add_chunk.answer (c.in-Err-add_chunk.ensures s.rest s.holds)

pub returns-in-Err : goal.returns-in-Err
returns-in-Err g c =
    names_unread g.H.Host.world _ _ _ _ _ c.loop.invariant.so c.read_chunk.new.host c.in-Err.answer c.loop-test.true c.in-Err.ensures.unread

pub returns : goal.returns
returns g c = names_endless g.H.Host.world _ _ _ _ _ c.loop.invariant.so c.answer_no_end.result (omega (arith, c.loop-test.false)) c.answer_no_end.ensures
