-- A sheet more, or one that ends the call.
use Rattle.std.proofs.Common.{arith}
use Rattle.cli_io.proofs.Folding.{left_more, left_none}
use Rattle.cli_totals.proofs.Chaining.{sheets_begin, sheets_more, sheets_halted, sheets_over}
use Rattle.cli_totals.proofs.answer_sheet.Goals as goal

pub loop-k-init : goal.loop-k-init
loop-k-init g c = sheets_begin g.H.Host.world _ _ _ c.args.host.now

pub loop-k-preserved : goal.loop-k-preserved
loop-k-preserved g c =
    sheets_more g.H.Host.world _ _ _ _ c.loop-k.invariant _ _ c.add_file.new.host c.in-Ok.sum
    (left_more (λ s. s.now) c.args.args.now.sheets.now c.loop-k.k _ c.loop-k-test.true) c.in-Ok.ensures

pub returns-in-Err : goal.returns-in-Err
returns-in-Err g c =
    sheets_halted g.H.Host.world _ _ _ _ c.loop-k.invariant _ _ c.add_file.new.host c.in-Err.answer
    (left_more (λ s. s.now) c.args.args.now.sheets.now c.loop-k.k _ c.loop-k-test.true) c.in-Err.ensures

pub returns : goal.returns
returns g c =
    sheets_over g.H.Host.world _ _ _ _ c.loop-k.invariant c.answer_input.new.host c.answer_input.result
    (left_none (λ s. s.now) c.args.args.now.sheets.now c.loop-k.k (omega (arith, c.loop-k-test.false))) c.answer_input.ensures
