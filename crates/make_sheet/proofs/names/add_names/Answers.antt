-- A chunk more of the names, or their end. Assumes nothing.
use Rattle.std.proofs.Common.{ℕ, [], ◌++◌, take, refl, ◌∙◌}
use lib.ListN.{length-replicate}
use Rattle.std.proofs.lemmas.Result.{err_from_is_err_and}
use Rattle.sheet.specs.Totals.{said}
use Rattle.make_sheet.specs.Reading.{Telling}
use Rattle.make_sheet.proofs.Holding.{none_read, more_read, all_read}
use Rattle.make_sheet.proofs.Feeding.{adding_none}
use Rattle.make_sheet.proofs.Concluding.{unread_halts, names_over, chunk_halts}
use Rattle.make_sheet.proofs.names.add_names.Goals as goal

pub loop-init : goal.loop-init
loop-init g c = record { read = ([], none_read _, adding_none _ _ _ (length-replicate {A = ℕ} 4097 0)); silent = refl }

pub returns-in_err-n-clause-sum : goal.returns-in_err-n-clause-sum
returns-in_err-n-clause-sum g c =
    let p = err_from_is_err_and c.from_residual.result c.from_residual.ensures.1 in
    rw (p.1, p.2)
    (unread_halts (g.F.Opening.holds c.args.files.now) (Telling (g.E.Write.contents c.args.errors.now) (g.E.Write.contents c.read_names.new.errors)) (g.R.Read.remaining c.args.from.now)
    c.args.input.now (said c.args.totals) _ c.in_err-n.ensures.err (rw c.loop.invariant.silent at c.in_err-n.ensures.said))

pub returns-then-n-eq0-clause-sum : goal.returns-then-n-eq0-clause-sum
returns-then-n-eq0-clause-sum g c =
    let (s, a, b) = c.loop.invariant.read in
    let (within, consumed, ends) = c.in_ok-n.ensures.ok in
    names_over (g.F.Opening.holds c.args.files.now) (Telling (g.E.Write.contents c.args.errors.now) (g.E.Write.contents c.add_if.new.errors)) (g.R.Read.remaining c.args.from.now)
    c.args.input.now (said c.args.totals) (all_read _ _ _ s _ _ c.if-n-eq0.true a consumed (ends c.if-n-eq0.true)) b _ c.add_if.ensures.sum
    (rw (c.in_ok-n.ensures.silent ∙ c.loop.invariant.silent) at c.add_if.ensures.said)

pub returns-in_err-fed-clause-sum : goal.returns-in_err-fed-clause-sum
returns-in_err-fed-clause-sum g c =
    let (s, a, b) = c.loop.invariant.read in
    let (within, consumed, ends) = c.in_ok-n.ensures.ok in
    let p = err_from_is_err_and c.from_residual-in_err-fed.result c.from_residual-in_err-fed.ensures.1 in
    rw (p.1, p.2)
    (chunk_halts (g.F.Opening.holds c.args.files.now) (Telling (g.E.Write.contents c.args.errors.now) (g.E.Write.contents c.add_chunk.new.errors)) (g.R.Read.remaining c.args.from.now)
    c.args.input.now (said c.args.totals) _ _ s _ _ a consumed (λ rest. rw (c.in_ok-n.ensures.silent ∙ c.loop.invariant.silent) at (c.in_err-fed.ensures.sum _ s b rest)))

pub loop-preserved : goal.loop-preserved
loop-preserved g c =
    let (s, a, b) = c.loop.invariant.read in
    let (within, consumed, ends) = c.in_ok-n.ensures.ok in
    record {
      read = (s ++ take c.in_ok-n.n c.read_names.new.chunk, more_read _ _ _ s _ a consumed, c.in_ok-fed.ensures.sum _ s b);
      silent = c.in_ok-fed.ensures.silent ∙ (c.in_ok-n.ensures.silent ∙ c.loop.invariant.silent);
    }
