-- `tabled_script_text` meets its contract: no table, one of the two not read to its end, a script over the limit, and both all there. Assumes nothing.
use native.Mathlib.Omega.{arith}
use borrow.Author.Tests.{not-true, not-false}
use Rattle.branchtext.proofs.TableInput.{not_lent, table_failed, script_failed, script_long, both_read}
use Rattle.branchtext.proofs.Under.{script_loads}
use Rattle.std.proofs.Common.{ap, not}
use Rattle.branchtext.specs.BranchText.{script_under_text}
use Rattle.branchtext.proofs.tabled_script_text.Goals as goal

pub returns-then-not-lent : goal.returns-then-not-lent
returns-then-not-lent c =
    let both = not_lent _ _ _ _ _ _ _ (not-true _ (ap not c.if-not-lent.true)) c.script_text.ensures.printed c.script_text.ensures.script_value in
    record { printed = both.0; script_value = both.1 }

pub returns-then-branches : goal.returns-then-branches
returns-then-branches c =
    let both = table_failed _ _ _ _ _ _ _ (not-false _ (ap not c.if-not-lent.false)) c.if-branches.true _ in
    record { printed = both.0; script_value = both.1 }

pub returns-then-input : goal.returns-then-input
returns-then-input c =
    let both = script_failed _ _ _ _ _ _ _ (not-false _ (ap not c.if-not-lent.false)) c.if-branches.false c.if-input.true _ in
    record { printed = both.0; script_value = both.1 }

pub returns-then-total-gt-MAX_SOURCE : goal.returns-then-total-gt-MAX_SOURCE
returns-then-total-gt-MAX_SOURCE c =
    let e = not-false _ (ap not c.if-not-lent.false) in
    let b = c.if-branches.false in
    let i = c.if-input.false in
    let both = script_long _ _ _ _ _ _ _ script_loads e b i (omega arith) _ c.kept_size-kept.ensures c.if-total-gt-MAX_SOURCE.true c.write_long.ensures in
    record { printed = both.0; script_value = both.1 }

pub returns : goal.returns
unfolding script_under_text
returns c =
    let e = not-false _ (ap not c.if-not-lent.false) in
    let b = c.if-branches.false in
    let i = c.if-input.false in
    let both = both_read _ _ _ _ _ _ _ script_loads e b i (omega arith) _ c.kept_size-kept.ensures c.if-total-gt-MAX_SOURCE.false (omega arith) c.write_list_under.ensures in
    record { printed = both.0; script_value = both.1 }
