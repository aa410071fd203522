-- `benchtext::push_run` meets its contract. Assumes nothing.
use Rattle.listing.proofs.Adding.{adds_both}
use Rattle.benchtext.specs.BenchText.{run_text}
use Rattle.benchtext.proofs.push_run.Goals as goal

pub returns : goal.returns
unfolding run_text
returns c =
    let end = adds_both c.push_end.ensures.text c.push.ensures in
    let numbers = adds_both (adds_both end c.push_decimal.ensures.text) c.push_long.ensures.text in
    adds_both (adds_both numbers c.push_registers.ensures.text) c.push_flags.ensures
