-- `benchtext::write_list_run` meets its contract. Assumes nothing.
use Rattle.std.proofs.Common.{rules}
use Rattle.machine.specs.Bench.{bench_of}
use Rattle.listing.proofs.Adding.{adds_as, adds_all}
use Rattle.station.proofs.Printed.{printed}
use Rattle.benchtext.proofs.Told.{told_line}
use Rattle.benchtext.proofs.write_list_run.Goals as goal

pub returns : goal.returns
returns c =
    let a = c.args in
    let told = bench_of a.count a.addresses.now a.words.now a.a.now a.start a.limit in
    let h = adds_all c.new-text.ensures (adds_as c.push_answer.ensures (told_line a.value _ told _ _ c.bench-answer.ensures.answer c.bench-answer.ensures.registers)) in
    printed _ _ _ _ h.0 (search rules)
