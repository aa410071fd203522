use Rattle.std.proofs.Common.{arith}
use Rattle.pages.specs.Page.{shown}
use Rattle.pages.specs.Tried.{failure}
use Rattle.pages.proofs.Tries.{first, next}
use Rattle.pages.proofs.trying.try_examples.Goals as goal

pub loop-k-init : goal.loop-k-init
loop-k-init g c = first (λ e. shown e) (λ f. failure f) c.args.examples.now c.new-failures.result.items c.new-failures.ensures.items

pub loop-k-preserved : goal.loop-k-preserved
loop-k-preserved g c = next (λ e. shown e) (λ f. failure f) c.args.examples.now c.loop-k.k _ c.loop-k.failures.items c.try_one.new.failures.items c.in_ok-try_one.ensures.0 (omega arith) c.in_ok-try_one.ensures.1 c.in_ok-try_one.ensures.2 c.loop-k.invariant
