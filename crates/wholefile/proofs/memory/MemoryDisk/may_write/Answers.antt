use Rattle.std.proofs.Common.{sym, ap, ◌∙◌}
use Rattle.wholefile.specs.Shelf.{Shelf}
use Rattle.wholefile.proofs.memory.MemoryDisk.may_write.Goals as goal

pub returns-then-self-clause-allowed : goal.returns-then-self-clause-allowed
returns-then-self-clause-allowed c = ap (λ (s : Shelf). s.may_write c.args._name.now) (sym c.fails.ensures.same) ∙ c.if-self.true
