use Rattle.std.proofs.Common.{◌∙◌, sym, arith}
use Rattle.pages.specs.Files.{named}
use Rattle.pages.proofs.Filed.{sought_later}
use Rattle.pages.proofs.files.find_bytes.Goals as goal

pub loop-k-preserved : goal.loop-k-preserved
loop-k-preserved c = sought_later c.args.name.now (λ h. named h) c.args.files.now c.loop-k.k c.index-files-k.result (omega arith) (sym c.is_same.ensures ∙ c.if-is_same.false) c.loop-k.invariant
