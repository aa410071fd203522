-- The manual's sizes have room in a line's cell. Assumes nothing.
use Rattle.std.proofs.Math.Nat.{le_trans, le-suc}
use Rattle.requests.specs.ManualCall.{manual_size}
use Rattle.encode_manual.proofs.Callers.{size_small}
use Rattle.cells.specs.Sizes.{Small}

pub manual_small : Small manual_size
manual_small = record { most = λ i. le_trans (size_small i) (le-suc 6) }
