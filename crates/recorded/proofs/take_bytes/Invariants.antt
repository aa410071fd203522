-- The bytes that are left are still to be taken.
use Rattle.std.proofs.Common.{◌≡◌, length}
use Rattle.recorded.specs.Replay.{replay}
use Rattle.recorded.proofs.Fed.{Feeding}
use Rattle.recorded.proofs.take_bytes.Given as goal

abbrev pub invariant-loop-byte : goal.invariant-loop-byte
invariant-loop-byte l = (length l.bytes ≡ 103030) × Feeding l.chunk (replay l.initial.bytes l.initial.state) l.byte-index (replay l.bytes l.state)
