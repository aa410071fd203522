-- `encode_in` meets its contract. Assumes nothing.
use Rattle.std.proofs.Common.{arith}
use Rattle.encode.proofs.copied.encode_in.Goals as goal

pub whole_as_slice-encode_joined : goal.whole_as_slice-encode_joined
whole_as_slice-encode_joined g c = omega arith
