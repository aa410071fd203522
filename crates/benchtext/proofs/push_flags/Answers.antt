-- `benchtext::push_flags` meets its contract. Assumes nothing.
use Rattle.benchtext.specs.BenchText.{flags_text}
use Rattle.benchtext.proofs.push_flags.Goals as goal

pub returns : goal.returns
unfolding flags_text
returns c = rw (← c.flag_byte.ensures, ← c.flag_byte-2.ensures, ← c.flag_byte-3.ensures, ← c.flag_byte-4.ensures, ← c.flag_byte-5.ensures) c.push_bytes.ensures
