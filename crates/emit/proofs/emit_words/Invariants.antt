-- `emit_words` puts the words of the first k lines. Assumes nothing.
use Rattle.emit.specs.Emit.{encoder_of}
use Rattle.emit.proofs.Emitting.{Emitting}
use Rattle.emit.proofs.emit_words.Given as goal

abbrev pub invariant-loop-k : goal.invariant-loop-k
invariant-loop-k l = Emitting (encoder_of l.encoding) l.labels l.cells l.pass l.initial.places l.places l.turn l.k
