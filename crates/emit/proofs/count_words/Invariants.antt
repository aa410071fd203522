-- `count_words` counts the words of the first k lines. Assumes nothing.
use Rattle.rules.specs.Encode.{encode_by}
use Rattle.emit.specs.Emit.{names_of}
use Rattle.emit.proofs.Emitting.{Counting}
use Rattle.emit.proofs.count_words.Given as goal

abbrev pub invariant-loop-line : goal.invariant-loop-line
invariant-loop-line l = Counting (encode_by (names_of l.names)) l.labels l.cells l.pass l.address l.count l.line
