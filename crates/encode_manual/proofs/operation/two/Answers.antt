-- `operation::two`, by the suffix and the operation. Assumes nothing.
use Rattle.rules.specs.Option.{bind}
use Rattle.rules.specs.Encode.{two}
use Rattle.requests.specs.ManualCall.{form_of}
use Rattle.manual.specs.Manual.{word, long, direct, MOVE, ADD, SUB, CMP, SUBQ, ASL}
use Rattle.encode_manual.proofs.Forms.{no_reading}
use Rattle.encode_manual.proofs.Operations.{no_plain_two, no_word_two, no_long_two, no_suffix_two}
use Rattle.encode_manual.proofs.Words.{the_words}
use Rattle.encode_manual.proofs.operation.two.Goals as goal

pub returns-in-Moveq : goal.returns-in-Moveq
unfolding bind
returns-in-Moveq c = rw (c.in-None.is, c.in-Moveq.is) c.quick_move.ensures

pub returns-in-Dbra : goal.returns-in-Dbra
unfolding bind
returns-in-Dbra c = rw (c.in-None.is, c.in-Dbra.is) c.decrement.ensures

pub returns-in_default-o : goal.returns-in_default-o
returns-in_default-o c = rw (c.in-None.is, no_plain_two c.args.s.now c.args.t.now c.args.o c.in_default-o.not-Moveq c.in_default-o.not-Dbra) no_reading

pub returns-in-Move : goal.returns-in-Move
unfolding bind form_of two
returns-in-Move c = rw (c.in-Word.is, c.in-Move.is) (c.registers.ensures (λ n m. MOVE word (direct n) (direct m)) the_words.copy)

pub returns-in-Add : goal.returns-in-Add
unfolding bind form_of two
returns-in-Add c = rw (c.in-Word.is, c.in-Add.is) (c.registers-in-Add.ensures (λ n m. ADD word (direct n) m) the_words.add)

pub returns-in-Sub : goal.returns-in-Sub
unfolding bind form_of two
returns-in-Sub c = rw (c.in-Word.is, c.in-Sub.is) (c.registers-in-Sub.ensures (λ n m. SUB word (direct n) m) the_words.sub)

pub returns-in-Cmp : goal.returns-in-Cmp
unfolding bind form_of two
returns-in-Cmp c = rw (c.in-Word.is, c.in-Cmp.is) (c.registers-in-Cmp.ensures (λ n m. CMP word (direct n) m) the_words.cmp)

pub returns-in-Muls : goal.returns-in-Muls
unfolding bind
returns-in-Muls c = rw (c.in-Word.is, c.in-Muls.is) c.multiply.ensures

pub returns-in_default-o-2 : goal.returns-in_default-o-2
returns-in_default-o-2 c = let d = c.in_default-o-2 in rw (c.in-Word.is, no_word_two c.args.s.now c.args.t.now c.args.o d.not-Move d.not-Add d.not-Sub d.not-Cmp d.not-Muls) no_reading

pub returns-in-Move-o : goal.returns-in-Move-o
unfolding bind
returns-in-Move-o c = rw (c.in-Long.is, c.in-Move-o.is) c.move_long.ensures

pub returns-in-Movea : goal.returns-in-Movea
unfolding bind
returns-in-Movea c = rw (c.in-Long.is, c.in-Movea.is) c.point.ensures

pub returns-in-Cmp-o : goal.returns-in-Cmp-o
unfolding bind
returns-in-Cmp-o c = rw (c.in-Long.is, c.in-Cmp-o.is) c.compare.ensures

pub returns-in-Subq : goal.returns-in-Subq
unfolding bind form_of two
returns-in-Subq c = rw (c.in-Long.is, c.in-Subq.is) (c.quick.ensures (λ k n. SUBQ long k (direct n)) the_words.subq)

pub returns-in-Asl : goal.returns-in-Asl
unfolding bind form_of two
returns-in-Asl c = rw (c.in-Long.is, c.in-Asl.is) (c.quick-in-Asl.ensures (λ k n. ASL long k n) the_words.asl)

pub returns-in_default-o-3 : goal.returns-in_default-o-3
returns-in_default-o-3 c = let d = c.in_default-o-3 in rw (c.in-Long.is, no_long_two c.args.s.now c.args.t.now c.args.o d.not-Move d.not-Movea d.not-Cmp d.not-Subq d.not-Asl) no_reading

pub returns-in_default : goal.returns-in_default
returns-in_default c = rw (no_suffix_two c.args.s.now c.args.t.now c.args.o _ c.in_default.not-None c.in_default.not-Word c.in_default.not-Long) no_reading
