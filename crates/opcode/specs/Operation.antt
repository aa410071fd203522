-- The operation that the rules find, as the code's enum, and the mnemonics told apart by tests of their names. Assumes nothing.
use Rattle.std.specs.Prelude.{ℕ, Bool, true, false, not, ◌&&◌, List, [], ◌∷◌, eqb, length, Option}
use Rattle.std.specs.Option.{option_map}
use Rattle.rules.specs.Text.{Text, bytes, starts}
use Rattle.rules.specs.Encode.{Mnemonic, moveq, move, movea, muls, tst, subq, asl, dbra, nop, simhalt, add, sub, cmp, jmp, branch}
use Rattle.rules.specs.Encode.{Operation as Ruled}
use Rattle.opcode.specs.declared.mnemonic.Operation.{Operation}
use Rattle.opcode.specs.declared.mnemonic.Operation.TheVariants.{Moveq, Move, Movea, Muls, Tst, Subq, Asl, Dbra, Nop, Simhalt, Add, Sub, Cmp, Jmp, Branch}

-- variant by variant
abbrev pub coded : Ruled → Operation
coded moveq = Moveq
coded move = Move
coded movea = Movea
coded muls = Muls
coded tst = Tst
coded subq = Subq
coded asl = Asl
coded dbra = Dbra
coded nop = Nop
coded simhalt = Simhalt
coded add = Add
coded sub = Sub
coded cmp = Cmp
coded jmp = Jmp
coded (branch c) = Branch c

-- back from the code's enum
abbrev pub ruled : Operation → Ruled
ruled Moveq = moveq
ruled Move = move
ruled Movea = movea
ruled Muls = muls
ruled Tst = tst
ruled Subq = subq
ruled Asl = asl
ruled Dbra = dbra
ruled Nop = nop
ruled Simhalt = simhalt
ruled Add = add
ruled Sub = sub
ruled Cmp = cmp
ruled Jmp = jmp
ruled (Branch c) = branch c

abbrev pub operation_of : Option Ruled → Option Operation
operation_of o = option_map coded o

-- the mnemonics whose names pass a test
unfoldable pub those : (Text → Bool) → List Mnemonic → List Mnemonic
those f [] = []
those f (n ∷ ns) = elim (f n.name) [ true ↦ n ∷ those f ns | false ↦ those f ns ]

-- a name of k bytes
abbrev pub of_length : ℕ → Text → Bool
of_length k t = eqb (length t) k

-- a name that starts with B, as the branches' do and no other; another of three bytes
abbrev pub is_branch : Text → Bool
is_branch t = starts (bytes "B") t

abbrev pub other_three : Text → Bool
other_three t = of_length 3 t && not (is_branch t)
