-- The heads of the manual's call, by the operation that the stations' mnemonic names and by the suffix. Assumes nothing.
use Rattle.std.specs.Prelude.{ℕ, ◌+◌, ◌≡◌, ◌&&◌, cond, List, leb, eqb, Option, None, Some}
use Rattle.rules.specs.Option.{bind}
use Rattle.rules.specs.Text.{Text}
use Rattle.manual.specs.Manual.{Condition, T, CC, CS, NE, EQ, PL, MI, GE, LT, GT, LE, condition}
use Rattle.requests.specs.ManualCall.{Head, moveq, nop, jmp, dbra, branch_on, move_w, add_w, sub_w, cmp_w, muls_w, move_l, movea_l, cmp_l, tst_l, subq_l, asl_l, Form, form_of}
use Rattle.opcode.specs.declared.mnemonic.Operation.{Operation}
use Rattle.opcode.specs.declared.mnemonic.Operation.TheVariants.{Moveq, Move, Movea, Muls, Tst, Subq, Asl, Dbra, Nop, Add, Sub, Cmp, Jmp, Branch}
use Rattle.instruction.specs.declared.Suffix.{Suffix}
use Rattle.instruction.specs.declared.Suffix.TheVariants.{None, Long, Word}

-- the stations' call has BPL as 8 and BMI as 9, which the manual has as 10 and 11; the other conditions are the same
unfoldable pub manual_condition : ℕ → ℕ
manual_condition c = cond (leb 8 c && leb c 9) (c + 2) c

-- the condition of a branch, by the number of the stations' call
unfoldable pub condition_by : ℕ → Condition
condition_by c =
    cond (eqb c 4) CC (cond (eqb c 5) CS (cond (eqb c 6) NE (cond (eqb c 7) EQ (cond (eqb c 8) PL (cond (eqb c 9) MI
    (cond (eqb c 12) GE (cond (eqb c 13) LT (cond (eqb c 14) GT (cond (eqb c 15) LE T)))))))))

-- a branch has a condition of the stations' call; under a lent table it need not, so this is no invariant of Operation
abbrev pub Conditioned : Operation → Type 0
Conditioned o = (c : ℕ) → o ≡ Branch c → manual_condition c ≡ condition (condition_by c)

-- without a suffix
abbrev pub plain_head : Operation → Option Head
plain_head Moveq = Some moveq
plain_head Dbra = Some dbra
plain_head Nop = Some nop
plain_head Jmp = Some jmp
plain_head (Branch c) = Some (branch_on (condition_by c))
plain_head _ = None

-- with W
abbrev pub word_head : Operation → Option Head
word_head Move = Some move_w
word_head Muls = Some muls_w
word_head Add = Some add_w
word_head Sub = Some sub_w
word_head Cmp = Some cmp_w
word_head _ = None

-- with L
abbrev pub long_head : Operation → Option Head
long_head Move = Some move_l
long_head Movea = Some movea_l
long_head Tst = Some tst_l
long_head Subq = Some subq_l
long_head Asl = Some asl_l
long_head Cmp = Some cmp_l
long_head _ = None

abbrev pub head_by : Suffix → Operation → Option Head
head_by None o = plain_head o
head_by Long o = long_head o
head_by Word o = word_head o
head_by _ o = None

-- the form of a head with the operands ps
abbrev pub form_by : Option Head → List Text → Option Form
form_by h ps = bind h (λ k. form_of k ps)
