-- An instruction's size by the operands that decide it. Assumes nothing.
use Rattle.std.specs.Prelude.{ℕ, Bool, true, false, not, ◌||◌, cond, List, [], ◌∷◌, eqb, Option, None, Some}
use Rattle.rules.specs.Text.{Text, bytes, blank, upper, uppers, same, starts, first_text, last_text}
use Rattle.rules.specs.Line.{is_plain}
use Rattle.instruction.specs.FirstPiece.{head_parts, suffix_text, suffix_of}
use Rattle.instruction.specs.declared.Suffix.{Suffix}
use Rattle.instruction.specs.declared.Suffix.TheVariants.{None, Empty, Long, Word, Other}
use Rattle.instruction.specs.declared.SizeRule.{SizeRule}
use Rattle.instruction.specs.declared.SizeRule.TheVariants.{Immediate, Move}

unfoldable pub says_long : Suffix → Bool
says_long None = false
says_long Empty = false
says_long Long = true
says_long Word = false
says_long Other = false

-- which operands decide, by the mnemonic in upper case and the suffix
unfoldable pub sized_by : Text → Suffix → Option SizeRule
sized_by m x =
    cond (same m (bytes "MULS")) (Some Immediate)
    (cond (not (says_long x)) None
    (cond (same m (bytes "CMP")) (Some Immediate)
    (cond (same m (bytes "MOVE") || same m (bytes "MOVEA")) (Some Move) None)))

-- 4 bytes, by the first and the last operand
unfoldable pub is_long_by : SizeRule → Text → Text → Bool
is_long_by Immediate s t = starts (bytes "#") s
is_long_by Move s t = not (is_plain s) || not (is_plain t)

-- the size, by the operands
unfoldable pub size_by : Option SizeRule → List Text → ℕ
size_by None ps = 2
size_by (Some k) [] = 2
size_by (Some k) (s ∷ []) = 2
size_by (Some k) (s ∷ t ∷ ps) = cond (is_long_by k s (last_text t ps)) 4 2

-- what decides the size of the instruction t
unfoldable pub sized_of : Text → Option SizeRule
sized_of t = sized_by (uppers (first_text (head_parts t))) (suffix_of (suffix_text t))

-- an operand may decide the size of the instruction t, by its first byte: M or C, whatever the case, or a blank
unfoldable pub may_be_long : Text → Bool
may_be_long [] = false
may_be_long (b ∷ s) = eqb (upper b) 77 || eqb (upper b) 67 || blank b
