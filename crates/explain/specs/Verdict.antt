-- The verdicts on a line, and the answers, as the code's enum, and their numbers. Assumes nothing.
use Rattle.std.specs.Prelude.{ℕ, ◌≡◌, refl, List, [], ◌∷◌, map, length, drop, get_or, ◌++◌, Option}
use Rattle.std.specs.Option.{option_map}
use Rattle.rules.specs.Number.{no_digits, bad_digit, out_of_range}
use Rattle.rules.specs.Answer.{Answer, accepted, refused}
use Rattle.requests.specs.Explain.{Reason, not_instruction, unknown_mnemonic, wrong_count, wrong_kinds, bad_number, not_recorded, out_of_reach, emitted, because}
use Rattle.requests.specs.Explain.{Verdict as Said}
use Rattle.numeral.specs.declared.Failure.{Failure}
use Rattle.numeral.specs.declared.Failure.TheVariants as F
use Rattle.explain.specs.declared.Verdict.{Verdict}
use Rattle.explain.specs.declared.Verdict.TheVariants.{Emitted, NotInstruction, UnknownMnemonic, WrongCount, WrongKinds, NoDigits, BadDigit, OutOfRange, NotRecorded, OutOfReach}

abbrev pub verdict_of : Said → Verdict
verdict_of emitted = Emitted
verdict_of (because not_instruction) = NotInstruction
verdict_of (because unknown_mnemonic) = UnknownMnemonic
verdict_of (because wrong_count) = WrongCount
verdict_of (because wrong_kinds) = WrongKinds
verdict_of (because (bad_number no_digits)) = NoDigits
verdict_of (because (bad_number bad_digit)) = BadDigit
verdict_of (because (bad_number out_of_range)) = OutOfRange
verdict_of (because not_recorded) = NotRecorded
verdict_of (because out_of_reach) = OutOfReach

-- what is wrong, if anything is
abbrev pub fault_of : Option Reason → Option Verdict
fault_of o = option_map (λ r. verdict_of (because r)) o

-- "a number and what failed in it"
abbrev pub failure_verdict : Failure → Verdict
failure_verdict F.NoDigits = NoDigits
failure_verdict F.BadDigit = BadDigit
failure_verdict F.OutOfRange = OutOfRange

-- a verdict's number
abbrev pub verdict_number : Verdict → ℕ
verdict_number Emitted = 0
verdict_number NotInstruction = 1
verdict_number UnknownMnemonic = 2
verdict_number WrongCount = 3
verdict_number WrongKinds = 4
verdict_number NoDigits = 5
verdict_number BadDigit = 6
verdict_number OutOfRange = 7
verdict_number NotRecorded = 8
verdict_number OutOfReach = 9

-- the verdicts by their numbers, all but the last
abbrev pub in_order : List Verdict
in_order = Emitted ∷ NotInstruction ∷ UnknownMnemonic ∷ WrongCount ∷ WrongKinds ∷ NoDigits ∷ BadDigit ∷ OutOfRange ∷ NotRecorded ∷ []

-- the verdict with a number: past the last it is the last
abbrev pub numbered_verdict : ℕ → Verdict
numbered_verdict n = get_or in_order n OutOfReach

-- a verdict's number is that of no other
pub numbered_back : (v : Verdict) → numbered_verdict (verdict_number v) ≡ v
numbered_back Emitted = refl
numbered_back NotInstruction = refl
numbered_back UnknownMnemonic = refl
numbered_back WrongCount = refl
numbered_back WrongKinds = refl
numbered_back NoDigits = refl
numbered_back BadDigit = refl
numbered_back OutOfRange = refl
numbered_back NotRecorded = refl
numbered_back OutOfReach = refl

-- ---- answers, with the verdicts as the code's
-- on one line
abbrev pub explained_of : Answer Said → Answer Verdict
explained_of (accepted v) = accepted (verdict_of v)
explained_of (refused n p) = refused n p

-- on all lines: how many
abbrev pub count_of : Answer (List Said) → Answer ℕ
count_of (accepted vs) = accepted (length vs)
count_of (refused n p) = refused n p

-- and what stands for the verdicts, over the first places
abbrev pub signs_of : {V : Type 0} → (Verdict → V) → List Said → List V
signs_of sign vs = map (λ v. sign (verdict_of v)) vs

unfoldable pub put_over : {V : Type 0} → List V → List V → List V
put_over vs old = vs ++ drop (length vs) old

abbrev pub written_as : {V : Type 0} → (Verdict → V) → Answer (List Said) → List V → List V
written_as sign (accepted vs) old = put_over (signs_of sign vs) old
written_as sign (refused n p) old = old

-- the verdicts themselves
abbrev pub verdicts_of : List Said → List Verdict
verdicts_of vs = signs_of (λ v. v) vs

abbrev pub written_over : Answer (List Said) → List Verdict → List Verdict
written_over a old = written_as (λ v. v) a old
