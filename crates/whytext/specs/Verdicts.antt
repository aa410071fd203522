-- Verdicts as the code has them: what they say, and their lines. Assumes nothing.
use Rattle.std.specs.Prelude.{ℕ, List, map, take}
use Rattle.rules.specs.Text.{Text}
use Rattle.rules.specs.Number.{no_digits, bad_digit, out_of_range}
use Rattle.rules.specs.Answer.{Answer, accepted, refused}
use Rattle.requests.specs.Explain.{not_instruction, unknown_mnemonic, wrong_count, wrong_kinds, bad_number, not_recorded, out_of_reach, emitted, because}
use Rattle.requests.specs.Explain.{Verdict as Said}
use Rattle.explain.specs.declared.Verdict.{Verdict}
use Rattle.explain.specs.declared.Verdict.TheVariants.{Emitted, NotInstruction, UnknownMnemonic, WrongCount, WrongKinds, NoDigits, BadDigit, OutOfRange, NotRecorded, OutOfReach}
use Rattle.listing.specs.Listing.{refused_text}
use Rattle.whytext.specs.WhyLine.{verdict_text, rows_text}

-- what a verdict says
abbrev pub said_of : Verdict → Said
said_of Emitted = emitted
said_of NotInstruction = because not_instruction
said_of UnknownMnemonic = because unknown_mnemonic
said_of WrongCount = because wrong_count
said_of WrongKinds = because wrong_kinds
said_of NoDigits = because (bad_number no_digits)
said_of BadDigit = because (bad_number bad_digit)
said_of OutOfRange = because (bad_number out_of_range)
said_of NotRecorded = because not_recorded
said_of OutOfReach = because out_of_reach

-- its line
unfoldable pub line_of : Verdict → Text
line_of v = verdict_text (said_of v)

-- the lines of verdicts in order, each with its line's number in front
unfoldable pub rows_of : List Verdict → Text
rows_of vs = rows_text 1 (map line_of vs)

-- the same of what stands for verdicts
unfoldable pub rows_by : {V : Type 0} → (V → Verdict) → List V → Text
rows_by verdict vs = rows_text 1 (map (λ v. line_of (verdict v)) vs)

-- ---- an answer's text

-- on a line
abbrev pub explained_text : Answer Verdict → Text
explained_text (accepted v) = line_of v
explained_text (refused n p) = refused_text n p

-- on all lines, whose verdicts stand in a slice: there are as many as it says
abbrev pub counted_text : Answer ℕ → List Verdict → Text
counted_text (accepted n) vs = rows_of (take n vs)
counted_text (refused n p) vs = refused_text n p

-- the same of what stands for verdicts
abbrev pub counted_by : {V : Type 0} → (V → Verdict) → Answer ℕ → List V → Text
counted_by verdict (accepted n) vs = rows_by verdict (take n vs)
counted_by verdict (refused n p) vs = refused_text n p
