-- Odd lines and the verdicts on them, as a table of sources, lines and answers at base 0. Assumes nothing.
use Rattle.std.specs.Prelude.{ℕ, ◌≡◌, List, [], ◌∷◌, map, ◌++◌}
use Rattle.rules.specs.Text.{Text, bytes}
use Rattle.rules.specs.Number.{no_digits, bad_digit, out_of_range}
use Rattle.rules.specs.Answer.{Answer, accepted, refused}
use Rattle.requests.specs.Explain.{not_instruction, unknown_mnemonic, wrong_count, wrong_kinds, bad_number, not_recorded, out_of_reach, Verdict, emitted, because, explain}

-- a source, a line of it, and what is answered
pub record Case : Type 0 where
  pub source : Text
  pub line : ℕ
  pub answer : Answer Verdict

abbrev says : Text → ℕ → Verdict → Case
says s n v = record { source = s; line = n; answer = accepted v }

-- 13
abbrev refuses : Text → ℕ → Case
refuses s n = record { source = s; line = n; answer = refused 13 n }

-- data, directives and labels; END is read, what follows it is not; lines count from 1
unfoldable pub of_lines : List Case
of_lines =
    says (bytes "DC.L 5") 1 emitted
    ∷ says (bytes "DC.L x") 1 (because not_instruction)
    ∷ says (bytes "DS.L 1") 1 (because not_instruction)
    ∷ says (bytes "ORG 5") 1 (because not_instruction)
    ∷ says (bytes "X:") 1 (because not_instruction)
    ∷ says (bytes "; n") 1 (because not_instruction)
    ∷ says (bytes "NOP\nEND\nNOP") 2 (because not_instruction)
    ∷ refuses (bytes "NOP\nEND\nNOP") 3
    ∷ refuses (bytes "NOP") 0
    ∷ refuses (bytes "NOP") 2
    ∷ says (bytes "NOP\n") 2 (because not_instruction)
    ∷ refuses (bytes "NOP\n") 3
    ∷ []

-- after a label all is an instruction; the suffix is never a reason
unfoldable pub of_mnemonics : List Case
of_mnemonics =
    says (bytes "X: END") 1 (because unknown_mnemonic)
    ∷ says (bytes "X: ORG 5") 1 (because unknown_mnemonic)
    ∷ says (bytes "X: ; n") 1 (because unknown_mnemonic)
    ∷ says (bytes "A: B: NOP") 1 (because unknown_mnemonic)
    ∷ says (bytes ".L D0") 1 (because unknown_mnemonic)
    ∷ says (bytes "move.q D0,D1") 1 emitted
    ∷ []

-- NOP takes any operands, a branch one or more
unfoldable pub of_counts : List Case
of_counts =
    says (bytes "ADD D0") 1 (because wrong_count)
    ∷ says (bytes "ADD D0,D1,D2") 1 (because wrong_count)
    ∷ says (bytes "JMP") 1 (because wrong_count)
    ∷ says (bytes "BRA") 1 (because wrong_count)
    ∷ says (bytes "BRA x,D0") 1 (because not_recorded)
    ∷ says (bytes "NOP a,b,c") 1 emitted
    ∷ []

-- exactly Dn, An or (An), upper case, 0 to 7; trailing comments are operand text
unfoldable pub of_kinds : List Case
of_kinds =
    says (bytes "TST d0") 1 (because wrong_kinds)
    ∷ says (bytes "TST D8") 1 (because wrong_kinds)
    ∷ says (bytes "MOVE (A0)+,D0") 1 (because not_recorded)
    ∷ says (bytes "MOVEQ 5,D0") 1 (because wrong_kinds)
    ∷ says (bytes "MOVE #zz,A0") 1 (because wrong_kinds)
    ∷ says (bytes "CMP #5,D0 ; note") 1 (because wrong_kinds)
    ∷ says (bytes "DBRA A0,+200") 1 (because wrong_kinds)
    ∷ []

-- a label that makes the word does so whatever it looks like; else its kind decides
unfoldable pub of_names_like_kinds : List Case
of_names_like_kinds =
    says (bytes "D0: JMP D0") 1 emitted
    ∷ says (bytes "JMP D0") 1 (because wrong_kinds)
    ∷ says (bytes "A0: MOVE A0,D0") 1 emitted
    ∷ says (bytes "L: MOVE L,L") 1 (because wrong_kinds)
    ∷ says (bytes "#zz: MOVE #zz,D0") 1 emitted
    ∷ says (bytes "BRA D0\nD0:") 1 emitted
    ∷ says (bytes "BRA D0\nORG 400\nD0:") 1 (because wrong_kinds)
    ∷ says (bytes "D1: DBRA D0,D1") 1 emitted
    ∷ says (bytes "DBRA D0,D1") 1 (because wrong_kinds)
    ∷ []

-- what failed in a number: after `#`, of JMP, of a branch
unfoldable pub of_numbers : List Case
of_numbers =
    says (bytes "MOVE #zz,D0") 1 (because (bad_number bad_digit))
    ∷ says (bytes "MOVEQ #,D0") 1 (because (bad_number no_digits))
    ∷ says (bytes "MOVEQ #200,D0") 1 (because (bad_number out_of_range))
    ∷ says (bytes "MULS #70000,D0") 1 (because (bad_number out_of_range))
    ∷ says (bytes "JMP $") 1 (because (bad_number no_digits))
    ∷ says (bytes "70000: JMP 70000") 1 (because (bad_number out_of_range))
    ∷ says (bytes "BRA +200") 1 (because (bad_number out_of_range))
    ∷ says (bytes "BRA +5X\nORG 400\n+5X:") 1 (because (bad_number bad_digit))
    ∷ says (bytes "BRA +5X\n+5X:") 1 emitted
    ∷ says (bytes "BRA +5\nORG 400\n+5:") 1 emitted
    ∷ []

-- labels, and how far a branch reaches
unfoldable pub of_labels : List Case
of_labels =
    says (bytes "MOVE 5,D0") 1 (because not_recorded)
    ∷ says (bytes "BRA 5") 1 (because not_recorded)
    ∷ says (bytes "JMP +5") 1 (because not_recorded)
    ∷ says (bytes "MOVEA #5,A0") 1 (because not_recorded)
    ∷ says (bytes ":MOVEA #,A0") 1 emitted
    ∷ says (bytes "MOVEA #,A0") 1 (because not_recorded)
    ∷ says (bytes "BRA L\nORG 129\nL:") 1 emitted
    ∷ says (bytes "BRA L\nORG 130\nL:") 1 (because out_of_reach)
    ∷ says (bytes "L:\nORG 127\nBRA L") 3 (because out_of_reach)
    ∷ []

unfoldable pub cases : List Case
cases = of_lines ++ of_mnemonics ++ of_counts ++ of_kinds ++ of_names_like_kinds ++ of_numbers ++ of_labels

unfoldable pub CasesHold : Type 0
CasesHold = map (λ (c : Case). explain 0 c.source c.line) cases ≡ map (λ (c : Case). c.answer) cases
