-- What `why` and `list` make of one script, under a branch table if one is named. Assumes nothing.
use Rattle.std.specs.Prelude.{ℕ, Bool, cond, List, [], ◌∷◌, ◌++◌, map, take, flat_map, Option, None, Some, option_map}
use Rattle.rules.specs.Text.{Text}
use Rattle.rules.specs.Answer.{Answer, accepted, refused}
use Rattle.rules.specs.Encode.{Mnemonic, mnemonics}
use Rattle.requests.specs.Branches.{under}
use Rattle.requests.specs.Explain.{Verdict, explain_all_by, explain_by}
use Rattle.whytext.specs.WhyLine.{verdict_text, rows_text}
use Rattle.printout.specs.Printout.{printout_of}
use Rattle.jsontext.specs.Lines.{Explained}
use Rattle.jsontext.specs.Lines.{explained as entry}
use Rattle.cli_run.specs.Input.{Named}

abbrev pub answer_map : {A B : Type 0} → (A → B) → Answer A → Answer B
answer_map f (accepted x) = accepted (f x)
answer_map f (refused n p) = refused n p

-- a call by the built-in mnemonics, or by those of a branch table
unfoldable pub by_names : {A : Type 0} → Option Text → (List Mnemonic → Answer A) → Answer A
by_names None call = call mnemonics
by_names (Some t) call = under t call

-- the text of the branch table, and as much of it as counts
abbrev pub table_text : Option Named → Option Text
table_text None = None
table_text (Some t) = Some t.text

abbrev pub table_front : Option Named → Option Text
table_front t = option_map (λ s. take 97 s) (table_text t)

-- a script over the limit, of n bytes: a table that is refused comes first
abbrev pub long_answer : Option Text → ℕ → Answer Text
long_answer o n = by_names o (λ names. refused 1 n)

-- a line with the script's name in front of its text, if there are several scripts
unfoldable pub headed : Bool → Text → Text → Text
headed many name s = cond many (name ++ (58 ∷ 10 ∷ [])) [] ++ s

-- ---- `why`

-- on a line, and on each line that is read
abbrev pub verdict_at : ℕ → ℕ → Option Text → Text → Answer Verdict
verdict_at k base o s = by_names o (λ names. explain_by names base s k)

abbrev pub all_verdicts : ℕ → Option Text → Text → Answer (List Verdict)
all_verdicts base o s = by_names o (λ names. explain_all_by names base s)

-- the verdict on the line that is asked for, or all
unfoldable pub verdicts_on : Option ℕ → ℕ → Option Text → Text → Answer (List Verdict)
verdicts_on None base o s = all_verdicts base o s
verdicts_on (Some k) base o s = answer_map (λ v. v ∷ []) (verdict_at k base o s)

-- and the line of the first verdict
abbrev pub first_line : Option ℕ → ℕ
first_line None = 1
first_line (Some k) = k

-- the verdicts on a script, with its name
abbrev pub explained_script : Option ℕ → ℕ → Option Named → Named → Answer Explained
explained_script line base t b = answer_map (λ vs. entry b.name (first_line line) vs) (verdicts_on line base (table_text t) b.text)

-- the verdict alone of the line that is asked for, else a row for each line
unfoldable pub verdicts_text : Option ℕ → List Verdict → Text
verdicts_text None vs = rows_text 1 (map verdict_text vs)
verdicts_text (Some k) vs = flat_map verdict_text vs

-- the text of a script
abbrev pub part_text : Option ℕ → Bool → Explained → Text
part_text line many e = headed many e.name (verdicts_text line e.verdicts)

-- ---- `list`

-- the listing of a script
abbrev pub page_of : ℕ → Bool → Option Named → Named → Answer Text
page_of base many t b = answer_map (headed many b.name) (printout_of (table_text t) base b.text)
