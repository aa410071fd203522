-- What `why` and `list` make of a script, under a branch table if one is lent. Assumes nothing.
use Rattle.std.specs.Prelude.{ℕ, Bool, cond, List, [], ◌∷◌, ◌++◌, map, Option, None, Some}
use Rattle.rules.specs.Text.{Text}
use Rattle.rules.specs.Answer.{Answer}
use Rattle.rules.specs.Encode.{Mnemonic, mnemonics}
use Rattle.requests.specs.Branches.{under}
use Rattle.requests.specs.Explain.{explain_all_by, explain_by}
use Rattle.station.specs.Puts.{texts}
use Rattle.whytext.specs.WhyLine.{verdict_text, rows_text}
use Rattle.printout.specs.Printout.{printout_of}
use Rattle.serde_json.specs.Written.{compact_text}
use Rattle.jsontext.specs.Lines.{Explained, explained, file_data}
use Rattle.outcome.specs.Made.{Made, told_text}
use Rattle.make_lines.specs.declared.Explaining.{Explaining}
use Rattle.make_lines.specs.declared.ExplainingJson.{ExplainingJson}
use Rattle.make_lines.specs.declared.Printing.{Printing}

-- a call by the built-in mnemonics, or by those of a branch table
unfoldable pub by_names : {A : Type 0} → Option Text → (List Mnemonic → Answer A) → Answer A
by_names None call = call mnemonics
by_names (Some t) call = under t call

-- the table that is lent, if one is
unfoldable pub lent_of : Bool → Text → Option Text
lent_of lent t = cond lent (Some t) None

-- a line with the input's name, in front of its text where there are several
unfoldable pub headed : Bool → Text → Text → Text
headed h name t = cond h (name ++ (58 ∷ 10 ∷ [])) [] ++ t

-- ---- `why`
-- the verdict on the line that is asked for, or the rows of all that are read
unfoldable pub why_answer : Option ℕ → ℕ → Option Text → Text → Answer Text
why_answer None base o s = texts (λ vs. rows_text 1 (map verdict_text vs)) (by_names o (λ names. explain_all_by names base s))
why_answer (Some k) base o s = texts verdict_text (by_names o (λ names. explain_by names base s k))

-- a script's entry in the JSON
abbrev pub entry_text : Explained → Text
entry_text f = compact_text (file_data f)

unfoldable pub json_answer : Option ℕ → ℕ → Text → Option Text → Text → Answer Text
json_answer None base name o s = texts (λ vs. entry_text (explained name 1 vs)) (by_names o (λ names. explain_all_by names base s))
json_answer (Some k) base name o s = texts (λ v. entry_text (explained name k (v ∷ []))) (by_names o (λ names. explain_by names base s k))

-- ---- what is made of a script s and a table t
abbrev pub why_made : Explaining → Text → Text → Text → Made
why_made w name t s = told_text (texts (headed w.headed name) (why_answer w.line w.base (lent_of w.lent t) s))

abbrev pub json_made : ExplainingJson → Text → Text → Text → Made
json_made w name t s = told_text (json_answer w.line w.base name (lent_of w.lent t) s)

-- `list`
abbrev pub list_made : Printing → Text → Text → Text → Made
list_made w name t s = told_text (texts (headed w.headed name) (printout_of (lent_of w.lent t) w.base s))
