-- What is kept between two scripts, and what is written of one. Assumes nothing.
use Rattle.std.specs.Prelude.{ℕ, ◌≡◌, Bool, true, false, List, [], ◌∷◌, ◌++◌, map, take, flat_map, codes, Option, Result, Ok, Err}
use Rattle.rules.specs.Text.{Text}
use Rattle.rules.specs.Answer.{Answer, accepted, refused}
use Rattle.answer.specs.Refusal.{number_of, place_of}
use Rattle.answer.specs.declared.Refusal.{Refusal}
use Rattle.requests.specs.Explain.{Verdict as Said}
use Rattle.explain.specs.declared.Verdict.{Verdict}
use Rattle.whytext.specs.Verdicts.{said_of}
use Rattle.serde_json.specs.Written.{compact_text}
use Rattle.jsontext.specs.Lines.{Explained, file_data}
use Rattle.jsontext.specs.Lines.{explained as entry}
use Rattle.printout.specs.Printout.{printout_of}
use Rattle.cli_error.specs.Answered.{Made}
use Rattle.cli_run.specs.Input.{Named, IsTable}
use Rattle.cli_run.specs.Items.{Rest}
use Rattle.cli_run.specs.Told.{told}
use Rattle.cli_run.specs.declared.input.Input.{Input}
use Rattle.cli_lines.specs.Lines.{table_text, verdicts_on, first_line, explained_script, part_text, page_of}
use Rattle.cli_lines.specs.Folded.{Continues}
use Rattle.cli_lines.specs.Answered.{whole_text, whole_page}
use Rattle.cli_lines.specs.declared.explaining.Explaining.{Explaining}
use Rattle.cli_lines.specs.declared.printing.Printing.{Printing}

-- P is so of the branch table that was read
abbrev pub OfTable : Option Input → (Option Named → Type 0) → Type 0
OfTable o P = (t : Option Named) → IsTable t o → P t

-- ---- the verdicts of one call

-- they are the first n of vs; or a refusal
abbrev pub Explains : Answer (List Said) → Result ℕ Refusal → List Verdict → Type 0
Explains a (Ok n) vs = a ≡ accepted (map said_of (take n vs))
Explains a (Err e) vs = a ≡ refused (number_of e) (place_of e)

-- ---- texts one after another

-- what stands in front of the first, between two and after the last
abbrev pub front : Bool → Text
front true = codes "{\"files\":["
front false = []

abbrev pub comma : Bool → Text
comma true = codes ","
comma false = []

abbrev pub behind : Bool → Text
behind true = codes "]}\n"
behind false = []

unfoldable pub between : Text → List Text → Text
between j [] = []
between j (p ∷ ps) = p ++ flat_map (λ q. j ++ q) ps

abbrev pub is_none : {A : Type 0} → List A → Bool
is_none [] = true
is_none (x ∷ xs) = false

-- ---- `why`

-- a script's entry in the JSON
abbrev pub entry_text : Explained → Text
entry_text e = compact_text (file_data e)

abbrev pub written : Bool → Option ℕ → Bool → Explained → Text
written true line many e = entry_text e
written false line many e = part_text line many e

abbrev pub text_so_far : Bool → Option ℕ → Bool → List Explained → Text
text_so_far json line many done = front json ++ between (comma json) (map (written json line many) done)

-- what is asked of a script, and what is made of it
abbrev pub asked_verdicts : Explaining → Option Named → Named → Answer (List Said)
asked_verdicts s t b = verdicts_on s.line s.base (table_text t) b.text

abbrev pub entry_of : Explaining → Text → List Verdict → Explained
entry_of s name vs = entry name (first_line s.line) (map said_of vs)

abbrev pub text_of : Explaining → Explained → Text
text_of s e = written s.json s.line s.headed e

abbrev pub part_made : Explaining → Option Named → Named → Made
part_made s t b = told (text_of s) 32768 t b (explained_script s.line s.base t b)

pub record ExplainsRest (s : Explaining) (f : Rest) : Type 0 where
  pub names : Option Named
  pub done : List Explained
  pub under : IsTable names s.table
  pub so_far : s.text.items ≡ text_so_far s.json s.line s.headed done
  pub none : s.first ≡ is_none done
  pub continues : Continues names (explained_script s.line s.base names) (whole_text s.json s.line s.headed) done f

-- ---- `list`

abbrev pub asked_page : Printing → Option Named → Named → Answer Text
asked_page s t b = printout_of (table_text t) s.base b.text

abbrev pub page_made : Printing → Option Named → Named → Made
page_made s t b = told (λ p. p) 32768 t b (page_of s.base s.headed t b)

pub record PrintsRest (s : Printing) (f : Rest) : Type 0 where
  pub names : Option Named
  pub done : List Text
  pub under : IsTable names s.table
  pub so_far : s.text.items ≡ flat_map (λ p. p) done
  pub continues : Continues names (page_of s.base s.headed names) whole_page done f
