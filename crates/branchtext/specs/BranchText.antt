-- What `asmlist -b` and `whyline -b` print for a branch table and a script. Assumes nothing.
use Rattle.std.specs.Prelude.{ℕ, Bool, cond, List, ltb, take, Option, None, Some}
use Rattle.rules.specs.Limits.{max_source}
use Rattle.rules.specs.Text.{Text}
use Rattle.rules.specs.Answer.{Answer, accepted, refused}
use Rattle.requests.specs.Branches.{checked, assemble_under, explain_all_under, explain_under}
use Rattle.listing.specs.Listing.{refused_text}
use Rattle.station.specs.Station.{listed_text, unless_failed, input_text}
use Rattle.station.specs.declared.input.Input.{Input}
use Rattle.whytext.specs.WhyLine.{told_text, all_text}
use Rattle.whytext.specs.declared.LineAt.{LineAt}

-- ---- a script under a table

-- its list at a base, or why there is none
unfoldable pub list_under_text : Text → ℕ → Text → Text
list_under_text t base s = listed_text (assemble_under t base s)

-- the verdict on a line at a base, and on every line that is read
unfoldable pub line_under_text : Text → ℕ → ℕ → Text → Text
line_under_text t base line s = told_text (explain_under t base s line)

unfoldable pub lines_under_text : Text → ℕ → Text → Text
lines_under_text t base s = all_text (explain_all_under t base s)

-- ---- what the programs print under the table t for the script s

-- `asmlist -b`
unfoldable pub script_under_text : Text → Text → Text
script_under_text t s = list_under_text t 0 s

-- `whyline -b`, all lines at base 0, or the one line that is asked for
unfoldable pub why_under_text : Option LineAt → Text → Text → Text
why_under_text None t s = lines_under_text t 0 s
why_under_text (Some a) t s = line_under_text t a.base a.line s

-- ---- what is printed for a table and a script of which the buffers x and y keep the fronts, by where their readers b and i stand

-- a script over the limit, of which only the length counts: "loading checks it whole before all else"
unfoldable pub long_text : Answer ℕ → ℕ → Text
long_text (accepted k) n = refused_text 1 n
long_text (refused r p) n = refused_text r p

-- where g is printed for the two: nothing if one of them could not be read to its end
unfoldable pub under_input_text : (Text → Text → Text) → Input → List ℕ → Input → List ℕ → Text
under_input_text g b x i y =
    unless_failed b
    (unless_failed i
    (cond (ltb max_source i.total) (long_text (checked (take b.total x)) i.total) (g (take b.total x) (take i.total y))))

-- where a table may be lent, g is printed with one and f without
unfoldable pub tabled_input_text : Bool → (Text → Text) → (Text → Text → Text) → Input → List ℕ → Input → List ℕ → Text
tabled_input_text lent f g b x i y = cond lent (under_input_text g b x i y) (input_text f i y)

-- and this of the whole table t and the whole script s
unfoldable pub tabled_text : Bool → (Text → Text) → (Text → Text → Text) → Input → Text → Input → Text → Text
tabled_text lent f g b t i s = cond lent (unless_failed b (unless_failed i (g t s))) (unless_failed i (f s))
