-- Inputs that are read chunk by chunk: what a buffer keeps of them, and that what is printed by it is the text of the whole. Assumes nothing.
use Rattle.std.specs.Prelude.{ℕ, ◌^◌, ◌<◌, ◌≤◌, ◌≡◌, Bool, true, false, List, [], ◌∷◌, ◌++◌, length, ℤ, Option, Some}
use Rattle.rules.specs.Text.{Text}
use Rattle.listing.specs.Listing.{refused_text}
use Rattle.station.specs.Station.{script_text, moved_text, input_text, list_input_text}
use Rattle.station.specs.Reads.{at_start, after_read, kept, Reads}
use Rattle.station.specs.declared.input.Input.{Input}
use Rattle.neartext.specs.NearLabel.{near_text}
use Rattle.mantext.specs.Manlist.{manual_text}
use Rattle.symtext.specs.Symlist.{symbols_text}
use Rattle.whytext.specs.WhyLine.{why_text}
use Rattle.whytext.specs.declared.LineAt.{LineAt}
use Rattle.tidytext.specs.Tidy.{copy_text, refusal_text, copy_input_text}
use Rattle.branchtext.specs.BranchText.{script_under_text, why_under_text, tabled_input_text}

-- ---- chunks one after another
unfoldable pub joined : List Text → Text
joined [] = []
joined (c ∷ cs) = c ++ joined cs

-- where the reader stands after them, and what the buffer is then
unfoldable pub input_after : List Text → Input → Input
input_after [] i = i
input_after (c ∷ cs) i = input_after cs (after_read (Some (length c)) i)

unfoldable pub buffer_after : List Text → Input → List ℕ → List ℕ
buffer_after [] i buffer = buffer
buffer_after (c ∷ cs) i buffer = buffer_after cs (after_read (Some (length c)) i) (kept i.total c buffer)

-- whatever the chunks: what was read is all of them together, and the buffer keeps as much of its front as there is room for
unfoldable pub ChunksAreRead : Type 0
ChunksAreRead = (cs : List Text) (buffer : List ℕ) → length (joined cs) < 2 ^ 64 → Reads (joined cs) (buffer_after cs at_start buffer) (input_after cs at_start)

-- ---- what is printed
-- nothing if a read failed, and else the text of the whole
pub record SaysWhole (i : Input) (said whole : Text) : Type 0 where
  pub failed : i.failed ≡ true → said ≡ []
  pub read : i.failed ≡ false → said ≡ whole

-- ---- a script, for which f is printed
-- a buffer that keeps 32,768 bytes of it
abbrev pub KeepsScript : Input → List ℕ → Type 0
KeepsScript i buffer = i.failed ≡ false → i.total ≤ 32768 → 32768 ≤ length buffer

unfoldable pub PrintsWhole : (Text → Text) → Type 0
PrintsWhole f = (i : Input) (buffer : List ℕ) (t : Text) → KeepsScript i buffer → Reads t buffer i → SaysWhole i (input_text f i buffer) (f t)

pub record ScriptFrontIsEnough : Type 0 where
  -- of any text that refuses a longer script by its length alone
  pub any : (f : Text → Text) → ((t : Text) → 32768 < length t → f t ≡ refused_text 1 (length t)) → PrintsWhole f
  -- so of what each program prints
  pub list : PrintsWhole script_text
  pub manual : (base : ℕ) → PrintsWhole (manual_text base)
  pub nearest : (base a : ℕ) → PrintsWhole (near_text base a)
  pub labels : (base : ℕ) → PrintsWhole (symbols_text base)
  pub verdicts : (asked : Option LineAt) → PrintsWhole (why_text asked)
  pub refusal : PrintsWhole refusal_text
  pub copy : (i : Input) (buffer : List ℕ) (t : Text) → KeepsScript i buffer → Reads t buffer i → SaysWhole i (copy_input_text i buffer) (copy_text t)

-- ---- a list, of which 196,609 bytes are kept: one more than the longest list has
unfoldable pub ListFrontIsEnough : Type 0
ListFrontIsEnough =
    (d : ℤ) (i : Input) (buffer : List ℕ) (t : Text) → (i.failed ≡ false → 196608 < length buffer) → Reads t buffer i
    → SaysWhole i (list_input_text d i buffer) (moved_text d t)

-- ---- a branch table, of which 97 bytes are kept, and a script: g is printed where a table is lent, and f else
pub record SaysBoth (lent : Bool) (b i : Input) (said without under : Text) : Type 0 where
  pub no_table : lent ≡ false → SaysWhole i said without
  pub table_failed : lent ≡ true → b.failed ≡ true → said ≡ []
  pub table_read : lent ≡ true → b.failed ≡ false → SaysWhole i said under

unfoldable pub PrintsBoth : (Text → Text) → (Text → Text → Text) → Type 0
PrintsBoth f g =
    (lent : Bool) (b : Input) (x : List ℕ) (t : Text) (i : Input) (y : List ℕ) (s : Text) → length x ≡ 97 → KeepsScript i y → Reads t x b → Reads s y i
    → SaysBoth lent b i (tabled_input_text lent f g b x i y) (f s) (g t s)

pub record TableFrontIsEnough : Type 0 where
  pub list : PrintsBoth script_text script_under_text
  pub verdicts : (asked : Option LineAt) → PrintsBoth (why_text asked) (why_under_text asked)
