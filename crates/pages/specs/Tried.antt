-- What becomes of the examples of a page. Assumes nothing.
use Rattle.std.specs.Prelude.{cond, List, [], ◌∷◌, ◌++◌}
use Rattle.rules.specs.Text.{Text}
use Rattle.pages.specs.Page.{Sample}
use Rattle.pages.specs.Texts.{holds}
use Rattle.pages.specs.Called.{Gives}
use Rattle.pages.specs.declared.trying.Failed.{Failed}

-- an example that does not hold: its line, and what came instead
pub record Failure : Type 0 where
  pub line : Text
  pub got : Text

abbrev pub failure : Failed → Failure
failure f = record { line = f.line.now; got = f.got.items }

-- nothing where it holds
abbrev pub failing : Sample → Text → List Failure
failing e got = cond (holds e got) [] (record { line = e.line; got = got } ∷ [])

-- each of the examples was tried, in order, and those that did not hold are told
pub data Tried : List Sample → List Failure → Type 0 where
  none : Tried [] []
  one : (es : List Sample) (fs : List Failure) (e : Sample) (got : Text) → Tried es fs → Gives e got → Tried (es ++ e ∷ []) (fs ++ failing e got)
