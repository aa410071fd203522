-- A text that was read, and what is kept of it. Assumes nothing.
use Rattle.std.specs.Prelude.{ℕ, ◌≡◌, ◌<◌, ◌≤◌, length, take, Option, None, Some, ⊤}
use Rattle.rules.specs.Text.{Text}
use Rattle.cli_run.specs.declared.input.Contents.{Contents}
use Rattle.cli_run.specs.declared.input.Contents.TheVariants.{Whole, TooLong}
use Rattle.cli_run.specs.declared.input.Input.{Input}

-- a file's name, and all of its text
pub record Named : Type 0 where
  pub name : Text
  pub text : Text

-- of b at most n bytes are kept
abbrev pub IsOf : ℕ → Text → Contents → Type 0
IsOf n b (Whole s) = (s.now ≡ b) × (length b ≤ n)
IsOf n b (TooLong s total) = (s.now ≡ take n b) × (total ≡ length b) × (n < length b)

pub record IsInput (n : ℕ) (b : Named) (i : Input) : Type 0 where
  pub name : i.name.now ≡ b.name
  pub text : IsOf n b.text i.contents

-- a branch table, if one is named: 97 bytes are kept
abbrev pub IsTable : Option Named → Option Input → Type 0
IsTable None None = ⊤
IsTable (Some t) (Some i) = IsInput 97 t i
IsTable _ _ = ⊥

-- P is so of what was read
abbrev pub OfInput : ℕ → Input → (Named → Type 0) → Type 0
OfInput n i P = (b : Named) → IsInput n b i → P b

abbrev pub OfBoth : ℕ → Option Input → Input → (Option Named → Named → Type 0) → Type 0
OfBoth n o i P = (t : Option Named) (b : Named) → IsTable t o → IsInput n b i → P t b
