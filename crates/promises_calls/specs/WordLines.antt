-- An instruction line that is counted as one with a word has its first word at its own address. Assumes nothing.
use Rattle.std.specs.Prelude.{ℕ, ◌≡◌, List}
use Rattle.rules.specs.Text.{Text}
use Rattle.rules.specs.Line.{size}
use Rattle.rules.specs.Encode.{encode}
use Rattle.rules.specs.Answer.{accepted}
use Rattle.rules.specs.Assemble.{Pass, pass_at}
use Rattle.requests.specs.Sheet.{emitting}
use Rattle.promises.specs.Refusals.{Reached}
use Rattle.promises.specs.Explain.{PutsWords}
use Rattle.promises.specs.Sheet.{InClass}

-- the line after the first j ones is read at one address, and the list has words of it from there on
pub record EmitsThere (s : Text) (p : Pass) (j : ℕ) : Type 0 where
  pub address : ℕ
  pub names : List Text
  pub reached : Reached size 0 s j address names
  pub own : {a : ℕ} {ns : List Text} → Reached size 0 s j a ns → a ≡ address
  pub puts : PutsWords encode p j address

unfoldable pub WordLinesEmitThere : Type 0
WordLinesEmitThere = (s : Text) (p : Pass) → pass_at 0 s ≡ accepted p → (j : ℕ) → InClass s p j emitting → EmitsThere s p j
