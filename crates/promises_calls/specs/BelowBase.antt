-- No label lies below the base, so that the label near an address is told at every base and address by what it is at base 0. Assumes nothing.
use Rattle.std.specs.Prelude.{ℕ, ◌+◌, ◌<◌, ◌≤◌, ◌≡◌}
use Rattle.rules.specs.Text.{Text}
use Rattle.rules.specs.Answer.{accepted, refused}
use Rattle.rules.specs.Assemble.{Sizes, Pass, pass_at}
use Rattle.requests.specs.Nearest.{nearest}
use Rattle.promises.specs.Nearest.{RecordsBy}

-- with whatever sizes, a record's address is not below the base
unfoldable pub NoneBelowBase : Type 0
NoneBelowBase = (z : Sizes) (base : ℕ) (s n : Text) (i k a : ℕ) → RecordsBy z base s n i k a → base ≤ a

-- of a source that is accepted at b, and so at 0: for an address from b on the answer is that at 0 for an address b lower, and for one
-- below b it is "12: no label at or below the address; place 0"
pub record NearestAtBase (b : ℕ) (s : Text) : Type 0 where
  pub from_base : (a x : ℕ) → b + x ≡ a → nearest b s a ≡ nearest 0 s x
  pub below_base : (a : ℕ) → a < b → nearest b s a ≡ refused 12 0

unfoldable pub NearestAtEachAddress : Type 0
NearestAtEachAddress = (b : ℕ) (s : Text) (p : Pass) → pass_at b s ≡ accepted p → NearestAtBase b s
