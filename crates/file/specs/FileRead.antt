-- What reading a file leaves. Assumes nothing.
use Rattle.std.specs.Prelude.{ℕ, ◌≡◌, false, List}
use Rattle.rules.specs.Text.{Text}
use Rattle.station.specs.Reads.{kept, Reads}
use Rattle.station.specs.declared.input.Input.{Input}

-- i, where the reader stands, and y, the buffer that was x before the first read: some text was read, and its front is put over that of x; after a
-- read that failed nothing is said. No contract says whose text it is: what a file holds is outside.
pub record Partly (x y : List ℕ) (i : Input) : Type 0 where
  pub text : Text
  pub reads : i.failed ≡ false → Reads text y i
  pub after : i.failed ≡ false → y ≡ kept 0 text x

-- and no more will be read
pub record FileRead (x y : List ℕ) (i : Input) : Type 0 where
  pub part : Partly x y i
  pub over : i.more ≡ false
