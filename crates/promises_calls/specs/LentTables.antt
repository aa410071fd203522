-- Of a branch table that is lent only the front is looked at, whatever the table. Assumes nothing.
use Rattle.rules.specs.Text.{Text}
use Rattle.promises.specs.BranchCalls.{FrontIsEnough}

-- 97 bytes: 16 rows of six bytes, and the byte that ends them
unfoldable pub FrontOfALentTable : Type 0
FrontOfALentTable = (t : Text) → FrontIsEnough t
