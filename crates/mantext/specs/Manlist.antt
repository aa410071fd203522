-- What `manlist` prints for a script. Assumes nothing.
use Rattle.std.specs.Prelude.{ℕ}
use Rattle.rules.specs.Text.{Text}
use Rattle.requests.specs.ManualAssemble.{assemble_manual}
use Rattle.station.specs.Station.{listed_text}

-- "as `asmlist`, with this call's list": its list at a base, or why there is none
unfoldable pub manual_text : ℕ → Text → Text
manual_text base t = listed_text (assemble_manual base t)
