-- What `run` makes of what is asked. Assumes nothing.
use Rattle.std.specs.Prelude.{Bool, true, false, option_map}
use Rattle.rules.specs.Text.{Text}
use Rattle.outcome.specs.Made.{Made}
use Rattle.commandline.specs.declared.Asked.{Asked}
use Rattle.commandline.specs.declared.Tries as Given
use Rattle.make_runs.specs.Runs.{run_made, json_made}
use Rattle.make_runs.specs.declared.Running.{Running}
use Rattle.make_runs.specs.declared.Tries.{Tries}

abbrev pub same_tries : Given.Tries → Tries
same_tries t = record { address = t.address; from = t.from; to = t.to }

-- the registers, START, LIMIT and the threshold
abbrev pub run_asked : Asked → Running
run_asked a = record { a = a.a; start = a.address; limit = a.limit; tries = option_map same_tries a.tries }

-- whether JSON is asked for; t, the text of a branch table, which `run` has none of, and s, the list's
abbrev pub running_by : Bool → Running → Text → Text → Made
running_by true r = λ t s. json_made r s
running_by false r = λ t s. run_made r s

abbrev pub running : Asked → Text → Text → Made
running a = running_by a.json (run_asked a)
