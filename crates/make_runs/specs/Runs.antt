-- What `run` makes of a list's text: the runs of the list, one, or one with each value of a threshold. Assumes nothing.
use Rattle.std.specs.Prelude.{ℕ, suc, ◌-◌, ◌≡◌, List, [], ◌∷◌, ◌++◌, map, length, Option, None, Some, Result, Ok, Err}
use Rattle.std.specs.List.{range_with_len}
use Rattle.rules.specs.Text.{Text}
use Rattle.rules.specs.Answer.{Answer, accepted}
use Rattle.listing.specs.Reading.{read_list}
use Rattle.listing.specs.declared.reading.BadLine.{BadLine}
use Rattle.machine.specs.Machine.{Run, run_of}
use Rattle.machine.specs.Bench.{state_at, bench_answer}
use Rattle.benchtext.specs.BenchText.{run_line, with_value, addresses_in, words_in}
use Rattle.jsontext.specs.Line.{line_text}
use Rattle.jsontext.specs.Runs.{Tried, tried, runs_data}
use Rattle.outcome.specs.Made.{Made, made, no_list, told_of}
use Rattle.outcome.specs.declared.Which.TheVariants.{Input}
use Rattle.make_runs.specs.declared.Tries.{Tries}
use Rattle.make_runs.specs.declared.Running.{Running}
use Rattle.make_runs.specs.declared.RunningJson.{RunningJson}

-- the run of the list with addresses xs and words ws
abbrev pub run_at : Running → List ℕ → List ℕ → Run
run_at r xs ws = run_of r.limit (state_at (length xs) xs ws r.a r.start)

-- the run with a value as the words at the threshold's address
abbrev pub run_with : Running → Tries → List ℕ → List ℕ → ℕ → Tried
run_with r t xs ws v = tried (Some v) (run_at r xs (with_value (length xs) t.address v xs ws))

-- the one run, or those with the values from FROM to TO
unfoldable pub runs_of : Running → Option Tries → List ℕ → List ℕ → List Tried
runs_of r None xs ws = tried None (run_at r xs ws) ∷ []
runs_of r (Some t) xs ws = map (run_with r t xs ws) (range_with_len t.from (suc t.to - t.from))

-- they, or the list's refusal before any step
abbrev pub runs_answer : Running → List ℕ → List ℕ → Answer (List Tried)
runs_answer r xs ws = bench_answer (length xs) xs ws (runs_of r r.tries xs ws)

-- a line for each
unfoldable pub rows_text : List Tried → Text
rows_text [] = []
rows_text (t ∷ ts) = run_line t.value (accepted t.run) ++ rows_text ts

-- what is made of the list that a text is, or the first line that no list has
abbrev pub of_read : (List ℕ → List ℕ → Made) → Text → Result ℕ BadLine → Made
of_read f t (Ok n) = f (addresses_in n t) (words_in n t)
of_read f t (Err e) = no_list e.number

unfoldable pub of_list : (List ℕ → List ℕ → Made) → Text → Made
of_list f t = of_read f t (read_list 12288 t)

-- f of the runs
abbrev pub runs_told : (List Tried → Text) → Running → List ℕ → List ℕ → Made
runs_told f r xs ws = told_of Input f (runs_answer r xs ws)

-- rows that hold runs, of which that is made
abbrev pub RunsMade : (List Tried → Type 0) → (List Tried → Text) → Made → Type 0
RunsMade holds f m = (ts : List Tried) × holds ts × (m ≡ made (f ts))

-- their JSON
abbrev pub json_text : List Tried → Text
json_text ts = line_text (runs_data ts)

-- the text of `run`, and its JSON
abbrev pub run_made : Running → Text → Made
run_made r t = of_list (runs_told rows_text r) t

abbrev pub json_made : Running → Text → Made
json_made r t = of_list (runs_told json_text r) t

abbrev pub of_json : RunningJson → Running
of_json r = record { a = r.a; start = r.start; limit = r.limit; tries = r.tries }
