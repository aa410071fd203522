-- What the code's failures and answers are of these; at NoMemory nothing is promised. Assumes nothing.
use Rattle.std.specs.Prelude.{ℕ, ◌≡◌, [], None, Some, option_map, Result, Ok, Err, ⊤}
use Rattle.std.specs.Global.{Vec}
use Rattle.answer.specs.Refusal.{number_of, place_of}
use Rattle.cli_error.specs.Fault.{refused, no_list, no_sheet, failed, misused}
use Rattle.cli_error.specs.Answered.{Answered, Made, made, fails}
use Rattle.cli_error.specs.declared.Failure.{Failure}
use Rattle.cli_error.specs.declared.Failure.TheVariants as F
use Rattle.cli_error.specs.declared.Status.{Status}
use Rattle.cli_error.specs.declared.Status.TheVariants as S
use Rattle.cli_error.specs.declared.Answer.{Answer}
use Rattle.cli_error.specs.declared.Answer.TheVariants as A

abbrev pub code : Status → ℕ
code S.Accepted = 0
code S.Refused = 1
code S.Misused = 2
code S.Failed = 3

-- why there is no text
abbrev pub Fails : Made → Failure → Type 0
Fails m (F.Refused name e s) = m ≡ fails (refused name.now (number_of e) (place_of e) s.now)
Fails m (F.NotAList name line) = m ≡ fails (no_list name.now line)
Fails m (F.NotASheet name line) = m ≡ fails (no_sheet name.now line)
Fails m (F.Failed what name reason) = m ≡ fails (failed what name.now reason.now)
Fails m (F.Misused command wrong) = m ≡ fails (misused (option_map (λ s. s.now) command) wrong.now)
Fails m F.NoMemory = ⊤

abbrev pub Makes : Made → Result (Vec ℕ) Failure → Type 0
Makes m (Ok text) = m ≡ made text.items
Makes m (Err e) = Fails m e

abbrev pub Gives : Answered → Answer → Type 0
Gives a (A.Output text status) = a ≡ record { output = Some text.items; errors = []; status = code status }
Gives a (A.Failure text status) = a ≡ record { output = None; errors = text.items; status = code status }
Gives a A.NoMemory = ⊤
