-- What `tidy` makes of a script. Assumes nothing.
use Rattle.std.specs.Prelude.{ℕ, ◌≡◌, None, Result, Ok, Err, ⊤}
use Rattle.std.specs.Global.{Vec}
use Rattle.std.specs.declared.alloc.AllocError.{AllocError}
use Rattle.rules.specs.Text.{Text}
use Rattle.rules.specs.Answer.{Answer, accepted, refused}
use Rattle.rules.specs.Assemble.{checks}
use Rattle.requests.specs.Tidy.{tidy}
use Rattle.answer.specs.declared.Refusal.{Refusal}
use Rattle.answer.specs.Refusal.{number_of, place_of}
use Rattle.cli_error.specs.Answered.{Made}
use Rattle.cli_run.specs.Input.{Named}
use Rattle.cli_run.specs.Told.{told}

-- the copy, or one of refusals 1 to 3: there is room for every copy
unfoldable pub tidied : Text → Answer Text
tidied s = checks s (accepted (tidy s))

abbrev pub copied : Named → Made
copied b = told (λ s. s) 32768 None b (tidied b.text)

-- ---- in a vector

-- a script's answer: the copy that a is, or its refusal
abbrev pub Copies : Answer Text → Result (Vec ℕ) Refusal → Type 0
Copies a (Ok v) = a ≡ accepted v.items
Copies a (Err e) = a ≡ refused (number_of e) (place_of e)

-- nothing is promised if there was no memory
abbrev pub CopyIs : Answer Text → Result (Result (Vec ℕ) Refusal) AllocError → Type 0
CopyIs a (Ok r) = Copies a r
CopyIs a (Err e) = ⊤
