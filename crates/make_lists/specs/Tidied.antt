-- The tidy copy of a script as an answer. Assumes nothing.
use Rattle.std.specs.Prelude.{◌≡◌, Result, Ok, Err, ℕ, ⊤}
use Rattle.std.specs.Global.{Vec}
use Rattle.rules.specs.Text.{Text}
use Rattle.rules.specs.Answer.{Answer, accepted, refused}
use Rattle.rules.specs.Assemble.{checks}
use Rattle.requests.specs.Tidy.{tidy}
use Rattle.answer.specs.Refusal.{number_of, place_of}
use Rattle.make_lists.specs.declared.listed.Unlisted.{Unlisted}
use Rattle.make_lists.specs.declared.listed.Unlisted.TheVariants.{Refused, NoMemory}

-- the copy, or one of refusals 1 to 3: there is room for every copy
unfoldable pub tidied : Text → Answer Text
tidied s = checks s (accepted (tidy s))

-- the copy that a is, or its refusal; where memory ran out nothing is said
abbrev pub CopyIs : Answer Text → Result (Vec ℕ) Unlisted → Type 0
CopyIs a (Ok v) = a ≡ accepted v.items
CopyIs a (Err (Refused e)) = a ≡ refused (number_of e) (place_of e)
CopyIs a (Err NoMemory) = ⊤
