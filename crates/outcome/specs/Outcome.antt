-- What a call comes to, and the exit status. Assumes nothing.
use Rattle.std.specs.Prelude.{ℕ, ◌≡◌, List, ◌++◌, Option, None, Some, Result, Ok, Err, ⊤}
use Rattle.std.specs.Io.KnownBytes.{Appends, Consumes, IsAtEnd}
use Rattle.std.specs.declared.io.Error.{Error}
use Rattle.rules.specs.Text.{Text}
use Rattle.outcome.specs.Made.{Made, made, stopped}
use Rattle.outcome.specs.declared.Unmade.{Unmade}
use Rattle.outcome.specs.declared.Unmade.TheVariants as Why
use Rattle.outcome.specs.declared.Outcome.{Outcome}
use Rattle.outcome.specs.declared.Outcome.TheVariants.{Accepted, NotAll, Stopped, NoMemory, WrongUse, Failed}
use Rattle.outcome.specs.declared.What.TheVariants.{Open, Read, Write}

-- "Exit status: 0 accepted, 1 refused, 2 wrong use, 3 input or output failed"; a text that is no list or no sheet counts as refused, and so does
-- one of several inputs that is not accepted; no memory counts as a failure
unfoldable pub status : Outcome → ℕ
status Accepted = 0
status NotAll = 1
status (Stopped s) = 1
status NoMemory = 3
status WrongUse = 2
status (Failed w f e) = 3

-- old, what a writer holds before s is written, where that is known, new, what it holds then: all of s was appended, or, where that failed, a front
abbrev pub Left : {T E : Type 0} → Option (List ℕ) → Option (List ℕ) → Text → Result T E → Type 0
Left old new s (Ok r) = Appends old new s
Left old new s (Err e) = (done rest : Text) × (s ≡ done ++ rest) × Appends old new done

-- why there is no text, where that is known
abbrev pub NotMade : Made → Unmade → Type 0
NotMade m (Why.Stopped e) = m ≡ stopped e
NotMade m Why.NoMemory = ⊤

-- old and new, what a reader has left before and after: t was read, to the end
abbrev pub WasRead : Option (List ℕ) → Option (List ℕ) → Text → Type 0
WasRead old new t = Consumes old new t × IsAtEnd new

-- m is what the call has to make; puts, what is owed of a text that is put and of the answer; same, that nothing is put. The text is put
-- where it is accepted, and where it failed to be; nothing is where there is none.
abbrev pub Ended : Made → (Text → Result ⊤ Error → Type 0) → Type 0 → Outcome → Type 0
Ended m puts same Accepted = (s : Text) × (m ≡ made s) × puts s (Ok tt)
Ended m puts same NotAll = ⊥
Ended m puts same (Stopped e) = (m ≡ stopped e) × same
Ended m puts same NoMemory = same
Ended m puts same WrongUse = ⊥
Ended m puts same (Failed Open w e) = ⊥
Ended m puts same (Failed Read w e) = ⊥
Ended m puts same (Failed Write (Some w) e) = ⊥
Ended m puts same (Failed Write None e) = (s : Text) × (m ≡ made s) × puts s (Err e)
