-- What a call on several inputs comes to. Assumes nothing.
use Rattle.std.specs.Prelude.{ℕ, ◌≡◌, ◌⊎◌, Bool, true, false, List, [], ◌∷◌, ◌++◌, map, take, All, Option, None, Some, Result, Ok, Err, ⊤}
use Rattle.std.specs.List.{list_all}
use Rattle.std.specs.declared.io.Error.{Error}
use Rattle.rules.specs.Text.{Text}
use Rattle.outcome.specs.Made.{Made, made, stopped}
use Rattle.outcome.specs.Joined.{joined}
use Rattle.outcome.specs.Outcome.{Left}
use Rattle.diagnostic.specs.Said.{no_memory_text}
use Rattle.outcome.specs.declared.making.Joining.{Joining}
use Rattle.outcome.specs.declared.Outcome.{Outcome}
use Rattle.outcome.specs.declared.Outcome.TheVariants.{Accepted, NotAll, Stopped, NoMemory, WrongUse, Failed}
use Rattle.outcome.specs.declared.What.TheVariants.{Open, Read, Write}
use Rattle.outcome.specs.declared.Which.TheVariants.{Input, Table}
use Rattle.serving.specs.Said.{named}
use Rattle.serving.specs.Served.{Held, Unread}

-- an input that was read: its name, its text, and the text that was made of it
pub record Taken : Type 0 where
  pub name : Option Text
  pub input : Text
  pub part : Text

-- h, what the files hold; f, what has to be made of an input's name and text
abbrev pub IsTaken : (Option Text → Option (List ℕ)) → (Text → Text → Made) → Taken → Type 0
IsTaken h f x = Held (h x.name) x.input × (f (named x.name) x.input ≡ made x.part)

-- the inputs of these names were taken, in their order
pub record Takes (h : Option Text → Option (List ℕ)) (f : Text → Text → Made) (ns : List (Option Text)) (xs : List Taken) : Type 0 where
  pub names : map (λ x. x.name) xs ≡ ns
  pub each : All (IsTaken h f) xs

-- m is what has to be made: there is none, or no memory for it
abbrev pub Stops : Made → Outcome → Type 0
Stops m Accepted = ⊥
Stops m NotAll = ⊥
Stops m (Stopped e) = m ≡ stopped e
Stops m NoMemory = ⊤
Stops m WrongUse = ⊥
Stops m (Failed what w e) = ⊥

-- the input of this name was not read, or has no text; tells, what is said of the input's name and text and of an outcome
abbrev pub Halts : (Option Text → Option (List ℕ)) → (Text → Text → Made) → ℕ → (Option Text → Text → Outcome → Type 0) → Option Text → Outcome → Type 0
Halts h f n tells name o =
    (Unread Input o × tells name [] o)
    ⊎ ((b : Text) × Held (h name) b × Stops (f (named name) b) o × tells name (take n b) o)

-- one of the inputs does, and those before it were taken
pub record Halted (h : Option Text → Option (List ℕ)) (f : Text → Text → Made) (n : ℕ) (tells : Option Text → Text → Outcome → Type 0) (ns : List (Option Text)) (o : Outcome) : Type 0 where
  pub before : List Taken
  pub name : Option Text
  pub after : List (Option Text)
  pub order : ns ≡ map (λ x. x.name) before ++ (name ∷ after)
  pub each : All (IsTaken h f) before
  pub why : Halts h f n tells name o

-- s is put, the text of all inputs; whether all of them are accepted
abbrev pub PutAll : Text → Bool → (Text → Result ⊤ Error → Type 0) → Outcome → Type 0
PutAll s all puts Accepted = (all ≡ true) × puts s (Ok tt)
PutAll s all puts NotAll = (all ≡ false) × puts s (Ok tt)
PutAll s all puts (Stopped e) = ⊥
PutAll s all puts NoMemory = ⊥
PutAll s all puts WrongUse = ⊥
PutAll s all puts (Failed Open w e) = ⊥
PutAll s all puts (Failed Read w e) = ⊥
PutAll s all puts (Failed Write (Some w) e) = ⊥
PutAll s all puts (Failed Write None e) = puts s (Err e)

-- there was no memory to join the texts in, and it is said; old and new, what standard error holds before and after
abbrev pub NoRoom : Option (List ℕ) → Option (List ℕ) → Outcome → Type 0
NoRoom old new o = (o ≡ NoMemory) × (r : Result ⊤ Error) × Left old new no_memory_text r

abbrev pub parts : List Taken → List Text
parts xs = map (λ x. x.part) xs

-- f, what has to be made of the table's text and an input's name and text, and ok, whether the input is accepted; t, what the table holds;
-- ns, the inputs' names; puts, same and n as for one input; no_room, that there is no memory to join the texts in. Nothing is put where a file was not read or an input has no text; else the text of all is.
abbrev pub ServedEach : (Option Text → Option (List ℕ)) → (Text → Text → Text → Made) → (Text → Text → Bool) → Option (List ℕ) → Joining → ℕ → List (Option Text)
    → (Text → Result ⊤ Error → Type 0) → Type 0 → (Option Text → Text → Outcome → Type 0) → (Outcome → Type 0) → Outcome → Type 0
ServedEach h f ok t joining n ns puts same tells no_room o =
    (Unread Table o × same × tells None [] o)
    ⊎ ((a : Text) × Held t a ×
    ((same × (Halted h (f a) n tells ns o ⊎ no_room o))
    ⊎ ((xs : List Taken) × Takes h (f a) ns xs × PutAll (joined joining (parts xs)) (list_all (λ x. ok a x.input) xs) puts o × tells None [] o)))
