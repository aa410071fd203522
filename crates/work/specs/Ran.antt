-- What the command comes to, from its words. Assumes nothing.
use Rattle.std.specs.Prelude.{◌≡◌, ◌⊎◌, ℕ, List, Option, None, Some, IfSome, Result, ⊤, option_map, codes}
use Rattle.std.specs.declared.io.Error.{Error}
use Rattle.rules.specs.Text.{Text}
use Rattle.commandline.specs.Words.{words_behind}
use Rattle.commandline.specs.declared.Asked.{Asked}
use Rattle.diagnostic.specs.Said.{no_memory_text}
use Rattle.outcome.specs.Made.{made}
use Rattle.outcome.specs.Outcome.{Ended}
use Rattle.outcome.specs.declared.Outcome.{Outcome}
use Rattle.outcome.specs.declared.Outcome.TheVariants.{NoMemory}
use Rattle.wholefile.specs.Shelf.{Shelf}
use Rattle.asked.specs.Said.{Says}
use Rattle.asked.specs.Printing.{SaysFailure}
use Rattle.asked.specs.Misusing.{Misuses}
use Rattle.asked.specs.Refusing.{NamesRefused}
use Rattle.asked.specs.Task.{IsTask}
use Rattle.asked.specs.declared.task.Task.{Task}
use Rattle.asked.specs.declared.task.Task.TheVariants.{Print, Work, Wrong}
use Rattle.work.specs.Placed.{WorksAt}

module _ {D : Type 0} where
  -- a name that is none is refused, and nothing is put; else the work is done
  abbrev pub DoesWork : (Option Text → Option (List ℕ)) → Asked → D → D → (D → Text → Type 0) → (D → Text → Type 0) → (D → Option Shelf) → (Text → Result ⊤ Error → Type 0) → Type 0
      → Option (List ℕ) → Option (List ℕ) → Outcome → Type 0
  DoesWork h a d d' settled stays known puts same old new o =
      (NamesRefused a old new (Some o) × (d' ≡ d) × same)
      ⊎ ((mid : Option (List ℕ)) × NamesRefused a old mid None × WorksAt (option_map (λ s. s.now) a.output) h a d d' settled stays known puts same mid new o)

  -- what the words ask for: a text is printed, work is done, or what is wrong is said and nothing is put
  abbrev pub Does : Task → (Option Text → Option (List ℕ)) → D → D → (D → Text → Type 0) → (D → Text → Type 0) → (D → Option Shelf) → (Text → Result ⊤ Error → Type 0) → Type 0
      → Option (List ℕ) → Option (List ℕ) → Outcome → Type 0
  Does (Print t) h d d' settled stays known puts same old new o =
      Ended (made t.items) puts same o × SaysFailure (codes "standard output") old new o × (d' ≡ d)
  Does (Work a) h d d' settled stays known puts same old new o = DoesWork h a d d' settled stays known puts same old new o
  Does (Wrong w) h d d' settled stays known puts same old new o = Misuses w old new o × (d' ≡ d) × same

  -- ws, the words after the program's name; or there is no memory for them
  abbrev pub Runs : List Text → (Option Text → Option (List ℕ)) → D → D → (D → Text → Type 0) → (D → Text → Type 0) → (D → Option Shelf) → (Text → Result ⊤ Error → Type 0) → Type 0
      → Option (List ℕ) → Option (List ℕ) → Outcome → Type 0
  Runs ws h d d' settled stays known puts same old new o =
      ((t : Task) × IsTask ws t × Does t h d d' settled stays known puts same old new o)
      ⊎ ((o ≡ NoMemory) × Says old new no_memory_text × (d' ≡ d) × same)

  -- known, the program's arguments, where they are known: the words are those after its name
  abbrev pub Ran : Option (List Text) → (Option Text → Option (List ℕ)) → D → D → (D → Text → Type 0) → (D → Text → Type 0) → (D → Option Shelf) → (Text → Result ⊤ Error → Type 0) → Type 0
      → Option (List ℕ) → Option (List ℕ) → Outcome → Type 0
  Ran known h d d' settled stays files puts same old new o =
      (ws : List Text) × IfSome known (λ k. ws ≡ words_behind k) × Runs ws h d d' settled stays files puts same old new o
