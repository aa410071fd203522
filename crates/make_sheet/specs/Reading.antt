-- What one file comes to, and where the names stand so far. Assumes nothing.
use Rattle.std.specs.Prelude.{ℕ, ◌≡◌, Bool, true, false, List, [], Option, Some}
use Rattle.rules.specs.Text.{Text}
use Rattle.requests.specs.Sheet.{Totals}
use Rattle.sheettext.specs.Names.{NamesRead}
use Rattle.outcome.specs.Made.{stopped}
use Rattle.outcome.specs.declared.Which.{Which}
use Rattle.outcome.specs.declared.Which.TheVariants.{Input}
use Rattle.outcome.specs.declared.What.TheVariants.{Open, Read}
use Rattle.outcome.specs.declared.Outcome.{Outcome}
use Rattle.outcome.specs.declared.Outcome.TheVariants.{Stopped, Failed}
use Rattle.serving.specs.Said.{Called, Tells}
use Rattle.serving.specs.Served.{Held, Unread}
use Rattle.make_sheet.specs.Held.{Hold}
use Rattle.make_sheet.specs.Series.{Sum, summed, halts, with_scripts, with_script}

-- ---- one file
-- old, what it holds, where that is known; step, what its text makes of totals: from t to u it is added
abbrev pub Added : Option (List ℕ) → (Text → Sum → Sum) → Totals → Totals → Type 0
Added old step t u = (s : Text) × Held old s × (step s (summed t) ≡ summed u)

-- or the call ends with o: it is refused or no sheet, or was not read
abbrev pub Unadded : Option (List ℕ) → (Text → Sum → Sum) → Which → Totals → Outcome → Type 0
Unadded old step w t (Stopped e) = (s : Text) × Held old s × (step s (summed t) ≡ halts (stopped e))
Unadded old step w t o = Unread w o

-- the input of the names was not opened, or not read to its end
abbrev pub InputUnopened : Outcome → Type 0
InputUnopened (Failed Open (Some Input) e) = Unit
InputUnopened o = ⊥

abbrev pub InputUnread : Outcome → Type 0
InputUnread (Failed Read (Some Input) e) = Unit
InputUnread o = ⊥

-- ---- what is said: old and new, what standard error holds before and after
-- whatever file is spoken of, it is the one of this name
abbrev alike : Text → Called
alike name = record { table = name; input = name; output = name }

abbrev pub Telling : Option (List ℕ) → Option (List ℕ) → Text → Outcome → Type 0
Telling old new name o = Tells (alike name) [] o old new

-- ---- scripts
-- from totals t to u by those of the names
pub record ScriptsAdded (f : Option Text → Option (List ℕ)) (names : List Text) (t u : Totals) : Type 0 where
  pub texts : List Text
  pub held : Hold f names texts
  pub sum : with_scripts texts (summed t) ≡ summed u

-- a script whose name may be whole
abbrev pub AddedIf : Bool → (Option Text → Option (List ℕ)) → Text → Totals → Totals → Type 0
AddedIf true f name t u = Added (f (Some name)) with_script t u
AddedIf false f name t u = u ≡ t

-- s was read of the names: from t to u by a script for each name that byte 10 ended; of the next one `held` bytes are kept
pub record Adding (f : Option Text → Option (List ℕ)) (t : Totals) (s : Text) (name : List ℕ) (held : ℕ) (u : Totals) : Type 0 where
  pub given : List Text
  pub names : NamesRead s given name held
  pub added : ScriptsAdded f given t u
