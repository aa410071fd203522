-- What the command `sheet` comes to. Assumes nothing.
use Rattle.std.specs.Prelude.{ℕ, ◌≡◌, ◌⊎◌, Bool, List, ◌∷◌, ◌++◌, map, length, Option, None, Some, Result, Ok, Err, ⊤}
use Rattle.std.specs.declared.io.Error.{Error}
use Rattle.rules.specs.Text.{Text}
use Rattle.requests.specs.Sheet.{Totals, no_totals}
use Rattle.sheettext.specs.Names.{names_in, name_kept}
use Rattle.outcome.specs.declared.Which.TheVariants.{Input, Sheet, Script}
use Rattle.outcome.specs.declared.What.TheVariants.{Open, Read, Write}
use Rattle.outcome.specs.declared.Outcome.{Outcome}
use Rattle.outcome.specs.declared.Outcome.TheVariants.{Accepted, NoMemory, Failed}
use Rattle.serving.specs.Said.{named}
use Rattle.serving.specs.Served.{Held}
use Rattle.make_sheet.specs.Held.{Hold}
use Rattle.make_sheet.specs.Series.{summed, with_sheet, with_sheets, with_script, sum_all, text_of}
use Rattle.make_sheet.specs.Reading.{Unadded, ScriptsAdded}

-- by f, what the file of a name holds, and of no name standard input, where that is known; tells, what is said of a file's name and an outcome

-- ---- sheets
-- those of the names come to t
pub record SheetsAdded (f : Option Text → Option (List ℕ)) (names : List Text) (t : Totals) : Type 0 where
  pub texts : List Text
  pub held : Hold f names texts
  pub sum : with_sheets 0 texts (summed no_totals) ≡ summed t

-- one of them cannot be added to those before it
pub record SheetHalts (f : Option Text → Option (List ℕ)) (tells : Text → Outcome → Type 0) (names : List Text) (o : Outcome) : Type 0 where
  pub before : List Text
  pub name : Text
  pub rest : List Text
  pub split : names ≡ before ++ (name ∷ rest)
  pub totals : Totals
  pub added : SheetsAdded f before totals
  pub halt : Unadded (f (Some name)) (with_sheet (length before)) (Sheet (length before)) totals o
  pub said : tells name o

-- ---- scripts, which a text x names
-- one of them cannot be added to t and those before it
pub record ScriptHalts (f : Option Text → Option (List ℕ)) (tells : Text → Outcome → Type 0) (x : Text) (t : Totals) (o : Outcome) : Type 0 where
  pub before : List Text
  pub name : Text
  pub rest : List Text
  pub split : map name_kept (names_in x) ≡ before ++ (name ∷ rest)
  pub totals : Totals
  pub added : ScriptsAdded f before t totals
  pub halt : Unadded (f (Some name)) with_script Script totals o
  pub said : tells name o

-- the input, of which old is known, was read, and the scripts that it names are added to t
abbrev pub NamesAdded : Option (List ℕ) → (Option Text → Option (List ℕ)) → Totals → Totals → Type 0
NamesAdded old f t u = (x : Text) × Held old x × ScriptsAdded f (map name_kept (names_in x)) t u

-- or it was not read to its end, or one of the scripts cannot be added; input, how it is named in what is said
abbrev pub NamesHalt : Option (List ℕ) → (Option Text → Option (List ℕ)) → (Text → Outcome → Type 0) → Text → Totals → Outcome → Type 0
NamesHalt old f tells input t (Failed Read (Some Input) e) = tells input (Failed Read (Some Input) e)
NamesHalt old f tells input t o = (x : Text) × Held old x × ScriptHalts f tells x t o

-- ---- the whole call
-- totals of all sheets, and of all scripts that the input names
pub record AllAdded (f : Option Text → Option (List ℕ)) (sheets : List Text) (input : Option Text) (u : Totals) : Type 0 where
  pub sheet_texts : List Text
  pub sheets_held : Hold f sheets sheet_texts
  pub names : Text
  pub names_held : Held (f input) names
  pub script_texts : List Text
  pub scripts_held : Hold f (map name_kept (names_in names)) script_texts
  pub sum : sum_all sheet_texts script_texts ≡ summed u

-- or a sheet cannot be added, or the input was not opened, or what it names cannot be added
abbrev pub NotAdded : (Option Text → Option (List ℕ)) → (Text → Outcome → Type 0) → List Text → Option Text → Outcome → Type 0
NotAdded f tells sheets input (Failed Open (Some Input) e) = (t : Totals) × SheetsAdded f sheets t × tells (named input) (Failed Open (Some Input) e)
NotAdded f tells sheets input o = SheetHalts f tells sheets o ⊎ ((t : Totals) × SheetsAdded f sheets t × NamesHalt (f input) f tells (named input) t o)

-- a text s is put, or cannot be; puts, what is owed of a text that is put and of the answer, and same, that nothing is put
abbrev pub Put : (Text → Result ⊤ Error → Type 0) → Type 0 → Text → Outcome → Type 0
Put puts same s Accepted = puts s (Ok tt)
Put puts same s NoMemory = same
Put puts same s (Failed Write None e) = puts s (Err e)
Put puts same s o = ⊥

-- all is added and the text for it put, or nothing is put; output, how the output is named in what is said
abbrev pub Ends : (Option Text → Option (List ℕ)) → (Text → Outcome → Type 0) → List Text → Option Text → Bool → Text → (Text → Result ⊤ Error → Type 0) → Type 0 → Outcome → Type 0
Ends f tells sheets input json output puts same o =
    ((u : Totals) × AllAdded f sheets input u × Put puts same (text_of json u) o × tells output o) ⊎ (NotAdded f tells sheets input o × same)
