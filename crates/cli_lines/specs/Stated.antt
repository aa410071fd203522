-- What follows of several scripts. Assumes nothing.
use Rattle.std.specs.Prelude.{ℕ, ◌≡◌, Bool, true, false, List, ◌∷◌, ◌++◌, map, flat_map, Option}
use Rattle.rules.specs.Text.{Text}
use Rattle.rules.specs.Answer.{accepted, refused}
use Rattle.jsontext.specs.Line.{line_text}
use Rattle.jsontext.specs.Lines.{Explained, files_data}
use Rattle.cli_error.specs.declared.What.{What}
use Rattle.cli_error.specs.Fault.{failed}
use Rattle.cli_error.specs.Answered.{output_of, failure_of}
use Rattle.cli_run.specs.Input.{Named}
use Rattle.cli_run.specs.Items.{Item, item, unread}
use Rattle.cli_run.specs.Told.{blamed}
use Rattle.cli_lines.specs.Lines.{explained_script, part_text, page_of}
use Rattle.cli_lines.specs.Answered.{explained, printed}

-- ---- scripts that are all read and accepted

-- `why` writes their texts one after another
unfoldable pub TextsJoined : Type 0
TextsJoined =
    (base : ℕ) (line : Option ℕ) (many : Bool) (t : Option Named) (bs : List Named) (es : List Explained) → map (explained_script line base t) bs ≡ map accepted es
    → explained false base line many t (map item bs) ≡ output_of (flat_map (part_text line many) es) 0

-- as JSON the line of one value with their entries
unfoldable pub EntriesJoined : Type 0
EntriesJoined =
    (base : ℕ) (line : Option ℕ) (many : Bool) (t : Option Named) (bs : List Named) (es : List Explained) → map (explained_script line base t) bs ≡ map accepted es
    → explained true base line many t (map item bs) ≡ output_of (line_text (files_data es)) 0

-- `list` writes their listings one after another
unfoldable pub PagesJoined : Type 0
PagesJoined =
    (base : ℕ) (many : Bool) (t : Option Named) (bs : List Named) (ps : List Text) → map (page_of base many t) bs ≡ map accepted ps
    → printed base many t (map item bs) ≡ output_of (flat_map (λ p. p) ps) 0

-- ---- after some that are, one that is refused, or is not read: nothing is written, whatever files are left

unfoldable pub RefusalEnds : Type 0
RefusalEnds =
    (json : Bool) (base : ℕ) (line : Option ℕ) (many : Bool) (t : Option Named) (bs : List Named) (es : List Explained) → map (explained_script line base t) bs ≡ map accepted es
    → (b : Named) (n p : ℕ) → explained_script line base t b ≡ refused n p → (left : List Item)
    → explained json base line many t (map item bs ++ (item b ∷ left)) ≡ failure_of (blamed 32768 t b n p)

unfoldable pub UnreadEnds : Type 0
UnreadEnds =
    (json : Bool) (base : ℕ) (line : Option ℕ) (many : Bool) (t : Option Named) (bs : List Named) (es : List Explained) → map (explained_script line base t) bs ≡ map accepted es
    → (name : Text) (what : What) (reason : Text) (left : List Item)
    → explained json base line many t (map item bs ++ (record { name = name; found = unread what reason } ∷ left)) ≡ failure_of (failed what name reason)
