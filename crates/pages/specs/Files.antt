-- The files of an example, byte by byte. Assumes nothing.
use Rattle.std.specs.Prelude.{ℕ, ◌+◌, ◌*◌, ◌-◌, ◌%◌, true, false, cond, leb, List, [], ◌∷◌, map, drop, Option, None, Some}
use Rattle.rules.specs.Text.{Text, cut_at, first_text, other_texts, same}
use Rattle.pages.specs.declared.files.Held.{Held}
use lib.ListN.{get_or}

-- a file: its name, and its bytes
pub record Named : Type 0 where
  pub name : Text
  pub bytes : Text

-- a hexadecimal digit
abbrev pub digit : ℕ → ℕ
digit b = cond (leb 65 b) (b - 55) (b - 48)

-- a byte of two digits
abbrev pub byte : Text → ℕ
byte p = (16 * digit (get_or p 0 0) + digit (get_or p 1 0)) % 256

-- a file by the pieces of its row: its name, and its bytes
abbrev pub filed : List Text → Named
filed ps = record { name = first_text ps; bytes = map byte (other_texts ps) }

-- a file by its row, whose pieces stand after `    = `
abbrev pub file : Text → Named
file l = filed (cut_at 32 (drop 6 l))

-- the bytes of the first file of a name
unfoldable pub held : Text → List Named → Option Text
held n [] = None
held n (f ∷ fs) = elim (same f.name n) [ true ↦ Some f.bytes | false ↦ held n fs ]

-- what there is to read: the files, and standard input, which has no name
abbrev pub readable : List Named → Text → Option Text → Option Text
readable fs i None = Some i
readable fs i (Some n) = held n fs

abbrev pub named : Held → Named
named h = record { name = h.name.now; bytes = h.bytes.items }
