-- The labels recorded, by the rules. Assumes nothing.
use Rattle.std.specs.Prelude.{ℕ, ◌+◌, Bool, true, false, List, [], ◌∷◌, length, ltb, Option, None, Some}
use Rattle.rules.specs.Limits.{max_labels}
use Rattle.rules.specs.Text.{Text, same}
use Rattle.rules.specs.Line.{SourceLine, Name}

-- a recorded label: its name, where its text starts in the source, its address, and
-- "the line, from 1, on which its address was last set"
pub record Label : Type 0 where
  pub name : Text
  pub start : ℕ
  pub address : ℕ
  pub line : ℕ

-- the labels, in the order of their first record
abbrev pub Table : Type 0
Table = List Label

-- the address of the label n
unfoldable pub find : Text → Table → Option ℕ
find n [] = None
find n (l ∷ t) = elim (same n l.name) [ true ↦ Some l.address | false ↦ find n t ]

-- "A label recorded again takes the later address."
unfoldable pub recorded : Label → Table → Table
recorded x [] = x ∷ []
recorded x (l ∷ t) = elim (same x.name l.name) [ true ↦ x ∷ t | false ↦ l ∷ recorded x t ]

-- a recorded label, or room for a new one
unfoldable pub has_room : Option ℕ → Table → Bool
has_room None t = ltb (length t) max_labels
has_room (Some a) t = true

-- the name n of the source line l as a label at the address a
abbrev pub label_of : SourceLine → ℕ → Name → Label
label_of l a n = record { name = n.text; start = l.start + n.start; address = a; line = l.number }

-- the labels ns of the source line l, recorded in order at the address a;
-- none where "a new label when" 256 "are recorded" comes
unfoldable pub record_all : SourceLine → ℕ → List Name → Table → Option Table
record_all l a [] t = Some t
record_all l a (n ∷ ns) t =
    elim (has_room (find n.text t) t) [
      | true ↦ record_all l a ns (recorded (label_of l a n) t)
      | false ↦ None
    ]
