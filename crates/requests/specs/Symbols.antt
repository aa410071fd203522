-- "Symbols with their lines": the labels of a source, in the order of their lines, and as rows in lent slices. Assumes nothing.
use Rattle.std.specs.Prelude.{ℕ, Bool, true, false, ◌||◌, cond, List, [], ◌∷◌, map, length, ltb}
use Rattle.rules.specs.Text.{Text}
use Rattle.rules.specs.Label.{Label, Table}
use Rattle.rules.specs.Answer.{Answer, accepted, refused, refuse_if, and_then}
use Rattle.rules.specs.Assemble.{pass_at, over}

-- a label put before the first one that starts after it
unfoldable pub put_in_order : Label → List Label → List Label
put_in_order l [] = l ∷ []
put_in_order l (m ∷ ms) = cond (ltb l.start m.start) (l ∷ m ∷ ms) (m ∷ put_in_order l ms)

-- "in order of that line, step 4's label before step 5's of the same line": the order in which they start in the source
unfoldable pub in_order : Table → List Label
in_order [] = []
in_order (l ∷ t) = put_in_order l (in_order t)

-- each label of a source at a base; refusals 1 to 6 as in assembling
unfoldable pub symbols : ℕ → Text → Answer (List Label)
symbols base s = and_then (pass_at base s) (λ p. accepted (in_order p.labels))

-- the four lent slices: a label's start and length in the source, its address and its line
pub record Rows : Type 0 where
  pub starts : List ℕ
  pub lengths : List ℕ
  pub addresses : List ℕ
  pub lines : List ℕ

abbrev pub rows : List ℕ → List ℕ → List ℕ → List ℕ → Rows
rows ss ns xs ks = record { starts = ss; lengths = ns; addresses = xs; lines = ks }

-- one of the slices is shorter than n
unfoldable pub short_rows : Rows → ℕ → Bool
short_rows x n = ltb (length x.starts) n || ltb (length x.lengths) n || ltb (length x.addresses) n || ltb (length x.lines) n

-- refusal 7, "any slice shorter than the count needed; place that count", or the count
unfoldable pub room_rows : Rows → List Label → Answer ℕ
room_rows x l = refuse_if (short_rows x (length l)) 7 (length l) (accepted (length l))

-- the answer of a call, the count or a refusal
unfoldable pub symbols_answer : ℕ → Text → Rows → Answer ℕ
symbols_answer base s x = and_then (symbols base s) (room_rows x)

unfoldable pub holding_rows : List Label → Rows → Rows
holding_rows l x =
    record {
      starts = over (map (λ m. m.start) l) x.starts;
      lengths = over (map (λ m. length m.name) l) x.lengths;
      addresses = over (map (λ m. m.address) l) x.addresses;
      lines = over (map (λ m. m.line) l) x.lines;
    }

-- the slices after a call: nothing is written by a refusal
unfoldable pub write_rows : Answer (List Label) → Rows → Rows
write_rows (refused n p) x = x
write_rows (accepted l) x = elim (short_rows x (length l)) [ true ↦ x | false ↦ holding_rows l x ]

unfoldable pub symbols_rows : ℕ → Text → Rows → Rows
symbols_rows base s x = write_rows (symbols base s) x
