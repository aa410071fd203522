-- "Which label is this near?": the label whose recorded address is greatest without passing the one asked. Assumes nothing.
use Rattle.std.specs.Prelude.{ℕ, ◌-◌, Bool, ◌&&◌, ◌||◌, cond, [], ◌∷◌, length, leb, ltb, eqb, Option, None, Some}
use Rattle.rules.specs.Text.{Text}
use Rattle.rules.specs.Label.{Label, Table}
use Rattle.rules.specs.Answer.{Answer, accepted, refused, and_then}
use Rattle.rules.specs.Assemble.{pass_at}

-- the answer: "as start and length in its last record, and the distance"
pub record Nearest : Type 0 where
  pub start : ℕ
  pub length : ℕ
  pub distance : ℕ

-- l is named before m: its address is greater, or "of labels with equal addresses" its last record stands first
unfoldable pub nearer : Label → Label → Bool
nearer l m = ltb m.address l.address || eqb l.address m.address && ltb l.start m.start

unfoldable pub nearer_of : Label → Option Label → Label
nearer_of l None = l
nearer_of l (Some m) = cond (nearer l m) l m

-- the nearest of the labels whose addresses do not pass a
unfoldable pub nearest_in : ℕ → Table → Option Label
nearest_in a [] = None
nearest_in a (l ∷ t) = cond (leb l.address a) (Some (nearer_of l (nearest_in a t))) (nearest_in a t)

-- "12: no label at or below the address; place 0"
unfoldable pub told_nearest : ℕ → Option Label → Answer Nearest
told_nearest a None = refused 12 0
told_nearest a (Some l) = accepted (record { start = l.start; length = length l.name; distance = a - l.address })

-- "Refusals 1 to 6 come first."
unfoldable pub nearest : ℕ → Text → ℕ → Answer Nearest
nearest base s a = and_then (pass_at base s) (λ p. told_nearest a (nearest_in a p.labels))
