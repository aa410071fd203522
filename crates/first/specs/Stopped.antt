-- What the first pass, by the sizes z, has recorded and kept when it stops, at its end or at a refusal. Assumes nothing.
use Rattle.std.specs.Prelude.{ℕ, true, false, List, [], ◌∷◌, ltb, leb}
use Rattle.rules.specs.Limits.{address_limit}
use Rattle.rules.specs.Text.{Text}
use Rattle.rules.specs.Line.{SourceLine, lines_of, Name, line_of}
use Rattle.rules.specs.Label.{Table, find, recorded, has_room, label_of}
use Rattle.rules.specs.Answer.{Answer, accepted, refused, refuse_if}
use Rattle.rules.specs.Assemble.{Sizes, Pass, Put, halt, full, next, step_by, checks}

-- labels recorded in order, up to the first for which there is no room
unfoldable pub record_some : SourceLine → ℕ → List Name → Table → Table
record_some l a [] t = t
record_some l a (n ∷ ns) t =
    elim (has_room (find n.text t) t) [ true ↦ record_some l a ns (recorded (label_of l a n) t) | false ↦ t ]

abbrev pub only : Table → Pass
only t = record { labels = t; puts = [] }

unfoldable pub before : Put → Pass → Pass
before p q = record { labels = q.labels; puts = p ∷ q.puts }

-- the labels recorded, and the lines taken, when the pass over these lines stops
unfoldable pub stopped : Sizes → ℕ → ℕ → Table → List SourceLine → Pass
stopped z base a t [] = only t
stopped z base a t (l ∷ ls) =
    elim (step_by z base a t l (line_of l.text)) [
      | halt ↦ only t
      | full ↦ only (record_some l a (line_of l.text).names t)
      | next a' t' ↦ elim (ltb a' address_limit) [
        | true ↦ before (record { address = a; task = (line_of l.text).task }) (stopped z base a' t' ls)
        | false ↦ only t'
      ]
    ]

-- the same of a source at a base: nothing where refusals 1 to 4 come first
unfoldable pub or_nothing : Answer Pass → Pass
or_nothing (accepted p) = p
or_nothing (refused n p) = only []

unfoldable pub stopped_at : Sizes → ℕ → Text → Pass
stopped_at z base s = or_nothing (checks s (refuse_if (leb address_limit base) 4 0 (accepted (stopped z base base [] (lines_of s)))))
