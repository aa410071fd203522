-- What an assembling call gives: its answer, and the three lent slices afterwards. Assumes nothing.
use Rattle.std.specs.Prelude.{◌≡◌, ℕ, ◌<◌, List, length}
use Rattle.rules.specs.Limits.{address_limit}
use Rattle.rules.specs.Text.{Text}
use Rattle.rules.specs.Answer.{Answer, accepted, refused, refuse_if, and_then}
use Rattle.rules.specs.Assemble.{Sizes, Pass, Place, Slices, room, short, pass_at_by}
use Rattle.answer.specs.Refusal.{number_of, place_of}
use Rattle.answer.specs.declared.Refusal.{Refusal}
use Rattle.source.specs.Clear.{Clear}

-- the list of a source at a base, by the sizes of the first pass and by what the second makes of it
abbrev pub list_by : Sizes → (Pass → Answer (List Place)) → ℕ → Text → Answer (List Place)
list_by z f base s = and_then (pass_at_by z base s) f

-- a call's answer, once the list or a refusal is known: "then 7"
abbrev pub called : Answer (List Place) → Slices → Answer ℕ
called list x = and_then list (room x)

-- whether the slices have room for a list: "then 7"
abbrev pub fits : Slices → List Place → Answer Unit
fits x l = refuse_if (short x (length l)) 7 (length l) (accepted tt)

-- one of refusals 1 to 4, to which the first pass comes by any sizes
abbrev pub Refuses : Text → ℕ → Refusal → Type 0
Refuses source base e = (z : Sizes) → pass_at_by z base source ≡ refused (number_of e) (place_of e)

-- a source that refusals 1 to 4 let pass
pub record Starting (source : Text) (base : ℕ) : Type 0 where
  pub clear : Clear source
  pub low : base < address_limit
