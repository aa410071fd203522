-- From a call that puts an answer's text, or refuses, to what is printed: the text, or the line of the refusal. Assumes nothing.
use Rattle.std.specs.Prelude.{Result, Ok, Err}
use Prim.Native.Nat.{ℕ}
use mathlib.Core.Path.{◌≡◌}
use mathlib.Core.List.{List}
use Rattle.rules.specs.Text.{Text}
use Rattle.rules.specs.Answer.{Answer, accepted, refused}
use Rattle.answer.specs.Refusal.{number_of, place_of}
use Rattle.answer.specs.declared.Refusal.{Refusal}
use Rattle.listing.specs.Listing.{refused_text}
use Rattle.station.specs.Printed.{Printed}
use Rattle.station.specs.Puts.{Puts}

-- what is printed of an answer that is a text
abbrev pub line_of : Answer Text → Text
line_of (accepted s) = s
line_of (refused n p) = refused_text n p

module _ {a : Answer Text} where
  pub put_text : {n : ℕ} {x y : List ℕ} → Puts a (Ok n) x y → Printed (line_of a) n x y
  put_text p = rw p.1 p.2

  -- x, before the call, z, after it, and y, after the line was put
  pub put_line : (e : Refusal) {n : ℕ} {x z y : List ℕ} → Puts a (Err e) x z → Printed (refused_text (number_of e) (place_of e)) n z y → Printed (line_of a) n x y
  put_line e p q = rw p.0 (rw p.1 at q)
