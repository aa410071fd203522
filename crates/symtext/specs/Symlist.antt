-- What `symlist` prints for a script. Assumes nothing.
use Rattle.std.specs.Prelude.{ℕ}
use mathlib.Core.List.{List, [], ◌∷◌, ◌++◌, flat_map}
use Rattle.rules.specs.Text.{Text}
use Rattle.rules.specs.Label.{Label}
use Rattle.rules.specs.Answer.{Answer, accepted, refused}
use Rattle.requests.specs.Symbols.{symbols}
use Rattle.listing.specs.Listing.{digits_of, decimal, refused_text}

-- "one space apart, each label's name, address in 8 upper-case hexadecimal digits and decimal line, then byte 10"
unfoldable pub line_text : Text → ℕ → ℕ → Text
line_text name address line = name ++ (32 ∷ (digits_of 16 8 address ++ (32 ∷ (decimal line ++ (10 ∷ [])))))

abbrev pub symbol_text : Label → Text
symbol_text l = line_text l.name l.address l.line

-- each label's line in order, nothing if there is none; "a refusal prints as in `asmlist`"
unfoldable pub told_text : Answer (List Label) → Text
told_text (accepted l) = flat_map symbol_text l
told_text (refused n p) = refused_text n p

-- what is printed at a base for a script
unfoldable pub symbols_text : ℕ → Text → Text
symbols_text base s = told_text (symbols base s)
