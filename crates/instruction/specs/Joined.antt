-- A text whose pieces stand joined already: blanks as `joined` writes them, and nowhere else. Assumes nothing.
use Rattle.std.specs.Prelude.{Bool, true, false, not, ◌&&◌, ◌||◌, [], ◌∷◌, eqb}
use Rattle.rules.specs.Text.{Text, blank}

-- a byte that is no blank stands in front
unfoldable pub is_filled : Text → Bool
is_filled [] = false
is_filled (b ∷ s) = not (blank b)

-- the first byte is no blank, or it is one byte 32 with a byte after it that is none
unfoldable pub is_single : Text → Bool
is_single [] = true
is_single (b ∷ s) = not (blank b) || eqb b 32 && is_filled s

-- every blank is one byte 32 with a byte after it that is none
unfoldable pub is_joined : Text → Bool
is_joined [] = true
is_joined (b ∷ s) = is_single (b ∷ s) && is_joined s
