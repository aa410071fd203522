-- The first piece of an instruction's text: the mnemonic's place, the suffix, and where the tail starts. Assumes nothing.
use Rattle.std.specs.Prelude.{ℕ, ◌+◌, ◌≤◌, ◌≡◌, Bool, ◌||◌, cond, List, [], ◌∷◌, eqb, length, drop, Option, None, Some}
use Rattle.rules.specs.Text.{Text, bytes, blank, leading, cut_at, pieces, same, nth, first_text, other_texts}
use Rattle.text.specs.Spans.{part}
use Rattle.instruction.specs.declared.Suffix.{Suffix}
use Rattle.instruction.specs.declared.Suffix.TheVariants.{None, Empty, Long, Word, Other}
use Rattle.instruction.specs.declared.Head.{Head}

-- the mnemonic, the suffix and whatever more dots cut off
abbrev pub head_parts : Text → List Text
head_parts t = cut_at 46 (first_text (pieces t))

-- the suffix as written, none without a dot
abbrev pub suffix_text : Text → Option Text
suffix_text t = nth 1 (head_parts t)

-- what it is
unfoldable pub suffix_by : Text → Suffix
suffix_by [] = Empty
suffix_by (b ∷ s) = cond (same (b ∷ s) (bytes "L")) Long (cond (same (b ∷ s) (bytes "W")) Word Other)

unfoldable pub suffix_of : Option Text → Suffix
suffix_of None = None
suffix_of (Some s) = suffix_by s

-- by the text after the mnemonic's dot
abbrev pub suffix_in : Text → Suffix
suffix_in t = suffix_by (first_text (cut_at 46 t))

-- a byte that ends the mnemonic: a blank or a dot
unfoldable pub ends_name : ℕ → Bool
ends_name b = blank b || eqb 46 b

-- the first piece starts after the blanks in front, and the tail after that piece
unfoldable pub head_of : Text → Head
head_of t =
    record {
      start = leading t;
      end = leading t + length (first_text (head_parts t));
      tail = leading t + length (first_text (pieces t));
    }

-- what a head h says of a text t: the parts it marks are the mnemonic and, after `tail`, the other pieces
pub record HeadOf (t : Text) (h : Head) : Type 0 where
  pub ordered : h.start ≤ h.end
  pub before : h.end ≤ h.tail
  pub within : h.tail ≤ length t
  pub mnemonic : part t h.start h.end ≡ first_text (head_parts t)
  pub others : pieces (drop h.tail t) ≡ other_texts (pieces t)
