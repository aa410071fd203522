-- Texts without outer blanks: trimmed, squeezed, and around a colon. Assumes nothing.
use Prim.Native.Nat.{ℕ, ◌<◌}
use mathlib.Core.Path.{◌≡◌, refl, sym, ap, ◌∙◌}
use mathlib.Core.Bool.{Bool, true, false}
use mathlib.Core.List.{List, [], ◌∷◌, ◌++◌, append-nil}
use native.Mathlib.Omega.{arith}
use lib.ListN.{length, length-append}
use Rattle.rules.specs.Text.{Text, blank, leading, trim_start, keep_end, trim_end, trim, pieces, join_more, joined, first_text}
use Rattle.text.specs.Pieces.{run}
use Rattle.text.proofs.Until.{until_here, until_later}
use Rattle.text.proofs.Trim.{leading_none, first_none, drop_leading, keep_end_none, leading_trim, trim_trim}
use Rattle.text.proofs.Pieces.{pieces_trim}
use Rattle.text.proofs.Joined.{Word, Words, no_words, more_words, pieces_words, pieces_joined}
use Rattle.requests.specs.Tidy.{squeezed}
use Rattle.tidylaws.proofs.Hits.{first_byte}

-- no blank leads and none ends the text
pub record Neat (s : Text) : Type 0 where
  pub front : leading s ≡ 0
  pub back : trim_end s ≡ s

start_none : (s : Text) → leading s ≡ 0 → trim_start s ≡ s
start_none s z = sym (drop_leading s) ∙ rw z

pub neat_is : (s : Text) → Neat s → trim s ≡ s
unfolding trim
neat_is s n = ap trim_end (start_none s n.front) ∙ n.back

end_again : (s : Text) → trim_end (trim_start (trim s)) ≡ trim s
unfolding trim
end_again s = trim_trim s

pub neat_trim : (s : Text) → Neat (trim s)
neat_trim s = record { front = leading_trim s; back = sym (ap trim_end (start_none (trim s) (leading_trim s))) ∙ end_again s }

-- ---- the end of texts put together
keep_some : (b : ℕ) (s : Text) → 0 < length s → keep_end b s ≡ b ∷ s
unfolding keep_end
keep_some b [] h = absurd (omega arith)
keep_some b (c ∷ s) h = refl

end_append : (x y : Text) → trim_end y ≡ y → 0 < length y → trim_end (x ++ y) ≡ x ++ y
unfolding trim_end
end_append [] y e h = e
end_append (b ∷ x) y e h = rw (end_append x y e h) (keep_some b (x ++ y) (rw (length-append x y) (omega arith)))

end_whole : (p : Text) → run p ≡ length p → trim_end p ≡ p
unfolding trim_end
end_whole [] h = refl
end_whole (b ∷ p) h = go (blank b) refl (end_whole p)
  where
    go : (y : Bool) → blank b ≡ y → (run p ≡ length p → trim_end p ≡ p) → keep_end b (trim_end p) ≡ b ∷ p
    go true e ih = absurd (omega (arith, until_here blank b p e))
    go false e ih = rw (ih (omega (arith, until_later blank b p e))) (keep_end_none b p e)

-- ---- words joined
pub some_joined : {p : Text} {ps : List Text} → Words (p ∷ ps) → 0 < length (joined (p ∷ ps))
unfolding joined
some_joined {p} {ps} (more_words w ws) = rw (length-append p (join_more ps)) (omega (arith, w.some))

end_joined : {ps : List Text} → Words ps → trim_end (joined ps) ≡ joined ps
unfolding joined join_more trim_end
end_joined no_words = refl
end_joined (more_words {p} w no_words) = rw (append-nil p) (end_whole p w.whole)
end_joined (more_words {p} w (more_words {p = q} {ps} v ws)) =
    end_append p (32 ∷ joined (q ∷ ps)) (rw (end_joined (more_words v ws)) (keep_some 32 (joined (q ∷ ps)) (some_joined (more_words v ws)))) (omega arith)

-- a byte in front that is no blank
front_append : (x y : Text) → leading x ≡ 0 → 0 < length x → leading (x ++ y) ≡ 0
front_append [] y z h = absurd (omega arith)
front_append (b ∷ x) y z h = leading_none b (x ++ y) (first_none b x z)

front_word : (p : Text) → Word p → leading p ≡ 0
front_word [] w = absurd (omega (arith, w.some))
front_word (b ∷ p) w = go (blank b) refl
  where
    go : (y : Bool) → blank b ≡ y → leading (b ∷ p) ≡ 0
    go true e = absurd (omega (arith, until_here blank b p e, w.whole))
    go false e = leading_none b p e

front_joined : {ps : List Text} → Words ps → leading (joined ps) ≡ 0
unfolding joined leading
front_joined no_words = refl
front_joined (more_words {p} {ps} w ws) = front_append p (join_more ps) (front_word p w) w.some

-- ---- squeezed texts
pub neat_squeezed : (s : Text) → Neat (squeezed s)
unfolding squeezed
neat_squeezed s = record { front = front_joined (pieces_words s); back = end_joined (pieces_words s) }

pub pieces_squeezed : (s : Text) → pieces (squeezed s) ≡ pieces s
unfolding squeezed
pieces_squeezed s = pieces_joined (pieces s) (pieces_words s)

pub squeezed_same : (s t : Text) → pieces s ≡ pieces t → squeezed s ≡ squeezed t
unfolding squeezed
squeezed_same s t e = ap joined e

pub squeezed_trim : (s : Text) → squeezed (trim s) ≡ squeezed s
squeezed_trim s = squeezed_same (trim s) s (pieces_trim s)

pub squeezed_again : (s : Text) → squeezed (squeezed s) ≡ squeezed s
squeezed_again s = squeezed_same (squeezed s) s (pieces_squeezed s)

-- ---- around a colon
pub neat_colon : (x y : Text) → leading x ≡ 0 → trim_end y ≡ y → Neat (x ++ (58 ∷ y))
unfolding trim_end blank
neat_colon x y z e = record { front = front x z; back = end_append x (58 ∷ y) (rw e (keep_end_none 58 y refl)) (omega arith) }
  where
    front : (x : Text) → leading x ≡ 0 → leading (x ++ (58 ∷ y)) ≡ 0
    front [] z = leading_none 58 y refl
    front (b ∷ x) z = leading_none b (x ++ (58 ∷ y)) (first_none b x z)

-- ---- a text that no blank leads has a piece
some_of : (ps : List Text) → 0 < length (first_text ps) → 0 < length (joined ps)
unfolding joined first_text
some_of [] h = h
some_of (p ∷ ps) h = rw (length-append p (join_more ps)) (omega arith)

pub some_squeezed : (s : Text) → leading s ≡ 0 → 0 < length s → 0 < length (squeezed s)
unfolding squeezed
some_squeezed [] z h = absurd (omega arith)
some_squeezed (b ∷ s) z h = some_of (pieces (b ∷ s)) (rw (first_byte b s (first_none b s z)) (omega arith))
