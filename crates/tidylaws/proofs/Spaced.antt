-- Texts whose blanks are lone spaces between other bytes: what squeezing gives, and what it leaves as it is. Assumes nothing.
use Prim.Native.Nat.{ℕ, ◌<◌}
use mathlib.Core.Path.{◌≡◌, refl, ap, ◌∙◌}
use mathlib.Core.Bool.{Bool, true, false}
use mathlib.Core.List.{List, [], ◌∷◌, ◌++◌}
use native.Mathlib.Omega.{arith}
use lib.ListN.{length}
use Rattle.rules.specs.Text.{Text, blank, leading, trim, on_first, cut_where, drop_empty, pieces, join_more, joined}
use Rattle.text.specs.Pieces.{run}
use Rattle.text.proofs.Until.{until_here, until_later, cut_here, cut_later}
use Rattle.text.proofs.Trim.{leading_none, first_none}
use Rattle.text.proofs.Pieces.{pieces_trim}
use Rattle.text.proofs.Joined.{Word, Words, no_words, more_words, pieces_words}
use Rattle.requests.specs.Tidy.{squeezed}
use Rattle.promises.specs.Tidy.{Spaced, nothing, byte, space, Squeezes}
use Rattle.tidylaws.proofs.Neat.{pieces_squeezed, squeezed_trim}

-- ---- words joined
-- what may stand after a word: nothing, or a space and another word
data After : Text → Type 0 where
  ended : After []
  spaced_on : {c : ℕ} {s : Text} → Spaced (c ∷ s) → After (32 ∷ c ∷ s)

alone : (b : ℕ) → blank b ≡ false → {y : Text} → After y → Spaced (b ∷ y)
alone b e ended = byte e nothing
alone b e (spaced_on s) = space e s

no_blank : (b : ℕ) (p : Text) → run (b ∷ p) ≡ length (b ∷ p) → blank b ≡ false
no_blank b p h = go (blank b) refl
  where
    go : (x : Bool) → blank b ≡ x → blank b ≡ false
    go true e = absurd (omega (arith, until_here blank b p e))
    go false e = e

front : (b : ℕ) (p : Text) → run (b ∷ p) ≡ length (b ∷ p) → (y : Text) → After y → Spaced ((b ∷ p) ++ y)
front b [] h y a = alone b (no_blank b [] h) a
front b (c ∷ p) h y a = let e = no_blank b (c ∷ p) h in byte e (front c p (omega (arith, until_later blank b (c ∷ p) e)) y a)

spaced_word : (p y : Text) → Word p → After y → Spaced (p ++ y)
spaced_word [] y w a = absurd (omega (arith, w.some))
spaced_word (b ∷ p) y w a = front b p w.whole y a

after_word : (p y : Text) → Word p → Spaced (p ++ y) → After (32 ∷ (p ++ y))
after_word [] y w s = absurd (omega (arith, w.some))
after_word (b ∷ p) y w s = spaced_on s

after_more : {ps : List Text} → Words ps → After (join_more ps)
unfolding join_more
after_more no_words = ended
after_more (more_words {p} {ps} w ws) = after_word p (join_more ps) w (spaced_word p (join_more ps) w (after_more ws))

spaced_joined : {ps : List Text} → Words ps → Spaced (joined ps)
unfolding joined
spaced_joined no_words = nothing
spaced_joined (more_words {p} {ps} w ws) = spaced_word p (join_more ps) w (after_more ws)

pub squeezes : (s : Text) → Squeezes s (squeezed s)
unfolding squeezed
squeezes s = record { pieces_kept = pieces_squeezed s; spaced = spaced_joined (pieces_words s) }

pub squeezes_trim : (s : Text) → Squeezes s (squeezed (trim s))
squeezes_trim s = rw (squeezed_trim s) (squeezes s)

-- ---- such a text is its pieces joined
drop_on_first : (b c : ℕ) (ps : List Text) → drop_empty (on_first b (on_first c ps)) ≡ on_first b (drop_empty (on_first c ps))
unfolding on_first drop_empty
drop_on_first b c [] = refl
drop_on_first b c (p ∷ ps) = refl

pieces_byte : (b : ℕ) (s : Text) → blank b ≡ false → leading s ≡ 0 → pieces (b ∷ s) ≡ on_first b (pieces s)
unfolding pieces cut_where drop_empty on_first
pieces_byte b [] e z = ap drop_empty (cut_later blank b [] e)
pieces_byte b (c ∷ s) e z = rw (cut_later blank b (c ∷ s) e, cut_later blank c s (first_none c s z)) (drop_on_first b c (cut_where blank s))

pieces_space : (b : ℕ) (s : Text) → blank b ≡ false → pieces (b ∷ 32 ∷ s) ≡ (b ∷ []) ∷ pieces s
unfolding pieces drop_empty on_first blank
pieces_space b s e = rw (cut_later blank b (32 ∷ s) e, cut_here blank 32 s refl)

joined_on_first : (b : ℕ) (ps : List Text) → joined (on_first b ps) ≡ b ∷ joined ps
unfolding join_more joined on_first
joined_on_first b [] = refl
joined_on_first b (p ∷ ps) = refl

more_joined : (ps : List Text) → 0 < length (joined ps) → join_more ps ≡ 32 ∷ joined ps
unfolding join_more joined
more_joined [] h = absurd (omega arith)
more_joined (p ∷ ps) h = refl

spaced_leads : {t : Text} → Spaced t → leading t ≡ 0
unfolding leading
spaced_leads nothing = refl
spaced_leads (byte {b} {s} e q) = leading_none b s e
spaced_leads (space {b} {c} {s} e q) = leading_none b (32 ∷ c ∷ s) e

squeezed_spaced : {t : Text} → Spaced t → joined (pieces t) ≡ t
unfolding pieces cut_where drop_empty joined
squeezed_spaced nothing = refl
squeezed_spaced (byte {b} {s} e q) = rw (pieces_byte b s e (spaced_leads q)) (joined_on_first b (pieces s) ∙ ap (λ (t : Text). b ∷ t) (squeezed_spaced q))
squeezed_spaced (space {b} {c} {s} e q) =
    let ih : joined (pieces (c ∷ s)) ≡ c ∷ s = squeezed_spaced q in
    let some : 0 < length (joined (pieces (c ∷ s))) = rw ih (omega arith) in
    rw (pieces_space b (c ∷ s) e) (ap (λ (t : Text). b ∷ t) (more_joined (pieces (c ∷ s)) some ∙ ap (λ (t : Text). 32 ∷ t) ih))

-- so squeezing is what `Squeezes` says, and nothing else
pub squeezes_is : {s t : Text} → Squeezes s t → squeezed (trim s) ≡ t
unfolding squeezed
squeezes_is {s} q = rw (pieces_trim s, ← q.pieces_kept) (squeezed_spaced q.spaced)
