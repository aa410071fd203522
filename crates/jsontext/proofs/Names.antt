-- A part of a source with no byte above 127 is text. Assumes nothing.
use Rattle.std.proofs.Common.{ℕ, suc, ◌≡◌, ◌<◌, Bool, true, false, List, [], ◌∷◌, Option, None, Some, take, drop, refl, arith}
use Rattle.std.specs.Prelude.{ltb, IsUtf8}
use Rattle.std.specs.List.{All}
use Rattle.std.proofs.lemmas.List.Elements.{All-nil, All-cons, All-take, All-drop}
use Rattle.std.proofs.lemmas.Str.Ascii.{IsAscii-from_all}
use Rattle.std.proofs.lemmas.Str.{IsUtf8-from_ascii}
use mathlib.Core.Bool.{false≢true}
use borrow.Author.Tests.{ltb-false}
use Rattle.rules.specs.Assemble.{first_high}

step : (i b : ℕ) (s : List ℕ) (t : Bool) → ltb 127 b ≡ t → ◌≡◌ {A = Option ℕ} (elim t [ true ↦ Some i | false ↦ first_high (suc i) s ]) None → (first_high (suc i) s ≡ None → All (λ c. c < 128) s)
    → All (λ c. c < 128) (b ∷ s)
step i b s true e h f = absurd (false≢true cc)
step i b s false e h f = All-cons (λ c. c < 128) b s (omega (arith, ltb-false 127 b e)) (f h)

low_bytes : (i : ℕ) (s : List ℕ) → first_high i s ≡ None → All (λ c. c < 128) s
unfolding first_high
low_bytes i [] h = All-nil (λ c. c < 128)
low_bytes i (b ∷ s) h = step i b s (ltb 127 b) refl h (low_bytes (suc i) s)

pub part_is_text : (s : List ℕ) (a n : ℕ) → first_high 0 s ≡ None → IsUtf8 (take n (drop a s))
part_is_text s a n h = IsUtf8-from_ascii _ (IsAscii-from_all _ (All-take (λ c. c < 128) n _ (All-drop (λ c. c < 128) a s (low_bytes 0 s h))))
