-- The words that were read, argument by argument. Assumes nothing.
use Rattle.std.proofs.Common.{◌≡◌, ◌∙◌, ℕ, suc, ◌+◌, ◌<◌, List, [], ◌∷◌, ◌++◌, length, take, drop, map, sym, refl, ap, add-one, drop_of_length-le, drop-cons}
use Rattle.std.specs.Prelude.{Option, None, Some, Ok, IfSome}
use Rattle.rules.specs.Text.{Text}
use Rattle.console.specs.Arguments.{Puts}
use Rattle.cli_args.specs.Words.{WordAt, word_text, words_behind}

-- with the texts so far, the arguments from k on are left
abbrev pub Left : ℕ → List Text → List Text → Type 0
Left k texts known = words_behind known ≡ texts ++ map word_text (drop k known)

appended : (xs : List Text) (x : Text) (ys : List Text) → xs ++ x ∷ ys ≡ (xs ++ x ∷ []) ++ ys
appended [] x ys = refl
appended (y ∷ xs) x ys = ap (λ t. y ∷ t) (appended xs x ys)

nothing_behind : (xs : List Text) → xs ++ [] ≡ xs
nothing_behind [] = refl
nothing_behind (y ∷ xs) = ap (λ t. y ∷ t) (nothing_behind xs)

pub begins : (known : Option (List Text)) → IfSome known (Left 1 [])
begins None = tt
begins (Some a) = refl

step : (k : ℕ) (texts : List Text) (bytes text : Text) (a : List Text) → Left k texts a → WordAt a k (Some bytes) → text ≡ word_text bytes → Left (k + 1) (texts ++ text ∷ []) a
step k texts bytes text a h w e =
    let more : k < length a = w.0 in
    h ∙ rw (drop-cons a k [], ← w.1, ← e, add-one k) (appended texts text (map word_text (drop (suc k) a)))

pub steps : (known : Option (List Text)) (k : ℕ) (texts : List Text) (bytes text : Text) → IfSome known (Left k texts) → IfSome known (λ a. WordAt a k (Some bytes)) → text ≡ word_text bytes → IfSome known (Left (k + 1) (texts ++ text ∷ []))
steps None k texts bytes text h w e = tt
steps (Some a) k texts bytes text h w e = step k texts bytes text a h w e

pub ends : (known : Option (List Text)) (k : ℕ) (texts : List Text) → IfSome known (Left k texts) → IfSome known (λ a. WordAt a k None) → IfSome known (λ a. texts ≡ words_behind a)
ends None k texts h w = tt
ends (Some a) k texts h w = sym (h ∙ rw (drop_of_length-le a w) (nothing_behind texts))

pub placed : (known : Option (List Text)) (k : ℕ) (text : Text) (n : ℕ) → IfSome known (λ a. Puts a k text (Ok n)) → IfSome known (λ a. WordAt a k (Some (take n text)))
placed None k text n h = tt
placed (Some a) k text n h = (h.0, h.1.1)
