-- Texts made of parts, one after the other. Assumes nothing.
use Rattle.std.proofs.Common.{◌≡◌, ◌∙◌, ℕ, zero, suc, ◌+◌, ◌<◌, ◌≤◌, List, [], ◌∷◌, ◌++◌, length, get_or, drop, sym, refl, ap, add-one, drop_of_length-le, drop-cons}
use Rattle.std.proofs.lemmas.List.{append_assoc, append-nil}
use Rattle.rules.specs.Text.{Text}
use Rattle.cli_args.specs.Help.{spaces, lines_of}

-- ---- spaces
pub one_space_more : (n : ℕ) → spaces n ++ 32 ∷ [] ≡ spaces (n + 1)
unfolding spaces
one_space_more n = go n ∙ ap spaces (sym (add-one n))
  where
    go : (n : ℕ) → spaces n ++ 32 ∷ [] ≡ spaces (suc n)
    go zero = refl
    go (suc n) = ap (λ t. 32 ∷ t) (go n)

-- ---- the parts: with this text so far, those from k on are left
module _ {A : Type 0} (f : A → Text) (xs : List A) where
  abbrev pub Rest : ℕ → Text → Type 0
  Rest k t = lines_of f xs ≡ t ++ lines_of f (drop k xs)

  pub first : Rest 0 []
  first = refl

  pub next : (k : ℕ) (t u : Text) (d : A) → Rest k t → k < length xs → u ≡ f (get_or xs k d) → Rest (k + 1) (t ++ u)
  unfolding lines_of
  next k t u d r h e = r ∙ rw (drop-cons xs k d, lines_of, ← e, add-one k) (sym (append_assoc t u (lines_of f (drop (suc k) xs))))

  pub last : (k : ℕ) (t : Text) → Rest k t → length xs ≤ k → t ≡ lines_of f xs
  unfolding lines_of
  last k t r h = sym (r ∙ rw (drop_of_length-le xs h, lines_of) (append-nil t))
