-- What follows a text's front. Assumes nothing.
use Rattle.std.proofs.Common.{◌≡◌, ℕ, Bool, true, false, eqb, [], ◌∷◌, ◌++◌, drop, refl, sym, ap, ◌∙◌}
use Rattle.std.specs.Prelude.{Option, None, Some}
use Rattle.std.specs.Str.Pattern.{LacksTextAt}
use Rattle.rules.specs.Text.{Text, after}
use borrow.Author.Tests.{eqb-true, eq-eqb}

after_front : (n t : Text) → after n (n ++ t) ≡ Some t
unfolding after
after_front [] t = refl
after_front (a ∷ n) t = let e = eq-eqb a a refl in rw (after, e) (after_front n t)

cut_by : (a b : ℕ) (n s : Text) (x : Bool) → eqb a b ≡ x → after (a ∷ n) (b ∷ s) ≡ elim x [ true ↦ after n s | false ↦ None ]
unfolding after
cut_by a b n s x e = rw (after, e) refl

pub front_of : (n s r : Text) → after n s ≡ Some r → s ≡ n ++ r
unfolding after
front_of [] s r e = cc
front_of (a ∷ n) [] r e = absurd cc
front_of (a ∷ n) (b ∷ s) r e = go (eqb a b) refl (front_of n s r)
  where
    go : (x : Bool) → eqb a b ≡ x → (after n s ≡ Some r → s ≡ n ++ r) → b ∷ s ≡ a ∷ (n ++ r)
    go true h k = rw (sym (eqb-true a b h)) (ap (λ t. a ∷ t) (k (sym (cut_by a b n s true h) ∙ e)))
    go false h k = let f : ◌≡◌ {A = Option Text} None (Some r) = sym (cut_by a b n s false h) ∙ e in absurd cc

module _ (n s : Text) where
  pub stripped : (k : ℕ) (r : Text) → s ≡ n ++ drop k s → r ≡ drop k s → after n s ≡ Some r
  stripped k r e f = rw f (ap (after n) e ∙ after_front n (drop k s))

  pub not_stripped : LacksTextAt n s 0 → after n s ≡ None
  not_stripped h = go (after n s) refl
    where
      go : (o : Option Text) → after n s ≡ o → after n s ≡ None
      go None e = e
      go (Some r) e = absurd (h r (front_of n s r e))
