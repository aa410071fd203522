-- Prefixes: `$` and `0x`, what they take off a text, and the reader that goes by them. Assumes nothing.
use Rattle.std.specs.Prelude.{Option, None, Some}
use Rattle.std.proofs.Common.{◌≡◌, ℕ, ◌-◌, ◌<◌, ◌≤◌, Bool, true, false, eqb, [], ◌∷◌, length, get_or, take, drop, sym, refl, ◌∙◌, arith, length-drop, take_all, ne_eqb, eqb-true}
use lib.ListN.{get_or-eq_default}
use borrow.Author.Tests.{eqb-false}
use Rattle.rules.specs.Text.{Text, bytes, after}
use Rattle.rules.specs.Number.{hex_tail}
use Rattle.numeral.specs.Number.{prefix_length}

-- how a text starts
data Start : Text → Type 0 where
  plain : {t : Text} → hex_tail t ≡ None → Start t
  dollar : (s : Text) → Start (36 ∷ s)
  zero_x : (s : Text) → Start (48 ∷ 120 ∷ s)

pub after_not : (a : ℕ) (p : Text) (b : ℕ) (s : Text) → (b ≡ a → ⊥) → after (a ∷ p) (b ∷ s) ≡ None
unfolding after
after_not a p b s n = rw (ne_eqb a b (λ e. n (sym e)), after)

no_dollar : (b : ℕ) (s : Text) → (b ≡ 36 → ⊥) → hex_tail (b ∷ s) ≡ after (bytes "0x") (b ∷ s)
unfolding hex_tail bytes
no_dollar b s n = rw (after_not 36 [] b s n, hex_tail)

zero_then : (s : Text) → Start (48 ∷ s)
unfolding hex_tail bytes after
zero_then [] = plain refl
zero_then (c ∷ s) = go (eqb c 120) refl
  where
    go : (x : Bool) → eqb c 120 ≡ x → Start (48 ∷ c ∷ s)
    go true e = rw (eqb-true c 120 e) (zero_x s)
    go false e = plain (after_not 120 [] c s (eqb-false c 120 e))

start : (t : Text) → Start t
unfolding hex_tail bytes after
start [] = plain refl
start (b ∷ s) = go (eqb b 36) refl (eqb b 48) refl
  where
    go : (x : Bool) → eqb b 36 ≡ x → (y : Bool) → eqb b 48 ≡ y → Start (b ∷ s)
    go true e y f = rw (eqb-true b 36 e) (dollar s)
    go false e true f = rw (eqb-true b 48 f) (zero_then s)
    go false e false f = plain (no_dollar b s (eqb-false b 36 e) ∙ after_not 48 (120 ∷ []) b s (eqb-false b 48 f))

plain_length : (t : Text) → hex_tail t ≡ None → prefix_length t ≡ 0
unfolding prefix_length
plain_length t e = rw (e, prefix_length)

dollar_length : (s : Text) → prefix_length (36 ∷ s) ≡ 1
unfolding prefix_length hex_tail bytes after
dollar_length s = omega arith

zero_x_length : (s : Text) → prefix_length (48 ∷ 120 ∷ s) ≡ 2
unfolding prefix_length hex_tail bytes after
zero_x_length s = omega arith

dollar_tail : (s : Text) → hex_tail (36 ∷ s) ≡ Some s
unfolding hex_tail bytes after
dollar_tail s = refl

zero_x_tail : (s : Text) → hex_tail (48 ∷ 120 ∷ s) ≡ Some s
unfolding hex_tail bytes after
zero_x_tail s = refl

-- what the code's tests say of the length
pub one : (t : Text) → get_or t 0 0 ≡ 36 → 1 ≡ prefix_length t
one [] e = absurd (omega arith)
one (b ∷ s) e = rw e (sym (dollar_length s))

pub two : (t : Text) → get_or t 0 0 ≡ 48 → get_or t 1 0 ≡ 120 → 2 ≡ prefix_length t
two [] e f = absurd (omega arith)
two (b ∷ []) e f = absurd (omega arith)
two (b ∷ c ∷ s) e f = rw (e, f) (sym (zero_x_length s))

pub neither : (t : Text) → (get_or t 0 0 ≡ 36 → ⊥) → (get_or t 0 0 ≡ 48 → get_or t 1 0 ≡ 120 → ⊥) → 0 ≡ prefix_length t
neither t n m = go t (start t) n m
  where
    go : (t : Text) → Start t → (get_or t 0 0 ≡ 36 → ⊥) → (get_or t 0 0 ≡ 48 → get_or t 1 0 ≡ 120 → ⊥) → 0 ≡ prefix_length t
    go t (plain e) n m = sym (plain_length t e)
    go t (dollar s) n m = absurd (n refl)
    go t (zero_x s) n m = absurd (m refl refl)

pub no_byte : (t : Text) → length t < 1 → 0 ≡ prefix_length t
unfolding prefix_length hex_tail bytes after
no_byte [] h = refl
no_byte (b ∷ s) h = absurd (omega arith)

pub one_byte : (t : Text) → length t ≡ 1 → (get_or t 0 0 ≡ 36 → ⊥) → 0 ≡ prefix_length t
one_byte t h n = neither t n (λ e f. omega (arith, get_or-eq_default t 0 {n = 1} (omega arith)))

-- without a prefix there is no tail; else the tail is the text without as many bytes
pub unprefixed : (t : Text) → prefix_length t ≡ 0 → hex_tail t ≡ None
unprefixed t h = go t (start t) h
  where
    go : (t : Text) → Start t → prefix_length t ≡ 0 → hex_tail t ≡ None
    go t (plain e) h = e
    go t (dollar s) h = absurd (omega (arith, dollar_length s))
    go t (zero_x s) h = absurd (omega (arith, zero_x_length s))

pub prefixed : (t : Text) → (prefix_length t ≡ 0 → ⊥) → hex_tail t ≡ Some (drop (prefix_length t) t)
prefixed t n = go t (start t) n
  where
    go : (t : Text) → Start t → (prefix_length t ≡ 0 → ⊥) → hex_tail t ≡ Some (drop (prefix_length t) t)
    go t (plain e) n = absurd (n (plain_length t e))
    go t (dollar s) n = rw (dollar_length s) (dollar_tail s)
    go t (zero_x s) n = rw (zero_x_length s) (zero_x_tail s)

pub prefix_in : (t : Text) → prefix_length t ≤ length t
unfolding prefix_length
prefix_in t = go (hex_tail t)
  where
    go : (o : Option Text) → elim o [ None ↦ 0 | Some u ↦ length t - length u ] ≤ length t
    go None = omega arith
    go (Some u) = omega arith

-- the rest of a text, as a slice has it
pub rest : (n : ℕ) (t : Text) → take (length t - n) (drop n t) ≡ drop n t
rest n t = take_all (length t - n) (drop n t) (simp length-drop (omega arith))

-- what follows the prefix, where the code has its length n
pub tail_plain : (t : Text) → 0 ≡ prefix_length t → None ≡ hex_tail t
tail_plain t e = sym (unprefixed t (sym e))

pub tail_hex : (t : Text) (n : ℕ) → n ≡ prefix_length t → (n ≡ 0 → ⊥) → Some (take (length t - n) (drop n t)) ≡ hex_tail t
tail_hex t n e h = rw (rest n t, e, prefixed t (λ k. h (e ∙ k)))
