-- The words of what is given. Assumes nothing.
use Rattle.std.proofs.Common.{◌≡◌, ◌∙◌, ℕ, zero, suc, ◌≤◌, Bool, true, false, cond, List, [], ◌∷◌, ◌++◌, length, map, sym, refl, ap, inl, inr, arith}
use Rattle.std.specs.Prelude.{◌⊎◌, Option, None, Some, codes}
use Rattle.std.proofs.lemmas.List.{append-nil}
use Rattle.rules.specs.Text.{Text}
use Rattle.cli_args.specs.Table.{option_name}
use Rattle.cli_args.specs.declared.Command.{Command}
use Rattle.cli_args.specs.declared.Setting.{Setting}
use Rattle.cli_args.specs.declared.Setting.TheVariants as setting
use Rattle.cli_args.specs.Given.{Given, operand}
use Rattle.cli_args.specs.Asked.{Three, is_setting, values_of, last_of, tries_of, operands_of, operand_at}
use Rattle.cli_args.specs.Stated.{Among, IsAttached, Follows, IsValueOf, Spelled, no_more, after_dashes, as_flag, as_attached, as_value, as_tries, as_operand}
use Rattle.cli_args.proofs.Spelling.{same_setting}

-- ---- the last, and the one at a place
pub last_among : (ws : List Text) (w : Text) → last_of ws ≡ Some w → Among w ws
unfolding last_of
last_among [] w h = absurd cc
last_among (x ∷ xs) w h = go (last_of xs) refl h (last_among xs w)
  where
    go : (o : Option Text) → last_of xs ≡ o → ◌≡◌ {A = Option Text} (elim o [ None ↦ Some x | Some y ↦ Some y ]) (Some w) → (last_of xs ≡ Some w → Among w xs) → Among w (x ∷ xs)
    go None e h k = let q : x ≡ w = cc in inl (sym q)
    go (Some y) e h k = inr (k (e ∙ h))

pub operand_among : (k : ℕ) (ws : List Text) (w : Text) → operand_at k ws ≡ Some w → Among w ws
unfolding operand_at
operand_among k [] w h = absurd cc
operand_among zero (x ∷ xs) w h = let q : x ≡ w = cc in inl (sym q)
operand_among (suc k) (x ∷ xs) w h = inr (operand_among k xs w h)

pub no_operand_left : (k : ℕ) (ws : List Text) → operand_at k ws ≡ None → length ws ≤ k
unfolding operand_at
no_operand_left k [] h = omega arith
no_operand_left zero (x ∷ xs) h = absurd cc
no_operand_left (suc k) (x ∷ xs) h = let r : length xs ≤ k = no_operand_left k xs h in omega arith

-- ---- after --
plain_values : (s : Setting) (ws : List Text) → values_of s (map operand ws) ≡ []
unfolding values_of
plain_values s [] = refl
plain_values s (w ∷ ws) = plain_values s ws

plain_tries : (ws : List Text) → tries_of (map operand ws) ≡ []
unfolding tries_of
plain_tries [] = refl
plain_tries (w ∷ ws) = plain_tries ws

plain_operands : (ws : List Text) → operands_of (map operand ws) ≡ ws
unfolding operands_of
plain_operands [] = refl
plain_operands (w ∷ ws) = ap (λ t. w ∷ t) (plain_operands ws)

-- ---- a value of an option
pub later : (s : Setting) (v w : Text) (ws : List Text) → IsValueOf s v ws → IsValueOf s v (w ∷ ws)
later s v w ws (inl a) = inl (a.0, inr a.1, a.2)
later s v w ws (inr f) = inr (inr f)

-- of the first that is given, or of those after it
value_first : (s t : Setting) (v u : Text) (us : List Text) (A : Type 0) → (s ≡ t → v ≡ u → A) → (Among v us → A)
    → Among v (elim (cond (is_setting s t) (Some u) None) [ None ↦ us | Some x ↦ x ∷ us ]) → A
value_first s t v u us A f g h = go (is_setting s t) refl h
  where
    go : (b : Bool) → is_setting s t ≡ b → Among v (elim (cond b (Some u) None) [ None ↦ us | Some x ↦ x ∷ us ]) → A
    go true e (inl q) = f (same_setting s t e) q
    go true e (inr q) = g q
    go false e q = g q

module _ (c : Command) (s : Setting) (v : Text) where
  pub spelled_value : (gs : List Given) (ws : List Text) → Spelled c gs ws → Among v (values_of s gs) → IsValueOf s v ws
  unfolding values_of
  spelled_value gs ws no_more h = absurd h
  spelled_value gs ws (after_dashes w _ xs e f) h =
      let k : Among v (values_of s (map operand xs)) = rw f at h in
      let n : Among v [] = rw (plain_values s xs) at k in
      absurd n
  spelled_value gs ws (as_flag t w hs xs e p) h = later s v w xs (spelled_value hs xs p h)
  spelled_value gs ws (as_attached t u w hs xs a p) h =
      value_first s t v u (values_of s hs) (IsValueOf s v (w ∷ xs))
      (λ q r. inl (w, inl refl, rw (q, r) a)) (λ k. later s v w xs (spelled_value hs xs p k)) h
  spelled_value gs ws (as_value t u w hs xs e p) h =
      value_first s t v u (values_of s hs) (IsValueOf s v (w ∷ u ∷ xs))
      (λ q r. inr (inl (e ∙ ap option_name (sym q), sym r))) (λ k. later s v w (u ∷ xs) (later s v u xs (spelled_value hs xs p k))) h
  spelled_value gs ws (as_tries a b d w hs xs e p) h =
      later s v w (a ∷ b ∷ d ∷ xs) (later s v a (b ∷ d ∷ xs) (later s v b (d ∷ xs) (later s v d xs (spelled_value hs xs p h))))
  spelled_value gs ws (as_operand w hs xs i p) h = later s v w xs (spelled_value hs xs p h)

-- a word that begins with the option's name
abbrev BeginsWith : Setting → List Text → Type 0
BeginsWith s ws = (w : Text) × Among w ws × (t : Text) × (w ≡ option_name s ++ t)

attached_begins : (s : Setting) (v w : Text) → IsAttached s v w → (t : Text) × (w ≡ option_name s ++ t)
attached_begins s v w (inl e) = (codes "=" ++ v, e)
attached_begins s v w (inr e) = (v, e.1)

follows_begins : (s : Setting) (v : Text) (ws : List Text) → Follows (option_name s) v ws → BeginsWith s ws
follows_begins s v [] h = absurd h
follows_begins s v (x ∷ xs) (inl h) = (x, inl refl, [], h.0 ∙ sym (append-nil (option_name s)))
follows_begins s v (x ∷ xs) (inr h) = let r = follows_begins s v xs h in (r.0, inr r.1, r.2, r.3)

value_begins : (s : Setting) (v : Text) (ws : List Text) → IsValueOf s v ws → BeginsWith s ws
value_begins s v ws (inl a) = let t = attached_begins s v a.0 a.2 in (a.0, a.1, t.0, t.1)
value_begins s v ws (inr f) = follows_begins s v ws f

pub spelled_begins : (c : Command) (s : Setting) (v : Text) (gs : List Given) (ws : List Text) → Spelled c gs ws → Among v (values_of s gs) → BeginsWith s ws
spelled_begins c s v gs ws p h = value_begins s v ws (spelled_value c s v gs ws p h)

-- ---- -w
no_tries : (x : Three) (xs : List Three) → xs ≡ [] → last_of xs ≡ Some x → ⊥
unfolding last_of
no_tries x [] e h = cc
no_tries x (y ∷ ys) e h = cc

next : {A : Type 0} (w : Text) (ws : List Text) → A ⊎ BeginsWith setting.Tries ws → A ⊎ BeginsWith setting.Tries (w ∷ ws)
next w ws (inl e) = inl e
next w ws (inr b) = inr (b.0, inr b.1, b.2, b.3)

module _ (c : Command) where
  tries_or_none : (gs : List Given) (ws : List Text) → Spelled c gs ws → (tries_of gs ≡ []) ⊎ BeginsWith setting.Tries ws
  unfolding tries_of
  tries_or_none gs ws no_more = inl refl
  tries_or_none gs ws (after_dashes w _ xs e f) = inl (ap tries_of f ∙ plain_tries xs)
  tries_or_none gs ws (as_flag t w hs xs e p) = next w xs (tries_or_none hs xs p)
  tries_or_none gs ws (as_attached t u w hs xs a p) = next w xs (tries_or_none hs xs p)
  tries_or_none gs ws (as_value t u w hs xs e p) = next w (u ∷ xs) (next u xs (tries_or_none hs xs p))
  tries_or_none gs ws (as_tries a b d w hs xs e p) = inr (w, inl refl, [], e ∙ sym (append-nil (option_name setting.Tries)))
  tries_or_none gs ws (as_operand w hs xs i p) = next w xs (tries_or_none hs xs p)

  pub spelled_tries : (gs : List Given) (ws : List Text) → Spelled c gs ws → (x : Three) → last_of (tries_of gs) ≡ Some x → BeginsWith setting.Tries ws
  spelled_tries gs ws p x h = go (tries_or_none gs ws p)
    where
      go : (tries_of gs ≡ []) ⊎ BeginsWith setting.Tries ws → BeginsWith setting.Tries ws
      go (inl e) = absurd (no_tries x (tries_of gs) e h)
      go (inr b) = b

-- ---- operands
module _ (c : Command) (v : Text) where
  pub spelled_operand : (gs : List Given) (ws : List Text) → Spelled c gs ws → Among v (operands_of gs) → Among v ws
  unfolding operands_of
  spelled_operand gs ws no_more h = absurd h
  spelled_operand gs ws (after_dashes w _ xs e f) h =
      let k : Among v (operands_of (map operand xs)) = rw f at h in inr (rw (plain_operands xs) at k)
  spelled_operand gs ws (as_flag t w hs xs e p) h = inr (spelled_operand hs xs p h)
  spelled_operand gs ws (as_attached t u w hs xs a p) h = inr (spelled_operand hs xs p h)
  spelled_operand gs ws (as_value t u w hs xs e p) h = inr (inr (spelled_operand hs xs p h))
  spelled_operand gs ws (as_tries a b d w hs xs e p) h = inr (inr (inr (inr (spelled_operand hs xs p h))))
  spelled_operand gs ws (as_operand w hs xs i p) (inl q) = inl q
  spelled_operand gs ws (as_operand w hs xs i p) (inr q) = inr (spelled_operand hs xs p q)
