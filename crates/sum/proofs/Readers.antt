-- What each place of the readers says by the definitions, over a text and places in it. Assumes nothing.
use Rattle.std.specs.Prelude.{Option, None, Some, Result, Ok, Err}
use Rattle.std.specs.Option.{option_map, ok_or}
use Prim.Native.Nat.{ℕ, zero, suc, ◌+◌, ◌-◌, ◌*◌, ◌^◌, ◌≤◌, ◌<◌}
use mathlib.Core.Path.{◌≡◌, refl, sym, ap, ◌∙◌}
use mathlib.Core.Bool.{Bool, true, false, cond}
use mathlib.Core.List.{[], ◌∷◌}
use native.Mathlib.Numerals.{add-one}
use native.Mathlib.Omega.{arith}
use lib.Dec.{eqb, ltb}
use lib.ListN.{length, take, drop, get_or, length-drop, length-take, drop_of_length-le}
use lib.Seq.{drop-cons, drop-drop}
use borrow.Author.Tests.{eq-eqb, ne_eqb}
use Rattle.rules.specs.Text.{Text, first_text}
use Rattle.rules.specs.Number.{digit_value, Reading, read, failed, no_digits, bad_digit, out_of_range, digits, some_digits, ranged, below, hex_tail, by_prefix}
use Rattle.rules.specs.Sum.{Expression, numeral, group, Parse, malformed, parsed, and_parse, applied, chain, series, is_operator, plain_number, as_number, number_first, paren_closed, atom_of, sum_of, ended, bracketed, stepped, exact_value, ranging, evaluated}
use Rattle.rules.proofs.Chain.{Shrinks, chain_end, chain_stop, chain_more}
use Rattle.text.specs.Pieces.{until}
use Rattle.text.proofs.Until.{until_le, cut_first}
use Rattle.numeral.specs.Number.{number_of}
use Rattle.numeral.specs.declared.Failure.{Failure}
use Rattle.numeral.specs.declared.Failure.TheVariants.{BadDigit, OutOfRange}
use Rattle.numeral.proofs.Prefix.{rest}
use Rattle.sum.specs.Sum.{step_of, front, number_front, ReadTo, Says}
use Rattle.sum.specs.declared.Front.{Front}

-- ---- an answer that is known
module _ {t : Text} {at : ℕ} {x : Parse} {r : Option Front} (says : Says t at x r) where
  unread : r ≡ None → x ≡ malformed
  unread e = rw e at says.told

  pub was_read : (f : Front) → r ≡ Some f → ReadTo t at x f
  was_read f e = rw e at says.told

-- an answer for one parse is one for another that is the same
pub says_as : {t : Text} {at : ℕ} {x y : Parse} {r : Option Front} → x ≡ y → Says t at y r → Says t at x r
says_as e says = rw e says

says_malformed : {t : Text} {at : ℕ} {x : Parse} → x ≡ malformed → Says t at x None
says_malformed e = record { told = e }

-- ---- a step
pub operation_worth : (c : ℕ) (x y : Expression) → exact_value (applied c x y) ≡ stepped (step_of c) (exact_value x) (exact_value y)
unfolding applied exact_value
operation_worth c x y = go (eqb c 43) refl (eqb c 45) refl
  where
    go : (p : Bool) → eqb c 43 ≡ p → (q : Bool) → eqb c 45 ≡ q → exact_value (applied c x y) ≡ stepped (step_of c) (exact_value x) (exact_value y)
    go true e q f = rw e
    go false e true f = rw (e, f)
    go false e false f = rw (e, f)

-- ---- a chain of items
module _ (passes : ℕ → Bool) (item : Text → Parse) where
  -- the chain at `here`, with the worth so far: what is left reads as the whole
  pub record Going (t : Text) (at : ℕ) (value : Option ℕ) (here : ℕ) : Type 0 where
    pub so_far : Expression
    pub is_worth : value ≡ exact_value so_far
    pub reached : at ≤ here
    pub inside : here ≤ length t
    pub same : series passes item (drop at t) ≡ chain passes item so_far (drop here t)

  module _ {t : Text} {at : ℕ} {r : Option Front} (says : Says t at (item (drop at t)) r) where
    pub first_malformed : r ≡ None → Says t at (series passes item (drop at t)) None
    unfolding series and_parse
    first_malformed e = says_malformed (rw (unread says e))

    pub begin : (f : Front) → r ≡ Some f → Going t at f.worth f.end
    unfolding series and_parse
    begin f e = let k = was_read says f e in record { so_far = k.expression; is_worth = k.is_worth; reached = k.reached; inside = k.inside; same = ap (λ (y : Parse). and_parse y (λ a s. chain passes item a s)) k.reads }

  module _ {t : Text} {at : ℕ} {value : Option ℕ} {here : ℕ} (g : Going t at value here) where
    done : series passes item (drop at t) ≡ parsed g.so_far (drop here t) → Says t at (series passes item (drop at t)) (Some (front value here))
    done e = record { told = record { expression = g.so_far; reads = e; is_worth = g.is_worth; reached = g.reached; inside = g.inside } }

    pub finish : length t ≤ here → Says t at (series passes item (drop at t)) (Some (front value here))
    finish h = done (rw (g.same, drop_of_length-le t h) (chain_end passes item g.so_far))

    pub stop : (y : Bool) → here < length t → y ≡ passes (get_or t here 0) → y ≡ false → Says t at (series passes item (drop at t)) (Some (front value here))
    stop y h e q = done (rw (g.same, drop-cons t here 0 h) (chain_stop passes item g.so_far (get_or t here 0) (drop (suc here) t) (sym e ∙ q)))

    module _ (shrinks : Shrinks item) (h : here < length t) {y : Bool} (e : y ≡ passes (get_or t here 0)) (q : y ≡ true) where
      on : series passes item (drop at t) ≡ and_parse (item (drop (here + 1) t)) (λ b s. chain passes item (applied (get_or t here 0) g.so_far b) s)
      on = rw (g.same, drop-cons t here 0 h, add-one here) (chain_more passes item shrinks g.so_far (get_or t here 0) (drop (suc here) t) (sym e ∙ q))

      module _ {r : Option Front} (says : Says t (here + 1) (item (drop (here + 1) t)) r) where
        pub more_malformed : r ≡ None → Says t at (series passes item (drop at t)) None
        unfolding and_parse
        more_malformed p = says_malformed (rw (on, unread says p))

        pub more : (f : Front) → r ≡ Some f → (u : Option ℕ) → u ≡ stepped (step_of (get_or t here 0)) value f.worth → Going t at u f.end
        unfolding and_parse
        more f p u c =
            let k = was_read says f p in
            record {
              so_far = applied (get_or t here 0) g.so_far k.expression;
              is_worth = c ∙ rw (operation_worth (get_or t here 0) g.so_far k.expression, ← g.is_worth, ← k.is_worth);
              reached = omega (arith, k.reached, g.reached);
              inside = k.inside;
              same = on ∙ ap (λ (z : Parse). and_parse z (λ b s. chain passes item (applied (get_or t here 0) g.so_far b) s)) k.reads;
            }

-- ---- an atom
atom_none : (d : ℕ) → atom_of d [] ≡ malformed
unfolding atom_of
atom_none zero = refl
atom_none (suc d) = refl

atom_plain : (d b : ℕ) (s : Text) → (b ≡ 40 → ⊥) → atom_of d (b ∷ s) ≡ number_first (b ∷ s)
unfolding atom_of
atom_plain zero b s h = rw (ne_eqb b 40 h)
atom_plain (suc d) b s h = rw (ne_eqb b 40 h)

atom_deep : (b : ℕ) (s : Text) → b ≡ 40 → atom_of 0 (b ∷ s) ≡ malformed
unfolding atom_of
atom_deep b s h = rw (eq-eqb b 40 h)

atom_paren : (d b : ℕ) (s : Text) → (d ≡ 0 → ⊥) → b ≡ 40 → atom_of d (b ∷ s) ≡ paren_closed (sum_of (d - 1) s)
unfolding atom_of
atom_paren zero b s k h = absurd (k refl)
atom_paren (suc d) b s k h = let z : suc d - 1 ≡ d = omega arith in rw (z, eq-eqb b 40 h)

module _ (t : Text) (at d : ℕ) where
  pub ends : at ≡ length t → Says t at (atom_of d (drop at t)) None
  ends h = says_malformed (rw (drop_of_length-le t {i = at} (omega arith)) (atom_none d))

  module _ (h : at < length t) where
    pub plain : (r : Option Front) → (get_or t at 0 ≡ 40 → ⊥) → Says t at (number_first (drop at t)) r → Says t at (atom_of d (drop at t)) r
    plain r k says = says_as (rw (drop-cons t at 0 h) (atom_plain d (get_or t at 0) (drop (suc at) t) k)) says

    module _ (k : get_or t at 0 ≡ 40) where
      pub too_deep : d ≡ 0 → Says t at (atom_of d (drop at t)) None
      too_deep z = says_malformed (rw (z, drop-cons t at 0 h) (atom_deep (get_or t at 0) (drop (suc at) t) k))

      pub opened : (d ≡ 0 → ⊥) → {r : Option Front} → Says t at (paren_closed (sum_of (d - 1) (drop (at + 1) t))) r → Says t at (atom_of d (drop at t)) r
      opened p says = says_as (rw (drop-cons t at 0 h, add-one at) (atom_paren d (get_or t at 0) (drop (suc at) t) p k)) says

-- ---- the parenthesis after a sum
closed_none : (a : Expression) (r : Text) → length r < 1 → paren_closed (parsed a r) ≡ malformed
unfolding paren_closed
closed_none a [] h = refl
closed_none a (c ∷ r) h = absurd (omega arith)

closed_else : (a : Expression) (r : Text) → (get_or r 0 0 ≡ 41 → ⊥) → paren_closed (parsed a r) ≡ malformed
unfolding paren_closed
closed_else a [] k = refl
closed_else a (c ∷ r) k = rw (ne_eqb c 41 k)

closed_by : (a : Expression) (r : Text) → 1 ≤ length r → get_or r 0 0 ≡ 41 → paren_closed (parsed a r) ≡ parsed (group a) (drop 1 r)
unfolding paren_closed
closed_by a [] h k = absurd (omega arith)
closed_by a (c ∷ r) h k = rw (eq-eqb c 41 k)

module _ (t : Text) (f : Front) (at : ℕ) (x : Parse) (says : Says t (at + 1) x (Some f)) where
  -- the rest, as a slice has it
  behind : x ≡ parsed (was_read says f refl).expression (take (length t - f.end) (drop f.end t))
  behind = rw (rest f.end t) (was_read says f refl).reads

  pub unclosed : length (take (length t - f.end) (drop f.end t)) < 1 → Says t at (paren_closed x) None
  unclosed h = says_malformed (rw behind (closed_none _ _ h))

  pub other_byte : (get_or (take (length t - f.end) (drop f.end t)) 0 0 ≡ 41 → ⊥) → Says t at (paren_closed x) None
  other_byte k = says_malformed (rw behind (closed_else _ _ k))

  pub shut : 1 ≤ length (take (length t - f.end) (drop f.end t)) → get_or (take (length t - f.end) (drop f.end t)) 0 0 ≡ 41 → Says t at (paren_closed x) (Some (front f.worth (f.end + 1)))
  unfolding exact_value
  shut h q =
      let k = was_read says f refl in
      let l : 1 ≤ length (drop f.end t) = rw (rest f.end t) at h in
      let m : f.end + 1 ≤ length t = omega (arith, simp length-drop at l) in
      record {
        told = record {
          expression = group k.expression;
          reads = ap paren_closed behind ∙ (closed_by _ _ h q ∙ ap (parsed (group k.expression)) (rw (rest f.end t, drop-drop 1 f.end t)));
          is_worth = k.is_worth;
          reached = omega (arith, k.reached);
          inside = m;
        };
      }

pub paren_malformed : {t : Text} {at here : ℕ} (x : Parse) (r : Option Front) → Says t here x r → r ≡ None → Says t at (paren_closed x) None
unfolding paren_closed
paren_malformed x r says e = says_malformed (rw (unread says e))

-- ---- a number in front
front_is : (s : Text) → number_first s ≡ as_number (plain_number (take (until is_operator s) s)) (drop (until is_operator s) s)
unfolding number_first first_text
front_is s = let z : length (take (until is_operator s) s) ≡ until is_operator s = simp length-take (omega (arith, until_le is_operator s)) in rw (cut_first is_operator s, z)

-- digits alone are never out of range
digits_any : (radix v : ℕ) (s : Text) → digits radix v s ≡ failed out_of_range → ⊥
unfolding digits
digits_any radix v [] e = let z : ◌≡◌ {A = ℕ} 0 1 = cc in omega arith
digits_any radix v (b ∷ s) e = go (ltb (digit_value b) radix) refl (digits_any radix (v * radix + digit_value b) s)
  where
    go : (y : Bool) → ltb (digit_value b) radix ≡ y → (digits radix (v * radix + digit_value b) s ≡ failed out_of_range → ⊥) → ⊥
    go true q ih = ih (rw (q, digits) at e)
    go false q ih = let c = rw (q, digits) at e in let z : ◌≡◌ {A = ℕ} 0 1 = cc in omega arith

some_any : (radix : ℕ) (s : Text) → some_digits radix s ≡ failed out_of_range → ⊥
unfolding some_digits
some_any radix [] e = let z : ◌≡◌ {A = ℕ} 0 1 = cc in omega arith
some_any radix (b ∷ s) e = digits_any radix 0 (b ∷ s) e

plain_any : (s : Text) → plain_number s ≡ failed out_of_range → ⊥
unfolding plain_number by_prefix
plain_any s e = go (hex_tail s) e
  where
    go : (o : Option Text) → ◌≡◌ {A = Reading ℕ} (elim o [ None ↦ some_digits 10 s | Some t ↦ some_digits 16 t ]) (failed out_of_range) → ⊥
    go None e = some_any 10 s e
    go (Some t) e = some_any 16 t e

-- the bound's answer on digits that are read
module _ (v : ℕ) where
  ranged_is : (y : Bool) → ltb v (2 ^ 32) ≡ y → number_of (ranged (below (2 ^ 32)) (read v)) ≡ cond y (Ok v) (Err OutOfRange)
  unfolding ranged below
  ranged_is true e = rw (ranged, e)
  ranged_is false e = rw (ranged, e)

  worth_is : (y : Bool) → ltb v (2 ^ 32) ≡ y → exact_value (numeral v) ≡ cond y (Some v) None
  unfolding exact_value below
  worth_is true e = rw e
  worth_is false e = rw e

-- a number in front, by what its digits said
module _ (t : Text) (at n : ℕ) (h : at ≤ length t) (p : n ≡ at + until is_operator (drop at t)) where
  pub end_in : (at ≤ n) × (n ≤ length t)
  end_in = omega (arith, simp length-drop at (until_le is_operator (drop at t)))

  size : n - at ≡ until is_operator (drop at t)
  size = omega arith

  number_here : number_first (drop at t) ≡ as_number (plain_number (take (n - at) (drop at t))) (drop n t)
  number_here = rw (front_is (drop at t), size, drop-drop (until is_operator (drop at t)) at t, ← p)

  read_at : (v : ℕ) (w : Option ℕ) → w ≡ exact_value (numeral v) → Says t at (parsed (numeral v) (drop n t)) (Some (front w n))
  read_at v w e = record { told = record { expression = numeral v; reads = refl; is_worth = e; reached = end_in.0; inside = end_in.1 } }

  answer_of : (x : Reading ℕ) → (x ≡ failed out_of_range → ⊥) → (q : Result ℕ Failure) → q ≡ number_of (ranged (below (2 ^ 32)) x)
      → Says t at (as_number x (drop n t)) (number_front q n)
  unfolding as_number ranged
  answer_of (failed no_digits) k q e = rw e (says_malformed refl)
  answer_of (failed bad_digit) k q e = rw e (says_malformed refl)
  answer_of (failed out_of_range) k q e = absurd (k refl)
  answer_of (read v) k q e = go (ltb v (2 ^ 32)) refl
    where
      go : (y : Bool) → ltb v (2 ^ 32) ≡ y → Says t at (parsed (numeral v) (drop n t)) (number_front q n)
      go true y = rw (e ∙ ranged_is v true y) (read_at v (Some v) (sym (worth_is v true y)))
      go false y = rw (e ∙ ranged_is v false y) (read_at v None (sym (worth_is v false y)))

  module _ (q : Result ℕ Failure) (e : q ≡ number_of (ranged (below (2 ^ 32)) (plain_number (take (n - at) (drop at t))))) where
    pub number_says : Says t at (number_first (drop at t)) (number_front q n)
    number_says = says_as number_here (answer_of _ (plain_any _) q e)

-- ---- the whole text
other_first : (b : ℕ) (s : Text) → (b ≡ 91 → ⊥) → bracketed (b ∷ s) ≡ None
unfolding bracketed
other_first b s k = rw (ne_eqb b 91 k)

in_bracket : (t : Text) → (length t ≡ 0 → ⊥) → get_or t 0 0 ≡ 91 → bracketed t ≡ ended (sum_of 16 (drop 1 t))
unfolding bracketed
in_bracket [] h k = absurd (h refl)
in_bracket (b ∷ s) h k = rw (eq-eqb b 91 k)

ended_else : (a : Expression) (r : Text) → (length r ≡ 1 → ⊥) → ended (parsed a r) ≡ None
unfolding ended
ended_else a [] h = refl
ended_else a (c ∷ []) h = absurd (h refl)
ended_else a (c ∷ b ∷ r) h = refl

ended_one : (a : Expression) (r : Text) → length r ≡ 1 → ended (parsed a r) ≡ cond (eqb (get_or r 0 0) 93) (Some a) None
unfolding ended
ended_one a [] h = absurd (omega arith)
ended_one a (c ∷ []) h = refl
ended_one a (c ∷ b ∷ r) h = absurd (omega arith)

pub no_bracket : (t : Text) → (get_or t 0 0 ≡ 91 → ⊥) → None ≡ option_map exact_value (bracketed t)
unfolding bracketed
no_bracket [] k = refl
no_bracket (b ∷ s) k = rw (other_first b s k)

pub no_text : (t : Text) → length t < 1 → None ≡ option_map exact_value (bracketed t)
unfolding bracketed
no_text [] h = refl
no_text (b ∷ s) h = absurd (omega arith)

-- what a whole text says, by its worth
pub sum_none : (o : Option Expression) → None ≡ option_map exact_value o → Err BadDigit ≡ number_of (evaluated o)
unfolding evaluated
sum_none None e = refl
sum_none (Some a) e = cc

pub sum_some : (o : Option Expression) (w : Option ℕ) → Some w ≡ option_map exact_value o → ok_or w OutOfRange ≡ number_of (evaluated o)
unfolding evaluated ranging
sum_some None w e = cc
sum_some (Some a) w e = let k : w ≡ exact_value a = cc in rw k (go (exact_value a))
  where
    go : (v : Option ℕ) → ok_or v OutOfRange ≡ number_of (ranging v)
    go None = refl
    go (Some v) = refl

-- a bracket in front, and what was read after it
module _ (t : Text) (filled : 0 < length t) (bracket : get_or t 0 0 ≡ 91) {r : Option Front} (says : Says t 1 (sum_of 16 (drop 1 t)) r) where
  inner : bracketed t ≡ ended (sum_of 16 (drop 1 t))
  inner = in_bracket t (λ e. omega arith) bracket

  pub unread_sum : r ≡ None → None ≡ option_map exact_value (bracketed t)
  unfolding ended
  unread_sum e = rw (inner, unread says e)

  module _ (f : Front) (e : r ≡ Some f) where
    pub end_of : f.end ≤ length t
    end_of = (was_read says f e).inside

    -- the rest, as a slice has it
    rest_is : take (length t - f.end) (drop f.end t) ≡ drop f.end t
    rest_is = rest f.end t

    inner_read : bracketed t ≡ ended (parsed (was_read says f e).expression (take (length t - f.end) (drop f.end t)))
    inner_read = rw rest_is (inner ∙ ap ended (was_read says f e).reads)

    pub not_last : (length (take (length t - f.end) (drop f.end t)) ≡ 1 → ⊥) → None ≡ option_map exact_value (bracketed t)
    not_last m = rw (inner_read, ended_else _ _ m)

    module _ (m : length (take (length t - f.end) (drop f.end t)) ≡ 1) where
      pub no_end : (get_or (take (length t - f.end) (drop f.end t)) 0 0 ≡ 93 → ⊥) → None ≡ option_map exact_value (bracketed t)
      no_end k = rw (inner_read, ended_one _ _ m, ne_eqb _ 93 k)

      pub all_read : get_or (take (length t - f.end) (drop f.end t)) 0 0 ≡ 93 → Some f.worth ≡ option_map exact_value (bracketed t)
      all_read k = rw (inner_read, ended_one _ _ m, eq-eqb _ 93 k, ← (was_read says f e).is_worth)
