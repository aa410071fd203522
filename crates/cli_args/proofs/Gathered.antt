-- What is gathered of a list, from its front to its end. Assumes nothing.
use Rattle.std.proofs.Common.{◌≡◌, ◌∙◌, ℕ, zero, suc, ◌+◌, ◌<◌, ◌≤◌, Bool, true, false, cond, ◌||◌, List, [], ◌∷◌, ◌++◌, length, get_or, drop, map, sym, refl, ap, arith, add-one, drop-cons, drop_of_length-le}
use Rattle.std.specs.Prelude.{Option, None, Some, option_map, find, bytes_eq, codes}
use Rattle.std.specs.Option.{option_or}
use Rattle.std.specs.List.{list_any}
use Rattle.std.proofs.lemmas.List.{append_assoc, append-nil, drop-map}
use Rattle.std.proofs.lemmas.List.Folds.{find-append}
use Rattle.rules.specs.Text.{Text}
use Rattle.cli_run.specs.From.{From, standard, file, again}
use Rattle.cli_args.specs.declared.Setting.{Setting}
use Rattle.cli_args.specs.Given.{Given, flag, value, tries, operand}
use Rattle.cli_args.specs.Asked.{Three, value_in, values_of, value_of, last_of, tries_of, operands_of, operand_at, froms, all_froms, option_list}
use Rattle.cli_args.specs.Parsed.{operand_in, three_in, from_word, was_after}

-- ---- the last of them: with v so far, those from k on are left
module _ {A C G : Type 0} (last : List G → Option A) (f : C → G) (cs : List C) where
  pub record Later (k : ℕ) (v : Option A) : Type 0 where
    pub same : last (map f cs) ≡ option_or (last (map f (drop k cs))) v

or_none : {A : Type 0} (o : Option A) → o ≡ option_or o None
or_none None = refl
or_none (Some x) = refl

or_assoc : {A : Type 0} (a b c : Option A) → option_or (option_or a b) c ≡ option_or a (option_or b c)
or_assoc None b c = refl
or_assoc (Some x) b c = refl

module _ {A C G : Type 0} (last : List G → Option A) (one : G → Option A) (f : C → G) (cs : List C) where
  pub later_first : Later last f cs 0 None
  later_first = record { same = or_none (last (map f cs)) }

  module _ (step : (g : G) (gs : List G) → last (g ∷ gs) ≡ option_or (last gs) (one g)) (k : ℕ) (v : Option A) (l : Later last f cs k v) where
    pub later_next : (d : C) → k < length cs → (u : Option A) → u ≡ option_or (one (f (get_or cs k d))) v → Later last f cs (k + 1) u
    later_next d h u e =
        let split : map f (drop k cs) ≡ f (get_or cs k d) ∷ map f (drop (k + 1) cs) = rw (drop-cons cs k d h, add-one k) refl in
        record {
          same =
              l.same ∙ ap (λ t. option_or (last t) v) split ∙ ap (λ t. option_or t v) (step (f (get_or cs k d)) (map f (drop (k + 1) cs)))
              ∙ or_assoc (last (map f (drop (k + 1) cs))) (one (f (get_or cs k d))) v ∙ ap (λ t. option_or (last (map f (drop (k + 1) cs))) t) (sym e);
        }

  pub later_last : (k : ℕ) (v : Option A) → Later last f cs k v → last [] ≡ None → length cs ≤ k → v ≡ last (map f cs)
  later_last k v l n h = sym (l.same ∙ ap (λ t. option_or (last (map f t)) v) (drop_of_length-le cs h) ∙ ap (λ t. option_or t v) n)

-- a value in front
consed : {A : Type 0} → Option A → List A → List A
consed None xs = xs
consed (Some x) xs = x ∷ xs

last_by : {A : Type 0} (x : A) (o : Option A) → ◌≡◌ {A = Option A} (elim o [ None ↦ Some x | Some y ↦ Some y ]) (option_or o (Some x))
last_by x None = refl
last_by x (Some y) = refl

last_consed : {A : Type 0} (o : Option A) (xs : List A) → last_of (consed o xs) ≡ option_or (last_of xs) o
unfolding last_of consed
last_consed None xs = or_none (last_of xs)
last_consed (Some x) xs = last_by x (last_of xs)

values_cons : (s : Setting) (g : Given) (gs : List Given) → values_of s (g ∷ gs) ≡ consed (value_in s g) (values_of s gs)
unfolding values_of consed
values_cons s g gs = go (value_in s g)
  where
    go : (o : Option Text) → ◌≡◌ {A = List Text} (elim o [ None ↦ values_of s gs | Some v ↦ v ∷ values_of s gs ]) (consed o (values_of s gs))
    go None = refl
    go (Some v) = refl

pub value_cons : (s : Setting) (g : Given) (gs : List Given) → value_of s (g ∷ gs) ≡ option_or (value_of s gs) (value_in s g)
value_cons s g gs = ap last_of (values_cons s g gs) ∙ last_consed (value_in s g) (values_of s gs)

pub no_value : (s : Setting) → value_of s [] ≡ None
unfolding values_of last_of
no_value s = refl

tries_cons : (g : Given) (gs : List Given) → tries_of (g ∷ gs) ≡ consed (three_in g) (tries_of gs)
unfolding tries_of consed
tries_cons (flag s) gs = refl
tries_cons (value s v) gs = refl
tries_cons (tries a b d) gs = refl
tries_cons (operand w) gs = refl

pub three_cons : (g : Given) (gs : List Given) → last_of (tries_of (g ∷ gs)) ≡ option_or (last_of (tries_of gs)) (three_in g)
three_cons g gs = ap last_of (tries_cons g gs) ∙ last_consed (three_in g) (tries_of gs)

pub no_three : ◌≡◌ {A = Option Three} (last_of (tries_of [])) None
unfolding tries_of last_of
no_three = refl

-- ---- all of them: with `done` so far, those from k on are left
module _ {A C G : Type 0} (all : List G → List A) (f : C → G) (cs : List C) where
  pub record Gathers (k : ℕ) (done : List A) : Type 0 where
    pub same : all (map f cs) ≡ done ++ all (map f (drop k cs))

  pub gathers_first : (done : List A) → done ≡ [] → Gathers 0 done
  gathers_first done e = record { same = rw e refl }

  module _ (k : ℕ) (done : List A) (l : Gathers k done) where
    -- more, what is added of the element at k
    pub gathers_next : (d : C) → k < length cs → (new more : List A)
        → ((gs : List G) → all (f (get_or cs k d) ∷ gs) ≡ more ++ all gs) → new ≡ done ++ more → Gathers (k + 1) new
    gathers_next d h new more step e =
        let split : map f (drop k cs) ≡ f (get_or cs k d) ∷ map f (drop (k + 1) cs) = rw (drop-cons cs k d h, add-one k) refl in
        record {
          same =
              l.same ∙ ap (λ t. done ++ all t) split ∙ ap (λ t. done ++ t) (step (map f (drop (k + 1) cs)))
              ∙ sym (append_assoc done more (all (map f (drop (k + 1) cs)))) ∙ ap (λ t. t ++ all (map f (drop (k + 1) cs))) (sym e);
        }

    pub gathers_last : all [] ≡ [] → length cs ≤ k → done ≡ all (map f cs)
    gathers_last n h =
        sym (l.same ∙ ap (λ t. done ++ all (map f t)) (drop_of_length-le cs h) ∙ ap (λ t. done ++ t) n ∙ append-nil done)

pub values_listed : (s : Setting) (g : Given) (gs : List Given) → values_of s (g ∷ gs) ≡ option_list (value_in s g) ++ values_of s gs
unfolding values_of
values_listed s g gs = go (value_in s g)
  where
    go : (o : Option Text) → ◌≡◌ {A = List Text} (elim o [ None ↦ values_of s gs | Some v ↦ v ∷ values_of s gs ]) (option_list o ++ values_of s gs)
    go None = refl
    go (Some v) = refl

pub no_values : (s : Setting) → values_of s [] ≡ []
unfolding values_of
no_values s = refl

pub operands_listed : (g : Given) (gs : List Given) → operands_of (g ∷ gs) ≡ option_list (operand_in g) ++ operands_of gs
unfolding operands_of
operands_listed (flag s) gs = refl
operands_listed (value s v) gs = refl
operands_listed (tries a b d) gs = refl
operands_listed (operand w) gs = refl

pub no_operands : operands_of [] ≡ []
unfolding operands_of
no_operands = refl

-- ---- whether one passes a test
pub any_of_map : {A B : Type 0} (p : B → Bool) (f : A → B) (xs : List A) → list_any (λ x. p (f x)) xs ≡ list_any p (map f xs)
any_of_map p f [] = refl
any_of_map p f (x ∷ xs) = ap (λ b. p (f x) || b) (any_of_map p f xs)

-- ---- the operand at a place
pub operand_there : {A : Type 0} (f : A → Text) (xs : List A) (k : ℕ) (d : A) → k < length xs → Some (f (get_or xs k d)) ≡ operand_at k (map f xs)
unfolding operand_at
operand_there f [] k d h = absurd (omega arith)
operand_there f (x ∷ xs) zero d h = refl
operand_there f (x ∷ xs) (suc k) d h = operand_there f xs k d (omega arith)

pub no_operand : {A : Type 0} (f : A → Text) (xs : List A) (k : ℕ) → length xs ≤ k → None ≡ operand_at k (map f xs)
unfolding operand_at
no_operand f [] k h = refl
no_operand f (x ∷ xs) zero h = absurd (omega arith)
no_operand f (x ∷ xs) (suc k) h = no_operand f xs k (omega arith)

-- ---- what FILE names, of several: with `done` so far, those from k on are left
froms_by : (x was : Bool) (w : Text) (ws : List Text)
    → cond x (cond was again standard ∷ froms true ws) (file w ∷ froms was ws) ≡ cond x (cond was again standard) (file w) ∷ froms (cond x true was) ws
froms_by true was w ws = refl
froms_by false was w ws = refl

froms_cons : (was : Bool) (w : Text) (ws : List Text) → froms was (w ∷ ws) ≡ from_word was w ∷ froms (was_after was w) ws
unfolding froms
froms_cons was w ws = froms_by (bytes_eq w (codes "-")) was w ws

module _ {C : Type 0} (f : C → Text) (cs : List C) where
  pub record Names (k : ℕ) (done : List From) (was : Bool) : Type 0 where
    pub same : froms false (map f cs) ≡ done ++ froms was (map f (drop k cs))

  pub names_first : (done : List From) → done ≡ [] → Names 0 done false
  names_first done e = record { same = rw e refl }

  module _ (k : ℕ) (done : List From) (was : Bool) (l : Names k done was) where
    pub names_next : (d : C) → k < length cs → (new : List From) (now : Bool) → new ≡ done ++ from_word was (f (get_or cs k d)) ∷ []
        → now ≡ was_after was (f (get_or cs k d)) → Names (k + 1) new now
    names_next d h new now e n =
        let split : map f (drop k cs) ≡ f (get_or cs k d) ∷ map f (drop (k + 1) cs) = rw (drop-cons cs k d h, add-one k) refl in
        record {
          same =
              l.same ∙ ap (λ t. done ++ froms was t) split ∙ ap (λ t. done ++ t) (froms_cons was (f (get_or cs k d)) (map f (drop (k + 1) cs)))
              ∙ sym (append_assoc done (from_word was (f (get_or cs k d)) ∷ []) (froms (was_after was (f (get_or cs k d))) (map f (drop (k + 1) cs))))
              ∙ ap (λ t. t ++ froms (was_after was (f (get_or cs k d))) (map f (drop (k + 1) cs))) (sym e)
              ∙ ap (λ b. new ++ froms b (map f (drop (k + 1) cs))) (sym n);
        }

    pub names_last : length cs ≤ k → done ≡ froms false (map f cs)
    unfolding froms
    names_last h = sym (l.same ∙ ap (λ t. done ++ froms was (map f t)) (drop_of_length-le cs h) ∙ append-nil done)

  pub no_froms : length cs ≡ 0 → standard ∷ [] ≡ all_froms (map f cs)
  no_froms h = go cs h
    where
      go : (cs : List C) → length cs ≡ 0 → standard ∷ [] ≡ all_froms (map f cs)
      go [] h = refl
      go (c ∷ cs) h = absurd (omega arith)

  pub some_froms : (length cs ≡ 0 → ⊥) → froms false (map f cs) ≡ all_froms (map f cs)
  some_froms h = go cs h
    where
      go : (cs : List C) → (length cs ≡ 0 → ⊥) → froms false (map f cs) ≡ all_froms (map f cs)
      go [] h = absurd (h refl)
      go (c ∷ cs) h = refl

  -- ---- FILE, after the numbers
  pub no_files : (n : ℕ) → length cs ≤ n → [] ≡ drop n (map f cs)
  no_files n h = sym (drop-map f n cs ∙ ap (map f) (drop_of_length-le cs h))

  pub some_files : (n : ℕ) → map f (drop n cs) ≡ drop n (map f cs)
  some_files n = sym (drop-map f n cs)

-- ---- the first that passes a test
module _ (p : Text → Bool) where
  find_step : {A : Type 0} (f : A → Text) (x : A) (xs : List A) (b : Bool) → p (f x) ≡ b
      → option_map f (find (λ x. p (f x)) xs) ≡ find p (map f xs) → option_map f (find (λ x. p (f x)) (x ∷ xs)) ≡ find p (map f (x ∷ xs))
  find_step f x xs true e h = rw e refl
  find_step f x xs false e h = rw e h

  find_of_map : {A : Type 0} (f : A → Text) (xs : List A) → option_map f (find (λ x. p (f x)) xs) ≡ find p (map f xs)
  find_of_map f [] = refl
  find_of_map f (x ∷ xs) = find_step f x xs (p (f x)) refl (find_of_map f xs)

  pub found_at : {A : Type 0} (f : A → Text) (xs : List A) (r : Option A) → r ≡ find (λ x. p (f x)) xs → option_map f r ≡ find p (map f xs)
  found_at f xs r e = rw e (find_of_map f xs)

  module _ (a b c : List Text) where
    all_three : find p ((a ++ b) ++ c) ≡ option_or (option_or (find p a) (find p b)) (find p c)
    all_three = find-append p (a ++ b) c ∙ ap (λ o. option_or o (find p c)) (find-append p a b)

    pub in_first : (x : Text) → Some x ≡ find p a → Some x ≡ find p ((a ++ b) ++ c)
    in_first x e = sym (all_three ∙ ap (λ o. option_or (option_or o (find p b)) (find p c)) (sym e))

    pub in_second : (x : Text) → None ≡ find p a → Some x ≡ find p b → Some x ≡ find p ((a ++ b) ++ c)
    in_second x n e =
        sym (all_three ∙ ap (λ o. option_or (option_or o (find p b)) (find p c)) (sym n) ∙ ap (λ o. option_or o (find p c)) (sym e))

    pub in_third : (o : Option Text) → None ≡ find p a → None ≡ find p b → o ≡ find p c → o ≡ find p ((a ++ b) ++ c)
    in_third o n m e =
        e ∙ sym (all_three ∙ ap (λ o. option_or (option_or o (find p b)) (find p c)) (sym n) ∙ ap (λ o. option_or o (find p c)) (sym m))

-- ---- texts and words
-- what is written after a text that ends in nothing
pub nothing_between : (t a r : Text) → t ≡ a ++ [] → t ++ r ≡ a ++ r
nothing_between t a r e = rw (e, append-nil a) refl

module _ {A : Type 0} (f : A → Text) where
  pub no_words : (ws : List A) → length ws ≡ 0 → map f ws ≡ []
  no_words [] h = refl
  no_words (w ∷ ws) h = absurd (omega arith)

  pub some_words : (ws : List A) (x : A) (xs : List A) → ws ≡ x ∷ xs → map f ws ≡ f x ∷ map f xs
  some_words ws x xs e = ap (map f) e
