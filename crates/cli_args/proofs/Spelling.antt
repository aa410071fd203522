-- What each word of a command is. Assumes nothing.
use Rattle.std.proofs.Common.{◌≡◌, ◌∙◌, ℕ, Bool, true, false, not, cond, eqb, ltb, ◌||◌, ◌&&◌, List, [], ◌∷◌, ◌++◌, map, sym, refl, ap, inl, inr}
use Rattle.std.specs.Prelude.{Option, None, Some, find, bytes_eq, codes}
use Rattle.std.proofs.lemmas.List.{append_assoc, append-nil}
use Rattle.std.proofs.lemmas.Slice.Eq.{bytes_eq-Decides}
use borrow.Author.Tests.{eqb-true}
use Rattle.rules.specs.Text.{Text, after}
use Rattle.cli_args.specs.Table.{option_name, takes_option, takes_several, is_move}
use Rattle.cli_args.specs.declared.table.TheConstants.{SETTINGS}
use Rattle.cli_args.specs.declared.Command.{Command}
use Rattle.cli_args.specs.declared.Setting.{Setting}
use Rattle.cli_args.specs.declared.Setting.TheVariants as setting
use Rattle.cli_args.specs.Given.{Given, flag, value, tries, operand, Mode, ready, plain, value_of, first, second, third, Complaint, no_option, too_many, takes, help, version, wrong, Step, goes, stops, is_long, attached, attached_to, given_as, taken_as, Found, found_as, found_in, is_dashed, named_option, operand_count, number_count, operand_step, setting_step, option_step, ready_step, on_step, steps, given_in}
use Rattle.cli_args.specs.Asked.{is_setting}
use Rattle.cli_args.specs.Stated.{IsAttached, IsOperand, Spelled, no_more, after_dashes, as_flag, as_attached, as_value, as_tries, as_operand, EveryWordIsRead, IsBlamed}
use Rattle.cli_args.proofs.After.{front_of}

-- ---- tests
pub on_cond : {A : Type 0} (P : A → Type 0) (b : Bool) (x y : A) → (b ≡ true → P x) → (b ≡ false → P y) → P (cond b x y)
on_cond P true x y f g = f refl
on_cond P false x y f g = g refl

neither : (a b : Bool) → (a || b) ≡ false → a ≡ false
neither true b e = e
neither false b e = refl

first_of_both : (a b : Bool) → (a && b) ≡ true → a ≡ true
first_of_both true b e = refl
first_of_both false b e = e

pub same_text : (a b : Text) → bytes_eq a b ≡ true → a ≡ b
same_text a b e = (bytes_eq-Decides a b).0 e

-- ---- one setting for each name
own_name : (s : Setting) → find (λ t. bytes_eq (option_name t) (option_name s)) SETTINGS ≡ Some s
own_name setting.Output = refl
own_name setting.Base = refl
own_name setting.Branches = refl
own_name setting.Line = refl
own_name setting.A0 = refl
own_name setting.A1 = refl
own_name setting.A2 = refl
own_name setting.A3 = refl
own_name setting.A4 = refl
own_name setting.A5 = refl
own_name setting.A6 = refl
own_name setting.A7 = refl
own_name setting.Tries = refl
own_name setting.Sheet = refl
own_name setting.Json = refl
own_name setting.Help = refl
own_name setting.Version = refl

pub same_setting : (s t : Setting) → is_setting s t ≡ true → s ≡ t
same_setting s t e =
    let q : option_name s ≡ option_name t = same_text (option_name s) (option_name t) e in
    let p : Some s ≡ Some t = sym (own_name s) ∙ ap (λ w. find (λ t. bytes_eq (option_name t) w) SETTINGS) q ∙ own_name t in
    cc

-- ---- a word that is an option of the command
abbrev IsAs : Setting → Text → Option Text → Type 0
IsAs s w None = w ≡ option_name s
IsAs s w (Some v) = IsAttached s v w

module _ (s : Setting) (w : Text) where
  apart : (b : ℕ) (t : Text) (v : Option Text) (long equals : Bool) → w ≡ option_name s ++ b ∷ t → is_long s ≡ long → eqb b 61 ≡ equals
      → cond equals (Some (Some t)) (cond long None (Some (Some (b ∷ t)))) ≡ Some v → IsAs s w v
  apart b t None long true e l q h = absurd cc
  apart b t (Some x) long true e l q h =
      let r : t ≡ x = cc in
      inl (e ∙ ap (λ u. option_name s ++ u) (ap (λ z. z ∷ t) (eqb-true b 61 q) ∙ ap (λ z. 61 ∷ z) r))
  apart b t v true false e l q h = absurd cc
  apart b t None false false e l q h = absurd cc
  apart b t (Some x) false false e l q h =
      let r : b ∷ t ≡ x = cc in
      inr (l, e ∙ ap (λ u. option_name s ++ u) r)

  attached_is : (rest : Text) (v : Option Text) → w ≡ option_name s ++ rest → attached (is_long s) rest ≡ Some v → IsAs s w v
  attached_is [] None e h = e ∙ append-nil (option_name s)
  attached_is [] (Some x) e h = absurd cc
  attached_is (b ∷ t) v e h = apart b t v (is_long s) (eqb b 61) e refl refl h

  given_is : (v : Option Text) → given_as s w ≡ Some v → IsAs s w v
  given_is v h = go (after (option_name s) w) refl h
    where
      go : (o : Option Text) → after (option_name s) w ≡ o → attached_to (is_long s) o ≡ Some v → IsAs s w v
      go None e h = absurd cc
      go (Some rest) e h = attached_is rest v (front_of (option_name s) w rest e) h

  taken_is : (c : Command) (v : Option Text) → taken_as c s w ≡ Some v → (takes_option c s ≡ true) × IsAs s w v
  taken_is c v h = go (takes_option c s) refl h
    where
      go : (b : Bool) → takes_option c s ≡ b → cond b (given_as s w) None ≡ Some v → (takes_option c s ≡ true) × IsAs s w v
      go true e h = (e, given_is v h)
      go false e h = absurd cc

found_is : (c : Command) (w : Text) (ss : List Setting) (f : Found) → found_in c w ss ≡ Some f → taken_as c f.of w ≡ Some f.with
unfolding found_in
found_is c w [] f h = absurd cc
found_is c w (s ∷ ss) f h = go (taken_as c s w) refl h (found_is c w ss f)
  where
    go : (o : Option (Option Text)) → taken_as c s w ≡ o → found_as s o (found_in c w ss) ≡ Some f
        → (found_in c w ss ≡ Some f → taken_as c f.of w ≡ Some f.with) → taken_as c f.of w ≡ Some f.with
    go None e h k = k h
    go (Some v) e h k = let p : ◌≡◌ {A = Found} (record { of = s; with = v }) f = cc in rw (← p) e

begins : (s : Setting) (v w : Text) → IsAttached s v w → (t : Text) × (w ≡ option_name s ++ t)
begins s v w (inl e) = (codes "=" ++ v, e)
begins s v w (inr e) = (v, e.1)

-- ---- what a word is, and what the next one is then
module _ (c : Command) (gs : List Given) (w : Text) where
  pub data Says : Step → Type 0 where
    dashes : w ≡ codes "--" → Says (goes gs plain)
    a_flag : (s : Setting) → w ≡ option_name s → Says (goes (gs ++ flag s ∷ []) ready)
    a_value : (s : Setting) (v : Text) → IsAttached s v w → Says (goes (gs ++ value s v ∷ []) ready)
    an_option : (s : Setting) → takes_option c s ≡ true → w ≡ option_name s → Says (goes gs (value_of s))
    a_try : takes_option c setting.Tries ≡ true → w ≡ option_name setting.Tries → Says (goes gs first)
    an_operand : IsOperand c w → Says (goes (gs ++ operand w ∷ []) ready)
    asks_help : w ≡ codes "--help" → Says (stops help)
    asks_version : w ≡ codes "--version" → Says (stops version)
    is_wrong : (e : Complaint) → IsBlamed c w e → Says (stops (wrong e))

  setting_says : (s : Setting) (v : Option Text) → takes_option c s ≡ true → IsAs s w v → Says (setting_step gs s v)
  setting_says setting.Output None t e = an_option setting.Output t e
  setting_says setting.Base None t e = an_option setting.Base t e
  setting_says setting.Branches None t e = an_option setting.Branches t e
  setting_says setting.Line None t e = an_option setting.Line t e
  setting_says setting.A0 None t e = an_option setting.A0 t e
  setting_says setting.A1 None t e = an_option setting.A1 t e
  setting_says setting.A2 None t e = an_option setting.A2 t e
  setting_says setting.A3 None t e = an_option setting.A3 t e
  setting_says setting.A4 None t e = an_option setting.A4 t e
  setting_says setting.A5 None t e = an_option setting.A5 t e
  setting_says setting.A6 None t e = an_option setting.A6 t e
  setting_says setting.A7 None t e = an_option setting.A7 t e
  setting_says setting.Tries None t e = a_try t e
  setting_says setting.Sheet None t e = an_option setting.Sheet t e
  setting_says setting.Json None t e = a_flag setting.Json e
  setting_says setting.Help None t e = asks_help e
  setting_says setting.Version None t e = asks_version e
  setting_says setting.Output (Some v) t e = a_value setting.Output v e
  setting_says setting.Base (Some v) t e = a_value setting.Base v e
  setting_says setting.Branches (Some v) t e = a_value setting.Branches v e
  setting_says setting.Line (Some v) t e = a_value setting.Line v e
  setting_says setting.A0 (Some v) t e = a_value setting.A0 v e
  setting_says setting.A1 (Some v) t e = a_value setting.A1 v e
  setting_says setting.A2 (Some v) t e = a_value setting.A2 v e
  setting_says setting.A3 (Some v) t e = a_value setting.A3 v e
  setting_says setting.A4 (Some v) t e = a_value setting.A4 v e
  setting_says setting.A5 (Some v) t e = a_value setting.A5 v e
  setting_says setting.A6 (Some v) t e = a_value setting.A6 v e
  setting_says setting.A7 (Some v) t e = a_value setting.A7 v e
  setting_says setting.Tries (Some v) t e = is_wrong (takes setting.Tries) (t, (begins setting.Tries v w e).0, (begins setting.Tries v w e).1)
  setting_says setting.Sheet (Some v) t e = a_value setting.Sheet v e
  setting_says setting.Json (Some v) t e = is_wrong (takes setting.Json) (t, (begins setting.Json v w e).0, (begins setting.Json v w e).1)
  setting_says setting.Help (Some v) t e = is_wrong (takes setting.Help) (t, (begins setting.Help v w e).0, (begins setting.Help v w e).1)
  setting_says setting.Version (Some v) t e = is_wrong (takes setting.Version) (t, (begins setting.Version v w e).0, (begins setting.Version v w e).1)

  -- an operand, or one too many
  pub on_operand : (P : Step → Type 0) (m : Mode) → P (goes (gs ++ operand w ∷ []) m) → (takes_several c ≡ false → P (stops (wrong (too_many w)))) → P (operand_step c gs m w)
  on_operand P m f g =
      on_cond P (takes_several c || not (ltb (number_count c) (operand_count gs))) (goes (gs ++ operand w ∷ []) m) (stops (wrong (too_many w)))
      (λ e. f) (λ e. g (neither (takes_several c) (not (ltb (number_count c) (operand_count gs))) e))

  operand_says : IsOperand c w → Says (operand_step c gs ready w)
  operand_says i = on_operand Says ready (an_operand i) (λ e. is_wrong (too_many w) (e, refl))

  option_says : is_dashed w ≡ true → Says (option_step c gs w (found_in c w SETTINGS))
  option_says d = go (found_in c w SETTINGS) refl
    where
      go : (o : Option Found) → found_in c w SETTINGS ≡ o → Says (option_step c gs w o)
      go None e =
          on_cond Says (is_move c && eqb (operand_count gs) 0) (operand_step c gs ready w) (stops (wrong (no_option (named_option w))))
          (λ b. operand_says (inr (first_of_both (is_move c) (eqb (operand_count gs) 0) b)))
          (λ b. is_wrong (no_option (named_option w)) (d, e, refl))
      go (Some f) e = let t = taken_is f.of w c f.with (found_is c w SETTINGS f e) in setting_says f.of f.with t.0 t.1

  pub ready_says : Says (ready_step c gs w)
  ready_says =
      on_cond Says (bytes_eq w (codes "--")) (goes gs plain) (cond (is_dashed w) (option_step c gs w (found_in c w SETTINGS)) (operand_step c gs ready w))
      (λ e. dashes (same_text w (codes "--") e))
      (λ e. on_cond Says (is_dashed w) (option_step c gs w (found_in c w SETTINGS)) (operand_step c gs ready w) option_says (λ d. operand_says (inl d)))

-- ---- the words that are left, by what the next one is
abbrev Reads : Command → Mode → List Given → List Text → Type 0
Reads c ready ks ws = Spelled c ks ws
Reads c plain ks ws = ks ≡ map operand ws
Reads c (value_of s) ks ws = (v : Text) × (vs : List Text) × (us : List Given) × (ws ≡ v ∷ vs) × (ks ≡ value s v ∷ us) × Spelled c us vs
Reads c first ks ws =
    (a : Text) × (b : Text) × (d : Text) × (vs : List Text) × (us : List Given) × (ws ≡ a ∷ b ∷ d ∷ vs) × (ks ≡ tries a b d ∷ us) × Spelled c us vs
Reads c (second a) ks ws =
    (b : Text) × (d : Text) × (vs : List Text) × (us : List Given) × (ws ≡ b ∷ d ∷ vs) × (ks ≡ tries a b d ∷ us) × Spelled c us vs
Reads c (third a b) ks ws = (d : Text) × (vs : List Text) × (us : List Given) × (ws ≡ d ∷ vs) × (ks ≡ tries a b d ∷ us) × Spelled c us vs

-- hs, all that is given in the end
abbrev Adds : Command → Mode → List Given → List Given → List Text → Type 0
Adds c m gs hs ws = (ks : List Given) × (hs ≡ gs ++ ks) × Reads c m ks ws

more : (gs hs ks : List Given) (g : Given) → hs ≡ (gs ++ g ∷ []) ++ ks → hs ≡ gs ++ g ∷ ks
more gs hs ks g e = e ∙ append_assoc gs (g ∷ []) ks

module _ (c : Command) (gs : List Given) (w : Text) (ws : List Text) (hs : List Given) (n : Mode)
    (left : (ks : List Given) (m : Mode) → steps c ks m ws ≡ goes hs n → Adds c m ks hs ws) where
  ready_adds : {x : Step} → Says c gs w x → on_step x (λ ks m. steps c ks m ws) ≡ goes hs n → Adds c ready gs hs (w ∷ ws)
  ready_adds (dashes e) h = let r = left gs plain h in (r.0, r.1, after_dashes w r.0 ws e r.2)
  ready_adds (a_flag s e) h =
      let r = left (gs ++ flag s ∷ []) ready h in (flag s ∷ r.0, more gs hs r.0 (flag s) r.1, as_flag s w r.0 ws e r.2)
  ready_adds (a_value s v e) h =
      let r = left (gs ++ value s v ∷ []) ready h in (value s v ∷ r.0, more gs hs r.0 (value s v) r.1, as_attached s v w r.0 ws e r.2)
  ready_adds (an_option s t e) h =
      let r = left gs (value_of s) h in
      let q = r.2 in
      (r.0, r.1, rw (q.4, q.3) (as_value s q.0 w q.2 q.1 e q.5))
  ready_adds (a_try t e) h =
      let r = left gs first h in
      let q = r.2 in
      (r.0, r.1, rw (q.6, q.5) (as_tries q.0 q.1 q.2 w q.4 q.3 e q.7))
  ready_adds (an_operand i) h =
      let r = left (gs ++ operand w ∷ []) ready h in (operand w ∷ r.0, more gs hs r.0 (operand w) r.1, as_operand w r.0 ws i r.2)
  ready_adds (asks_help e) h = absurd cc
  ready_adds (asks_version e) h = absurd cc
  ready_adds (is_wrong e b) h = absurd cc

  plain_adds : on_step (operand_step c gs plain w) (λ ks m. steps c ks m ws) ≡ goes hs n → Adds c plain gs hs (w ∷ ws)
  plain_adds =
      on_operand c gs w (λ x. on_step x (λ ks m. steps c ks m ws) ≡ goes hs n → Adds c plain gs hs (w ∷ ws)) plain
      (λ h. let r = left (gs ++ operand w ∷ []) plain h in (operand w ∷ r.0, more gs hs r.0 (operand w) r.1, ap (λ t. operand w ∷ t) r.2))
      (λ e h. absurd cc)

all_read : (c : Command) (ws : List Text) (gs : List Given) (m : Mode) (hs : List Given) (n : Mode) → steps c gs m ws ≡ goes hs n → Adds c m gs hs ws
unfolding steps
all_read c [] gs ready hs n h = let p : gs ≡ hs = cc in ([], sym p ∙ sym (append-nil gs), no_more)
all_read c [] gs plain hs n h = let p : gs ≡ hs = cc in ([], sym p ∙ sym (append-nil gs), refl)
all_read c [] gs (value_of s) hs n h = absurd cc
all_read c [] gs first hs n h = absurd cc
all_read c [] gs (second a) hs n h = absurd cc
all_read c [] gs (third a b) hs n h = absurd cc
all_read c (w ∷ ws) gs ready hs n h = ready_adds c gs w ws hs n (λ ks m. all_read c ws ks m hs n) (ready_says c gs w) h
all_read c (w ∷ ws) gs plain hs n h = plain_adds c gs w ws hs n (λ ks m. all_read c ws ks m hs n) h
all_read c (w ∷ ws) gs (value_of s) hs n h =
    let r = all_read c ws (gs ++ value s w ∷ []) ready hs n h in
    (value s w ∷ r.0, more gs hs r.0 (value s w) r.1, (w, ws, r.0, refl, refl, r.2))
all_read c (w ∷ ws) gs first hs n h =
    let r = all_read c ws gs (second w) hs n h in
    let q = r.2 in
    (r.0, r.1, (w, q.0, q.1, q.2, q.3, ap (λ t. w ∷ t) q.4, q.5, q.6))
all_read c (w ∷ ws) gs (second a) hs n h =
    let r = all_read c ws gs (third a w) hs n h in
    let q = r.2 in
    (r.0, r.1, (w, q.0, q.1, q.2, ap (λ t. w ∷ t) q.3, q.4, q.5))
all_read c (w ∷ ws) gs (third a b) hs n h =
    let r = all_read c ws (gs ++ tries a b w ∷ []) ready hs n h in
    (tries a b w ∷ r.0, more gs hs r.0 (tries a b w) r.1, (w, ws, r.0, refl, refl, r.2))

pub spelled : (c : Command) (ws : List Text) (gs : List Given) (m : Mode) → given_in c ws ≡ goes gs m → Spelled c gs ws
spelled c ws gs m h = let r = all_read c ws [] ready gs m h in rw r.1 r.2

pub every_word_is_read : EveryWordIsRead
unfolding EveryWordIsRead
every_word_is_read c ws gs m h = spelled c ws gs m h
