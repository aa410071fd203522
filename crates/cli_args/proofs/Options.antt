-- The options of a command, one after another. Assumes nothing.
use Rattle.std.proofs.Common.{◌≡◌, ◌<◌, ◌≤◌, ◌+◌, ℕ, Bool, List, ◌++◌, drop, length, get_or, add-one, drop-cons, drop_of_length-le, refl, sym, ap, ◌∙◌}
use Rattle.std.specs.Prelude.{Option, None, Some}
use Rattle.rules.specs.Text.{Text}
use Rattle.cli_args.specs.declared.Command.{Command}
use Rattle.cli_args.specs.declared.Setting.{Setting}
use Rattle.cli_args.specs.Table.{option_name}
use Rattle.cli_args.specs.Given.{is_long, attached, attached_to, given_as, taken_as, found_in}
use Rattle.cli_args.proofs.After.{stripped}

module _ (c : Command) (w : Text) (ss : List Setting) (k : ℕ) (from : found_in c w ss ≡ found_in c w (drop k ss)) where
  module _ (d : Setting) (h : k < length ss) where
    pub is_this : (v : Option Text) → taken_as c (get_or ss k d) w ≡ Some v → found_in c w ss ≡ Some (record { of = get_or ss k d; with = v })
    unfolding found_in
    is_this v e = from ∙ ap (found_in c w) (drop-cons ss k d h) ∙ rw e refl

    pub is_another : taken_as c (get_or ss k d) w ≡ None → found_in c w ss ≡ found_in c w (drop (k + 1) ss)
    unfolding found_in
    is_another e = from ∙ ap (found_in c w) (drop-cons ss k d h) ∙ rw (e, add-one k) refl

  pub is_none : length ss ≤ k → found_in c w ss ≡ None
  unfolding found_in
  is_none h = from ∙ ap (found_in c w) (drop_of_length-le ss h)

-- a word that begins with an option's name
pub is_given : (s : Setting) (name w r : Text) (k : ℕ) (long : Bool) (x : Option (Option Text)) → name ≡ option_name s → w ≡ name ++ drop k w → r ≡ drop k w
    → long ≡ is_long s → x ≡ attached long r → x ≡ given_as s w
is_given s name w r k long x e f h l a = let n = stripped (option_name s) w k r (rw (← e) f) h in a ∙ rw l (sym (ap (attached_to (is_long s)) n))
