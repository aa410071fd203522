-- The words of a command, one after another. Assumes nothing.
use Rattle.std.proofs.Common.{◌≡◌, ◌<◌, ◌≤◌, ◌+◌, ℕ, List, ◌∷◌, map, drop, length, get_or, add-one, drop-cons, drop_of_length-le, refl, ap, ◌∙◌}
use Rattle.rules.specs.Text.{Text}
use Rattle.cli_args.specs.declared.Command.{Command}
use Rattle.cli_args.specs.Given.{Given, Mode, Stop, Step, goes, stops, step, end_of, steps}
use Rattle.cli_args.specs.Lexed.{IsStop}
use Rattle.cli_args.specs.declared.lexing.Stop as Code
use Rattle.cli_args.specs.declared.lexing.Stop.TheVariants.{Help, Version, Wrong, NoMemory}

-- w, what each is as a text: those from k on are left, and what is to come of them is the same
module _ {A : Type 0} (w : A → Text) (c : Command) (ws : List A) (x : Step) where
  pub record Left (k : ℕ) (gs : List Given) (m : Mode) : Type 0 where
    pub same : x ≡ steps c gs m (map w (drop k ws))

  module _ (k : ℕ) (gs : List Given) (m : Mode) (l : Left k gs m) where
    module _ (d : A) (h : k < length ws) where
      split : map w (drop k ws) ≡ w (get_or ws k d) ∷ map w (drop (k + 1) ws)
      split = rw (drop-cons ws k d h, add-one k) refl

      pub goes_on : (hs : List Given) (n : Mode) → step c gs m (w (get_or ws k d)) ≡ goes hs n → Left (k + 1) hs n
      unfolding steps
      goes_on hs n e = record { same = l.same ∙ ap (steps c gs m) split ∙ rw e refl }

      ends : (s : Stop) → step c gs m (w (get_or ws k d)) ≡ stops s → x ≡ stops s
      unfolding steps
      ends s e = l.same ∙ ap (steps c gs m) split ∙ rw e refl

      pub ends_at : (e : Code.Stop) → IsStop (step c gs m (w (get_or ws k d))) e → IsStop x e
      ends_at Help p = ends _ p
      ends_at Version p = ends _ p
      ends_at (Wrong y) p = ends _ p
      ends_at NoMemory p = tt

    pub at_end : length ws ≤ k → x ≡ end_of gs m
    unfolding steps
    at_end h = l.same ∙ ap (λ t. steps c gs m (map w t)) (drop_of_length-le ws h)
