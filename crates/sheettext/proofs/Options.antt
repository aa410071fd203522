-- The arguments one after another are `-t` and a name, as often as there are any. Assumes nothing.
use mathlib.Core.Path.{◌≡◌, refl, ◌∙◌}
use mathlib.Core.Bool.{Bool, true, false, ◌&&◌, cond}
use mathlib.Core.List.{List, [], ◌∷◌}
use Rattle.rules.specs.Text.{Text, bytes, same}
use Rattle.sheettext.specs.Arguments.{are_sheets, with_argument, with_arguments, is_whole, ArgumentsTaken}

-- from where `-t` is asked for, w if one was wrong before
taken_from : (w : Bool) (ts : List Text) → is_whole (with_arguments (record { due = false; wrong = w }) ts) ≡ cond w false (are_sheets ts)
unfolding are_sheets with_argument with_arguments is_whole
taken_from w [] = refl
taken_from w (o ∷ []) = go (same o (bytes "-t")) w
  where
    go : (x w : Bool) → cond (cond x w true) false false ≡ cond w false false
    go true w = refl
    go false true = refl
    go false false = refl
taken_from w (o ∷ n ∷ ts) = taken_from (cond (same o (bytes "-t")) w true) ts ∙ go (same o (bytes "-t")) w (are_sheets ts)
  where
    go : (x w r : Bool) → cond (cond x w true) false r ≡ cond w false (x && r)
    go true w r = refl
    go false true r = refl
    go false false r = refl

pub arguments_taken : ArgumentsTaken
arguments_taken = record { all = taken_from false }
