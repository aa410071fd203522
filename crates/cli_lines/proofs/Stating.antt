-- What follows of several scripts. Assumes nothing.
use Rattle.std.proofs.Common.{◌≡◌, true, false, List, [], ◌∷◌, ◌++◌, map, refl, ap, ◌∙◌}
use Rattle.std.specs.Prelude.{Option}
use Rattle.rules.specs.Answer.{Answer, accepted, refused}
use Rattle.cli_error.specs.Answered.{Answered}
use Rattle.cli_run.specs.Input.{Named}
use Rattle.cli_run.specs.Items.{Item, item, unread}
use Rattle.cli_lines.specs.Lines.{explained_script, page_of}
use Rattle.cli_lines.specs.Folded.{on_script, each_of}
use Rattle.cli_lines.specs.Answered.{whole_text, whole_page}
use Rattle.cli_lines.specs.Stated.{TextsJoined, EntriesJoined, PagesJoined, RefusalEnds, UnreadEnds}

module _ {A : Type 0} (t : Option Named) (part : Named → Answer A) where
  -- k of what was made of the scripts bs, and of those that are left
  past : (k : List A → Answered) (bs : List Named) (xs : List A) (left : List Item) → map part bs ≡ map accepted xs
      → each_of t part k (map item bs ++ left) ≡ each_of t part (λ ys. k (xs ++ ys)) left
  past k [] [] left e = refl
  past k [] (x ∷ xs) left e = absurd cc
  past k (b ∷ bs) [] left e = absurd cc
  past k (b ∷ bs) (x ∷ xs) left e =
      let p : part b ≡ accepted x = cc in
      let q : map part bs ≡ map accepted xs = cc in
      ap (λ (a : Answer A). on_script t part b a (λ y. each_of t part (λ ys. k (y ∷ ys)) (map item bs ++ left))) p ∙ past (λ ys. k (x ∷ ys)) bs xs left q

  over : (k : List A → Answered) (bs : List Named) (xs : List A) → map part bs ≡ map accepted xs → each_of t part k (map item bs) ≡ k xs
  over k [] [] e = refl
  over k [] (x ∷ xs) e = absurd cc
  over k (b ∷ bs) [] e = absurd cc
  over k (b ∷ bs) (x ∷ xs) e =
      let p : part b ≡ accepted x = cc in
      let q : map part bs ≡ map accepted xs = cc in
      ap (λ (a : Answer A). on_script t part b a (λ y. each_of t part (λ ys. k (y ∷ ys)) (map item bs))) p ∙ over (λ ys. k (x ∷ ys)) bs xs q

pub texts_joined : TextsJoined
unfolding TextsJoined
texts_joined base line many t bs es e = over t (explained_script line base t) (whole_text false line many) bs es e

pub entries_joined : EntriesJoined
unfolding EntriesJoined
entries_joined base line many t bs es e = over t (explained_script line base t) (whole_text true line many) bs es e

pub pages_joined : PagesJoined
unfolding PagesJoined
pages_joined base many t bs ps e = over t (page_of base many t) whole_page bs ps e

pub refusal_ends : RefusalEnds
unfolding RefusalEnds
refusal_ends json base line many t bs es e b n p r left =
    past t (explained_script line base t) (whole_text json line many) bs es (item b ∷ left) e
    ∙ ap (λ a. on_script t (explained_script line base t) b a (λ y. each_of t (explained_script line base t) (λ ys. whole_text json line many (es ++ (y ∷ ys))) left)) r

pub unread_ends : UnreadEnds
unfolding UnreadEnds
unread_ends json base line many t bs es e name what reason left =
    past t (explained_script line base t) (whole_text json line many) bs es (record { name = name; found = unread what reason } ∷ left) e
