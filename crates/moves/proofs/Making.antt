-- Moves made one after another in a loop: what is made so far, and what is left. Assumes nothing.
use Rattle.std.proofs.Common.{◌≡◌, ℕ, ◌+◌, ◌≤◌, ◌<◌, List, [], ◌∷◌, ◌++◌, map, length, get_or, set, take, drop, ℤ, pos, sym, ◌∙◌, add-one, arith, append_assoc, append-nil, drop-cons, drop_of_length-le}
use Rattle.std.proofs.lemmas.List.{map-append}
use lib.ListN.{length-set}
use lib.Seq.{take-suc-set, drop-set-lt}
use Rattle.rules.specs.Answer.{Answer}
use Rattle.rules.specs.Assemble.{Slices}
use Rattle.rules.specs.Relocate.{move_answer, move_slices}
use Rattle.rules.specs.Tally.{moves}
use Rattle.moves.specs.Moves.{told, slices_after}

-- i of the moves are made: the three slices hold x, and the slice of what stands for the answers, which held rs₀, holds rs
pub record Made {A : Type 0} (answer : A → Answer ℕ) (n : ℕ) (x₀ x : Slices) (ds : List ℤ) (rs₀ rs : List A) (i : ℕ) : Type 0 where
  pub addresses : length x.addresses ≡ length x₀.addresses
  pub words : length x.words ≡ length x₀.words
  pub long : length rs ≡ length rs₀
  pub after : slices_after n x₀ ds ≡ slices_after n x (drop i ds)
  pub answers : told (moves n x₀ ds) ≡ map answer (take i rs) ++ told (moves n x (drop i ds))
  pub others : (k : ℕ) → i ≤ k → drop k rs ≡ drop k rs₀

module _ {A : Type 0} {answer : A → Answer ℕ} {n : ℕ} {x₀ x : Slices} {ds : List ℤ} {rs₀ rs : List A} {i : ℕ} (m : Made answer n x₀ x ds rs₀ rs i) where
  pub made_steps : i < length ds → length ds ≤ length rs₀ → (y : Slices) → y ≡ move_slices x n (get_or ds i (pos 0)) → length y.addresses ≡ length x.addresses → length y.words ≡ length x.words
      → (a : A) → answer a ≡ move_answer x n (get_or ds i (pos 0)) → Made answer n x₀ y ds rs₀ (set rs i a) (i + 1)
  unfolding slices_after moves
  made_steps h k y e u w a f =
      let l : i < length rs = omega (arith, m.long) in
      record {
        addresses = u ∙ m.addresses;
        words = w ∙ m.words;
        long = length-set rs i a ∙ m.long;
        after = m.after ∙ rw (add-one i, drop-cons ds i (pos 0) h, e);
        answers = m.answers ∙ rw (add-one i, take-suc-set rs i a l, map-append answer (take i rs) (a ∷ []), append_assoc, drop-cons ds i (pos 0) h, f, e);
        others = λ j g. drop-set-lt j rs i a (omega arith) ∙ m.others j (omega arith);
      }

  module _ (h : i ≡ length ds) where
    pub made_slices : x ≡ slices_after n x₀ ds
    unfolding slices_after
    made_slices = let k : length ds ≤ i = omega arith in sym (rw (drop_of_length-le ds k) at m.after)

    pub made_answers : map answer (take (length ds) rs) ≡ told (moves n x₀ ds)
    unfolding moves
    made_answers = let k : length ds ≤ i = omega arith in rw (← h) (sym (m.answers ∙ rw (drop_of_length-le ds k) (append-nil _)))
