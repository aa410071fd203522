-- The checks of a move, in their order. Assumes nothing.
use Rattle.std.proofs.Common.{◌≡◌, ℕ, ◌≤◌, true, false, List, ◌++◌, ℤ, sym, ◌∙◌, length, map, take, drop}
use Rattle.std.specs.Prelude.{Some, None, position}
use Rattle.rules.specs.Answer.{accepted, refused, refuse_if, refuse_at}
use Rattle.rules.specs.Assemble.{Slices, slices, short}
use Rattle.rules.specs.Relocate.{far, first_bad_mark, moved_address, move_answer, move_words, move_by, move_slices}
use Rattle.relocate.specs.Moves.{leaving}
use Rattle.relocate.proofs.Prefix.{addresses_moved, words_moved, bad_in_prefix, index_in_prefix}

module _ (xs ws ms : List ℕ) (n : ℕ) (d : ℤ) where
  pub refuses_8 : far d ≡ true → move_answer (slices xs ws ms) n d ≡ refused 8 0
  unfolding move_answer refuse_if
  refuses_8 f = rw f

  module _ (f : far d ≡ false) where
    pub refuses_9 : short (slices xs ws ms) n ≡ true → move_answer (slices xs ws ms) n d ≡ refused 9 n
    unfolding move_answer refuse_if
    refuses_9 s = rw (f, s)

    module _ (s : short (slices xs ws ms) n ≡ false) where
      pub refuses_10 : (i : ℕ) → first_bad_mark 0 0 (length (take n ms)) (take n ms) ≡ Some i → move_answer (slices xs ws ms) n d ≡ refused 10 i
      unfolding move_answer refuse_if refuse_at
      refuses_10 i e = rw (f, s, sym (bad_in_prefix 0 0 n ms) ∙ e)

      module _ (b : first_bad_mark 0 0 (length (take n ms)) (take n ms) ≡ None) where
        pub refuses_11 : (i : ℕ) → position (leaving d) (take n xs) ≡ Some i → move_answer (slices xs ws ms) n d ≡ refused 11 i
        unfolding move_answer refuse_if refuse_at
        refuses_11 i e = rw (f, s, sym (bad_in_prefix 0 0 n ms) ∙ b, index_in_prefix (leaving d) n xs ∙ e)

        pub accepts : position (leaving d) (take n xs) ≡ None → move_answer (slices xs ws ms) n d ≡ accepted n
        unfolding move_answer refuse_if refuse_at
        accepts e = rw (f, s, sym (bad_in_prefix 0 0 n ms) ∙ b, index_in_prefix (leaving d) n xs ∙ e)

-- the slices after a move that is answered so
pub stays : (x : Slices) (n : ℕ) (d : ℤ) (r p : ℕ) → refused r p ≡ move_answer x n d → x ≡ move_slices x n d
unfolding move_slices move_by
stays x n d r p e = rw (← e)

pub moves : (xs ws ms : List ℕ) (n : ℕ) (d : ℤ) {ys vs : List ℕ} → accepted n ≡ move_answer (slices xs ws ms) n d → n ≤ length ms → ys ≡ map (moved_address d) (take n xs)
    → vs ≡ move_words d (length (take n ws)) (take n ms) (take n ws) → slices (ys ++ drop n xs) (vs ++ drop n ws) ms ≡ move_slices (slices xs ws ms) n d
unfolding move_slices move_by
moves xs ws ms n d e h f g = rw (← e, f, g, addresses_moved d n xs, words_moved d n ms ws h)
