-- What a call of the mover leaves in the slices where marks are 0 and 1. Assumes nothing.
use Prim.Native.Nat.{ℕ, ◌<◌}
use mathlib.Core.Path.{◌≡◌, refl, ◌∙◌}
use mathlib.Core.Logic.{◌≢◌}
use native.Mathlib.Omega.{arith}
use lib.ListN.{get_or}
use Rattle.rules.specs.Assemble.{Slices}
use Rattle.rules.specs.Relocate.{move_answer, move_by, move_slices}
use Rattle.promises.specs.Refusals.{SamePast, MoveWrites}
use Rattle.promises.specs.Pairs.{answer_before}
use Rattle.promises.proofs.Refusals.{accepted_writes}
use Rattle.promises.proofs.Pairs.{moves_as_before}
use Rattle.promises_calls.specs.PlainMoves.{PlainMoved, SlicesMoveAsBefore}

past_at : {x y : Slices} (m n : ℕ) → m ≡ n → SamePast m y x → SamePast n y x
past_at m n e h = rw e at h

pub slices_move_as_before : SlicesMoveAsBefore
unfolding SlicesMoveAsBefore move_slices move_by
slices_move_as_before x n h d = record { answer = same; refusal = λ r p e. rw (same, e) refl; moved = λ m e. moved m (accepted_writes.moving x n d m (same ∙ e)) }
  where
    same : move_answer x n d ≡ answer_before x n d
    same = moves_as_before.answer x n h d

    unmarked : (i : ℕ) → i < n → get_or x.marks i 0 ≢ 1 → get_or x.marks i 0 ≡ 0
    unmarked i l k = let u = h i l in omega arith

    moved : (m : ℕ) → MoveWrites n d m x (move_slices x n d) → (m ≡ n) × PlainMoved n d x (move_slices x n d)
    moved m w =
        let c = w.counted in (
          c,
          record {
            addresses = λ i l. (w.moved i (omega arith)).address;
            marked = λ i l e. ((w.moved i (omega arith)).reduced (λ f. absurd (omega arith)), (w.moved i (omega arith)).congruent e);
            others = λ i l k. (w.moved i (omega arith)).stays (unmarked i l k);
            marks = w.kept;
            past = past_at m n c w.past;
            addresses_long = w.addresses;
            words_long = w.words;
          },
        )
