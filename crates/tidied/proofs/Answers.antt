-- What `copy_apart` and `tidy_copy` answer and leave. Assumes nothing.
use mathlib.Core.Path.{◌≡◌, refl, sym, ap, ◌∙◌}
use Prim.Native.Nat.{ℕ, ◌+◌, ◌≤◌, ◌<◌}
use native.Mathlib.Omega.{arith}
use borrow.Author.Tests.{lt-ltb, le-ltb}
use lib.ListN.{length, take, drop, replicate, length-append, length-replicate}
use lib.Seq.{take_at, length-take-le}
use Rattle.rules.specs.Limits.{max_source}
use Rattle.rules.specs.Text.{Text, cut_at}
use Rattle.rules.specs.Answer.{Answer, accepted, refused, refuse_if}
use Rattle.rules.specs.Assemble.{checks, over}
use Rattle.text.specs.Spans.{over_from}
use Rattle.text.proofs.Over.{put_over}
use Rattle.source.specs.Clear.{Clear}
use Rattle.source.proofs.Callers.{checks_clear, stopped}
use Rattle.requests.specs.Tidy.{tidy, room_for, tidy_answer, write_copy, tidy_slice}
use Rattle.promises.specs.Tidy.{CopyIsShort}
use Rattle.tidylaws.proofs.Short.{copy_is_short}

-- ---- by the room
module _ (t old : Text) where
  no_room : length old < length t → room_for (length old) t ≡ refused 18 (length t)
  unfolding room_for refuse_if
  no_room h = rw (lt-ltb (length old) (length t) h)

  has_room : length t ≤ length old → room_for (length old) t ≡ accepted (length t)
  unfolding room_for refuse_if
  has_room h = rw (le-ltb (length old) (length t) h)

  module _ {n : ℕ} (e : n ≡ length t) where
    pub short_answer : length old < n → (refused 18 n ≡ (room_for (length old) t)) × (old ≡ write_copy (room_for (length old) t) t old)
    unfolding write_copy
    short_answer h = rw (no_room (omega arith), e) (refl, refl)

    pub copied_answer : n ≤ length old → {out : Text} → out ≡ over t old → (accepted n ≡ (room_for (length old) t)) × (out ≡ write_copy (room_for (length old) t) t old)
    unfolding write_copy
    copied_answer h g = rw (has_room (omega arith), e) (refl, g)

-- ---- `copy_apart`: the copy in an array
pub apart_room : (s : Text) → length s ≤ max_source → length s ≤ length (replicate {A = ℕ} 32768 0)
apart_room s h = rw (length-replicate {A = ℕ} 32768 0) h

module _ (t old : Text) {n : ℕ} {copy : Text} (e : n ≡ length t) (g : copy ≡ over t old) where
  front_is : take n copy ≡ t
  unfolding over
  front_is = rw g (take_at t _ n (sym e))

  pub front_within : n ≤ length copy
  unfolding over
  front_within = omega (arith, ap length g, length-append t (drop (length t) old))

  pub front_length : n ≡ length (take n copy)
  front_length = sym (length-take-le n copy front_within)

  module _ (out : Text) (h : n ≤ length out) where
    pub front_fits : 0 + length (take n copy) ≤ length out
    front_fits = omega (arith, front_length)

    pub apart_answer : {last : Text} → last ≡ over_from 0 (take n copy) out → (accepted n ≡ (room_for (length out) t)) × (last ≡ write_copy (room_for (length out) t) t out)
    apart_answer f = copied_answer t out e h (f ∙ rw front_is (put_over t out))

  pub apart_short : (out : Text) → length out < n → (refused 18 n ≡ (room_for (length out) t)) × (out ≡ write_copy (room_for (length out) t) t out)
  apart_short out h = short_answer t out e h

-- ---- `tidy_copy`
module _ (s out : Text) where
  -- refused by 1 to 3
  pub stopped_answer : (n p : ℕ) → refused n p ≡ checks s (accepted (length (cut_at 10 s)))
      → (refused n p ≡ tidy_answer (length out) s) × (out ≡ tidy_slice s out)
  unfolding tidy_answer tidy_slice write_copy
  stopped_answer n p e = rw (← stopped s _ n p e (room_for (length out) (tidy s))) (refl, refl)

  -- past them
  module _ (c : Clear s) {r : Answer ℕ} {last : Text} where
    pub cleared_answer : (r ≡ room_for (length out) (tidy s)) × (last ≡ write_copy (room_for (length out) (tidy s)) (tidy s) out)
        → (r ≡ tidy_answer (length out) s) × (last ≡ tidy_slice s out)
    unfolding tidy_answer tidy_slice
    cleared_answer a = rw (checks_clear s c (room_for (length out) (tidy s))) a

  pub in_place : length s ≤ length out → {n : ℕ} {last : Text} → n ≡ length (tidy s) → last ≡ over (tidy s) out
      → (accepted n ≡ (room_for (length out) (tidy s))) × (last ≡ write_copy (room_for (length out) (tidy s)) (tidy s) out)
  unfolding CopyIsShort
  in_place h e g = copied_answer (tidy s) out e (omega (arith, copy_is_short s)) g
