-- A list's places after i turns of a loop: those that a text shows and that are left, and the lines of those in three slices. Assumes nothing.
use Prim.Native.Nat.{ℕ, zero, suc, ◌+◌, ◌-◌, ◌*◌, ◌<◌, ◌≤◌}
use mathlib.Core.Path.{◌≡◌, refl, sym, ap, ◌∙◌}
use mathlib.Core.List.{List, [], ◌∷◌, ◌++◌, map, flat_map, append-nil, append_assoc}
use native.Mathlib.Omega.{arith}
use lib.ListN.{length, drop, get_or, length-append}
use lib.Seq.{drop-drop}
use Rattle.rules.specs.Text.{Text}
use Rattle.rules.specs.Assemble.{Place, place}
use Rattle.rules.specs.Tally.{list_in}
use Rattle.listing.specs.Listing.{place_text, list_text}
use Rattle.listing.specs.Reading.{place_in, places_in}
use Rattle.text.specs.Spans.{over_from}
use Rattle.text.proofs.Over.{put_both, put_nil}
use Rattle.listing.proofs.Lines.{length_place}

-- ---- a part f of each place that a text shows, from line i on
abbrev pub shown_from : (Place → ℕ) → Text → ℕ → ℕ → List ℕ
shown_from f t count i = map f (places_in (count - i) (drop (16 * i) t))

module _ (f : Place → ℕ) (t : Text) (count : ℕ) where
  pub shown_more : (i v : ℕ) → i < count → v ≡ f (place_in (drop (16 * i) t)) → shown_from f t count i ≡ v ∷ shown_from f t count (i + 1)
  unfolding places_in
  shown_more i v h e =
      let one : count - i ≡ suc (count - (i + 1)) = omega arith in
      let next : 16 * (i + 1) ≡ 16 * i + 16 = omega arith in
      rw (one, next, ← (drop-drop 16 (16 * i) t), e)

  pub shown_end : (i : ℕ) → count ≤ i → shown_from f t count i ≡ []
  unfolding places_in
  shown_end i h = let none : count - i ≡ 0 = omega arith in rw none

-- ---- the lines of the first places in three slices
pub lines_none : (xs ws ms : List ℕ) → list_text (list_in 0 xs ws ms) ≡ []
unfolding list_text flat_map list_in
lines_none xs ws ms = refl

pub lines_more : (i : ℕ) (xs ws ms : List ℕ) → i < length xs → i < length ws → i < length ms
    → list_text (list_in (i + 1) xs ws ms) ≡ list_text (list_in i xs ws ms) ++ place_text (place (get_or xs i 0) (get_or ws i 0) (get_or ms i 0))
unfolding list_text flat_map list_in
lines_more i [] ws ms a b c = absurd (omega arith)
lines_more i (x ∷ xs) [] ms a b c = absurd (omega arith)
lines_more i (x ∷ xs) (w ∷ ws) [] a b c = absurd (omega arith)
lines_more zero (x ∷ xs) (w ∷ ws) (m ∷ ms) a b c = append-nil (place_text (place x w m))
lines_more (suc i) (x ∷ xs) (w ∷ ws) (m ∷ ms) a b c =
    let one : suc i + 1 ≡ suc (i + 1) = omega arith in
    rw (one, lines_more i xs ws ms (omega arith) (omega arith) (omega arith)) (sym (append_assoc (place_text (place x w m)) (list_text (list_in i xs ws ms)) _))

pub length_lines : (i : ℕ) (xs ws ms : List ℕ) → i ≤ length xs → i ≤ length ws → i ≤ length ms → length (list_text (list_in i xs ws ms)) ≡ 16 * i
unfolding list_text flat_map list_in
length_lines zero xs ws ms a b c = refl
length_lines (suc i) [] ws ms a b c = absurd (omega arith)
length_lines (suc i) (x ∷ xs) [] ms a b c = absurd (omega arith)
length_lines (suc i) (x ∷ xs) (w ∷ ws) [] a b c = absurd (omega arith)
length_lines (suc i) (x ∷ xs) (w ∷ ws) (m ∷ ms) a b c =
    rw (length-append (place_text (place x w m)) (list_text (list_in i xs ws ms)), length_place (place x w m), length_lines i xs ws ms (omega arith) (omega arith) (omega arith)) (omega arith)

-- ---- the same lines, put into l at an index
module _ (start : ℕ) where
  pub put_none : (xs ws ms l : List ℕ) → l ≡ over_from start (list_text (list_in 0 xs ws ms)) l
  put_none xs ws ms l = rw (lines_none xs ws ms) (sym (put_nil start l))

  pub put_more : (i : ℕ) (xs ws ms l : List ℕ) {k m : List ℕ} → i < length xs → i < length ws → i < length ms → start + 16 * i ≤ length l
      → k ≡ over_from start (list_text (list_in i xs ws ms)) l
      → m ≡ over_from (start + 16 * i) (place_text (place (get_or xs i 0) (get_or ws i 0) (get_or ms i 0))) k
      → m ≡ over_from start (list_text (list_in (i + 1) xs ws ms)) l
  put_more i xs ws ms l {k} {m} a b c h e f =
      let n : length (list_text (list_in i xs ws ms)) ≡ 16 * i = length_lines i xs ws ms (omega arith) (omega arith) (omega arith) in
      rw (lines_more i xs ws ms a b c) (f ∙ ap (over_from (start + 16 * i) _) e ∙ sym (put_both start (start + 16 * i) (list_text (list_in i xs ws ms)) l (omega arith) (omega arith) _))
