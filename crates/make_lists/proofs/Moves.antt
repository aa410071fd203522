-- A list read from its text and moved. Assumes nothing.
use Rattle.std.proofs.Common.{◌≡◌, ◌≤◌, ◌*◌, ◌/◌, ℕ, List, length, map, take, min, arith, refl, sym, ap, ◌∙◌}
use Rattle.std.specs.Prelude.{Ok, Err, ℤ}
use mathlib.Core.List.{append-nil}
use native.Mathlib.Nat.{min-eq_left}
use lib.ListN.{length-map, drop_of_length-le}
use Rattle.rules.specs.Text.{Text}
use Rattle.rules.specs.Answer.{accepted, refused, and_then}
use Rattle.rules.specs.Assemble.{Place, Slices, over, holding}
use Rattle.rules.specs.Relocate.{move_answer, move_slices}
use Rattle.rules.specs.Tally.{held}
use Rattle.listing.specs.Listing.{list_text}
use Rattle.listing.specs.Reading.{read_list, places_in, room_in}
use Rattle.listing.specs.declared.reading.BadLine.{BadLine}
use Rattle.listing.proofs.RoundTrip.{read_length, length_places}
use Rattle.station.specs.Station.{filled_by}
use Rattle.station.specs.Reads.{Reads}
use Rattle.station.specs.declared.input.Input.{Input}
use Rattle.station.proofs.Front.{parsed_front}
use Rattle.station.proofs.Kept.{take_lesser}
use Rattle.outcome.specs.Made.{told, no_list}
use Rattle.make_lists.specs.Listed.{Fits}
use Rattle.make_lists.specs.Moved.{moved_list, moved_lines, moved, HoldsText}
use Rattle.make_lists.specs.declared.listed.Listed.{Listed}
use Rattle.make_lists.proofs.Read.{same_list}

-- ---- a text's list in as many places as it has lines
full : (f : Place → ℕ) (l : List Place) (old : List ℕ) → length old ≡ length l → over (map f l) old ≡ map f l
unfolding over
full f l old e = let h : length old ≤ length (map f l) = omega (arith, length-map l f) in rw (drop_of_length-le old h) (append-nil _)

all_filled : (l : List Place) (x : Slices) → length x.addresses ≡ length l → length x.words ≡ length l → length x.marks ≡ length l → holding l x ≡ filled_by l
unfolding holding filled_by
all_filled l x a b c = rw (full (λ p. p.address) l x.addresses a, full (λ p. p.word) l x.words b, full (λ p. p.mark) l x.marks c)

module _ (room : ℕ) (t : Text) (x : Slices) (a : length x.addresses ≡ room) (b : length x.words ≡ room) (c : length x.marks ≡ room) (r : room ≡ length t / 16) (h : room ≤ 12288) where
  room_is : room_in x ≡ room
  room_is = let k : room ≤ room = omega arith in rw (a, b, c, min-eq_left k) (min-eq_left k)

  read_is : read_list (room_in x) t ≡ read_list 12288 t
  read_is = ap (λ (m : ℕ). read_list m t) room_is ∙ same_list room t r h

  pub text_held : (n : ℕ) (y : Slices) → Ok n ≡ read_list (room_in x) t → y ≡ holding (places_in n t) x
      → (read_list 12288 t ≡ Ok n) × (n ≤ 12288) × (y ≡ filled_by (places_in n t))
  text_held n y e f =
      let k : 16 * n ≡ length t = read_length t (room_in x) n (sym e) in
      let l = length_places n t in
      (sym (e ∙ read_is), omega arith, f ∙ all_filled (places_in n t) x (omega arith) (omega arith) (omega arith))

  pub text_wrong : (e : BadLine) → Err e ≡ read_list (room_in x) t → read_list 12288 t ≡ Err e
  text_wrong e f = sym (f ∙ read_is)

-- all its words have a place
pub filled_fits : (t : Text) (l : Listed) → HoldsText t (Ok l) → Fits l
unfolding filled_by
filled_fits t l h =
    let ps = places_in l.count t in
    let n = length_places l.count t in
    let a : length l.addresses.items ≡ length (map (λ (p : Place). p.address) ps) = ap (λ (x : Slices). length x.addresses) h.2 in
    let b : length l.words.items ≡ length (map (λ (p : Place). p.word) ps) = ap (λ (x : Slices). length x.words) h.2 in
    let c : length l.marks.items ≡ length (map (λ (p : Place). p.mark) ps) = ap (λ (x : Slices). length x.marks) h.2 in
    record {
      most = h.1;
      room = record {
        addresses = omega (arith, length-map ps (λ (p : Place). p.address));
        words = omega (arith, length-map ps (λ (p : Place). p.word));
        marks = omega (arith, length-map ps (λ (p : Place). p.mark));
      };
    }

-- ---- the mover on places that a list fills
module _ (d : ℤ) (l : List Place) (n : ℕ) (x : Slices) (e : length l ≡ n) (f : x ≡ filled_by l) where
  pub list_stays : {r p : ℕ} → refused r p ≡ move_answer x n d → moved_list d l ≡ refused r p
  unfolding moved_list and_then
  list_stays {r} {p} g =
      let h : move_answer (filled_by l) (length l) d ≡ refused r p = rw (e, ← f) (sym g) in
      rw h

  pub list_moves : {k : ℕ} → accepted k ≡ move_answer x n d → {y : Slices} → y ≡ move_slices x n d → moved_list d l ≡ accepted (held k y)
  unfolding moved_list and_then
  list_moves {k} g {y} m =
      let h : move_answer (filled_by l) (length l) d ≡ accepted k = rw (e, ← f) (sym g) in
      let s : move_slices (filled_by l) (length l) d ≡ y = rw (e, ← f) (sym m) in
      rw (h, s)

-- ---- a text
module _ (d : ℤ) (t : Text) where
  pub lines_moved : {n : ℕ} → read_list 12288 t ≡ Ok n → moved d t ≡ told (λ l. list_text l) (moved_list d (places_in n t))
  unfolding moved_lines
  lines_moved e = rw e

  pub wrong_line : {e : BadLine} → read_list 12288 t ≡ Err e → moved d t ≡ no_list e.number
  unfolding moved_lines
  wrong_line e = rw e

-- 196,609 bytes are enough
pub front_moved : (d : ℤ) {t x : List ℕ} {i : Input} → Reads t x i → length x ≡ 196609 → (k : ℕ) → k ≡ min 196609 i.total → moved d (take k x) ≡ moved d t
unfolding moved_lines
front_moved d {t} {x} {i} r l k e = ap (moved d) (take_lesser k i.total x (rw l e) ∙ sym r.front) ∙ parsed_front (moved_lines d) (λ u v b. refl) (length x) t (omega arith)
