-- A list read from its text and moved. Assumes nothing.
use Rattle.std.proofs.Common.{◌≡◌, ◌≤◌, ◌*◌, ◌/◌, ℕ, List, length, map, take, min, arith, refl, sym, ap, ◌∙◌}
use Rattle.std.specs.Prelude.{Ok, Err, ℤ}
use mathlib.Core.List.{append-nil}
use native.Mathlib.Nat.{min-eq_left}
use Rattle.std.proofs.lemmas.List.{take_all, length-take}
use lib.ListN.{length-map, drop_of_length-le}
use Rattle.rules.specs.Text.{Text}
use Rattle.rules.specs.Answer.{accepted, refused, and_then}
use Rattle.rules.specs.Assemble.{Place, Slices, over, holding}
use Rattle.rules.specs.Relocate.{move_answer, move_slices}
use Rattle.rules.specs.Tally.{held}
use Rattle.listing.specs.Reading.{read_list, places_in, room_in}
use Rattle.listing.specs.declared.reading.BadLine.{BadLine}
use Rattle.listing.proofs.RoundTrip.{read_length, length_places}
use Rattle.station.specs.Station.{filled_by}
use Rattle.station.proofs.Front.{parsed_front}
use Rattle.station.proofs.Kept.{take_lesser}
use Rattle.cli_lists.specs.Listed.{Fits}
use Rattle.cli_error.specs.Fault.{no_list}
use Rattle.cli_error.specs.Answered.{fails}
use Rattle.cli_run.specs.Input.{Named}
use Rattle.cli_lists.specs.Moved.{moved_list, listed_move, moved_lines, moved, HoldsText}
use Rattle.cli_lists.specs.declared.listed.Listed.{Listed}
use Rattle.cli_lists.proofs.Read.{same_list}

-- ---- a text's list in as many places as it has lines
full : (f : Place → ℕ) (l : List Place) (old : List ℕ) → length old ≡ length l → over (map f l) old ≡ map f l
unfolding over
full f l old e = let h : length old ≤ length (map f l) = omega (arith, length-map l f) in rw (drop_of_length-le old h) (append-nil _)

all_filled : (l : List Place) (x : Slices) → length x.addresses ≡ length l → length x.words ≡ length l → length x.marks ≡ length l → holding l x ≡ filled_by l
unfolding holding filled_by
all_filled l x a b c = rw (full (λ p. p.address) l x.addresses a, full (λ p. p.word) l x.words b, full (λ p. p.mark) l x.marks c)

module _ (room : ℕ) (t : Text) (x : Slices) (a : length x.addresses ≡ room) (b : length x.words ≡ room) (c : length x.marks ≡ room) (r : room ≡ length t / 16) (h : room ≤ 12288) where
  room_is : room_in x ≡ room
  room_is = let k : room ≤ room = omega arith in rw (a, b, c, min-eq_left k) (min-eq_left k)

  read_is : read_list (room_in x) t ≡ read_list 12288 t
  read_is = ap (λ (m : ℕ). read_list m t) room_is ∙ same_list room t r h

  pub text_held : (n : ℕ) (y : Slices) → Ok n ≡ read_list (room_in x) t → y ≡ holding (places_in n t) x
      → (read_list 12288 t ≡ Ok n) × (n ≤ 12288) × (y ≡ filled_by (places_in n t))
  text_held n y e f =
      let k : 16 * n ≡ length t = read_length t (room_in x) n (sym e) in
      let l = length_places n t in
      (sym (e ∙ read_is), omega arith, f ∙ all_filled (places_in n t) x (omega arith) (omega arith) (omega arith))

  pub text_wrong : (e : BadLine) → Err e ≡ read_list (room_in x) t → read_list 12288 t ≡ Err e
  text_wrong e f = sym (f ∙ read_is)

-- all its words have a place
pub filled_fits : (t : Text) (l : Listed) → HoldsText t (Ok l) → Fits l
unfolding filled_by
filled_fits t l h =
    let ps = places_in l.count t in
    let n = length_places l.count t in
    let a : length l.addresses.items ≡ length (map (λ (p : Place). p.address) ps) = ap (λ (x : Slices). length x.addresses) h.2.places in
    let b : length l.words.items ≡ length (map (λ (p : Place). p.word) ps) = ap (λ (x : Slices). length x.words) h.2.places in
    let c : length l.marks.items ≡ length (map (λ (p : Place). p.mark) ps) = ap (λ (x : Slices). length x.marks) h.2.places in
    record {
      most = h.1;
      room = record {
        addresses = omega (arith, length-map ps (λ (p : Place). p.address));
        words = omega (arith, length-map ps (λ (p : Place). p.word));
        marks = omega (arith, length-map ps (λ (p : Place). p.mark));
      };
    }

-- ---- the mover on places that a list fills
module _ (d : ℤ) (l : List Place) (n : ℕ) (x : Slices) (e : length l ≡ n) (f : x ≡ filled_by l) where
  pub list_stays : {r p : ℕ} → refused r p ≡ move_answer x n d → moved_list d l ≡ refused r p
  unfolding moved_list and_then
  list_stays {r} {p} g =
      let h : move_answer (filled_by l) (length l) d ≡ refused r p = rw (e, ← f) (sym g) in
      rw h

  pub list_moves : {k : ℕ} → accepted k ≡ move_answer x n d → {y : Slices} → y ≡ move_slices x n d → moved_list d l ≡ accepted (held k y)
  unfolding moved_list and_then
  list_moves {k} g {y} m =
      let h : move_answer (filled_by l) (length l) d ≡ accepted k = rw (e, ← f) (sym g) in
      let s : move_slices (filled_by l) (length l) d ≡ y = rw (e, ← f) (sym m) in
      rw (h, s)

-- ---- a text, of which 196,609 bytes are enough
module _ (d : ℤ) (b : Named) where
  front_moved : moved_lines d b (take 196609 b.text) (read_list 12288 (take 196609 b.text)) ≡ moved d b
  unfolding moved_lines
  front_moved = parsed_front (moved_lines d b) (λ u v e. refl) 196609 b.text (omega arith)

  pub lines_moved : {x : Text} {n : ℕ} → x ≡ take 196609 b.text → read_list 12288 x ≡ Ok n → moved d b ≡ listed_move d b (places_in n x)
  unfolding moved_lines
  lines_moved e f = sym front_moved ∙ rw (← e, f)

  pub wrong_line : {x : Text} {e : BadLine} → x ≡ take 196609 b.text → read_list 12288 x ≡ Err e → moved d b ≡ fails (no_list b.name e.number)
  unfolding moved_lines
  wrong_line e f = sym front_moved ∙ rw (← e, f)

-- what is read of a front is the text's front
pub front_kept : (f b : Text) (k : ℕ) → f ≡ take 196609 b → k ≡ min (length f) 196609 → take k f ≡ take 196609 b
front_kept f b k e m = take_lesser k 196609 f m ∙ take_all 196609 f (omega (arith, ap length e, length-take 196609 b)) ∙ e
