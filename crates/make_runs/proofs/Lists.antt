-- A list read into slices with just the room that its text asks for. Assumes nothing.
use Rattle.std.proofs.Common.{ℕ, zero, suc, ◌≡◌, ◌+◌, ◌*◌, ◌/◌, ◌<◌, ◌≤◌, min, take, Bool, true, false, List, [], ◌∷◌, ◌++◌, map, length, drop, refl, sym, ap, ◌∙◌, arith}
use Rattle.std.specs.Prelude.{Ok, Err}
use mathlib.Core.List.{append-nil}
use lib.ListN.{length-drop, length-map, drop_of_length-le}
use Rattle.rules.specs.Text.{Text}
use Rattle.rules.specs.Assemble.{Place, Slices, over, holding}
use Rattle.listing.specs.Reading.{is_line, read_lines, read_list, places_in, room_in}
use Rattle.listing.specs.declared.reading.BadLine.{BadLine}
use Rattle.listing.proofs.Lines.{no_line, read_end, read_full, read_bad, read_line}
use Rattle.listing.proofs.RoundTrip.{length_places, read_length}
use Rattle.std.proofs.Math.Seq.{take-append_seam}
use Rattle.station.specs.Reads.{Reads}
use Rattle.station.specs.declared.input.Input.{Input}
use Rattle.station.proofs.Front.{parsed_front}
use Rattle.station.proofs.Kept.{take_lesser}
use Rattle.outcome.specs.Made.{Made, made, no_list}
use Rattle.outcome.specs.Outcome.{NotMade}
use Rattle.outcome.specs.declared.Unmade.{Unmade}
use Rattle.make_runs.specs.Runs.{of_read, of_list}

-- more room than there are lines for changes nothing
fewer : (room more n : ℕ) (t : Text) → room ≤ more → length t < 16 * (room + 1) → read_lines room n t ≡ read_lines more n t
fewer zero more n [] h k = read_end zero n ∙ sym (read_end more n)
fewer zero more n (b ∷ t) h k = read_full n (b ∷ t) (omega arith) ∙ sym (read_bad more n (b ∷ t) (omega arith) (no_line (b ∷ t) (omega arith)))
fewer (suc room) zero n t h k = absurd (omega arith)
fewer (suc room) (suc more) n [] h k = read_end (suc room) n ∙ sym (read_end (suc more) n)
fewer (suc room) (suc more) n (b ∷ t) h k =
    go (is_line (b ∷ t)) refl (fewer room more (suc n) (drop 16 (b ∷ t)) (omega arith) (omega (arith, length-drop 16 (b ∷ t))))
  where
    go : (y : Bool) → is_line (b ∷ t) ≡ y → read_lines room (suc n) (drop 16 (b ∷ t)) ≡ read_lines more (suc n) (drop 16 (b ∷ t))
        → read_lines (suc room) n (b ∷ t) ≡ read_lines (suc more) n (b ∷ t)
    go true e ih = read_line room n (b ∷ t) (omega arith) e ∙ ih ∙ sym (read_line more n (b ∷ t) (omega arith) e)
    go false e ih = read_bad (suc room) n (b ∷ t) (omega arith) e ∙ sym (read_bad (suc more) n (b ∷ t) (omega arith) e)

-- a list over all of a slice of its length
put_whole : (s l : List ℕ) → length s ≡ length l → over s l ≡ s
unfolding over
put_whole s l e = rw (drop_of_length-le l {i = length s} (omega arith)) (append-nil s)

module _ (t : Text) (x y : Slices) (short : length t ≤ 196609) (a : length x.addresses ≡ length t / 16) (w : length x.words ≡ length t / 16) (m : length x.marks ≡ length t / 16) where
  enough : read_list (room_in x) t ≡ read_list 12288 t
  enough =
      let r : room_in x ≡ length t / 16 = rw (a, w, m) (omega arith) in
      rw r (fewer (length t / 16) 12288 0 t (omega arith) (omega arith))

  module _ (f : List ℕ → List ℕ → Made) where
    pub read_into : (n : ℕ) → Ok n ≡ read_list (room_in x) t → y ≡ holding (places_in n t) x → of_list f t ≡ f y.addresses y.words
    unfolding of_list holding
    read_into n e k =
        let all : 16 * n ≡ length t = read_length t (room_in x) n (sym e) in
        let columns : (g : Place → ℕ) → length (map g (places_in n t)) ≡ n = λ g. length-map (places_in n t) g ∙ length_places n t in
        let xs : over (map (λ (p : Place). p.address) (places_in n t)) x.addresses ≡ map (λ (p : Place). p.address) (places_in n t) = put_whole _ _ (columns _ ∙ omega arith) in
        let ws : over (map (λ (p : Place). p.word) (places_in n t)) x.words ≡ map (λ (p : Place). p.word) (places_in n t) = put_whole _ _ (columns _ ∙ omega arith) in
        rw (k, xs, ws, ← enough, ← e) refl

    pub not_read : (e : BadLine) → Err e ≡ read_list (room_in x) t → of_list f t ≡ no_list e.number
    unfolding of_list
    not_read e k = rw (← enough, ← k) refl

-- what stands after a list that was read is of no account, and neither is what a buffer does not keep
pub of_front : (f : List ℕ → List ℕ → Made) (t buffer : Text) (i : Input) (n : ℕ) → 196608 < length buffer → n ≡ min (length buffer) i.total → Reads t buffer i → of_list f (take n buffer) ≡ of_list f t
unfolding of_list
of_front f t buffer i n k e r =
    let same : take n buffer ≡ take (length buffer) t = take_lesser n i.total buffer e ∙ sym r.front in
    ap (λ (u : Text). of_read f u (read_list 12288 u)) same ∙ parsed_front (of_read f) (λ t u e. refl) (length buffer) t k

-- a vector that was lent
pub back : (k : ℕ) (y x : List ℕ) → k ≡ length y → take k (y ++ drop (length y) x) ≡ y
back k y x e = rw (e, take-append_seam y (drop (length y) x)) refl

-- what was made of the list is made of the text
module _ (f : List ℕ → List ℕ → Made) (t : Text) (xs ws ys us : List ℕ) (l : of_list f t ≡ f xs ws) (p : ys ≡ xs) (q : us ≡ ws) where
  pub so_made : (s u : Text) → f ys us ≡ made s → u ≡ s → of_list f t ≡ made u
  so_made s u h e = rw (l, ← p, ← q, e) h

  pub so_not : (e : Unmade) → NotMade (f ys us) e → NotMade (of_list f t) e
  so_not e h = rw (l, ← p, ← q) h
