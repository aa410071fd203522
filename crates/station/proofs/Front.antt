-- A list's text is read by its front: a byte more than the lines that there is room for. Assumes nothing.
use Prim.Native.Nat.{ℕ, zero, suc, ◌+◌, ◌-◌, ◌*◌, ◌<◌, ◌≤◌, min}
use mathlib.Core.Path.{◌≡◌, refl, sym, ap, ◌∙◌}
use mathlib.Core.Bool.{Bool, true, false, cond}
use mathlib.Core.List.{List, [], ◌∷◌}
use native.Mathlib.Nat.{zero-add, suc-add}
use native.Mathlib.Omega.{arith}
use lib.IntN.{ℤ}
use lib.Dec.{eqb}
use lib.ListN.{length, take, drop}
use lib.Seq.{take-nil, take-take, take_all, get_or-take}
use Rattle.rules.specs.Text.{Text, starts}
use Rattle.listing.specs.Listing.{place_text}
use Rattle.listing.specs.Reading.{place_in, is_line, read_lines, read_list}
use Rattle.std.specs.Prelude.{Result, Ok, Err}
use Rattle.listing.specs.declared.reading.BadLine.{BadLine}
use Rattle.listing.proofs.Lines.{length_place, read_line, read_bad}
use Rattle.listing.proofs.RoundTrip.{read_length, read_within}
use Rattle.station.specs.Station.{parsed_text, moved_text, unless_failed, list_input_text}
use Rattle.station.specs.Reads.{Reads}
use Rattle.station.specs.declared.input.Input.{Input}
use Rattle.station.proofs.Kept.{take_lesser}

dropped : (n k : ℕ) (t : Text) → drop n (take (n + k) t) ≡ take k (drop n t)
dropped zero k t = rw (zero-add k)
dropped (suc n) k [] = rw (take-nil (suc n + k), take-nil k)
dropped (suc n) k (b ∷ t) = rw (suc-add n k) (dropped n k t)

starts_front : (p t : Text) (m : ℕ) → length p ≤ m → starts p (take m t) ≡ starts p t
unfolding starts
starts_front [] t m h = refl
starts_front (a ∷ p) t zero h = absurd (omega arith)
starts_front (a ∷ p) [] (suc m) h = refl
starts_front (a ∷ p) (b ∷ t) (suc m) h = go (eqb a b) refl (starts_front p t m (omega arith))
  where
    go : (y : Bool) → eqb a b ≡ y → starts p (take m t) ≡ starts p t → starts (a ∷ p) (b ∷ take m t) ≡ starts (a ∷ p) (b ∷ t)
    go true e k = rw (e, starts) k
    go false e k = rw (e, starts)

-- a line is told by 16 bytes
shown_front : (k : ℕ) (t : Text) → place_in (take (16 + k) t) ≡ place_in t
unfolding place_in
shown_front k t =
    let more : 16 + k ≡ 9 + (7 + k) = omega arith in
    rw (take-take 8 (16 + k) t (omega arith), get_or-take (16 + k) t 14 0 (omega arith), more, dropped 9 (7 + k) t, take-take 4 (7 + k) (drop 9 t) (omega arith))

line_front : (m : ℕ) (t : Text) → 16 ≤ m → is_line (take m t) ≡ is_line t
unfolding is_line
line_front m t h =
    let more : m ≡ 16 + (m - 16) = omega arith in
    let same : place_in (take m t) ≡ place_in t = rw more (shown_front (m - 16) t) in
    rw same (starts_front (place_text (place_in t)) t m (omega (arith, length_place (place_in t))))

read_front : (room n m : ℕ) (t : Text) → 16 * room < m → read_lines room n (take m t) ≡ read_lines room n t
unfolding read_lines
read_front zero n zero t h = absurd (omega arith)
read_front zero n (suc m) [] h = refl
read_front zero n (suc m) (b ∷ s) h = refl
read_front (suc room) n zero t h = absurd (omega arith)
read_front (suc room) n (suc m) [] h = refl
read_front (suc room) n (suc m) (b ∷ s) h = go (is_line (b ∷ s)) refl (read_front room (suc n) (suc m - 16) (drop 16 (b ∷ s)) (omega arith))
  where
    go : (y : Bool) → is_line (b ∷ s) ≡ y → read_lines room (suc n) (take (suc m - 16) (drop 16 (b ∷ s))) ≡ read_lines room (suc n) (drop 16 (b ∷ s))
        → read_lines (suc room) n (take (suc m) (b ∷ s)) ≡ read_lines (suc room) n (b ∷ s)
    go true q ih =
        let more : suc m ≡ 16 + (suc m - 16) = omega arith in
        let rest : drop 16 (take (suc m) (b ∷ s)) ≡ take (suc m - 16) (drop 16 (b ∷ s)) = ap (λ (k : ℕ). drop 16 (take k (b ∷ s))) more ∙ dropped 16 (suc m - 16) (b ∷ s) in
        read_line room n (take (suc m) (b ∷ s)) (omega arith) (line_front (suc m) (b ∷ s) (omega arith) ∙ q)
        ∙ ap (read_lines room (suc n)) rest
        ∙ ih
        ∙ sym (read_line room n (b ∷ s) (omega arith) q)
    go false q ih =
        read_bad (suc room) n (take (suc m) (b ∷ s)) (omega arith) (line_front (suc m) (b ∷ s) (omega arith) ∙ q)
        ∙ sym (read_bad (suc room) n (b ∷ s) (omega arith) q)

-- whatever is made of a text as it is read, where one that is no list does not count but for its wrong line
pub parsed_front : {A : Type 0} (f : Text → Result ℕ BadLine → A) → ((t u : Text) (e : BadLine) → f t (Err e) ≡ f u (Err e)) → (m : ℕ) (t : Text) → 196608 < m
    → f (take m t) (read_list 12288 (take m t)) ≡ f t (read_list 12288 t)
parsed_front f bad m t h = rw (read_front 12288 0 m t h) (go (read_list 12288 t) refl)
  where
    go : (a : Result ℕ BadLine) → read_list 12288 t ≡ a → f (take m t) a ≡ f t a
    go (Ok n) e =
        let short : length t ≤ m = omega (arith, read_length t 12288 n e, read_within t 12288 n e) in
        ap (λ (u : Text). f u (Ok n)) (take_all m t short)
    go (Err r) e = bad (take m t) t r

list_front : (d : ℤ) (m : ℕ) (t : Text) → 196608 < m → moved_text d (take m t) ≡ moved_text d t
unfolding moved_text parsed_text
list_front d m t h = parsed_front (parsed_text d) (λ t u e. refl) m t h

-- ---- an input, by where its reader stands
module _ (d : ℤ) (i : Input) (buffer : List ℕ) where
  pub list_failed : i.failed ≡ true → list_input_text d i buffer ≡ []
  unfolding list_input_text unless_failed
  list_failed f = rw f

  pub list_read : i.failed ≡ false → (n : ℕ) → n ≡ min (length buffer) i.total → moved_text d (take n buffer) ≡ list_input_text d i buffer
  unfolding list_input_text unless_failed
  list_read f n e = rw (f, take_lesser n i.total buffer e)

  -- 196,609 bytes of a list's text are enough to print what the whole comes to
  pub list_front_is_enough : (t : Text) → (i.failed ≡ false → 196608 < length buffer) → Reads t buffer i → list_input_text d i buffer ≡ unless_failed i (moved_text d t)
  unfolding list_input_text unless_failed
  list_front_is_enough t k r = go i.failed refl
    where
      go : (f : Bool) → i.failed ≡ f → cond f [] (moved_text d (take i.total buffer)) ≡ cond f [] (moved_text d t)
      go true g = refl
      go false g = ap (moved_text d) (sym r.front) ∙ list_front d (length buffer) t (k g)
