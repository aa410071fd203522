-- The names of one line, and the records of a source, never overlap. Assumes nothing.
use Rattle.std.specs.Prelude.{Some, slice_get}
use Rattle.std.proofs.lemmas.Option.{same_Some, none-some}
use Prim.Native.Nat.{ℕ, zero, suc, ◌+◌, ◌<◌, ◌≤◌}
use mathlib.Core.Path.{◌≡◌, refl, sym, ap, ◌∙◌}
use mathlib.Core.List.{List, [], ◌∷◌}
use native.Mathlib.Omega.{arith}
use lib.ListN.{length}
use Rattle.rules.specs.Text.{Text, cut_at}
use Rattle.rules.specs.Line.{Name, name, line_of}
use Rattle.rules.specs.Assemble.{Sizes}
use Rattle.rules.proofs.Standing.{at_within}
use Rattle.rules.proofs.Names.{Rising, over, next, names_rise, names_few}
use Rattle.promises.specs.Nearest.{In, head, tail, start_after, RecordsBy}
use Rattle.promises.proofs.Compared.{clash, Compared, less, more, equal, compared}
use Rattle.promises.proofs.RefusalsPasses.{reached_once}
use Rattle.promises.proofs.Records.{Apart, apart}
use Rattle.promises_calls.specs.NamesApart.{PartedRecords, one_record, ends_in_front, ends_after, TwoStarts, two_first, two_outer, two_last, NamesApart}

-- ---- one line
starts_from : {l : Text} {e b : ℕ} (ms : List Name) (y : ℕ) (m : Name) → Rising l e b ms → slice_get ms y ≡ Some m → b ≤ m.start
starts_from [] y m (over h) f = absurd (none-some m f)
starts_from (n ∷ ms) zero m (next h c r) f = rw (← same_Some n m f) h
starts_from {l = l} {e = e} {b = b} (n ∷ ms) (suc y) m (next h c r) f = let u = starts_from {b = suc (n.start + length n.text)} ms y m r f in omega arith

in_order : {l : Text} {e b : ℕ} (ms : List Name) (x y : ℕ) (m m' : Name) → Rising l e b ms → x < y → slice_get ms x ≡ Some m → slice_get ms y ≡ Some m'
    → m.start + length m.text < m'.start
in_order [] x y m m' (over h) k f g = absurd (none-some m f)
in_order (n ∷ ms) zero zero m m' (next h c r) k f g = absurd (omega arith)
in_order (n ∷ ms) zero (suc y) m m' (next h c r) k f g = rw (← same_Some n m f) (starts_from ms y m' r g)
in_order (n ∷ ms) (suc x) zero m m' (next h c r) k f g = absurd (omega arith)
in_order {l = l} {e = e} {b = b} (n ∷ ms) (suc x) (suc y) m m' (next h c r) k f g = in_order {b = suc (n.start + length n.text)} ms x y m m' r (omega arith) f g

-- where a name is
place_of : {m : Name} {ms : List Name} → In m ms → (x : ℕ) × (slice_get ms x ≡ Some m)
place_of (head e) = (0, ap Some (sym e))
place_of (tail i) = let h = place_of i in (suc h.0, h.1)

get_short : (ms : List Name) (x : ℕ) (m : Name) → slice_get ms x ≡ Some m → x < length ms
get_short [] x m e = absurd (none-some m e)
get_short (n ∷ ms) zero m e = omega arith
get_short (n ∷ ms) (suc x) m e = omega (arith, get_short ms x m e)

ends_within : {l : Text} {e b : ℕ} {m : Name} {ms : List Name} → Rising l e b ms → In m ms → m.start + length m.text ≤ length l
ends_within (next h c r) (head f) = rw f (at_within c)
ends_within (next h c r) (tail i) = ends_within r i
ends_within (over h) i = elim i [ ]

-- ---- lines of a source
pub start_next : (ls : List Text) (j : ℕ) (l : Text) → slice_get ls j ≡ Some l → start_after (suc j) ls ≡ suc (start_after j ls + length l)
unfolding start_after
start_next [] j l e = clash cc
start_next (k ∷ ls) zero l e = let u : k ≡ l = cc in rw u (omega arith)
start_next (k ∷ ls) (suc j) l e = let h = start_next ls j l e in omega arith

start_le : (ls : List Text) (j k : ℕ) → j ≤ k → start_after j ls ≤ start_after k ls
unfolding start_after
start_le ls zero k h = omega arith
start_le ls (suc j) zero h = absurd (omega arith)
start_le [] (suc j) (suc k) h = omega arith
start_le (l ∷ ls) (suc j) (suc k) h = omega (arith, start_le ls j k (omega arith))

module _ (z : Sizes) (base : ℕ) (s : Text) where
  abbrev R : Text → ℕ → ℕ → ℕ → Type 0
  R n i k a = RecordsBy z base s n i k a

  -- a record's end, on an earlier line than another record
  ends_before : {n n' : Text} {i i' k k' a a' : ℕ} → R n i k a → R n' i' k' a' → k < k' → i + length n < i'
  ends_before r r' h =
      let q = apart z base s r in
      let q' = apart z base s r' in
      let b = ends_within (names_rise q.text) q.named in
      let u = start_next (cut_at 10 s) q.index q.text q.is in
      let v = start_le (cut_at 10 s) (suc q.index) q'.index (omega (arith, q.number, q'.number)) in
      omega (arith, q.starts, q'.starts)

  -- where in its line's names a record's name is
  record OnLine (l : Text) (f : ℕ) (n : Text) (i : ℕ) : Type 0 where
    place : ℕ
    offset : ℕ
    is : slice_get (line_of l).names place ≡ Some (name offset n)
    starts : i ≡ f + offset

  -- two records of one line
  record OneLine (n : Text) (i a : ℕ) (n' : Text) (i' a' : ℕ) : Type 0 where
    text : Text
    front : ℕ
    first : OnLine text front n i
    second : OnLine text front n' i'
    address : a ≡ a'

  one_line : {n n' : Text} {i i' k a a' : ℕ} → R n i k a → R n' i' k a' → OneLine n i a n' i' a'
  one_line r r' =
      let q = apart z base s r in
      let q' = apart z base s r' in
      let f : q.index ≡ q'.index = omega (arith, q.number, q'.number) in
      let is = rw f at q.is in
      let is' = q'.is in
      let t : q.text ≡ q'.text = cc in
      let p = place_of (rw t at q.named) in
      let p' = place_of q'.named in
      record {
        text = q'.text;
        front = start_after q'.index (cut_at 10 s);
        first = record { place = p.0; offset = q.offset; is = p.1; starts = q.starts ∙ rw f refl };
        second = record { place = p'.0; offset = q'.offset; is = p'.1; starts = q'.starts };
        address = (reached_once z base s (rw f at q.reached) q'.reached).0;
      }

  apart_lem : (n n' : Text) (i i' k k' a a' : ℕ) → R n i k a → R n' i' k' a' → PartedRecords i n k a i' n' k' a'
  apart_lem n n' i i' k k' a a' r r' = go (compared k k')
    where
      on : OneLine n i a n' i' a' → k ≡ k' → PartedRecords i n k a i' n' k' a'
      on o e = by (compared o.first.place o.second.place)
        where
          l : Text
          l = o.text

          by : Compared o.first.place o.second.place → PartedRecords i n k a i' n' k' a'
          by (less h) =
              let u = in_order _ o.first.place o.second.place _ _ (names_rise l) h o.first.is o.second.is in
              ends_in_front (omega (arith, o.first.starts, o.second.starts)) (omega arith)
          by (more h) =
              let u = in_order _ o.second.place o.first.place _ _ (names_rise l) h o.second.is o.first.is in
              ends_after (omega (arith, o.first.starts, o.second.starts)) (omega arith)
          by (equal h) =
              let same : name o.first.offset n ≡ name o.second.offset n' = same_Some _ _ (sym o.first.is ∙ rw h o.second.is) in
              let f : o.first.offset ≡ o.second.offset = ap (λ (m : Name). m.start) same in
              one_record (omega (arith, o.first.starts, o.second.starts)) (ap (λ (m : Name). m.text) same) e o.address

      go : Compared k k' → PartedRecords i n k a i' n' k' a'
      go (less h) = ends_in_front (ends_before r r' h) (omega arith)
      go (more h) = ends_after (ends_before r' r h) (omega arith)
      go (equal e) = on (one_line r (rw (sym e) at r')) e

  -- of three places below 2 two are one
  two_places : (x y w : ℕ) → x < 2 → y < 2 → w < 2 → TwoStarts x y w
  two_places zero zero w h k j = two_first refl
  two_places (suc zero) (suc zero) w h k j = two_first refl
  two_places zero (suc zero) zero h k j = two_outer refl
  two_places zero (suc zero) (suc zero) h k j = two_last refl
  two_places (suc zero) zero zero h k j = two_last refl
  two_places (suc zero) zero (suc zero) h k j = two_outer refl
  two_places (suc (suc x)) y w h k j = absurd (omega arith)
  two_places x (suc (suc y)) w h k j = absurd (omega arith)
  two_places x y (suc (suc w)) h k j = absurd (omega arith)

  below_two : {l n : Text} {f i : ℕ} (o : OnLine l f n i) → o.place < 2
  below_two {l} o = omega (arith, get_short (line_of l).names o.place _ o.is, names_few l)

  same_place : {l n n' : Text} {f i i' : ℕ} (o : OnLine l f n i) (o' : OnLine l f n' i') → o.place ≡ o'.place → i ≡ i'
  same_place {n = n} {n' = n'} o o' h =
      let same : name o.offset n ≡ name o'.offset n' = same_Some _ _ (sym o.is ∙ rw h o'.is) in
      let f : o.offset ≡ o'.offset = ap (λ (m : Name). m.start) same in
      omega (arith, o.starts, o'.starts)

  on_third : {n n'' : Text} {i i'' k a a'' : ℕ} → R n i k a → R n'' i'' k a'' → (q : Apart z base s n'' i'' k a'') → OnLine q.text (start_after q.index (cut_at 10 s)) n i
  on_third r r'' q =
      let p = apart z base s r in
      let f : p.index ≡ q.index = omega (arith, p.number, q.number) in
      let is = rw f at p.is in
      let is' = q.is in
      let t : p.text ≡ q.text = cc in
      let h = place_of (rw t at p.named) in
      record { place = h.0; offset = p.offset; is = h.1; starts = p.starts ∙ rw f refl }

  two_lem : (n n' n'' : Text) (i i' i'' k a a' a'' : ℕ) → R n i k a → R n' i' k a' → R n'' i'' k a'' → TwoStarts i i' i''
  two_lem n n' n'' i i' i'' k a a' a'' r r' r'' = go (apart z base s r'')
    where
      go : Apart z base s n'' i'' k a'' → TwoStarts i i' i''
      go q = by (two_places x.place y.place w.place (below_two x) (below_two y) (below_two w))
        where
          x : OnLine q.text (start_after q.index (cut_at 10 s)) n i
          x = on_third r r'' q

          y : OnLine q.text (start_after q.index (cut_at 10 s)) n' i'
          y = on_third r' r'' q

          w : OnLine q.text (start_after q.index (cut_at 10 s)) n'' i''
          w = on_third r'' r'' q

          by : TwoStarts x.place y.place w.place → TwoStarts i i' i''
          by (two_first e) = two_first (same_place x y e)
          by (two_outer e) = two_outer (same_place x w e)
          by (two_last e) = two_last (same_place y w e)

pub names_apart : NamesApart
names_apart =
    record {
      few = names_few;
      on_line = λ l x y m m' h e f. in_order (line_of l).names x y m m' (names_rise l) h e f;
      apart = apart_lem;
      two = two_lem;
    }
