-- The names that are given on are the lines of what was read, whatever the chunks. Assumes nothing.
use Prim.Native.Nat.{ℕ, suc, ◌+◌, ◌<◌, ◌≤◌, min}
use mathlib.Core.Path.{◌≡◌, refl, sym, ap, ◌∙◌}
use mathlib.Core.Bool.{Bool, true, false, cond}
use mathlib.Core.List.{List, [], ◌∷◌, ◌++◌, append_assoc, map}
use native.Mathlib.Omega.{arith}
use borrow.Author.Tests.{eq-eqb, eqb-true, ne_eqb, eqb-false, lt-ltb, ltb-true, ltb-false, leb-true, leb-false}
use lib.Dec.{eqb, leb, ltb}
use lib.ListN.{length, take, drop, length-append, length-take, drop_of_length-le}
use lib.Seq.{take-nil, take_all, length-take-le}
use Rattle.rules.specs.Text.{Text, on_first, cut_where, cut_at, other_texts}
use Rattle.std.specs.Prelude.{Option, None, Some, unwrap_or}
use Rattle.text.specs.Find.{further, index_of}
use Rattle.text.specs.Pieces.{until}
use Rattle.text.proofs.Until.{until_here, until_later, until_le, cut_here, cut_later, cut_first}
use Rattle.station.specs.Reads.{kept}
use Rattle.station.proofs.Kept.{take_lesser, kept_full, length_kept, front_grows}
use Rattle.sheettext.specs.Names.{names_of, names_in, name_kept, line_length, taken_of, name_after, NamesRead, NamesReadOn}

-- ---- the first line's end
after_one : (o : Option ℕ) (n : ℕ) → unwrap_or (further 1 o) (suc n) ≡ suc (unwrap_or o n)
after_one None n = refl
after_one (Some k) n = omega arith

pub line_end_is : (t : Text) → unwrap_or (index_of 10 t) (length t) ≡ until (eqb 10) t
unfolding index_of until
line_end_is [] = refl
line_end_is (b ∷ s) = go (eqb b 10) refl (line_end_is s)
  where
    go : (y : Bool) → eqb b 10 ≡ y → unwrap_or (index_of 10 s) (length s) ≡ until (eqb 10) s → unwrap_or (index_of 10 (b ∷ s)) (length (b ∷ s)) ≡ until (eqb 10) (b ∷ s)
    go true e ih = rw (until_here (eqb 10) b s (eq-eqb 10 b (sym (eqb-true b 10 e))), index_of, e)
    go false e ih = rw (until_later (eqb 10) b s (ne_eqb 10 b (λ h. eqb-false b 10 e (sym h))), index_of, e) (after_one (index_of 10 s) (length s) ∙ ap suc ih)

-- ---- the cut of a text and more
-- the last of some texts goes on with the first of others
meet : List Text → List Text → List Text
meet [] ys = ys
meet (x ∷ []) [] = x ∷ []
meet (x ∷ []) (y ∷ ys) = (x ++ y) ∷ ys
meet (x ∷ z ∷ xs) ys = x ∷ meet (z ∷ xs) ys

meet_first : (b : ℕ) (x : Text) (xs ys : List Text) → on_first b (meet (x ∷ xs) ys) ≡ meet (on_first b (x ∷ xs)) ys
unfolding meet on_first
meet_first b x [] [] = refl
meet_first b x [] (y ∷ ys) = refl
meet_first b x (z ∷ xs) ys = refl

meet_last : (ls : List Text) (r y : Text) (ys : List Text) → meet (ls ++ (r ∷ [])) (y ∷ ys) ≡ ls ++ ((r ++ y) ∷ ys)
unfolding meet
meet_last [] r y ys = refl
meet_last (l ∷ []) r y ys = refl
meet_last (l ∷ m ∷ ls) r y ys = ap (λ (x : List Text). l ∷ x) (meet_last (m ∷ ls) r y ys)

module _ (f : ℕ → Bool) where
  cut_more : (s t : Text) → cut_where f (s ++ t) ≡ meet (cut_where f s) (cut_where f t)
  unfolding meet cut_where
  cut_more [] t = rw (cut_first f t)
  cut_more (b ∷ s) t = go (f b) refl (cut_more s t)
    where
      go : (y : Bool) → f b ≡ y → cut_where f (s ++ t) ≡ meet (cut_where f s) (cut_where f t) → cut_where f (b ∷ (s ++ t)) ≡ meet (cut_where f (b ∷ s)) (cut_where f t)
      go true e ih = cut_here f b (s ++ t) e ∙ (ap (λ (x : List Text). [] ∷ x) ih ∙ rw (cut_here f b s e, cut_first f s))
      go false e ih =
          cut_later f b (s ++ t) e
          ∙ (ap (on_first b) ih ∙ rw (cut_later f b s e, cut_first f s) (meet_first b (take (until f s) s) (other_texts (cut_where f (drop (until f s) s))) (cut_where f t)))

  -- a text without such a byte, and one up to its first
  cut_none : (s : Text) → length s ≤ until f s → cut_where f s ≡ s ∷ []
  unfolding cut_where other_texts
  cut_none s h = cut_first f s ∙ rw (take_all (until f s) s h, drop_of_length-le s h)

  cut_end : (s : Text) → until f s < length s → cut_where f (take (suc (until f s)) s) ≡ take (until f s) s ∷ [] ∷ []
  unfolding until cut_where on_first
  cut_end [] h = absurd (omega arith)
  cut_end (b ∷ s) h = go (f b) refl (cut_end s)
    where
      go : (y : Bool) → f b ≡ y → (until f s < length s → cut_where f (take (suc (until f s)) s) ≡ take (until f s) s ∷ [] ∷ [])
          → cut_where f (take (suc (until f (b ∷ s))) (b ∷ s)) ≡ take (until f (b ∷ s)) (b ∷ s) ∷ [] ∷ []
      go true e ih =
          let u = until_here f b s e in
          ap (λ (n : ℕ). cut_where f (take (suc n) (b ∷ s))) u ∙ (cut_here f b [] e ∙ sym (ap (λ (n : ℕ). take n (b ∷ s) ∷ [] ∷ []) u))
      go false e ih =
          let u = until_later f b s e in
          ap (λ (n : ℕ). cut_where f (take (suc n) (b ∷ s))) u
          ∙ (cut_later f b (take (suc (until f s)) s) e ∙ (ap (on_first b) (ih (omega arith)) ∙ sym (ap (λ (n : ℕ). take n (b ∷ s) ∷ [] ∷ []) u)))

-- ---- what is kept of the last line, and of more of it
module _ (limit held : ℕ) (last name c : List ℕ) (room : length name ≡ limit) (count : held ≡ min limit (length last)) (front : take held name ≡ take limit last) where
  kept_there : kept held c name ≡ kept (length last) c name
  kept_there = go (leb (length last) limit) refl
    where
      go : (y : Bool) → leb (length last) limit ≡ y → kept held c name ≡ kept (length last) c name
      go true e = let h = leb-true (length last) limit e in let same : held ≡ length last = omega arith in rw same
      go false e =
          let h = leb-false (length last) limit e in
          kept_full held c name (omega arith) ∙ sym (kept_full (length last) c name (omega arith))

  front_more : (k : ℕ) → k ≡ min limit (held + length c) → take k (kept held c name) ≡ take limit (last ++ c)
  front_more k e =
      let same : take (length name) last ≡ take (length last) name = rw room (sym front ∙ take_lesser held (length last) name (rw room count)) in
      let long : k ≡ min (length (kept (length last) c name)) (length last + length c) = rw (length_kept (length last) c name, room) (omega arith) in
      ap (take k) kept_there
      ∙ (take_lesser k (length last + length c) (kept (length last) c name) long ∙ (sym (front_grows last c name same) ∙ ap (λ (n : ℕ). take n (last ++ c)) room))

map_append : (xs ys : List Text) → map name_kept (xs ++ ys) ≡ map name_kept xs ++ map name_kept ys
map_append [] ys = refl
map_append (x ∷ xs) ys = ap (λ (l : List Text). name_kept x ∷ l) (map_append xs ys)

module _ {t : Text} {given : List Text} {name : List ℕ} {held : ℕ} (r : NamesRead t given name held) (s : Text) where
  abbrev piece : Text
  piece = take (line_length s) s

  abbrev held' : ℕ
  held' = min 4097 (held + line_length s)

  long : length piece ≡ line_length s
  long = length-take-le (line_length s) s (until_le (eqb 10) s)

  now_front : take held' (name_after held s name) ≡ name_kept (r.last ++ piece)
  unfolding name_after name_kept
  now_front = front_more 4097 held r.last name piece r.room r.count r.front held' (rw long)

  now_room : length (name_after held s name) ≡ 4097
  unfolding name_after
  now_room = length_kept held piece name ∙ r.room

  now_count : held' ≡ min 4097 (length (r.last ++ piece))
  now_count = rw (length-append r.last piece, long) (omega (arith, r.count))

  now_cut : (u : Text) (x : Text) (xs : List Text) → cut_at 10 u ≡ x ∷ xs → cut_at 10 (t ++ u) ≡ r.lines ++ ((r.last ++ x) ∷ xs)
  unfolding cut_at
  now_cut u x xs e =
      cut_more (eqb 10) t u
      ∙ (ap (λ (ls : List Text). meet ls (cut_where (eqb 10) u)) r.cut ∙ (ap (meet (r.lines ++ (r.last ∷ []))) e ∙ meet_last r.lines r.last x xs))

  part : (taken_of held s).whole ≡ false → NamesRead (t ++ take (taken_of held s).used s) given (name_after held s name) (taken_of held s).held
  unfolding taken_of cut_at
  part e =
      let h = ltb-false (line_length s) (length s) e in
      let all : piece ≡ s = take_all (line_length s) s h in
      let used : take (min (length s) (line_length s + 1)) s ≡ s = take_all (min (length s) (line_length s + 1)) s (omega arith) in
      rw used
      (record {
        lines = r.lines;
        last = r.last ++ piece;
        cut = now_cut s piece [] (cut_none (eqb 10) s h ∙ ap (λ (x : Text). x ∷ []) (sym all));
        names = r.names;
        room = now_room;
        count = now_count;
        front = now_front;
      })

  whole : (taken_of held s).whole ≡ true
      → NamesRead (t ++ take (taken_of held s).used s) (given ++ (take (taken_of held s).held (name_after held s name) ∷ [])) (name_after held s name) 0
  unfolding taken_of cut_at name_kept
  whole e =
      let h = ltb-true (line_length s) (length s) e in
      let used : min (length s) (line_length s + 1) ≡ suc (line_length s) = omega arith in
      rw used
      (record {
        lines = r.lines ++ ((r.last ++ piece) ∷ []);
        last = [];
        cut =
            now_cut (take (suc (line_length s)) s) piece ([] ∷ []) (cut_end (eqb 10) s h)
            ∙ sym (append_assoc r.lines ((r.last ++ piece) ∷ []) ([] ∷ []));
        names = ap (λ (x : List Text). x ++ (take held' (name_after held s name) ∷ [])) r.names ∙ (ap (λ (x : Text). map name_kept r.lines ++ (x ∷ [])) now_front ∙ sym (map_append r.lines ((r.last ++ piece) ∷ [])));
        room = now_room;
        count = omega arith;
        front = sym (take-nil 4097);
      })

-- ---- what `take_name` finds: n is where the line ends
module _ (held : ℕ) (s : Text) {n : ℕ} where
  pub taken_so : n ≡ line_length s → {used h : ℕ} → used ≡ min (length s) (n + 1) → h ≡ min 4097 (held + n) → record { used = used; held = h; whole = ltb n (length s) } ≡ taken_of held s
  unfolding taken_of
  taken_so e f g = rw (f, g, e)

  pub kept_so : (name : List ℕ) → n ≡ line_length s → {y : List ℕ} → y ≡ kept held (take n s) name → y ≡ name_after held s name
  unfolding name_after
  kept_so name e f = f ∙ ap (λ (k : ℕ). kept held (take k s) name) e

-- ---- the end
named_last : (ls : List Text) (l : Text) → names_of (ls ++ (l ∷ [])) ≡ ls ++ names_of (l ∷ [])
unfolding names_of
named_last [] l = refl
named_last (m ∷ []) l = refl
named_last (m ∷ n ∷ ls) l = ap (λ (x : List Text). m ∷ x) (named_last (n ∷ ls) l)

last_name : (last name : List ℕ) (held : ℕ) → held ≡ min 4097 (length last) → take held name ≡ name_kept last
    → map name_kept (names_of (last ∷ [])) ≡ cond (ltb 0 held) (take held name ∷ []) []
unfolding names_of
last_name [] name held e f = let none : held ≡ 0 = omega arith in rw none
last_name (b ∷ l) name held e f = rw (lt-ltb 0 held (omega arith), f)

over : (t : Text) (given : List Text) (name : List ℕ) (held : ℕ) → NamesRead t given name held → map name_kept (names_in t) ≡ given ++ cond (ltb 0 held) (take held name ∷ []) []
unfolding names_in
over t given name held r =
    ap (λ (ls : List Text). map name_kept (names_of ls)) r.cut
    ∙ (ap (map name_kept) (named_last r.lines r.last)
    ∙ (map_append r.lines (names_of (r.last ∷ []))
    ∙ (ap (λ (x : List Text). x ++ map name_kept (names_of (r.last ∷ []))) (sym r.names) ∙ ap (λ (x : List Text). given ++ x) (last_name r.last name held r.count r.front))))

no_other : (l : Text) → length (name_kept l) ≤ 4095 → name_kept l ≡ l
unfolding name_kept
no_other l h = take_all 4097 l (omega (arith, length-take 4097 l))

none : (name : List ℕ) → length name ≡ 4097 → NamesRead [] [] name 0
unfolding cut_at cut_where name_kept
none name h = record { lines = []; last = []; cut = refl; names = refl; room = h; count = omega arith; front = sym (take-nil 4097) }

pub names_read_on : NamesReadOn
names_read_on =
    record { none = none; part = λ t s given name held r. part r s; whole = λ t s given name held r. whole r s; over = over; no_other = no_other }
