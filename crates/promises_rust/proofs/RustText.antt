-- Rust's functions on text are those of the rules, on all bytes. Assumes nothing.
use Rattle.std.specs.Prelude.{Option, None, Some}
use Rattle.rules.specs.Option.{bind}
use Prim.Native.Nat.{ℕ, zero, suc}
use mathlib.Core.Path.{◌≡◌, refl, sym, ◌∙◌, ap}
use mathlib.Core.Bool.{Bool, true, false, not, ◌&&◌, ◌||◌, cond}
use mathlib.Core.List.{List, [], ◌∷◌, ◌++◌, reverse, reverse-cons, reverse-append}
use lib.ListN.{length, drop}
use lib.Dec.{leb, ltb, eqb}
use borrow.Author.Tests.{eqb-true, eqb-false, ne_eqb, le-ltb, le-leb}
use native.Mathlib.Omega.{arith}
use Rattle.rules.specs.Text.{Text, bytes, blank, upper, uppers, trim_start, keep_end, trim_end, trim, on_first, cut_where, cut_at, drop_empty, pieces, join_more, joined, Cut, uncut, around, in_front, first_cut, same, starts, contains, after, nth}
use Rattle.promises_rust.specs.RustStr.{at, get, filter, is_empty, equals, is_whitespace, extend, split_by, split, split_whitespace, splitn_2, to_upper, to_uppercase, starts_with, join}
use Rattle.promises_rust.specs.RustStr as Rust

pub starts_is : (p t : Text) → starts_with t p ≡ starts p t
unfolding starts_with starts
starts_is [] t = refl
starts_is (a ∷ p) [] = refl
starts_is (a ∷ p) (b ∷ t) = go (eqb a b) refl (starts_is p t)
  where
    go : (x : Bool) → eqb a b ≡ x → starts_with t p ≡ starts p t → starts_with (b ∷ t) (a ∷ p) ≡ starts (a ∷ p) (b ∷ t)
    go true e ih = rw (e, starts) ih
    go false e ih = rw (e, starts)

pub equals_is : (s t : Text) → equals s t ≡ same s t
unfolding equals same
equals_is [] [] = refl
equals_is [] (b ∷ t) = refl
equals_is (a ∷ s) [] = refl
equals_is (a ∷ s) (b ∷ t) = go (eqb a b) refl (equals_is s t)
  where
    go : (x : Bool) → eqb a b ≡ x → equals s t ≡ same s t → equals (a ∷ s) (b ∷ t) ≡ same (a ∷ s) (b ∷ t)
    go true e ih = rw (e, same) ih
    go false e ih = rw (e, same)

pub contains_is : (p t : Text) → Rust.contains t p ≡ contains p t
unfolding Rust.contains contains
contains_is p [] = starts_is p []
contains_is p (b ∷ t) = rw (starts_is p (b ∷ t)) (go (starts p (b ∷ t)) refl (contains_is p t))
  where
    go : (x : Bool) → starts p (b ∷ t) ≡ x → Rust.contains t p ≡ contains p t → (starts p (b ∷ t) || Rust.contains t p) ≡ contains p (b ∷ t)
    go true e ih = rw (e, contains)
    go false e ih = rw (e, contains) ih

pub uppercase_is : (s : Text) → to_uppercase s ≡ uppers s
unfolding to_uppercase to_upper uppers upper
uppercase_is [] = refl
uppercase_is (b ∷ s) = ap (λ (u : Text). upper b ∷ u) (uppercase_is s)

-- trim, from the end by reversing
start_is : (s : Text) → Rust.trim_start s ≡ trim_start s
unfolding Rust.trim_start trim_start is_whitespace blank
start_is [] = refl
start_is (b ∷ s) = go (blank b) refl (start_is s)
  where
    go : (x : Bool) → blank b ≡ x → Rust.trim_start s ≡ trim_start s → Rust.trim_start (b ∷ s) ≡ trim_start (b ∷ s)
    go true e ih = rw (e, Rust.trim_start, trim_start) ih
    go false e ih = rw (e, Rust.trim_start, trim_start)

-- b after s, unless b is a blank and nothing stands before it
keep_last : Text → ℕ → Text
keep_last [] b = cond (blank b) [] (b ∷ [])
keep_last (c ∷ s) b = (c ∷ s) ++ (b ∷ [])

start_last : (s : Text) (b : ℕ) → trim_start (s ++ (b ∷ [])) ≡ keep_last (trim_start s) b
unfolding trim_start keep_last
start_last [] b = go (blank b) refl
  where
    go : (x : Bool) → blank b ≡ x → trim_start (b ∷ []) ≡ cond (blank b) [] (b ∷ [])
    go true e = rw (e, trim_start)
    go false e = rw (e, trim_start)
start_last (c ∷ s) b = go (blank c) refl (start_last s b)
  where
    go : (x : Bool) → blank c ≡ x → trim_start (s ++ (b ∷ [])) ≡ keep_last (trim_start s) b → trim_start (c ∷ (s ++ (b ∷ []))) ≡ keep_last (trim_start (c ∷ s)) b
    go true e ih = rw (e, trim_start) ih
    go false e ih = rw (e, trim_start)

keep_more : (b c : ℕ) (s : Text) → keep_end b (s ++ (c ∷ [])) ≡ b ∷ (s ++ (c ∷ []))
unfolding keep_end
keep_more b c [] = refl
keep_more b c (d ∷ s) = refl

keep_reverse : (s : Text) (b : ℕ) → reverse (keep_last s b) ≡ keep_end b (reverse s)
unfolding keep_last keep_end
keep_reverse [] b = go (blank b)
  where
    go : (x : Bool) → reverse (cond x [] (b ∷ [])) ≡ cond x [] (b ∷ [])
    go true = refl
    go false = refl
keep_reverse (c ∷ s) b = rw (reverse-append (c ∷ s) (b ∷ []), reverse-cons c s) (sym (keep_more b c (reverse s)))

end_is : (s : Text) → Rust.trim_end s ≡ trim_end s
unfolding Rust.trim_end Rust.trim_start trim_end
end_is [] = refl
end_is (b ∷ s) = rw (
  reverse-cons b s,
  start_is (reverse s ++ (b ∷ [])),
  start_last (reverse s) b,
  keep_reverse (trim_start (reverse s)) b,
  ← start_is (reverse s),
) (ap (keep_end b) (end_is s))

pub trim_is : (s : Text) → Rust.trim s ≡ trim s
unfolding Rust.trim trim
trim_is s = rw (start_is s) (end_is (trim_start s))

-- cuts and pieces
by_is : (f : ℕ → Bool) (s : Text) → split_by f s ≡ cut_where f s
unfolding split_by cut_where extend on_first
by_is f [] = refl
by_is f (b ∷ s) = go (f b) refl (by_is f s)
  where
    extended : (ps : List Text) → extend b ps ≡ on_first b ps
    extended [] = refl
    extended (p ∷ ps) = refl

    go : (x : Bool) → f b ≡ x → split_by f s ≡ cut_where f s → split_by f (b ∷ s) ≡ cut_where f (b ∷ s)
    go true e ih = rw (e, split_by, cut_where) (ap (λ (ps : List Text). [] ∷ ps) ih)
    go false e ih = rw (e, split_by, cut_where) (extended (split_by f s) ∙ ap (on_first b) ih)

pub split_is : (c : ℕ) (s : Text) → split c s ≡ cut_at c s
unfolding split cut_at
split_is c s = by_is (eqb c) s

pub nonempty_is : (ps : List Text) → filter (λ p. not (is_empty p)) ps ≡ drop_empty ps
unfolding filter is_empty drop_empty
nonempty_is [] = refl
nonempty_is ([] ∷ ps) = nonempty_is ps
nonempty_is ((b ∷ p) ∷ ps) = ap (λ (qs : List Text). (b ∷ p) ∷ qs) (nonempty_is ps)

pub pieces_is : (s : Text) → split_whitespace s ≡ pieces s
unfolding split_whitespace pieces is_whitespace blank
pieces_is s = nonempty_is (split_by blank s) ∙ ap drop_empty (by_is blank s)

pub join_is : (ps : List Text) → join ps (bytes " ") ≡ joined ps
unfolding join joined Rust.join_more join_more bytes
join_is [] = refl
join_is (p ∷ ps) = ap (λ (u : Text). p ++ u) (more ps)
  where
    more : (ps : List Text) → Rust.join_more ps (32 ∷ []) ≡ join_more ps
    more [] = refl
    more (p ∷ ps) = ap (λ (u : Text). 32 ∷ (p ++ u)) (more ps)

pub eqb_comm : (a b : ℕ) → eqb a b ≡ eqb b a
eqb_comm a b = go (eqb a b) refl
  where
    go : (x : Bool) → eqb a b ≡ x → eqb a b ≡ eqb b a
    go true e = rw (eqb-true a b e)
    go false e = e ∙ sym (ne_eqb b a (λ f. eqb-false a b e (sym f)))

-- a cut at the first byte c, as the texts that `splitn(2, c)` has
unfoldable pub cut_texts : Cut → Text → List Text
cut_texts uncut s = s ∷ []
cut_texts (around l r) s = l ∷ r ∷ []

unfoldable pub is_cut : Cut → Bool
is_cut uncut = false
is_cut (around l r) = true

pub splitn_is : (c : ℕ) (s : Text) → splitn_2 c s ≡ cut_texts (first_cut c s) s
unfolding splitn_2 first_cut cut_texts in_front extend
splitn_is c [] = refl
splitn_is c (b ∷ s) = go (eqb b c) refl (splitn_is c s)
  where
    more : (k : Cut) → extend b (cut_texts k s) ≡ cut_texts (in_front b k) (b ∷ s)
    more uncut = refl
    more (around l r) = refl

    go : (x : Bool) → eqb b c ≡ x → splitn_2 c s ≡ cut_texts (first_cut c s) s → splitn_2 c (b ∷ s) ≡ cut_texts (first_cut c (b ∷ s)) (b ∷ s)
    go true e ih = rw (e, splitn_2, first_cut)
    go false e ih = rw (e, splitn_2, first_cut) (ap (extend b) ih ∙ more (first_cut c s))

pub contains_one : (c : ℕ) (s : Text) → Rust.contains s (c ∷ []) ≡ is_cut (first_cut c s)
unfolding Rust.contains first_cut is_cut starts_with in_front
contains_one c [] = refl
contains_one c (b ∷ s) = rw (eqb_comm c b) (go (eqb b c) refl (contains_one c s))
  where
    more : (k : Cut) → is_cut k ≡ is_cut (in_front b k)
    more uncut = refl
    more (around l r) = refl

    go : (x : Bool) → eqb b c ≡ x → Rust.contains s (c ∷ []) ≡ is_cut (first_cut c s) → (eqb b c && true || Rust.contains s (c ∷ [])) ≡ is_cut (first_cut c (b ∷ s))
    go true e ih = rw (e, first_cut)
    go false e ih = rw (e, first_cut) (ih ∙ more (first_cut c s))

-- what follows a text that a text starts with
pub after_is : (p s : Text) → after p s ≡ cond (starts_with s p) (Some (drop (length p) s)) None
unfolding after starts_with
after_is [] s = refl
after_is (a ∷ p) [] = refl
after_is (a ∷ p) (b ∷ s) = go (eqb a b) refl (after_is p s)
  where
    go : (x : Bool) → eqb a b ≡ x → after p s ≡ cond (starts_with s p) (Some (drop (length p) s)) None
        → after (a ∷ p) (b ∷ s) ≡ cond (starts_with (b ∷ s) (a ∷ p)) (Some (drop (length p) s)) None
    go true e ih = rw (e, after, starts_with) ih
    go false e ih = rw (e, after, starts_with)

-- a piece has no blanks to trim
pub data Solid : Text → Type 0 where
  nil : Solid []
  cons : {b : ℕ} {s : Text} → blank b ≡ false → Solid s → Solid (b ∷ s)

pub data AllSolid : List Text → Type 0 where
  nil : AllSolid []
  cons : {p : Text} {ps : List Text} → Solid p → AllSolid ps → AllSolid (p ∷ ps)

solid_end : {s : Text} → Solid s → trim_end s ≡ s
unfolding trim_end keep_end
solid_end nil = refl
solid_end (cons {s = []} e r) = rw e
solid_end (cons {b = b} {s = c ∷ s} e r) = ap (keep_end b) (solid_end r)

pub solid_trim : {s : Text} → Solid s → trim s ≡ s
unfolding trim trim_start
solid_trim nil = solid_end nil
solid_trim (cons {b = b} {s = s} e r) = rw (e, trim_start) (solid_end (cons e r))

solid_first : (b : ℕ) {ps : List Text} → blank b ≡ false → AllSolid ps → AllSolid (on_first b ps)
unfolding on_first
solid_first b e nil = cons (cons e nil) nil
solid_first b e (cons r rs) = cons (cons e r) rs

solid_cut : (s : Text) → AllSolid (cut_where blank s)
unfolding cut_where
solid_cut [] = cons nil nil
solid_cut (b ∷ s) = go (blank b) refl (solid_cut s)
  where
    go : (x : Bool) → blank b ≡ x → AllSolid (cut_where blank s) → AllSolid (cut_where blank (b ∷ s))
    go true e r = rw (e, cut_where) (cons nil r)
    go false e r = rw (e, cut_where) (solid_first b e r)

solid_drop : {ps : List Text} → AllSolid ps → AllSolid (drop_empty ps)
unfolding drop_empty
solid_drop nil = nil
solid_drop (cons {p = []} r rs) = solid_drop rs
solid_drop (cons {p = b ∷ p} r rs) = cons r (solid_drop rs)

pub solid_pieces : (s : Text) → AllSolid (pieces s)
unfolding pieces
solid_pieces s = solid_drop (solid_cut s)

-- `get`; and the second text, looked at where there are two
pub get_is : (ps : List Text) (n : ℕ) → get ps n ≡ nth n ps
unfolding get nth
get_is [] n = refl
get_is (p ∷ ps) zero = refl
get_is (p ∷ ps) (suc n) = get_is ps n

module _ {A : Type 0} (f : Text → Option A) where
  pub second_is : (ps : List Text) → cond (ltb (length ps) 2) None (f (at ps 1)) ≡ bind (nth 1 ps) f
  unfolding nth bind
  second_is [] = refl
  second_is (p ∷ []) = refl
  second_is (p ∷ q ∷ ps) = rw (le-ltb (suc (suc (length ps))) 2 (omega arith))

  pub second_trimmed : {ps : List Text} → AllSolid ps → cond (leb 2 (length ps)) (f (Rust.trim (at ps 1))) None ≡ bind (nth 1 ps) f
  unfolding nth bind
  second_trimmed nil = refl
  second_trimmed (cons r nil) = refl
  second_trimmed (cons {ps = q ∷ ps} r (cons r' rs)) = rw (le-leb 2 (suc (suc (length ps))) (omega arith), trim_is q, solid_trim r')

-- and a piece is not empty
pub data AllFull : List Text → Type 0 where
  nil : AllFull []
  cons : {b : ℕ} {p : Text} {ps : List Text} → AllFull ps → AllFull ((b ∷ p) ∷ ps)

full_drop : (ps : List Text) → AllFull (drop_empty ps)
unfolding drop_empty
full_drop [] = nil
full_drop ([] ∷ ps) = full_drop ps
full_drop ((b ∷ p) ∷ ps) = cons (full_drop ps)

pub full_pieces : (s : Text) → AllFull (pieces s)
unfolding pieces
full_pieces s = full_drop (cut_where blank s)
