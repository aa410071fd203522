-- Where parts of a text stand in it: what is left of a trimmed text, cut or first piece. Assumes nothing.
use Prim.Native.Nat.{ℕ, suc, ◌+◌, ◌≤◌}
use mathlib.Core.Path.{◌≡◌, refl, sym, ap, ◌∙◌}
use mathlib.Core.Bool.{Bool, true, false, cond}
use mathlib.Core.List.{List, [], ◌∷◌, ◌++◌, append_assoc, append-nil}
use native.Mathlib.Omega.{arith}
use lib.Dec.{eqb}
use lib.ListN.{length, take, drop, length-append}
use lib.Seq.{drop_at, take_at}
use Rattle.rules.specs.Text.{Text, blank, leading, trim_start, keep_end, trim_end, trim, on_first, cut_where, drop_empty, pieces, Cut, uncut, around, in_front, first_cut}

-- n stands in t, from i on
pub record At (n : Text) (i : ℕ) (t : Text) : Type 0 where
  pub front : Text
  pub rest : Text
  pub cut : t ≡ front ++ (n ++ rest)
  pub place : length front ≡ i

pub at_within : {n : Text} {i : ℕ} {t : Text} → At n i t → i + length n ≤ length t
at_within {n} a = rw (a.cut, length-append a.front (n ++ a.rest), length-append n a.rest, a.place) (omega arith)

pub at_take : {n : Text} {i : ℕ} {t : Text} → At n i t → take (length n) (drop i t) ≡ n
at_take {n} {i} a = rw (a.cut, drop_at a.front (n ++ a.rest) i a.place) (take_at n a.rest (length n) refl)

pub at_in : {m n t : Text} {i j : ℕ} (k : ℕ) → j + i ≡ k → At m i n → At n j t → At m k t
at_in {m} k e a b =
    record {
      front = b.front ++ a.front;
      rest = a.rest ++ b.rest;
      cut =
          b.cut
          ∙ ap (λ (u : Text). b.front ++ (u ++ b.rest)) a.cut
          ∙ ap (λ (u : Text). b.front ++ u) (append_assoc a.front (m ++ a.rest) b.rest)
          ∙ ap (λ (u : Text). b.front ++ (a.front ++ u)) (append_assoc m a.rest b.rest)
          ∙ sym (append_assoc b.front a.front (m ++ (a.rest ++ b.rest)));
      place = length-append b.front a.front ∙ rw (a.place, b.place) e;
    }

-- at the start, all of it, and after one byte
pub at_start : (n u : Text) → At n 0 (n ++ u)
at_start n u = record { front = []; rest = u; cut = refl; place = refl }

pub at_all : (t : Text) → At t 0 t
at_all t = rw (append-nil t) at (at_start t [])

pub at_cons : (b : ℕ) {n : Text} {i : ℕ} {t : Text} → At n i t → At n (suc i) (b ∷ t)
at_cons b a = record { front = b ∷ a.front; rest = a.rest; cut = ap (λ (u : Text). b ∷ u) a.cut; place = ap suc a.place }

-- what stands at the start starts it
pub at_more : (b : ℕ) {n t : Text} → At n 0 t → At (b ∷ n) 0 (b ∷ t)
at_more b {n} {t} a = go a.front a.cut a.place
  where
    go : (f : Text) → t ≡ f ++ (n ++ a.rest) → length f ≡ 0 → At (b ∷ n) 0 (b ∷ t)
    go [] e l = rw e (at_start (b ∷ n) a.rest)
    go (c ∷ f) e l = absurd (omega arith)

-- trimmed
start_at : (t : Text) → At (trim_start t) (leading t) t
unfolding leading trim_start
start_at [] = at_all []
start_at (b ∷ t) = go (blank b) refl (start_at t)
  where
    go : (y : Bool) → blank b ≡ y → At (trim_start t) (leading t) t → At (trim_start (b ∷ t)) (leading (b ∷ t)) (b ∷ t)
    go true e h = rw (e, leading, trim_start) (at_cons b h)
    go false e h = rw (e, leading, trim_start) (at_all (b ∷ t))

end_at : (t : Text) → At (trim_end t) 0 t
unfolding trim_end keep_end
end_at [] = at_all []
end_at (b ∷ t) = go (trim_end t) (end_at t)
  where
    last : (y : Bool) → At (cond y [] (b ∷ [])) 0 (b ∷ t)
    last true = at_start [] (b ∷ t)
    last false = at_start (b ∷ []) t

    go : (u : Text) → At u 0 t → At (keep_end b u) 0 (b ∷ t)
    go [] h = last (blank b)
    go (c ∷ u) h = at_more b h

pub trim_at : (t : Text) → At (trim t) (leading t) t
unfolding trim
trim_at t = at_in (leading t) (omega arith) (end_at (trim_start t)) (start_at t)

-- no blank leads a trimmed text, nor what stands at its start
pub front_led : {n t : Text} → At n 0 t → leading t ≡ 0 → leading n ≡ 0
unfolding leading
front_led {n} {t} a h = go n a.front a.cut a.place
  where
    go : (n f : Text) → t ≡ f ++ (n ++ a.rest) → length f ≡ 0 → leading n ≡ 0
    go [] f e l = refl
    go (b ∷ n) (c ∷ f) e l = absurd (omega arith)
    go (b ∷ n) [] e l = on (blank b) refl
      where
        on : (y : Bool) → blank b ≡ y → leading (b ∷ n) ≡ 0
        on true k = let u = rw (e, k, leading) at h in absurd (omega arith)
        on false k = rw (k, leading)

start_led : (t : Text) → leading (trim_start t) ≡ 0
unfolding leading trim_start
start_led [] = refl
start_led (b ∷ t) = go (blank b) refl (start_led t)
  where
    go : (y : Bool) → blank b ≡ y → leading (trim_start t) ≡ 0 → leading (trim_start (b ∷ t)) ≡ 0
    go true e h = rw (e, trim_start) h
    go false e h = rw (e, trim_start, leading, e)

pub trim_led : (t : Text) → leading (trim t) ≡ 0
unfolding trim
trim_led t = front_led (end_at (trim_start t)) (start_led t)

-- cut at the first byte c
pub cut_is : (c : ℕ) (t l r : Text) → first_cut c t ≡ around l r → (d : ℕ) × (t ≡ l ++ (d ∷ r))
unfolding first_cut in_front
cut_is c [] l r e = let z : ◌≡◌ {A = ℕ} 0 1 = cc in absurd (omega arith)
cut_is c (b ∷ t) l r e = go (eqb b c) refl (first_cut c t) refl (cut_is c t)
  where
    go : (y : Bool) → eqb b c ≡ y → (k : Cut) → first_cut c t ≡ k → ((l r : Text) → first_cut c t ≡ around l r → (d : ℕ) × (t ≡ l ++ (d ∷ r)))
        → (d : ℕ) × (b ∷ t ≡ l ++ (d ∷ r))
    go true f k g ih = let u : around [] t ≡ around l r = rw (f, first_cut) at e in let v : [] ≡ l = cc in let w : t ≡ r = cc in (b, rw (← v, w))
    go false f uncut g ih = let u : uncut ≡ around l r = rw (f, first_cut, g) at e in let z : ◌≡◌ {A = ℕ} 0 1 = cc in absurd (omega arith)
    go false f (around l' r') g ih =
        let u : around (b ∷ l') r' ≡ around l r = rw (f, first_cut, g) at e in
        let v : b ∷ l' ≡ l = cc in
        let w : r' ≡ r = cc in
        let h = ih l' r' g in
        (h.0, rw (← v, ← w) (ap (λ (x : Text). b ∷ x) h.1))

pub after_cut : (l : Text) (d : ℕ) (r : Text) → At r (length l + 1) (l ++ (d ∷ r))
after_cut l d r =
    record {
      front = l ++ (d ∷ []);
      rest = [];
      cut = rw (append-nil r) (sym (append_assoc l (d ∷ []) r));
      place = length-append l (d ∷ []);
    }

-- the first text of a cut at each byte that passes a test
first_text : (f : ℕ → Bool) (s q : Text) (qs : List Text) → cut_where f s ≡ q ∷ qs → At q 0 s
unfolding cut_where on_first
first_text f [] q qs e = let u : [] ≡ q = cc in rw (← u) (at_all [])
first_text f (b ∷ s) q qs e = go (f b) refl (cut_where f s) refl (first_text f s)
  where
    go : (y : Bool) → f b ≡ y → (c : List Text) → cut_where f s ≡ c → ((q : Text) (qs : List Text) → cut_where f s ≡ q ∷ qs → At q 0 s) → At q 0 (b ∷ s)
    go true g c h ih = let k = rw (g, cut_where) at e in let u : [] ≡ q = cc in rw (← u) (at_start [] (b ∷ s))
    go false g [] h ih = let k = rw (g, cut_where, h) at e in let u : b ∷ [] ≡ q = cc in rw (← u) (at_start (b ∷ []) s)
    go false g (p ∷ ps) h ih = let k = rw (g, cut_where, h) at e in let u : b ∷ p ≡ q = cc in rw (← u) (at_more b (ih p ps h))

-- a text that no blank leads starts with its first piece
pub first_piece : (s p : Text) (ps : List Text) → leading s ≡ 0 → pieces s ≡ p ∷ ps → At p 0 s
unfolding pieces cut_where on_first drop_empty leading
first_piece [] p ps h e = let z : ◌≡◌ {A = ℕ} 0 1 = cc in absurd (omega arith)
first_piece (b ∷ s) p ps h e = go (blank b) refl
  where
    on : (c : List Text) → cut_where blank s ≡ c → drop_empty (on_first b c) ≡ p ∷ ps → At p 0 (b ∷ s)
    on [] g f = let u : b ∷ [] ≡ p = cc in rw (← u) (at_start (b ∷ []) s)
    on (q ∷ qs) g f = let u : b ∷ q ≡ p = cc in rw (← u) (at_more b (first_text blank s q qs g))

    go : (y : Bool) → blank b ≡ y → At p 0 (b ∷ s)
    go true f = let u = rw (f, leading) at h in absurd (omega arith)
    go false f = on (cut_where blank s) refl (rw (f, cut_where) at e)
