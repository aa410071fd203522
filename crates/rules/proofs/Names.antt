-- The names of a line stand in it where they say, one after another. Assumes nothing.
use Prim.Native.Nat.{ℕ, suc, ◌+◌, ◌<◌, ◌≤◌}
use mathlib.Core.Path.{◌≡◌, refl}
use mathlib.Core.Bool.{Bool, true, false, cond}
use mathlib.Core.List.{List, [], ◌∷◌, ◌++◌, append-nil}
use native.Mathlib.Omega.{arith}
use lib.Dec.{eqb}
use lib.ListN.{length, length-append}
use Rattle.rules.specs.Text.{Text, bytes, uppers, leading, trim, pieces, joined, Cut, uncut, around, first_cut, starts}
use Rattle.rules.specs.Line.{Name, name, line, data_task, is_directive, data_pieces, nonempty, data_line, is_data, rest_line, after_label, label_line, trimmed_line, line_of}
use Rattle.rules.proofs.Standing.{At, at_within, at_in, at_start, trim_at, front_led, trim_led, cut_is, after_cut, first_piece}

-- names that stand in the line l, from b on, each after the end of the one before, and end before e
pub data Rising (l : Text) (e : ℕ) : ℕ → List Name → Type 0 where
  over : {b : ℕ} → b ≤ e → Rising l e b []
  next : {b : ℕ} {m : Name} {ms : List Name} → b ≤ m.start → At m.text m.start l → Rising l e (suc (m.start + length m.text)) ms
      → Rising l e b (m ∷ ms)

module _ (l : Text) where
  -- more room at the end, and a name there
  wider : {d b e : ℕ} {ms : List Name} → d ≤ e → Rising l d b ms → Rising l e b ms
  wider h (over {b} k) = over {b = b} (omega arith)
  wider h (next k a r) = next k a (wider h r)

  one_more : {i e b : ℕ} {p : Text} {ms : List Name} → i + length p < e → At p i l → Rising l i b ms → Rising l e b (ms ++ (name i p ∷ []))
  one_more h a (over k) = next k a (over h)
  one_more h a (next k c r) = next k c (one_more h a r)

  -- the trimmed text before the first colon of a text that stands at i
  trimmed_front : (i : ℕ) (s : Text) → At s i l → leading s ≡ 0 → (p q : Text) → first_cut 58 s ≡ around p q → At (trim p) i l
  trimmed_front i s a d p q f =
      let c = cut_is 58 s p q f in
      let g : At p 0 s = rw c.1 (at_start p (c.0 ∷ q)) in
      let k = front_led g d in
      at_in i (omega arith) (rw k at (trim_at p)) (at_in i (omega arith) g a)

  -- step 5: after the names ns, a text s that stands at i
  module _ (ns : List Name) (i : ℕ) (s : Text) (a : At s i l) (d : leading s ≡ 0) (r : Rising l i 0 ns) where
    all : Rising l (suc (length l)) 0 ns
    all = wider (omega (arith, at_within a)) r

    last : (p : Text) → At p i l → Rising l (suc (length l)) 0 (ns ++ (name i p ∷ []))
    last p c = one_more (omega (arith, at_within c)) c r

    data_pieces_lem : (ps : List Text) → pieces s ≡ ps → Rising l (suc (length l)) 0 (data_pieces ns i s ps).names
    unfolding data_pieces
    data_pieces_lem [] f = all
    data_pieces_lem (p ∷ []) f = all
    data_pieces_lem (p ∷ q ∷ ps) f = go (is_directive p)
      where
        go : (x : Bool) → Rising l (suc (length l)) 0 (cond x (line ns (data_task s s)) (line (ns ++ (name i p ∷ [])) (data_task s (joined (q ∷ ps))))).names
        go true = all
        go false = last p (at_in i (omega arith) (first_piece s p (q ∷ ps) d f) a)

    a_nonempty : (p : Text) → At p i l → Rising l (suc (length l)) 0 (ns ++ nonempty i p)
    unfolding nonempty
    a_nonempty [] c = rw (append-nil ns) all
    a_nonempty (b ∷ p) c = last (b ∷ p) c

    rest_line_lem : Rising l (suc (length l)) 0 (rest_line ns i s).names
    unfolding rest_line data_line
    rest_line_lem = go (is_data s) refl
      where
        on : (k : Cut) → first_cut 58 s ≡ k → Rising l (suc (length l)) 0 (data_line ns i s).names
        on uncut f = rw (data_line, f) (data_pieces_lem (pieces s) refl)
        on (around p q) f = rw (data_line, f) (a_nonempty (trim p) (trimmed_front i s a d p q f))

        go : (x : Bool) → is_data s ≡ x → Rising l (suc (length l)) 0 (rest_line ns i s).names
        go true f = rw (rest_line, f) (on (first_cut 58 s) refl)
        go false f = rw (rest_line, f) all

  -- step 4
  label_line_lem : (i : ℕ) (s : Text) → At s i l → leading s ≡ 0 → Rising l (suc (length l)) 0 (label_line i s).names
  unfolding label_line after_label
  label_line_lem i s a d = go (first_cut 58 s) refl
    where
      past : (n : Text) (j : ℕ) (q : Text) → i + length n < j → At n i l → At q j l → leading q ≡ 0 → Rising l (suc (length l)) 0 (after_label (name i n) j q).names
      past n j [] k b c g = next {b = 0} {m = name i n} (omega arith) b (over {b = suc (i + length n)} (omega (arith, at_within c)))
      past n j (x ∷ q) k b c g = rest_line_lem (name i n ∷ []) j (x ∷ q) c g (next {b = 0} {m = name i n} (omega arith) b (over k))

      go : (k : Cut) → first_cut 58 s ≡ k → Rising l (suc (length l)) 0 (label_line i s).names
      go uncut f = rw (label_line, f) (rest_line_lem [] i s a d (over {b = 0} (omega arith)))
      go (around p q) f =
          let c = cut_is 58 s p q f in
          let g : At q (length p + 1) s = rw c.1 (after_cut p c.0 q) in
          rw (label_line, f)
          (past (trim p) (i + length p + 1 + leading q) (trim q) (omega (arith, at_within (trim_at p))) (trimmed_front i s a d p q f)
          (at_in (i + length p + 1 + leading q) (omega arith) (trim_at q) (at_in (i + length p + 1) (omega arith) g a)) (trim_led q))

-- steps 1 to 3 record no name
by_label : (P : List Name → Type 0) (s : Text) → P [] → P (label_line (leading s) (trim s)).names → P (line_of s).names
unfolding line_of trimmed_line
by_label P s none some = go (trim s) some
  where
    go : (t : Text) → P (label_line (leading s) t).names → P (trimmed_line (leading s) t).names
    go [] h = none
    go (b ∷ t) h = on (eqb b 59) refl (starts (bytes "END") (uppers (b ∷ t))) refl (starts (bytes "ORG") (uppers (b ∷ t))) refl
      where
        on : (x : Bool) → eqb b 59 ≡ x → (y : Bool) → starts (bytes "END") (uppers (b ∷ t)) ≡ y → (z : Bool)
            → starts (bytes "ORG") (uppers (b ∷ t)) ≡ z → P (trimmed_line (leading s) (b ∷ t)).names
        on true e y f z g = rw (trimmed_line, e) none
        on false e true f z g = rw (trimmed_line, e, f) none
        on false e false f true g = rw (trimmed_line, e, f, g) none
        on false e false f false g = rw (trimmed_line, e, f, g) h

pub names_rise : (s : Text) → Rising s (suc (length s)) 0 (line_of s).names
names_rise s = by_label (Rising s (suc (length s)) 0) s (over {b = 0} (omega arith)) (label_line_lem s (leading s) (trim s) (trim_at s) (trim_led s))

-- and there are at most two: step 5 adds at most one
module _ (ns : List Name) (i : ℕ) (s : Text) where
  few_pieces : (ps : List Text) → length (data_pieces ns i s ps).names ≤ length ns + 1
  unfolding data_pieces
  few_pieces [] = omega arith
  few_pieces (p ∷ []) = omega arith
  few_pieces (p ∷ q ∷ ps) = go (is_directive p)
    where
      go : (x : Bool) → length (cond x (line ns (data_task s s)) (line (ns ++ (name i p ∷ [])) (data_task s (joined (q ∷ ps))))).names ≤ length ns + 1
      go true = omega arith
      go false = rw (length-append ns (name i p ∷ [])) (omega arith)

  few_nonempty : (p : Text) → length (ns ++ nonempty i p) ≤ length ns + 1
  unfolding nonempty
  few_nonempty [] = rw (append-nil ns) (omega arith)
  few_nonempty (b ∷ p) = rw (length-append ns (name i (b ∷ p) ∷ [])) (omega arith)

  few_rest : length (rest_line ns i s).names ≤ length ns + 1
  unfolding rest_line data_line
  few_rest = go (is_data s) refl (first_cut 58 s) refl
    where
      go : (x : Bool) → is_data s ≡ x → (k : Cut) → first_cut 58 s ≡ k → length (rest_line ns i s).names ≤ length ns + 1
      go true e uncut f = rw (rest_line, e, data_line, f) (few_pieces (pieces s))
      go true e (around p q) f = rw (rest_line, e, data_line, f) (few_nonempty (trim p))
      go false e k f = rw (rest_line, e) (omega arith)

few_label : (i : ℕ) (s : Text) → length (label_line i s).names ≤ 2
unfolding label_line after_label
few_label i s = go (first_cut 58 s) refl
  where
    past : (n : Name) (j : ℕ) (q : Text) → length (after_label n j q).names ≤ 2
    past n j [] = omega arith
    past n j (b ∷ q) = few_rest (n ∷ []) j (b ∷ q)

    go : (k : Cut) → first_cut 58 s ≡ k → length (label_line i s).names ≤ 2
    go uncut f = rw (label_line, f) (omega (arith, few_rest [] i s))
    go (around p q) f = rw (label_line, f) (past (name i (trim p)) (i + length p + 1 + leading q) (trim q))

pub names_few : (s : Text) → length (line_of s).names ≤ 2
names_few s = by_label (λ ns. length ns ≤ 2) s (omega arith) (few_label (leading s) (trim s))
