-- The search in the table finds the label that its records make the nearest. Assumes nothing.
use Rattle.std.specs.Prelude.{Option, None, Some, option_map}
use Prim.Native.Nat.{ℕ, ◌+◌, ◌-◌, ◌<◌, ◌≤◌}
use mathlib.Core.Path.{◌≡◌, refl, sym, ap, ◌∙◌}
use mathlib.Core.Bool.{Bool, true, false, ◌&&◌, ◌||◌, cond}
use mathlib.Core.List.{[], ◌∷◌}
use native.Mathlib.Nat.{add-zero}
use native.Mathlib.Omega.{arith}
use borrow.Author.Tests.{ltb-true, ltb-false, lt-ltb, leb-true, leb-false, le-leb, eqb-true, eqb-false, eq-eqb}
use lib.Dec.{leb, ltb, eqb}
use lib.ListN.{length}
use Rattle.rules.specs.Limits.{address_limit}
use Rattle.rules.specs.Text.{Text}
use Rattle.rules.specs.Line.{lines_of, size}
use Rattle.rules.specs.Label.{Label, Table}
use Rattle.rules.specs.Answer.{Answer, accepted, refused, refuse_if, and_then}
use Rattle.rules.specs.Assemble.{Pass, first_pass_by, pass_at_by, pass_at}
use Rattle.requests.specs.Nearest.{Nearest, nearer, nearer_of, nearest_in, told_nearest, nearest}
use Rattle.promises.specs.Stages.{all, Checked}
use Rattle.promises.specs.Refusals.{PassCondition, passing, PassRefusesExactly}
use Rattle.promises.specs.Lawful.{shift_label, shift_table, shift_pass}
use Rattle.promises.specs.Nearest.{In, head, tail, LastRecord, IsNear, NearestIsNear, NearestCondition, of_pass, none_near, nearing, NearestRefusesExactly, NearestMoves}
use Rattle.promises.proofs.Compared.{clash}
use Rattle.promises.proofs.Stages.{is_checked, not_checked, checked_by, still_checked, apart, are_apart, Runs, done, stop, pass, none_holds, and_then_lem, runs_by, refuses_exactly}
use Rattle.promises.proofs.RefusalsAssemble.{pass_known, pass_answered}
use Rattle.promises.proofs.Refusals.{pass_refuses_exactly}
use Rattle.promises.proofs.Accepted.{LetThrough, not_refused, checks_passed, checks_pass}
use Rattle.promises.proofs.Shift.{pass_shift}
use Rattle.promises.proofs.Records.{LastRecords, labels_are_last}

-- l is named before m, or is m
record Beats (l m : Label) : Type 0 where
  higher : m.address ≤ l.address
  foremost : m.address ≡ l.address → l.start ≤ m.start

beats_self : (l : Label) → Beats l l
beats_self l = record { higher = omega arith; foremost = λ e. omega arith }

beats_on : {l m n : Label} → Beats l m → Beats m n → Beats l n
beats_on h k =
    record {
      higher = omega (arith, h.higher, k.higher);
      foremost = λ e. omega (arith, h.foremost (omega (arith, h.higher, k.higher)), k.foremost (omega (arith, h.higher, k.higher)));
    }

-- as the search compares them
beats_by : (l m : Label) (x : Bool) → nearer l m ≡ x → Beats (cond x l m) (cond x m l)
unfolding nearer
beats_by l m x e = go (ltb m.address l.address) refl (eqb l.address m.address) refl (ltb l.start m.start) refl x e
  where
    go : (u : Bool) → ltb m.address l.address ≡ u → (v : Bool) → eqb l.address m.address ≡ v → (w : Bool) → ltb l.start m.start ≡ w
        → (x : Bool) → (u || v && w) ≡ x → Beats (cond x l m) (cond x m l)
    go true f v g w h true e = let k = ltb-true m.address l.address f in record { higher = omega arith; foremost = λ i. absurd (omega arith) }
    go true f v g w h false e = clash cc
    go false f true g true h true e =
        let i = eqb-true l.address m.address g in
        let j = ltb-true l.start m.start h in
        record { higher = omega arith; foremost = λ k. omega arith }
    go false f true g true h false e = clash cc
    go false f true g false h true e = clash cc
    go false f true g false h false e =
        let i = eqb-true l.address m.address g in
        let j = ltb-false l.start m.start h in
        record { higher = omega arith; foremost = λ k. omega arith }
    go false f false g w h true e = clash cc
    go false f false g w h false e =
        let i = ltb-false m.address l.address f in
        let j = eqb-false l.address m.address g in
        record { higher = omega arith; foremost = λ k. absurd (j k) }

-- what the search comes to: no label's address is at most a, or l is named before all others of that kind
record Found (a : ℕ) (t : Table) (l : Label) : Type 0 where
  is : In l t
  at_most : l.address ≤ a
  beats : {m : Label} → In m t → m.address ≤ a → Beats l m

data Searched (a : ℕ) (t : Table) : Option Label → Type 0 where
  nothing : ((m : Label) → In m t → a < m.address) → Searched a t None
  found : {l : Label} → Found a t l → Searched a t (Some l)

-- a label that passes a, and one that does not
passing_by : (a : ℕ) (l : Label) (t : Table) (o : Option Label) → a < l.address → Searched a t o → Searched a (l ∷ t) o
passing_by a l t None h (nothing f) = nothing on
  where
    on : (m : Label) → In m (l ∷ t) → a < m.address
    on m (head e) = rw e h
    on m (tail i) = f m i
passing_by a l t (Some k) h (found f) = found (record { is = tail f.is; at_most = f.at_most; beats = on })
  where
    on : {m : Label} → In m (l ∷ t) → m.address ≤ a → Beats k m
    on (head e) u = let v = rw e at u in absurd (omega arith)
    on (tail i) u = f.beats i u

taking : (a : ℕ) (l : Label) (t : Table) (o : Option Label) → l.address ≤ a → Searched a t o → Searched a (l ∷ t) (Some (nearer_of l o))
unfolding nearer_of
taking a l t None h (nothing f) = found (record { is = head refl; at_most = h; beats = on })
  where
    on : {m : Label} → In m (l ∷ t) → m.address ≤ a → Beats l m
    on (head e) u = rw e (beats_self l)
    on {m} (tail i) u = let v = f m i in absurd (omega arith)
taking a l t (Some k) h (found f) = go (nearer l k) (beats_by l k (nearer l k) refl)
  where
    go : (x : Bool) → Beats (cond x l k) (cond x k l) → Searched a (l ∷ t) (Some (cond x l k))
    go true b = found (record { is = head refl; at_most = h; beats = on })
      where
        on : {m : Label} → In m (l ∷ t) → m.address ≤ a → Beats l m
        on (head e) u = rw e (beats_self l)
        on (tail i) u = beats_on b (f.beats i u)
    go false b = found (record { is = tail f.is; at_most = f.at_most; beats = on })
      where
        on : {m : Label} → In m (l ∷ t) → m.address ≤ a → Beats k m
        on (head e) u = rw e b
        on (tail i) u = f.beats i u

searched : (a : ℕ) (t : Table) → Searched a t (nearest_in a t)
unfolding nearest_in
searched a [] = nothing (λ m. elim [ ])
searched a (l ∷ t) = go (leb l.address a) refl (searched a t)
  where
    go : (x : Bool) → leb l.address a ≡ x → Searched a t (nearest_in a t) → Searched a (l ∷ t) (cond x (Some (nearer_of l (nearest_in a t))) (nearest_in a t))
    go true e ih = taking a l t (nearest_in a t) (leb-true l.address a e) ih
    go false e ih = passing_by a l t (nearest_in a t) (leb-false l.address a e) ih

-- an accepted source: no condition of refusals 1 to 6 holds, and the other way round
pub clear : (base : ℕ) (s : Text) (p : Pass) → pass_at base s ≡ accepted p → (m q : ℕ) → ¬ PassCondition size base s m q
unfolding apart
clear base s p e =
    none_holds (PassCondition size base s) passing (are_apart passing refl) (pass_known size base s) p (pass_at base s) e (pass_answered size base s)

pub accepts : (base : ℕ) (s : Text) → ((m q : ℕ) → ¬ PassCondition size base s m q) → (p : Pass) × (pass_at base s ≡ accepted p)
unfolding PassRefusesExactly
accepts base s h = go (pass_at base s) refl
  where
    go : (r : Answer Pass) → pass_at base s ≡ r → (p : Pass) × (pass_at base s ≡ accepted p)
    go (accepted p) e = (p, e)
    go (refused n q) e = absurd (h n q ((pass_refuses_exactly size base s n q).0 e).0)

-- the nearest in a table that holds the last records
module _ (base : ℕ) (s : Text) (a : ℕ) (t : Table) (law : LastRecords base s t) where
  -- a last record is in the table
  label_in : (n : Text) (i k x : ℕ) → LastRecord base s n i k x → In (record { name = n; start = i; address = x; line = k }) t
  label_in n i k x h = (law.exactly (record { name = n; start = i; address = x; line = k })).1 h

  -- what the search finds is near
  found_near : ((m q : ℕ) → ¬ PassCondition size base s m q) → (l : Label) → Found a t l
      → IsNear base s a (record { start = l.start; length = length l.name; distance = a - l.address })
  found_near c l f =
      let h = (law.exactly l).0 f.is in
      record {
        name = l.name;
        line = l.line;
        address = l.address;
        clear = c;
        last = h;
        length = refl;
        distance = omega (arith, f.at_most);
        greatest = λ {n} {i} {k} {x} r u. (f.beats (label_in n i k x r) u).higher;
        foremost = λ {n} {i} {k} r. (f.beats (label_in n i k l.address r) f.at_most).foremost refl;
      }

  -- and what is near is what it finds
  near_told : (r : Nearest) (o : Option Label) → IsNear base s a r → Searched a t o → told_nearest a o ≡ accepted r
  unfolding told_nearest
  near_told r None h (nothing f) =
      let u = f _ (label_in h.name r.start h.line h.address h.last) in
      absurd (omega (arith, h.distance))
  near_told r (Some l) h (found f) = on ((law.exactly l).0 f.is)
    where
      b : Beats l (record { name = h.name; start = r.start; address = h.address; line = h.line })
      b = f.beats (label_in h.name r.start h.line h.address h.last) (omega (arith, h.distance))

      on : LastRecord base s l.name l.start l.line l.address → told_nearest a (Some l) ≡ accepted r
      on q =
          let e : l.address ≡ h.address = omega (arith, b.higher, h.greatest q f.at_most) in
          let g : l.start ≡ r.start = omega (arith, b.foremost (sym e), h.foremost {i = l.start} (rw e at q)) in
          let w = law.one {x = l} {y = record { name = h.name; start = r.start; address = h.address; line = h.line }} q.made h.last.made g in
          let v : a - h.address ≡ r.distance = omega (arith, h.distance) in
          rw (w, v, ← h.length)

pub nearest_is_near : NearestIsNear
unfolding NearestIsNear nearest and_then told_nearest
nearest_is_near base s a r = (to, from)
  where
    told : (p : Pass) → pass_at base s ≡ accepted p → (o : Option Label) → Searched a p.labels o → told_nearest a o ≡ accepted r → IsNear base s a r
    told p f None (nothing h) e = clash cc
    told p f (Some l) (found h) e =
        let u : record { start = l.start; length = length l.name; distance = a - l.address } ≡ r = cc in
        rw (← u) (found_near base s a p.labels (labels_are_last base s p f) (clear base s p f) l h)

    to : nearest base s a ≡ accepted r → IsNear base s a r
    to e = go (pass_at base s) refl
      where
        go : (x : Answer Pass) → pass_at base s ≡ x → IsNear base s a r
        go (refused n q) f = let g : refused n q ≡ accepted r = rw f at e in clash cc
        go (accepted p) f = told p f (nearest_in a p.labels) (searched a p.labels) (rw f at e)

    from : IsNear base s a r → nearest base s a ≡ accepted r
    from h =
        let q = accepts base s h.clear in
        rw q.1 (near_told base s a q.0.labels (labels_are_last base s q.0 q.1) r (nearest_in a q.0.labels) h (searched a q.0.labels))

-- 12 after 1 to 6
module _ (base : ℕ) (s : Text) (a : ℕ) where
  abbrev C : ℕ → ℕ → Type 0
  C = NearestCondition base s a

  known : (n p : ℕ) → C n p → Checked n nearing
  unfolding is_checked
  known n p (of_pass c) = still_checked (all 12 ∷ []) (pass_known size base s n p c)
  known n p (none_near h) = checked_by 12 nearing refl

  from_near : (n p : ℕ) → Checked n passing → C n p → PassCondition size base s n p
  unfolding is_checked
  from_near n p k (of_pass c) = c
  from_near n p k (none_near h) = absurd (not_checked 12 passing refl k)

  to_12 : (q : ℕ) → C 12 q → (q ≡ 0) × ((n : Text) (i k x : ℕ) → LastRecord base s n i k x → a < x)
  unfolding is_checked
  to_12 q (none_near h) = (refl, h)
  to_12 q (of_pass c) = absurd (not_checked 12 passing refl (pass_known size base s 12 q c))

  told : (t : Table) (o : Option Label) → LastRecords base s t → Searched a t o → Runs C (all 12 ∷ []) (told_nearest a o)
  unfolding told_nearest
  told t None law (nothing f) = stop (none_near (λ n i k x r. f _ (label_in base s a t law n i k x r))) (λ q c. (to_12 q c).0)
  told t (Some l) law (found f) =
      let h = (law.exactly l).0 f.is in
      pass (λ q c. let u = (to_12 q c).1 l.name l.start l.line l.address h in omega (arith, f.at_most)) done

  answered : Runs C nearing (nearest base s a)
  unfolding nearest
  answered =
      and_then_lem C (all 12 ∷ []) (pass_at base s) (λ p. told_nearest a (nearest_in a p.labels))
      (runs_by (PassCondition size base s) C passing (pass_at base s) (λ n p. of_pass) from_near (pass_answered size base s))
      (λ p e. told p.labels (nearest_in a p.labels) (labels_are_last base s p e) (searched a p.labels))

pub nearest_refuses_exactly : NearestRefusesExactly
unfolding NearestRefusesExactly apart
nearest_refuses_exactly base s a =
    refuses_exactly (NearestCondition base s a) nearing (are_apart nearing refl) (known base s a) (nearest base s a) (answered base s a)

-- the search b higher
agree : (x y : Bool) → (x ≡ true → y ≡ true) → (y ≡ true → x ≡ true) → x ≡ y
agree true true f g = refl
agree true false f g = let u = f refl in clash cc
agree false true f g = let u = g refl in clash cc
agree false false f g = refl

leb_shift : (b x y : ℕ) → leb (b + x) (b + y) ≡ leb x y
leb_shift b x y =
    agree _ _ (λ e. let h = leb-true (b + x) (b + y) e in le-leb x y (omega arith)) (λ e. let h = leb-true x y e in le-leb (b + x) (b + y) (omega arith))

ltb_shift : (b x y : ℕ) → ltb (b + x) (b + y) ≡ ltb x y
ltb_shift b x y =
    agree _ _ (λ e. let h = ltb-true (b + x) (b + y) e in lt-ltb x y (omega arith)) (λ e. let h = ltb-true x y e in lt-ltb (b + x) (b + y) (omega arith))

eqb_shift : (b x y : ℕ) → eqb (b + x) (b + y) ≡ eqb x y
eqb_shift b x y =
    agree _ _ (λ e. let h = eqb-true (b + x) (b + y) e in eq-eqb x y (omega arith)) (λ e. let h = eqb-true x y e in eq-eqb (b + x) (b + y) (omega arith))

nearer_shift : (b : ℕ) (l m : Label) → nearer (shift_label b l) (shift_label b m) ≡ nearer l m
unfolding nearer shift_label
nearer_shift b l m = rw (ltb_shift b m.address l.address, eqb_shift b l.address m.address)

nearer_of_shift : (b : ℕ) (l : Label) (o : Option Label) → nearer_of (shift_label b l) (option_map (shift_label b) o) ≡ shift_label b (nearer_of l o)
unfolding nearer_of
nearer_of_shift b l None = refl
nearer_of_shift b l (Some m) = rw (nearer_shift b l m) (go (nearer l m))
  where
    go : (x : Bool) → cond x (shift_label b l) (shift_label b m) ≡ shift_label b (cond x l m)
    go true = refl
    go false = refl

nearest_in_shift : (b a : ℕ) (t : Table) → nearest_in (b + a) (shift_table b t) ≡ option_map (shift_label b) (nearest_in a t)
unfolding nearest_in shift_label
nearest_in_shift b a [] = refl
nearest_in_shift b a (l ∷ t) = rw (leb_shift b l.address a, nearest_in_shift b a t) (go (leb l.address a))
  where
    go : (x : Bool) → cond x (Some (nearer_of (shift_label b l) (option_map (shift_label b) (nearest_in a t)))) (option_map (shift_label b) (nearest_in a t))
        ≡ option_map (shift_label b) (cond x (Some (nearer_of l (nearest_in a t))) (nearest_in a t))
    go true = ap Some (nearer_of_shift b l (nearest_in a t))
    go false = refl

told_shift : (b a : ℕ) (o : Option Label) → told_nearest (b + a) (option_map (shift_label b) o) ≡ told_nearest a o
unfolding told_nearest shift_label
told_shift b a None = refl
told_shift b a (Some l) = let e : b + a - (b + l.address) ≡ a - l.address = omega arith in rw e

-- the pass at b is the pass at 0, shifted
pub pass_at_lem : (b : ℕ) (s : Text) (p : Pass) → pass_at b s ≡ accepted p → (q : Pass) × (pass_at 0 s ≡ accepted q) × (p ≡ shift_pass b q)
unfolding pass_at_by and_then refuse_if
pass_at_lem b s p e = go (first_pass_by size 0 0 [] (lines_of s)) refl (pass_shift size b p 0 [] (lines_of s) accepted (rw (add-zero b, k.1)))
  where
    c : LetThrough s × (refuse_if (leb address_limit b) 4 0 (first_pass_by size b b [] (lines_of s)) ≡ accepted p)
    c = checks_passed s _ p e

    k : (leb address_limit b ≡ false) × (first_pass_by size b b [] (lines_of s) ≡ accepted p)
    k = not_refused _ 4 0 _ p c.1

    go : (m : Answer Pass) → first_pass_by size 0 0 [] (lines_of s) ≡ m → and_then m (λ q. accepted (shift_pass b q)) ≡ accepted p
        → (q : Pass) × (pass_at 0 s ≡ accepted q) × (p ≡ shift_pass b q)
    go (accepted q) f g = (q, checks_pass s _ c.0 ∙ f, cc)
    go (refused n i) f g = clash cc

pub nearest_moves : NearestMoves
unfolding NearestMoves nearest and_then shift_pass
nearest_moves b s p e a = let h = pass_at_lem b s p e in go h.0 h.1 h.2
  where
    go : (q : Pass) → pass_at 0 s ≡ accepted q → p ≡ shift_pass b q → nearest b s (b + a) ≡ nearest 0 s a
    go q f g = rw (e, f, g, nearest_in_shift b a q.labels) (told_shift b a (nearest_in a q.labels))
