-- The labels that an accepted pass comes to are the last records, one for each name recorded. Assumes nothing.
use Rattle.std.specs.Prelude.{Some, slice_get}
use Prim.Native.Nat.{ℕ, zero, suc, ◌+◌, ◌<◌, ◌≤◌}
use mathlib.Core.Path.{◌≡◌, refl, sym, ap, ◌∙◌}
use mathlib.Core.Logic.{◌↔◌, ◌⊎◌, inl, inr}
use mathlib.Core.Bool.{Bool, true, false}
use mathlib.Core.List.{List, [], ◌∷◌, map}
use native.Mathlib.Omega.{arith}
use lib.Dec.{eqb}
use lib.ListN.{length, drop}
use Rattle.rules.specs.Text.{Text, cut_at, same}
use Rattle.rules.specs.Line.{SourceLine, numbered, lines_of, Name, name, Task, end, line_of, size}
use Rattle.rules.specs.Label.{Label, Table, find, label_of, record_all}
use Rattle.rules.specs.Answer.{Answer, accepted, refused, and_then}
use Rattle.rules.specs.Assemble.{Sizes, Pass, address_after, putting, first_pass_by, pass_at_by, pass_at}
use Rattle.rules.proofs.Standing.{At, at_within, at_take, at_in}
use Rattle.rules.proofs.Names.{Rising, next, names_rise, over}
use Rattle.promises.specs.Refusals.{IsLine, names_of, on_top, Reached, start, further}
use Rattle.promises.specs.Nearest.{In, head, tail, start_after, RecordsBy, records, LastRecordBy, RecordedAtBy, recorded_at, FoundIsLast, Records, RecordsStand}
use Rattle.promises.proofs.Compared.{clash, Compared, less, more, equal, compared}
use Rattle.promises.proofs.Accepted.{not_refused, checks_passed}
use Rattle.promises.proofs.Tasks.{next_address_lem, pass_line}
use Rattle.promises.proofs.Shapes.{end_unlabelled}
use Rattle.promises.proofs.RefusalsLines.{line_at, no_line}
use Rattle.promises.proofs.RefusalsPasses.{reached_once, not_end}
use Rattle.promises.proofs.Standing.{texts_at}
use Rattle.promises.proofs.Same.{same_eq}
use Rattle.promises.proofs.Kept.{same_self, Unique, Last, Keeps, keeps_by, keeps_all, mapped, map_in}

-- the line after starts after its bytes and the byte 10
start_next : (ls : List Text) (j : ℕ) (l : Text) → slice_get ls j ≡ Some l → start_after (suc j) ls ≡ suc (start_after j ls + length l)
unfolding start_after
start_next [] j l e = clash cc
start_next (k ∷ ls) zero l e = let u : k ≡ l = cc in rw u (omega arith)
start_next (k ∷ ls) (suc j) l e = let h = start_next ls j l e in omega arith

module _ (z : Sizes) (base : ℕ) (s : Text) where
  -- a record, taken apart
  pub record Apart (n : Text) (i k a : ℕ) : Type 0 where
    pub index : ℕ
    pub offset : ℕ
    pub names : List Text
    pub text : Text
    pub reached : Reached z base s index a names
    pub is : IsLine s index text
    pub named : In (name offset n) (line_of text).names
    pub starts : i ≡ start_after index (cut_at 10 s) + offset
    pub number : k ≡ suc index

  pub apart : {n : Text} {i k a : ℕ} → RecordsBy z base s n i k a → Apart n i k a
  apart (records {j} {a} {m} {ns} {l} r e h) =
      record { index = j; offset = m; names = ns; text = l; reached = r; is = e; named = h; starts = refl; number = refl }

  -- a label that is recorded, and one that is so by the first j lines
  abbrev pub Made : Label → Type 0
  Made x = RecordsBy z base s x.name x.start x.line x.address

  record Early (j : ℕ) (x : Label) : Type 0 where
    is : Made x
    early : x.line ≤ j

  -- after the last line, or END, all is recorded
  whole : (j b : ℕ) (t : Table) → ((n : Text) (i k a : ℕ) (r : Apart n i k a) → ¬ (j ≤ r.index)) → Keeps (Early j) b t → Keeps Made b t
  whole j b t f k =
      keeps_by (Early j) Made b b t (omega arith) (λ x e. e.is)
      (λ x m. record { is = m; early = on (apart m) (compared (apart m).index j) }) k
    where
      on : {n : Text} {i k a : ℕ} (r : Apart n i k a) → Compared r.index j → k ≤ j
      on r (less l) = omega (arith, r.number)
      on {n} {i} {k} {a} r (more l) = absurd (f n i k a r (omega arith))
      on {n} {i} {k} {a} r (equal l) = absurd (f n i k a r (omega arith))

  -- one line more
  module _ (j i a : ℕ) (ns : List Text) (l : Text) (r : Reached z base s j a ns) (e : IsLine s j l) (p : i ≡ start_after j (cut_at 10 s)) where
    abbrev here : SourceLine
    here = record { number = suc j; start = i; text = l }

    forth : (x : Label) → Early j x ⊎ In x (map (label_of here a) (line_of l).names) → Early (suc j) x
    forth x (inl f) = record { is = f.is; early = omega (arith, f.early) }
    forth x (inr f) = let h = mapped here a (line_of l).names f in on h.0 h.1 h.2
      where
        on : (n : Name) → In n (line_of l).names → x ≡ label_of here a n → Early (suc j) x
        on n i g = record { is = rw (g, p) (records r e i); early = rw g (omega arith) }

    back : (x : Label) → Early (suc j) x → Early j x ⊎ In x (map (label_of here a) (line_of l).names)
    back x f = on (apart f.is) (compared (apart f.is).index j)
      where
        on : (q : Apart x.name x.start x.line x.address) → Compared q.index j → Early j x ⊎ In x (map (label_of here a) (line_of l).names)
        on q (less h) = inl (record { is = f.is; early = omega (arith, q.number) })
        on q (more h) = absurd (omega (arith, q.number, f.early))
        on q (equal h) =
            let u = (reached_once z base s (rw h at q.reached) r).0 in
            let g = rw h at q.is in
            let v : q.text ≡ l = cc in
            let w : x.start ≡ i + q.offset = q.starts ∙ rw (h, p) in
            let n : x.line ≡ suc j = q.number ∙ ap suc h in
            let y : x ≡ label_of here a (name q.offset x.name) = rw (← w, ← u, ← n) in
            inr (rw y (map_in here a (rw v at q.named)))

  -- what an accepted pass keeps
  abbrev HoldsLast : Answer Pass → Type 0
  HoldsLast (accepted p) = (b : ℕ) × Keeps Made b p.labels
  HoldsLast (refused n p) = Unit {0}

  putting_kept : (a : ℕ) (k : Task) (r : Answer Pass) → HoldsLast r → HoldsLast (and_then r (putting a k))
  unfolding and_then putting
  putting_kept a k (accepted p) h = h
  putting_kept a k (refused n p) h = h

  pass : (ls : List Text) (j i a : ℕ) (t : Table) (ns : List Text) → drop j (cut_at 10 s) ≡ ls → Reached z base s j a ns → i ≡ start_after j (cut_at 10 s)
      → Keeps (Early j) i t → HoldsLast (first_pass_by z base a t (numbered (suc j) i ls))
  unfolding first_pass_by numbered
  pass [] j i a t ns e r p h = (i, whole j i t (λ n i k a q l. no_line (cut_at 10 s) q.index j q.text e l q.is) h)
  pass (l ∷ ls) j i a t ns e r p h =
      pass_line z base a t (here j i a ns l r is p) (numbered (suc (suc j)) (suc (i + length l)) ls) HoldsLast
      (λ k. (i, whole j i t (λ n i k' a q u. ended n i k' a q k (compared q.index j) u) h)) (λ k o. tt) (λ t' k o v. tt)
      (λ t' k o v. putting_kept a (line_of l).task _
      (pass ls (suc j) (suc (i + length l)) (address_after z base a (line_of l).task) t' (on_top (names_of (line_of l)) ns) (line_at (cut_at 10 s) j l ls e).1
      (rw (next_address_lem z base a (line_of l).task) at (further r is k)) (rw p (sym (start_next (cut_at 10 s) j l is))) (on t' o)))
    where
      is : IsLine s j l
      is = (line_at (cut_at 10 s) j l ls e).0

      nameless : {m : ℕ} {n : Text} → In (name m n) [] → ⊥
      nameless = elim [ ]

      ended : (n : Text) (i k a : ℕ) (q : Apart n i k a) → (line_of l).task ≡ end → Compared q.index j → ¬ (j ≤ q.index)
      ended n i k a q f (less u) v = omega arith
      ended n i k a q f (more u) v = not_end z base s q.reached j l u is f
      ended n i k a q f (equal u) v =
          let g = rw u at q.is in
          let m = is in
          let w : q.text ≡ l = cc in
          nameless (rw (w, end_unlabelled l f) at q.named)

      on : (t' : Table) → record_all (here j i a ns l r is p) a (line_of l).names t ≡ Some t' → Keeps (Early (suc j)) (suc (i + length l)) t'
      on t' o =
          keeps_by _ (Early (suc j)) (i + suc (length l)) (suc (i + length l)) t' (omega arith) (forth j i a ns l r is p) (back j i a ns l r is p)
          (keeps_all (here j i a ns l r is p) a (Early j) i t t' (omega arith) (names_rise l) o h)

  -- before the first line nothing is recorded
  none_early : {x : Label} → Early 0 x → ⊥
  none_early e = let h = (apart e.is).number in omega (arith, e.early)

  keeps_none : Keeps (Early 0) 0 []
  keeps_none =
      record {
        unique = tt;
        is = elim [ ];
        has = λ h. absurd (none_early h.holds);
        covers = λ e. absurd (none_early e);
        below = λ e. absurd (none_early e);
        one = λ e f. absurd (none_early e);
      }

  -- a label is in the table exactly if it is the last record of its name; each name that is recorded is in it once, and no two records
  -- start at one place
  pub record LastRecordsBy (t : Table) : Type 0 where
    pub exactly : (x : Label) → In x t ↔ LastRecordBy z base s x.name x.start x.line x.address
    pub unique : Unique t
    pub covers : {x : Label} → Made x → (y : Label) × In y t × (y.name ≡ x.name)
    pub one : {x y : Label} → Made x → Made y → x.start ≡ y.start → x ≡ y

  kept_last : {t : Table} {b : ℕ} → Keeps Made b t → LastRecordsBy t
  kept_last {t} k = record { exactly = λ x. (to x, from x); unique = k.unique; covers = k.covers; one = k.one }
    where
      latest : {x : Label} → Last Made x → {i' k' a' : ℕ} → RecordsBy z base s x.name i' k' a' → i' ≤ x.start
      latest {x} h {i'} {k'} {a'} r = h.latest {y = record { name = x.name; start = i'; address = a'; line = k' }} r refl

      to : (x : Label) → In x t → LastRecordBy z base s x.name x.start x.line x.address
      to x i = let h = k.is i in record { made = h.holds; last = latest h }

      from : (x : Label) → LastRecordBy z base s x.name x.start x.line x.address → In x t
      from x h = k.has (record { holds = h.made; latest = λ {y} m e. h.last {i' = y.start} (rw e at m) })

  pub labels_last : (p : Pass) → pass_at_by z base s ≡ accepted p → LastRecordsBy p.labels
  unfolding pass_at_by lines_of start_after
  labels_last p e =
      let f = (not_refused _ 4 0 _ p (checks_passed s _ p e).1).1 in
      kept_last (rw f at (pass (cut_at 10 s) 0 0 base [] [] refl start refl keeps_none)).1

-- ---- what is found in the table is what its last record says
found_in : (n : Text) (t : Table) (x : ℕ) → find n t ≡ Some x → (l : Label) × In l t × (l.name ≡ n) × (l.address ≡ x)
unfolding find
found_in n [] x e = clash cc
found_in n (l ∷ t) x e = go (same n l.name) refl e (found_in n t x)
  where
    go : (y : Bool) → same n l.name ≡ y → elim y [ true ↦ Some l.address | false ↦ find n t ] ≡ Some x
        → (find n t ≡ Some x → (m : Label) × In m t × (m.name ≡ n) × (m.address ≡ x)) → (m : Label) × In m (l ∷ t) × (m.name ≡ n) × (m.address ≡ x)
    go true f e ih = (l, head refl, sym (same_eq n l.name f), (let u : l.address ≡ x = cc in u))
    go false f e ih = let h = ih e in (h.0, tail h.1, h.2, h.3)

in_found : {l : Label} {t : Table} → Unique t → In l t → find l.name t ≡ Some l.address
unfolding find
in_found {l} u (head {y = m} e) = rw (e, find, same_self m.name)
in_found {l} u (tail {y = m} {ys = t} i) = go (same l.name m.name) refl (in_found u.1 i)
  where
    go : (y : Bool) → same l.name m.name ≡ y → find l.name t ≡ Some l.address
        → elim y [ true ↦ Some m.address | false ↦ find l.name t ] ≡ Some l.address
    go true e ih = absurd (u.0 l i (same_eq l.name m.name e))
    go false e ih = ih

pub found_is_last : FoundIsLast
unfolding FoundIsLast
found_is_last z base s p a l x = (to, from)
  where
    law : LastRecordsBy z base s p.labels
    law = labels_last z base s p a

    to : find l p.labels ≡ Some x → RecordedAtBy z base s l x
    to e =
        let f = found_in l p.labels x e in
        let h = (law.exactly f.0).0 f.1 in
        rw (f.2, f.3) at (recorded_at h)

    from : RecordedAtBy z base s l x → find l p.labels ≡ Some x
    from (recorded_at {i} {k} h) = in_found law.unique ((law.exactly (record { name = l; start = i; address = x; line = k })).1 h)

-- with the stations' sizes
abbrev pub LastRecords : ℕ → Text → Table → Type 0
LastRecords base s t = LastRecordsBy size base s t

pub labels_are_last : (base : ℕ) (s : Text) (p : Pass) → pass_at base s ≡ accepted p → LastRecords base s p.labels
labels_are_last base s p e = labels_last size base s p e

-- a later line starts later
start_le : (ls : List Text) (j k : ℕ) → j ≤ k → start_after j ls ≤ start_after k ls
unfolding start_after
start_le ls zero k h = omega arith
start_le ls (suc j) zero h = absurd (omega arith)
start_le [] (suc j) (suc k) h = omega arith
start_le (l ∷ ls) (suc j) (suc k) h = omega (arith, start_le ls j k (omega arith))

-- the names of a line stand in it, and a name that starts after another one starts after its end
name_at : {l : Text} {e b : ℕ} {m : Name} {ms : List Name} → Rising l e b ms → In m ms → At m.text m.start l
name_at (next h c r) (head f) = rw f c
name_at (next h c r) (tail i) = name_at r i
name_at (over _) i = elim i [ ]

name_from : {l : Text} {e b : ℕ} {m : Name} {ms : List Name} → Rising l e b ms → In m ms → b ≤ m.start
name_from (next h c r) (head f) = rw f h
name_from (next h c r) (tail i) = omega (arith, name_from r i)
name_from (over _) i = elim i [ ]

name_behind : {l : Text} {e b : ℕ} {m m' : Name} {ms : List Name} → Rising l e b ms → In m ms → In m' ms → m.start < m'.start → m.start + length m.text ≤ m'.start
name_behind (next h c r) (head f) (head g) k = let u = rw (f, g) at k in absurd (omega arith)
name_behind (next h c r) (head f) (tail i) k = let u = name_from r i in rw f (omega arith)
name_behind (next h c r) (tail i) (head g) k = let u = name_from r i in let v = rw g at k in absurd (omega arith)
name_behind (next h c r) (tail i) (tail j) k = name_behind r i j k
name_behind (over _) i _ k = elim i [ ]

-- records stand where they say, in their order, and do not overlap
module _ {base : ℕ} {s : Text} where
  pub stands_at : {n : Text} {i k a : ℕ} → Records base s n i k a → At n i s
  unfolding cut_at
  stands_at {i = i} r =
      let q = apart size base s r in
      at_in i (sym q.starts) (name_at (names_rise q.text) q.named) (texts_at (eqb 10) s q.index q.text q.is)

  -- a record's end, on an earlier line than another record
  ends_before : {n n' : Text} {i i' k k' a a' : ℕ} → Records base s n i k a → Records base s n' i' k' a' → k < k' → i + length n < i'
  ends_before r r' h =
      let q = apart size base s r in
      let q' = apart size base s r' in
      let b = at_within (name_at (names_rise q.text) q.named) in
      let u = start_next (cut_at 10 s) q.index q.text q.is in
      let v = start_le (cut_at 10 s) (suc q.index) q'.index (omega (arith, q.number, q'.number)) in
      omega (arith, q.starts, q'.starts)

  ends_behind : {n n' : Text} {i i' k k' a a' : ℕ} → Records base s n i k a → Records base s n' i' k' a' → i < i' → i + length n ≤ i'
  ends_behind {n} {n'} {i} {i'} {k} {k'} r r' h = go (compared k k')
    where
      go : Compared k k' → i + length n ≤ i'
      go (less l) = omega (arith, ends_before r r' l)
      go (more l) = absurd (omega (arith, ends_before r' r l))
      go (equal e) =
          let q = apart size base s r in
          let q' = apart size base s r' in
          let f : q.index ≡ q'.index = omega (arith, q.number, q'.number) in
          let is = rw f at q.is in
          let is' = q'.is in
          let t : q.text ≡ q'.text = cc in
          let g = rw f at q.starts in
          let b = name_behind (names_rise q'.text) (rw t at q.named) q'.named (omega (arith, q'.starts)) in
          omega (arith, q'.starts)

on_line : {l : Text} {e b : ℕ} {m m' : Name} → Rising l e b (m ∷ m' ∷ []) → m.start < m'.start
on_line (next h a (next k c r)) = omega arith

pub records_stand : RecordsStand
records_stand =
    record {
      within = λ r. at_within (stands_at r);
      text = λ r. at_take (stands_at r);
      behind = ends_behind;
      lines = λ r r' h. omega (arith, ends_before r r' h);
      names = λ l m m' e. on_line (rw e at (names_rise l));
    }
