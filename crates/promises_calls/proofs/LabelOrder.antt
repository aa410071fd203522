-- A pass keeps its labels in the order of their first records. Assumes nothing.
use Rattle.std.specs.Prelude.{Some, slice_get}
use Rattle.std.proofs.lemmas.Option.{same_Some, none-some}
use Prim.Native.Nat.{ℕ, zero, suc, ◌+◌, ◌<◌, ◌≤◌}
use mathlib.Core.Path.{◌≡◌, refl, sym, ap, ◌∙◌}
use mathlib.Core.Logic.{◌⊎◌, inl, inr}
use mathlib.Core.Bool.{Bool, true, false}
use mathlib.Core.List.{List, [], ◌∷◌, map}
use native.Mathlib.Omega.{arith}
use lib.ListN.{length, drop}
use Rattle.rules.specs.Text.{Text, cut_at, same}
use Rattle.rules.specs.Line.{SourceLine, numbered, lines_of, Name, name, Task, end, line_of}
use Rattle.rules.specs.Label.{Label, Table, find, recorded, has_room, label_of, record_all}
use Rattle.rules.specs.Answer.{Answer, accepted, refused, and_then}
use Rattle.rules.specs.Assemble.{Sizes, Pass, address_after, putting, first_pass_by, pass_at_by}
use Rattle.rules.proofs.Names.{Rising, over, next, names_rise}
use Rattle.promises.specs.Refusals.{IsLine, names_of, on_top, Reached, start, further}
use Rattle.promises.specs.Nearest.{In, head, tail, start_after, records}
use Rattle.promises.proofs.Compared.{clash, Compared, less, more, equal, compared}
use Rattle.promises.proofs.Accepted.{not_refused, checks_passed}
use Rattle.promises.proofs.Tasks.{next_address_lem, pass_line}
use Rattle.promises.proofs.Shapes.{end_unlabelled}
use Rattle.promises.proofs.RefusalsLines.{line_at, no_line}
use Rattle.promises.proofs.RefusalsPasses.{reached_once, not_end}
use Rattle.promises.proofs.Same.{same_eq}
use Rattle.promises.proofs.Kept.{not_same, mapped, map_in}
use Rattle.promises.proofs.Records.{Apart, apart, Made}
use Rattle.requests.specs.Tidy.{tidy}
use Rattle.promises.specs.Tidy.{CopyKeepsLabels}
use Rattle.tidylaws.proofs.Passes.{copy_keeps_labels}
use Rattle.promises_calls.specs.LabelOrder.{FirstStart, LabelsInOrder, CopyKeepsOrder}
use Rattle.promises_calls.proofs.NamesApart.{start_next}

-- ---- a table
-- of what P says to be recorded, x is the first of the name n
record First (P : Label → Type 0) (n : Text) (x : Label) : Type 0 where
  holds : P x
  named : x.name ≡ n
  first : {y : Label} → P y → y.name ≡ n → x.start ≤ y.start

-- the labels of a table have first records that start from c on, each after the one before
data Rise (P : Label → Type 0) : ℕ → Table → Type 0 where
  no_label : {c : ℕ} → Rise P c []
  ranked_on : {c : ℕ} {l : Label} {t : Table} (x : Label) → First P l.name x → c ≤ x.start → Rise P (suc x.start) t → Rise P c (l ∷ t)

-- a label of that name is in the table
abbrev HasName : Text → Table → Type 0
HasName n t = (y : Label) × In y t × (y.name ≡ n)

-- and each name that P says to be recorded, before b, is there
record Ranks (P : Label → Type 0) (b : ℕ) (t : Table) : Type 0 where
  rise : Rise P 0 t
  covers : {x : Label} → P x → (y : Label) × In y t × (y.name ≡ x.name)
  below : {x : Label} → P x → x.start < b

module _ (P Q : Label → Type 0) (f : (x : Label) → P x → Q x) (g : (x : Label) → Q x → P x) where
  rise_by : {c : ℕ} {t : Table} → Rise P c t → Rise Q c t
  rise_by no_label = no_label
  rise_by (ranked_on x h k r) =
      ranked_on x (record { holds = f x h.holds; named = h.named; first = λ {y} q e. h.first (g y q) e }) k (rise_by r)

  ranks_by : {b c : ℕ} {t : Table} → b ≤ c → Ranks P b t → Ranks Q c t
  ranks_by l k = record { rise = rise_by k.rise; covers = λ {x} q. k.covers (g x q); below = λ {x} q. let h = k.below (g x q) in omega arith }

-- one more record, x, which starts after all others
module _ (P : Label → Type 0) (b : ℕ) (x : Label) (l : b ≤ x.start) (low : (y : Label) → P y → y.start < b) where
  abbrev Q : Label → Type 0
  Q y = P y ⊎ (y ≡ x)

  still : {n : Text} {y : Label} → First P n y → First Q n y
  still {n} {y} h = record { holds = inl h.holds; named = h.named; first = on }
    where
      on : {w : Label} → Q w → w.name ≡ n → y.start ≤ w.start
      on (inl p) e = h.first p e
      on (inr e) g = let u = low _ h.holds in rw e (omega arith)

  all_still : {c : ℕ} {t : Table} → Rise P c t → Rise Q c t
  all_still no_label = no_label
  all_still (ranked_on y h k r) = ranked_on y (still h) k (all_still r)

  rise_one : {c : ℕ} (t : Table) → c ≤ b → ((y : Label) → P y → y.name ≡ x.name → HasName x.name t) → Rise P c t → Rise Q c (recorded x t)
  unfolding recorded
  rise_one [] h has no_label = ranked_on x (record { holds = inr refl; named = refl; first = on }) (omega arith) no_label
    where
      nowhere : {y : Label} → In y [] → ⊥
      nowhere = elim [ ]

      on : {y : Label} → Q y → y.name ≡ x.name → x.start ≤ y.start
      on (inl p) e = absurd (nowhere (has _ p e).1)
      on (inr e) g = rw e (omega arith)
  rise_one {c} (m ∷ t) h has (ranked_on y f k r) = go (same x.name m.name) refl (λ h. rise_one t (let u = low _ f.holds in omega arith) h r)
    where
      go : (v : Bool) → same x.name m.name ≡ v → (((w : Label) → P w → w.name ≡ x.name → HasName x.name t) → Rise Q (suc y.start) (recorded x t)) → Rise Q c (recorded x (m ∷ t))
      go true e ih = rw (e, recorded) (ranked_on y (still (rw (sym (same_eq x.name m.name e)) at f)) k (all_still r))
      go false e ih = rw (e, recorded) (ranked_on y (still f) k (ih on))
        where
          on : (w : Label) → P w → w.name ≡ x.name → HasName x.name t
          on w p i = by (has w p i)
            where
              by : HasName x.name (m ∷ t) → HasName x.name t
              by (w, head j, q) = absurd (not_same x.name m.name e (sym q ∙ ap (λ (z : Label). z.name) j))
              by (w, tail j, q) = (w, j, q)

  in_x : (t : Table) → HasName x.name (recorded x t)
  unfolding recorded
  in_x [] = (x, head refl, refl)
  in_x (m ∷ t) = go (same x.name m.name) refl (in_x t)
    where
      go : (v : Bool) → same x.name m.name ≡ v → HasName x.name (recorded x t) → HasName x.name (recorded x (m ∷ t))
      go true e ih = rw (e, recorded) (x, head refl, refl)
      go false e ih = rw (e, recorded) (ih.0, tail ih.1, ih.2)

  in_all : (n : Text) (t : Table) → HasName n t → HasName n (recorded x t)
  unfolding recorded
  in_all n [] h = elim h.1 [ ]
  in_all n (m ∷ t) h = go (same x.name m.name) refl (in_all n t) h.0 h.1 h.2
    where
      go : (v : Bool) → same x.name m.name ≡ v → (HasName n t → HasName n (recorded x t)) → (y : Label) → In y (m ∷ t) → y.name ≡ n → HasName n (recorded x (m ∷ t))
      go true e ih y (head j) q = rw (e, recorded) (x, head refl, same_eq x.name m.name e ∙ sym (ap (λ (z : Label). z.name) j) ∙ q)
      go true e ih y (tail j) q = rw (e, recorded) (y, tail j, q)
      go false e ih y (head j) q = rw (e, recorded) (y, head j, q)
      go false e ih y (tail j) q = let u = ih (y, j, q) in rw (e, recorded) (u.0, tail u.1, u.2)

  ranks_one : (t : Table) → Ranks P b t → Ranks Q (suc x.start) (recorded x t)
  ranks_one t k = record { rise = rise_one t (omega arith) (λ y p e. rw e at (k.covers p)) k.rise; covers = covers; below = below }
    where
      covers : {y : Label} → Q y → (w : Label) × In w (recorded x t) × (w.name ≡ y.name)
      covers {y} (inl p) = in_all y.name t (k.covers p)
      covers (inr e) = rw e (in_x t)

      below : {y : Label} → Q y → y.start < suc x.start
      below (inl p) = let h = low _ p in omega arith
      below (inr e) = rw e (omega arith)

-- the names of a line
module _ (l : SourceLine) (a : ℕ) where
  ranks_all : {e : ℕ} (P : Label → Type 0) {ns : List Name} {c : ℕ} (b : ℕ) (t t' : Table) → b ≤ l.start + c → Rising l.text e c ns → record_all l a ns t ≡ Some t'
      → Ranks P b t → Ranks (λ y. P y ⊎ In y (map (label_of l a) ns)) (l.start + e) t'
  unfolding record_all
  ranks_all {e = e} P b t t' h (over r) f k =
      let g : t ≡ t' = cc in
      rw (← g) (ranks_by P (λ y. P y ⊎ In y []) (λ x p. inl p) (λ x. elim [ inl p ↦ p | inr i ↦ absurd (nowhere i) ]) (omega arith) k)
    where
      nowhere : {y : Label} → In y [] → ⊥
      nowhere = elim [ ]
  ranks_all {e = e} P b t t' h (next {m = n} {ms = ns} r w q) f k = go (has_room (find n.text t) t) refl (λ c u v. ranks_all S c u t' v q)
    where
      x : Label
      x = label_of l a n

      S : Label → Type 0
      S y = P y ⊎ (y ≡ x)

      forth : (y : Label) → S y ⊎ In y (map (label_of l a) ns) → P y ⊎ In y (map (label_of l a) (n ∷ ns))
      forth y (inl (inl p)) = inl p
      forth y (inl (inr g)) = inr (head g)
      forth y (inr i) = inr (tail i)

      back : (y : Label) → P y ⊎ In y (map (label_of l a) (n ∷ ns)) → S y ⊎ In y (map (label_of l a) ns)
      back y (inl p) = inl (inl p)
      back y (inr (head g)) = inl (inr g)
      back y (inr (tail i)) = inr i

      go : (y : Bool) → has_room (find n.text t) t ≡ y
          → ((c : ℕ) (u : Table) → c ≤ l.start + suc (n.start + length n.text) → record_all l a ns u ≡ Some t' → Ranks S c u
          → Ranks (λ y. S y ⊎ In y (map (label_of l a) ns)) (l.start + e) t')
          → Ranks (λ y. P y ⊎ In y (map (label_of l a) (n ∷ ns))) (l.start + e) t'
      go true g ih =
          ranks_by _ _ forth back (omega arith)
          (ih (suc x.start) (recorded x t) (omega arith) (rw (g, record_all) at f) (ranks_one P b x (omega arith) (λ y p. k.below p) t k))
      go false g ih = let u = rw (g, record_all) at f in clash cc

-- ---- the lines of a source
module _ (z : Sizes) (base : ℕ) (s : Text) where
  -- recorded by the first j lines
  record Early (j : ℕ) (x : Label) : Type 0 where
    is : Made z base s x
    early : x.line ≤ j

  -- after the last line, or END, all is recorded
  whole : (j b : ℕ) (t : Table) → ((n : Text) (i k a : ℕ) (r : Apart z base s n i k a) → ¬ (j ≤ r.index)) → Ranks (Early j) b t → Ranks (Made z base s) b t
  whole j b t f k =
      ranks_by (Early j) (Made z base s) (λ x e. e.is)
      (λ x m. record { is = m; early = on (apart z base s m) (compared (apart z base s m).index j) }) (omega arith) k
    where
      on : {n : Text} {i k a : ℕ} (r : Apart z base s n i k a) → Compared r.index j → k ≤ j
      on r (less l) = omega (arith, r.number)
      on {n} {i} {k} {a} r (more l) = absurd (f n i k a r (omega arith))
      on {n} {i} {k} {a} r (equal l) = absurd (f n i k a r (omega arith))

  -- one line more
  module _ (j i a : ℕ) (ns : List Text) (l : Text) (r : Reached z base s j a ns) (e : IsLine s j l) (p : i ≡ start_after j (cut_at 10 s)) where
    abbrev here : SourceLine
    here = record { number = suc j; start = i; text = l }

    forth : (x : Label) → Early j x ⊎ In x (map (label_of here a) (line_of l).names) → Early (suc j) x
    forth x (inl f) = record { is = f.is; early = omega (arith, f.early) }
    forth x (inr f) = let h = mapped here a (line_of l).names f in on h.0 h.1 h.2
      where
        on : (n : Name) → In n (line_of l).names → x ≡ label_of here a n → Early (suc j) x
        on n i g = record { is = rw (g, p) (records r e i); early = rw g (omega arith) }

    back : (x : Label) → Early (suc j) x → Early j x ⊎ In x (map (label_of here a) (line_of l).names)
    back x f = on (apart z base s f.is) (compared (apart z base s f.is).index j)
      where
        on : (q : Apart z base s x.name x.start x.line x.address) → Compared q.index j → Early j x ⊎ In x (map (label_of here a) (line_of l).names)
        on q (less h) = inl (record { is = f.is; early = omega (arith, q.number) })
        on q (more h) = absurd (omega (arith, q.number, f.early))
        on q (equal h) =
            let u = (reached_once z base s (rw h at q.reached) r).0 in
            let g = rw h at q.is in
            let v : q.text ≡ l = cc in
            let w : x.start ≡ i + q.offset = q.starts ∙ rw (h, p) in
            let n : x.line ≡ suc j = q.number ∙ ap suc h in
            let y : x ≡ label_of here a (name q.offset x.name) = rw (← w, ← u, ← n) in
            inr (rw y (map_in here a (rw v at q.named)))

  -- what an accepted pass comes to
  abbrev Ranked : Answer Pass → Type 0
  Ranked (accepted p) = (b : ℕ) × Ranks (Made z base s) b p.labels
  Ranked (refused n p) = Unit {0}

  putting_ranked : (a : ℕ) (k : Task) (r : Answer Pass) → Ranked r → Ranked (and_then r (putting a k))
  unfolding and_then putting
  putting_ranked a k (accepted p) h = h
  putting_ranked a k (refused n p) h = h

  pass : (ls : List Text) (j i a : ℕ) (t : Table) (ns : List Text) → drop j (cut_at 10 s) ≡ ls → Reached z base s j a ns → i ≡ start_after j (cut_at 10 s)
      → Ranks (Early j) i t → Ranked (first_pass_by z base a t (numbered (suc j) i ls))
  unfolding first_pass_by numbered
  pass [] j i a t ns e r p h = (i, whole j i t (λ n i k a q l. no_line (cut_at 10 s) q.index j q.text e l q.is) h)
  pass (l ∷ ls) j i a t ns e r p h =
      pass_line z base a t (here j i a ns l r is p) (numbered (suc (suc j)) (suc (i + length l)) ls) Ranked
      (λ k. (i, whole j i t (λ n i k' a q u. ended n i k' a q k (compared q.index j) u) h)) (λ k o. tt) (λ t' k o v. tt)
      (λ t' k o v. putting_ranked a (line_of l).task _
      (pass ls (suc j) (suc (i + length l)) (address_after z base a (line_of l).task) t' (on_top (names_of (line_of l)) ns) (line_at (cut_at 10 s) j l ls e).1
      (rw (next_address_lem z base a (line_of l).task) at (further r is k)) (rw p (sym (start_next (cut_at 10 s) j l is))) (on t' o)))
    where
      is : IsLine s j l
      is = (line_at (cut_at 10 s) j l ls e).0

      nameless : {m : ℕ} {n : Text} → In (name m n) [] → ⊥
      nameless = elim [ ]

      ended : (n : Text) (i k a : ℕ) (q : Apart z base s n i k a) → (line_of l).task ≡ end → Compared q.index j → ¬ (j ≤ q.index)
      ended n i k a q f (less u) v = omega arith
      ended n i k a q f (more u) v = not_end z base s q.reached j l u is f
      ended n i k a q f (equal u) v =
          let g = rw u at q.is in
          let m = is in
          let w : q.text ≡ l = cc in
          nameless (rw (w, end_unlabelled l f) at q.named)

      on : (t' : Table) → record_all (here j i a ns l r is p) a (line_of l).names t ≡ Some t' → Ranks (Early (suc j)) (suc (i + length l)) t'
      on t' o =
          ranks_by _ (Early (suc j)) (forth j i a ns l r is p) (back j i a ns l r is p) (omega arith)
          (ranks_all (here j i a ns l r is p) a (Early j) i t t' (omega arith) (names_rise l) o h)

  -- before the first line nothing is recorded
  none_early : {x : Label} → Early 0 x → ⊥
  none_early e = let h = (apart z base s e.is).number in omega (arith, e.early)

  ranks_none : Ranks (Early 0) 0 []
  ranks_none = record { rise = no_label; covers = λ e. absurd (none_early e); below = λ e. absurd (none_early e) }

  ranked : (p : Pass) → pass_at_by z base s ≡ accepted p → Rise (Made z base s) 0 p.labels
  unfolding pass_at_by lines_of start_after
  ranked p e =
      let f = (not_refused _ 4 0 _ p (checks_passed s _ p e).1).1 in
      (rw f at (pass (cut_at 10 s) 0 0 base [] [] refl start refl ranks_none)).1.rise

  -- by index
  first_start : {n : Text} (x : Label) → First (Made z base s) n x → FirstStart z base s n x.start
  first_start {n} x h = record { line = x.line; address = x.address; made = rw h.named at h.holds; first = λ {i'} {k'} {a'} r. h.first {y = record { name = n; start = i'; address = a'; line = k' }} r refl }

  one_first : {n : Text} {i i' : ℕ} → FirstStart z base s n i → FirstStart z base s n i' → i ≡ i'
  one_first f g = omega (arith, f.first g.made, g.first f.made)

  has_first : {c : ℕ} (t : Table) (x : ℕ) (l : Label) → Rise (Made z base s) c t → slice_get t x ≡ Some l → (i : ℕ) × (c ≤ i) × FirstStart z base s l.name i
  has_first [] x l no_label e = absurd (none-some l e)
  has_first (m ∷ t) zero l (ranked_on y h k r) e = (y.start, k, rw (ap (λ (w : Label). w.name) (same_Some m l e)) at (first_start y h))
  has_first {c} (m ∷ t) (suc x) l (ranked_on y h k r) e = let u = has_first {c = suc y.start} t x l r e in (u.0, omega (arith, u.1), u.2)

  firsts_rise : {c : ℕ} (t : Table) (x y : ℕ) (l m : Label) (i i' : ℕ) → Rise (Made z base s) c t → x < y → slice_get t x ≡ Some l → slice_get t y ≡ Some m
      → FirstStart z base s l.name i → FirstStart z base s m.name i' → i < i'
  firsts_rise [] x y l m i i' no_label k e f g h = absurd (none-some l e)
  firsts_rise (n ∷ t) zero zero l m i i' (ranked_on w q v r) k e f g h = absurd (omega arith)
  firsts_rise (n ∷ t) (suc x) zero l m i i' (ranked_on w q v r) k e f g h = absurd (omega arith)
  firsts_rise (n ∷ t) zero (suc y) l m i i' (ranked_on w q v r) k e f g h =
      let u = has_first {c = suc w.start} t y m r f in
      let o = one_first (rw (ap (λ (w : Label). w.name) (same_Some n l e)) at (first_start w q)) g in
      omega (arith, one_first u.2 h, u.1)
  firsts_rise {c} (n ∷ t) (suc x) (suc y) l m i i' (ranked_on w q v r) k e f g h = firsts_rise {c = suc w.start} t x y l m i i' r (omega arith) e f g h

pub labels_in_order : LabelsInOrder
unfolding LabelsInOrder
labels_in_order z base s p e =
    let r = ranked z base s p e in
    record {
      has = λ x l f. let u = has_first z base s p.labels x l r f in (u.0, u.2);
      rise = λ x y l m i i' k f g h j. firsts_rise z base s p.labels x y l m i i' r k f g h j;
    }

pub copy_keeps_order : CopyKeepsOrder
unfolding CopyKeepsOrder CopyKeepsLabels LabelsInOrder
copy_keeps_order z base s p e =
    let k = copy_keeps_labels z base s p e in
    record { kept = k; of_source = labels_in_order z base s p e; of_copy = labels_in_order z base (tidy s) k.copy k.passed }
