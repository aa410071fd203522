-- What is promised of the labels holds: the sorted table is the list that the records make, and the names in it fit into the source. Assumes nothing.
use Prim.Native.Nat.{ℕ, ◌+◌, ◌<◌, ◌≤◌}
use mathlib.Core.Path.{◌≡◌, refl, sym, ap}
use mathlib.Core.List.{List, [], ◌∷◌}
use native.Mathlib.Omega.{arith}
use lib.ListN.{length}
use Rattle.rules.specs.Text.{Text, cut_at}
use Rattle.rules.specs.Line.{Name, name, line_of, size}
use Rattle.rules.specs.Label.{Label, Table}
use Rattle.rules.specs.Answer.{Answer, accepted, refused, and_then}
use Rattle.rules.specs.Assemble.{Pass, pass_at}
use Rattle.rules.proofs.Names.{Rising, next, names_rise, names_few}
use Rattle.requests.specs.Symbols.{in_order, symbols}
use Rattle.promises.specs.Refusals.{PassCondition}
use Rattle.promises.specs.Nearest.{In, head, tail, start_after}
use Rattle.promises.specs.Symbols.{IsEntry, Before, earlier_line, earlier_step, IsSymbols, SymbolsAreListed}
use Rattle.promises.proofs.Compared.{clash, Compared, less, more, equal, compared}
use Rattle.promises.proofs.Records.{Apart, apart, Made, LastRecords, labels_are_last, records_stand}
use Rattle.promises.proofs.Nearest.{clear, accepts}
use Rattle.promises.proofs.Sorted.{are_apart, Sorted, sorted, once, entry_in, ascends_at, ascends_by}

-- of a line's names, of which there are at most two, one starts before the other: they are all, in that order
only : {m x : Name} → In m (x ∷ []) → m ≡ x
only (head e) = e
only (tail i) = elim i [ ]

both_names : {l : Text} {e b : ℕ} {m m' : Name} (ms : List Name) → Rising l e b ms → length ms ≤ 2 → In m ms → In m' ms → m.start < m'.start → ms ≡ m ∷ m' ∷ []
both_names {m = m} {m' = m'} (x ∷ []) r k i j u = let v = rw (only i, only j) at u in absurd (omega arith)
both_names {m = m} {m' = m'} (x ∷ y ∷ []) (next h a (next g c r)) k i j u = go i j
  where
    go : In m (x ∷ y ∷ []) → In m' (x ∷ y ∷ []) → x ∷ y ∷ [] ≡ m ∷ m' ∷ []
    go (head e) (head f) = let v = rw (e, f) at u in absurd (omega arith)
    go (head e) (tail j) = rw (e, only j)
    go (tail i) (head f) = let v = rw (only i, f) at u in absurd (omega arith)
    go (tail i) (tail j) = let v = rw (only i, only j) at u in absurd (omega arith)
both_names (x ∷ y ∷ z ∷ ms) r k i j u = absurd (omega arith)
both_names [] r k i j u = elim i [ ]

module _ (base : ℕ) (s : Text) where
  -- records start in the order of their lines and steps
  before : {x y : Label} → Made size base s x → Made size base s y → x.start < y.start → Before s x y
  before {x} {y} p q h = go (compared x.line y.line)
    where
      a : Apart size base s x.name x.start x.line x.address
      a = apart size base s p

      b : Apart size base s y.name y.start y.line y.address
      b = apart size base s q

      on : b.index ≡ a.index → b.text ≡ a.text → Before s x y
      on e f =
          let starts : y.start ≡ start_after a.index (cut_at 10 s) + b.offset = rw e at b.starts in
          let named : In (name b.offset y.name) (line_of a.text).names = rw f at b.named in
          earlier_step a.is (both_names (line_of a.text).names (names_rise a.text) (names_few a.text) a.named named (omega (arith, a.starts)))
          (record { name = refl; start = a.starts; line = a.number }) (record { name = refl; start = starts; line = rw e at b.number })

      go : Compared x.line y.line → Before s x y
      go (less l) = earlier_line l
      go (more l) = let k = records_stand.lines q p l in absurd (omega arith)
      go (equal l) =
          let e : b.index ≡ a.index = omega (arith, a.number, b.number) in
          let is = rw e at b.is in
          let is' = a.is in
          on e cc

  after : {x y : Label} → Before s x y → Made size base s x → Made size base s y → x.start < y.start
  after (earlier_line h) p q = records_stand.lines p q h
  after (earlier_step {l = l} {m = m} {m' = m'} e f a b) p q = let h = records_stand.names l m m' f in omega (arith, a.start, b.start)

  -- in a table that holds the last records
  module _ (t : Table) (law : LastRecords base s t) where
    made : {x : Label} → In x t → Made size base s x
    made {x} i = ((law.exactly x).0 i).made

    pub in_order_lem : Sorted t (in_order t)
    in_order_lem = sorted t (are_apart t law.unique (λ x y i j. law.one (made i) (made j)))

    entry_made : (i : ℕ) {x : Label} → IsEntry (in_order t) i x → Made size base s x
    entry_made i e = made (in_order_lem.is (entry_in (in_order t) i e))

    -- of one name there is one last record
    one_last : {x y : Label} → In x t → In y t → x.name ≡ y.name → x ≡ y
    one_last {x} {y} i j e =
        let p = (law.exactly x).0 i in
        let q = (law.exactly y).0 j in
        let h = q.last (rw e at p.made) in
        let k = p.last (rw (← e) at q.made) in
        law.one p.made q.made (omega arith)

    -- no entry stands twice
    one_entry : (i j : ℕ) {x y : Label} → IsEntry (in_order t) i x → IsEntry (in_order t) j y → x.name ≡ y.name → i ≡ j
    one_entry i j {x} {y} e f g = go (compared i j)
      where
        same : x.start ≡ y.start
        same = ap (λ (z : Label). z.start) (one_last (in_order_lem.is (entry_in (in_order t) i e)) (in_order_lem.is (entry_in (in_order t) j f)) g)

        go : Compared i j → i ≡ j
        go (less h) = let k = ascends_at in_order_lem.ascends i j e f h in absurd (omega (arith, same))
        go (more h) = let k = ascends_at in_order_lem.ascends j i f e h in absurd (omega (arith, same))
        go (equal h) = h

    listed : ((m q : ℕ) → ¬ PassCondition size base s m q) → IsSymbols base s (in_order t)
    listed c =
        record {
          clear = c;
          last = λ {x} i. (law.exactly x).0 (in_order_lem.is i);
          complete = λ {n} {i} {k} {a} r. let h = law.covers {x = record { name = n; start = i; address = a; line = k }} r in (h.0, in_order_lem.has h.1, h.2);
          once = λ {i} {j} e f g. one_entry i j e f g;
          order = λ {i} {j} e f h. before (entry_made i e) (entry_made j f) (ascends_at in_order_lem.ascends i j e f h);
        }

    -- no other list is so
    is_listed : (l : List Label) → IsSymbols base s l → l ≡ in_order t
    is_listed l h = once (ascends_by l (λ i j x y e f u. after (h.order e f u) (of i e) (of j f))) in_order_lem.ascends (λ x i. in_order_lem.has ((law.exactly x).1 (h.last i))) back
      where
        of : (i : ℕ) {x : Label} → IsEntry l i x → Made size base s x
        of i e = (h.last (entry_in l i e)).made

        back : (x : Label) → In x (in_order t) → In x l
        back x i =
            let c = h.complete (made (in_order_lem.is i)) in
            let e : c.0 ≡ x = one_last ((law.exactly c.0).1 (h.last c.1)) (in_order_lem.is i) c.2 in
            rw e at c.1

pub symbols_are_listed : SymbolsAreListed
unfolding SymbolsAreListed symbols and_then
symbols_are_listed base s l = (to, from)
  where
    to : symbols base s ≡ accepted l → IsSymbols base s l
    to e = go (pass_at base s) refl
      where
        go : (x : Answer Pass) → pass_at base s ≡ x → IsSymbols base s l
        go (refused n q) f = let g : refused n q ≡ accepted l = rw f at e in clash cc
        go (accepted p) f =
            let g : accepted (in_order p.labels) ≡ accepted l = rw f at e in
            let k : in_order p.labels ≡ l = cc in
            rw (← k) (listed base s p.labels (labels_are_last base s p f) (clear base s p f))

    from : IsSymbols base s l → symbols base s ≡ accepted l
    from h =
        let q = accepts base s h.clear in
        rw q.1 (ap accepted (sym (is_listed base s q.0.labels (labels_are_last base s q.0 q.1) l h)))
