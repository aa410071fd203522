-- The bounds of the list of labels: how many labels there are, where they lie, and how long their names are together. Assumes nothing.
use Rattle.std.specs.Prelude.{Some, slice_get}
use Prim.Native.Nat.{ℕ, zero, suc, ◌+◌, ◌<◌, ◌≤◌}
use mathlib.Core.Path.{◌≡◌, refl}
use mathlib.Core.Bool.{Bool, true, false}
use mathlib.Core.List.{List, [], ◌∷◌}
use native.Mathlib.Omega.{arith}
use borrow.Author.Tests.{ltb-false}
use lib.ListN.{length}
use Rattle.rules.specs.Limits.{max_lines, max_labels, address_limit}
use Rattle.rules.specs.Text.{Text, cut_at}
use Rattle.rules.specs.Line.{SourceLine, lines_of, Name, line_of, size}
use Rattle.rules.specs.Label.{Label, Table, find, recorded, has_room, label_of, record_all}
use Rattle.rules.specs.Answer.{Answer, accepted, refused, and_then}
use Rattle.rules.specs.Assemble.{Pass, putting, first_pass_by, pass_at_by, pass_at, address_after}
use Rattle.rules.proofs.Standing.{at_within}
use Rattle.requests.specs.Symbols.{in_order, symbols}
use Rattle.promises.specs.Refusals.{next_address, Reached, start, further, PassCondition, base_over, address_over}
use Rattle.promises.specs.Nearest.{In, head, tail}
use Rattle.promises.specs.Symbols.{names_length, EntryFits, SymbolsFit, EachListFits}
use Rattle.promises.proofs.Compared.{clash}
use Rattle.promises.proofs.Accepted.{not_refused, checks_passed}
use Rattle.promises.proofs.Tasks.{pass_line}
use Rattle.promises.proofs.Fit.{Holds, holds_then}
use Rattle.promises.proofs.RefusalsLabels.{recorded_room}
use Rattle.promises.proofs.Records.{apart, Made, LastRecords, labels_are_last, stands_at, records_stand}
use Rattle.promises.proofs.Nearest.{clear}
use Rattle.promises.proofs.Sorted.{Ascending, ended, ahead, Sorted}
use Rattle.promises.proofs.Symbols.{in_order_lem}

-- ---- how many labels there are
room_all : (l : SourceLine) (a : ℕ) (ns : List Name) (t t' : Table) → length t ≤ max_labels → record_all l a ns t ≡ Some t' → length t' ≤ max_labels
unfolding record_all
room_all l a [] t t' h e = let f : t ≡ t' = cc in rw (← f) h
room_all l a (n ∷ ns) t t' h e = go (has_room (find n.text t) t) refl (room_all l a ns (recorded (label_of l a n) t) t')
  where
    go : (y : Bool) → has_room (find n.text t) t ≡ y
        → (length (recorded (label_of l a n) t) ≤ max_labels → record_all l a ns (recorded (label_of l a n) t) ≡ Some t' → length t' ≤ max_labels) → length t' ≤ max_labels
    go true f ih = ih (recorded_room (label_of l a n) t (find n.text t) refl h f) (rw (record_all, f) at e)
    go false f ih = let g = rw (record_all, f) at e in clash cc

abbrev Few : Pass → Type 0
Few p = length p.labels ≤ max_labels

few_labels : (base a : ℕ) (t : Table) (ls : List SourceLine) → length t ≤ max_labels → Holds Few (first_pass_by size base a t ls)
unfolding first_pass_by putting
few_labels base a t [] h = h
few_labels base a t (l ∷ ls) h =
    pass_line size base a t l ls (Holds Few) (λ k. h) (λ k o. tt) (λ t' k o v. tt)
    (λ t' k o v. holds_then Few Few (first_pass_by size base _ t' ls) (putting a (line_of l.text).task) (few_labels base (address_after size base a (line_of l.text).task) t' ls (room_all l a _ t t' h o)) (λ p q. q))

-- ---- where they lie
index_below : (ls : List Text) (j : ℕ) (l : Text) → slice_get ls j ≡ Some l → j < length ls
index_below [] j l e = clash cc
index_below (k ∷ ls) zero l e = omega arith
index_below (k ∷ ls) (suc j) l e = let h = index_below ls j l e in omega arith

module _ (base : ℕ) (s : Text) where
  low : ((m q : ℕ) → ¬ PassCondition size base s m q) → {j a : ℕ} {ns : List Text} → Reached size base s j a ns → a < address_limit
  low c start = let d : ¬ (address_limit ≤ base) = λ h. c 4 0 (base_over h) in omega arith
  low c (further {j = j} {a = a} {l = l} r e k) =
      let d : ¬ (address_limit ≤ next_address size base a (line_of l).task) = λ h. c 5 (suc j) (address_over r e h) in omega arith

  entry_fits : (p : Pass) → pass_at base s ≡ accepted p → (x : Label) → Made size base s x → EntryFits s x
  unfolding pass_at_by
  entry_fits p e x m =
      let q = apart size base s m in
      record {
        text = records_stand.text m;
        end = at_within (stands_at m);
        address = low (clear base s p e) q.reached;
        line = omega (arith, q.number, index_below (cut_at 10 s) q.index q.text q.is, ltb-false max_lines (length (cut_at 10 s)) (checks_passed s _ p e).0.lines);
      }

  -- ---- how long their names are together
  names_fit : {l : List Label} → Ascending l → ((x : Label) → In x l → Made size base s x) → (b : ℕ) → b ≤ length s → ((x : Label) → In x l → b ≤ x.start)
      → b + names_length l ≤ length s
  unfolding names_length
  names_fit ended m b h f = omega arith
  names_fit (ahead {x = x} {l = l} k a) m b h f =
      let r = names_fit a (λ y i. m y (tail i)) (x.start + length x.name) (at_within (stands_at (m x (head refl))))
      (λ y i. records_stand.behind (m x (head refl)) (m y (tail i)) (k y i)) in
      let g = f x (head refl) in
      omega arith

pub each_list_fits : EachListFits
unfolding EachListFits symbols and_then pass_at_by
each_list_fits base s l e = go (pass_at base s) refl
  where
    go : (x : Answer Pass) → pass_at base s ≡ x → SymbolsFit s l
    go (refused n q) f = let g : refused n q ≡ accepted l = rw f at e in clash cc
    go (accepted p) f = rw (← k) (record { entry = λ {x} i. entry_fits base s p f x (made x i); count = rw o.long few; names = omega (arith, names_fit base s o.ascends made 0 (omega arith) (λ x i. omega arith)) })
      where
        k : in_order p.labels ≡ l
        k = let g : accepted (in_order p.labels) ≡ accepted l = rw f at e in cc

        law : LastRecords base s p.labels
        law = labels_are_last base s p f

        o : Sorted p.labels (in_order p.labels)
        o = in_order_lem base s p.labels law

        made : (x : Label) → In x (in_order p.labels) → Made size base s x
        made x i = ((law.exactly x).0 (o.is i)).made

        few : length p.labels ≤ max_labels
        few = rw (not_refused _ 4 0 _ p (checks_passed s _ p f).1).1 at (few_labels base base [] (lines_of s) (omega arith))
