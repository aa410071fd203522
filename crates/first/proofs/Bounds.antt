-- What an accepted pass says, by whatever sizes: the source and the base are within the limits, and the addresses of its labels and lines, and those
-- after its lines, lie below 2^30. Assumes nothing.
use Rattle.std.specs.Prelude.{Option, None, Some}
use mathlib.Core.Path.{◌≡◌, refl, sym, ◌∙◌}
use mathlib.Core.Bool.{Bool, true, false, false≢true}
use mathlib.Core.List.{List, [], ◌∷◌}
use Prim.Native.Nat.{ℕ, zero, suc, ◌≤◌, ◌<◌}
use native.Mathlib.Omega.{arith}
use lib.Dec.{ltb, leb}
use lib.ListN.{length, get_or}
use borrow.Author.Tests.{ltb-true, ltb-false, leb-false}
use Rattle.rules.specs.Limits.{max_source, max_lines, address_limit}
use Rattle.rules.specs.Text.{Text, cut_at}
use Rattle.rules.specs.Line.{SourceLine, Name, lines_of, line_of}
use Rattle.rules.specs.Label.{Table, find, recorded, has_room, label_of}
use Rattle.rules.specs.Answer.{Answer, accepted, refuse_if, refuse_at}
use Rattle.rules.specs.Assemble.{Sizes, Pass, Put, address_after, first_pass_by, first_high, checks, pass_at_by}
use Rattle.label.specs.Table.{AllBelow, no_label}
use Rattle.label.proofs.Rows.{below_recorded}
use Rattle.first.specs.Stopped.{record_some, only, before, or_nothing, stopped_at}
use Rattle.first.proofs.Turns.{asked, Way, halts, fills, leaves, passes, way, pass_halts, pass_full, pass_out, accepted_is, taken, stop_accepted}
use Rattle.first.proofs.Naming.{some_room, some_full, record_some_lem}

-- ---- refusals 1 to 4 do not come
refuse_if_lem : {A : Type 0} (b : Bool) (n k : ℕ) (a : Answer A) {p : A} → refuse_if b n k a ≡ accepted p → b ≡ false
unfolding refuse_if
refuse_if_lem true n k a e = absurd (false≢true cc)
refuse_if_lem false n k a e = refl

refuse_at_lem : {A : Type 0} (o : Option ℕ) (n : ℕ) (a : Answer A) {p : A} → refuse_at o n a ≡ accepted p → o ≡ None
unfolding refuse_at
refuse_at_lem None n a e = refl
refuse_at_lem (Some k) n a e = absurd (false≢true cc)

pub record InLimits (z : Sizes) (base : ℕ) (s : Text) (p : Pass) : Type 0 where
  pub short : length s ≤ max_source
  pub few : length (cut_at 10 s) ≤ max_lines
  pub low : base < address_limit
  pub passed : first_pass_by z base base [] (lines_of s) ≡ accepted p
  pub stops : stopped_at z base s ≡ p

pub within : (z : Sizes) (base : ℕ) (s : Text) (p : Pass) → pass_at_by z base s ≡ accepted p → InLimits z base s p
unfolding pass_at_by checks refuse_if refuse_at stopped_at or_nothing
within z base s p e =
    let one = refuse_if_lem (ltb max_source (length s)) _ _ _ e in
    let e₁ = rw one at e in
    let two = refuse_at_lem (first_high 0 s) _ _ e₁ in
    let e₂ = rw two at e₁ in
    let three = refuse_if_lem (ltb max_lines (length (cut_at 10 s))) _ _ _ e₂ in
    let e₃ = rw three at e₂ in
    let four = refuse_if_lem (leb address_limit base) _ _ _ e₃ in
    let e₄ = rw four at e₃ in
    record {
      short = ltb-false max_source (length s) one;
      few = ltb-false max_lines (length (cut_at 10 s)) three;
      low = leb-false address_limit base four;
      passed = e₄;
      stops = rw (one, two, three, four) (stop_accepted z base base [] (lines_of s) p e₄);
    }

-- ---- labels
module _ (l : SourceLine) (a : ℕ) (h : a < address_limit) where
  some_below : (ns : List Name) (t : Table) → AllBelow address_limit t → AllBelow address_limit (record_some l a ns t)
  unfolding record_some
  some_below [] t b = b
  some_below (n ∷ ns) t b = go (has_room (find n.text t) t) refl (some_below ns (recorded (label_of l a n) t) (below_recorded (label_of l a n) h b))
    where
      go : (y : Bool) → has_room (find n.text t) t ≡ y → AllBelow address_limit (record_some l a ns (recorded (label_of l a n) t)) → AllBelow address_limit (record_some l a (n ∷ ns) t)
      go true e ih = rw (some_room l a n ns t e) ih
      go false e ih = rw (some_full l a n ns t e) b

-- ---- lines
pub record LowPut (z : Sizes) (base : ℕ) (u : Put) : Type 0 where
  pub here : u.address < address_limit
  pub after : address_after z base u.address u.task < address_limit

-- every label and every line of a pass
pub record Low (z : Sizes) (base : ℕ) (p : Pass) : Type 0 where
  pub labels : AllBelow address_limit p.labels
  pub puts : (k : ℕ) (d : Put) → k < length p.puts → LowPut z base (get_or p.puts k d)

low_only : (z : Sizes) (base : ℕ) (t : Table) (p : Pass) → accepted (only t) ≡ accepted p → AllBelow address_limit t → Low z base p
low_only z base t p e b = rw (← accepted_is e) (record { labels = b; puts = λ k d l. absurd (omega arith) })

low_before : (z : Sizes) (base : ℕ) (u : Put) (q : Pass) → LowPut z base u → Low z base q → Low z base (before u q)
unfolding before
low_before z base u q h w = record { labels = w.labels; puts = go }
  where
    go : (k : ℕ) (d : Put) → k < length (u ∷ q.puts) → LowPut z base (get_or (u ∷ q.puts) k d)
    go zero d l = h
    go (suc k) d l = w.puts k d (omega arith)

low_from : (z : Sizes) (base a : ℕ) (t : Table) (ls : List SourceLine) (p : Pass) → a < address_limit → AllBelow address_limit t → first_pass_by z base a t ls ≡ accepted p → Low z base p
unfolding first_pass_by
low_from z base a t [] p h b e = low_only z base t p e b
low_from z base a t (l ∷ ls) p h b e = go (way z base a t l) (λ a' t' q. low_from z base a' t' ls q)
  where
    go : Way z base a t l → ((a' : ℕ) (t' : Table) (q : Pass) → a' < address_limit → AllBelow address_limit t' → first_pass_by z base a' t' ls ≡ accepted q → Low z base q) → Low z base p
    go (halts n) ih = low_only z base t p (sym (pass_halts z base a t l ls n) ∙ e) b
    go (fills n r) ih = let c = sym (pass_full z base a t l ls n r) ∙ e in absurd (false≢true cc)
    go (leaves n t' r f) ih = let c = sym (pass_out z base a t l ls n t' r f) ∙ e in absurd (false≢true cc)
    go (passes n t' r f) ih =
        let i = taken z base a t l ls p e n t' r f in
        let w = ltb-true (address_after z base a (asked l)) address_limit f in
        let b' = rw (record_some_lem l a _ t t' r) at (some_below l a h (line_of l.text).names t b) in
        rw i.whole (low_before z base (record { address = a; task = asked l }) i.rest (record { here = h; after = w }) (ih _ t' i.rest w b' i.passed))

pub low : (z : Sizes) (base : ℕ) (s : Text) (p : Pass) → pass_at_by z base s ≡ accepted p → Low z base p
low z base s p e = let w = within z base s p e in low_from z base base [] (lines_of s) p w.low no_label w.passed
