-- That a call agrees is a test. Assumes nothing.
use Rattle.std.proofs.Common.{◌≡◌, ℕ, ◌*◌, ◌≤◌, Bool, true, false, ◌&&◌, eqb, leb, ◌↔◌, length, sym, refl, ap, eq-eqb, eqb-true, le-leb, leb-true}
use mathlib.Core.Bool.{false≢true}
use Rattle.rules.specs.Text.{Text, same}
use Rattle.rules.specs.Assemble.{Slices, holding, assemble_answer, assemble_slices}
use Rattle.text.proofs.Compare.{same_is, same_self}
use Rattle.answer.specs.Told.{told_number, told_place}
use Rattle.calls.specs.Calls.{call_text, CallAgrees}
use Rattle.recorded.specs.Recorded.{rows_in, Terms, terms_in, count_of, old, onto, lent, WholeRecord, Same, Agrees}
use Rattle.recorded.specs.Replay.{whole_in, same_slices, same_in, agrees_in, call_agrees_in}
use Rattle.recorded.proofs.Lent.{by_slice}

-- two tests of one thing
pub decided : (r b : Bool) {P : Type 0} → ((r ≡ true) ↔ P) → ((b ≡ true) ↔ P) → r ≡ b
decided true b p q = sym (q.1 (p.0 refl))
decided false true p q = absurd (false≢true (p.1 (q.0 refl)))
decided false false p q = refl

first_true : (a b : Bool) → (a && b) ≡ true → a ≡ true
first_true true b e = refl
first_true false b e = e

second_true : (a b : Bool) → (a && b) ≡ true → b ≡ true
second_true true b e = e
second_true false b e = absurd (false≢true e)

both_true : (a b : Bool) → a ≡ true → b ≡ true → (a && b) ≡ true
both_true a b p q = rw (p, q)

both : {a b : Bool} {P Q : Type 0} → ((a ≡ true) ↔ P) → ((b ≡ true) ↔ Q) → (((a && b) ≡ true) ↔ (P × Q))
both {a = a} {b = b} p q =
    ((λ e. (p.0 (first_true a b e), q.0 (second_true a b e))), (λ w. both_true a b (p.1 w.0) (q.1 w.1)))

equal : (m n : ℕ) → ((eqb m n ≡ true) ↔ (m ≡ n))
equal m n = (eqb-true m n, eq-eqb m n)

below : (m n : ℕ) → ((leb m n ≡ true) ↔ (m ≤ n))
below m n = (leb-true m n, le-leb m n)

alike : (s t : Text) → ((same s t ≡ true) ↔ (s ≡ t))
alike s t = (same_is s t, (λ e. rw e (same_self t)))

whole_decided : (s t l : Text) → ((whole_in s t l ≡ true) ↔ WholeRecord s t l)
unfolding whole_in
whole_decided s t l =
    let r = terms_in t in
    let d =
    both (equal (length t) 25)
    (both (equal (length s) r.size)
    (both (below (count_of r) 9000)
    (both (equal (length l) (7 * count_of r)) (both (below r.addresses 9000) (both (below r.words 9000) (below r.marks 9000))))))
    in (
      (λ e.
          let w = d.0 e in
          record {
            terms = w.0;
            source = w.1.0;
            count = w.1.1.0;
            rows = w.1.1.1.0;
            addresses = w.1.1.1.1.0;
            words = w.1.1.1.1.1.0;
            marks = w.1.1.1.1.1.1;
          }),
      (λ w. d.1 (w.terms, (w.source, (w.count, (w.rows, (w.addresses, (w.words, w.marks))))))),
    )

slices_decided : (x y : Slices) → ((same_slices x y ≡ true) ↔ (x ≡ y))
unfolding same_slices
slices_decided x y =
    let d = both (alike x.addresses y.addresses) (both (alike x.words y.words) (alike x.marks y.marks)) in (
      (λ e. let w = d.0 e in by_slice w.0 w.1.0 w.1.1),
      (λ e. d.1 (ap (λ (z : Slices). z.addresses) e, (ap (λ (z : Slices). z.words) e, ap (λ (z : Slices). z.marks) e))),
    )

same_decided : (r : Terms) (s l : Text) → ((same_in r s l ≡ true) ↔ Same r s l)
unfolding same_in
same_decided r s l =
    let a = assemble_answer r.base s (lent r) in
    let d =
    both (equal (told_number a) r.number)
    (both (equal (told_place a) r.place) (slices_decided (onto (assemble_slices r.base s (lent r)) old) (holding (rows_in (count_of r) l) old)))
    in (
      (λ e. let w = d.0 e in record { number = w.0; place = w.1.0; after = w.1.1 }),
      (λ w. d.1 (w.number, (w.place, w.after))),
    )

pub agrees_decided : (s t l : Text) → ((agrees_in s t l ≡ true) ↔ Agrees s t l)
unfolding agrees_in
agrees_decided s t l =
    let d = both (whole_decided s t l) (same_decided (terms_in t) s l) in (
      (λ e. let w = d.0 e in record { whole = w.0; same = w.1 }),
      (λ w. d.1 (w.whole, w.same)),
    )

pub call_decided : (call x y : ℕ) (s t : Text) → ((call_agrees_in call x y s t ≡ true) ↔ CallAgrees call x y s t)
unfolding call_agrees_in
call_decided call x y s t =
    let d = both ((λ e. e), (λ e. e)) (alike (call_text call x y s) t) in (
      (λ e. let w = d.0 e in record { known = w.0; answer = w.1 }),
      (λ w. d.1 (w.known, w.answer)),
    )
