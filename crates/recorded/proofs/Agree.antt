-- When a call agrees: from the call that was made, its answer compared, and the places compared. Assumes nothing.
use Rattle.std.proofs.Common.{◌≡◌, ℕ, Bool, true, false, ◌↔◌, replicate, sym, ap, ◌∙◌}
use mathlib.Core.Bool.{false≢true}
use Rattle.rules.specs.Text.{Text}
use Rattle.rules.specs.Assemble.{Slices, slices, holding, assemble_answer, assemble_slices}
use Rattle.rules.specs.Answer.{Answer}
use Rattle.answer.specs.Told.{told_number, told_place}
use Rattle.calls.proofs.Compared.{refuses}
use Rattle.recorded.specs.Recorded.{number_at, rows_in, terms_in, count_of, old, lent, onto, Called, WholeRecord, Agrees}

-- the pattern as the code's arrays have it
abbrev pattern : Slices
pattern = slices (replicate 9000 2863311530) (replicate 9000 43690) (replicate 9000 170)

is_old : (f : Slices → Slices) (z : Slices) → z ≡ f pattern → z ≡ f old
unfolding old
is_old f z e = e

-- the call by the numbers in the terms
pub record Made (s t : Text) (r : Answer ℕ) (y : Slices) : Type 0 where
  pub answer : r ≡ assemble_answer (terms_in t).base s (lent (terms_in t))
  pub after : y ≡ onto (assemble_slices (terms_in t).base s (lent (terms_in t))) old

pub made : (s t : Text) (base i j k : ℕ) (r : Answer ℕ) (y : Slices) → base ≡ number_at 4 4 t → i ≡ number_at 8 4 t → j ≡ number_at 12 4 t → k ≡ number_at 16 4 t
    → Called base s i j k pattern r y → Made s t r y
unfolding terms_in lent old
made s t base i j k r y eb ei ej ek d =
    record { answer = rw (← eb, ← ei, ← ej, ← ek) d.answer; after = rw (← eb, ← ei, ← ej, ← ek) d.after }

module _ (s t l : Text) (r : Answer ℕ) (y : Slices) (m : Made s t r y) (n p : ℕ) (en : n ≡ number_at 20 1 t) (ep : p ≡ number_at 21 4 t) (q : Bool)
    (told : (q ≡ true) ↔ ((told_number r ≡ n) × (told_place r ≡ p))) where
  -- the answer is another
  pub differs : q ≡ false → ((false ≡ true) ↔ Agrees s t l)
  unfolding terms_in
  differs e =
      refuses
      (λ g. false≢true (sym e ∙ told.1 (ap told_number m.answer ∙ (g.same.number ∙ sym en), ap told_place m.answer ∙ (g.same.place ∙ sym ep))))

  same_number : q ≡ true → told_number (assemble_answer (terms_in t).base s (lent (terms_in t))) ≡ (terms_in t).number
  unfolding terms_in
  same_number e = sym (ap told_number m.answer) ∙ ((told.0 e).0 ∙ en)

  same_place : q ≡ true → told_place (assemble_answer (terms_in t).base s (lent (terms_in t))) ≡ (terms_in t).place
  unfolding terms_in
  same_place e = sym (ap told_place m.answer) ∙ ((told.0 e).1 ∙ ep)

  -- the answer is the recorded one, and z holds the recorded list
  pub compared : WholeRecord s t l → q ≡ true → (count : ℕ) → count ≡ count_of (terms_in t) → (z : Slices) → z ≡ holding (rows_in count l) pattern
      → (v : Bool) → ((v ≡ true) ↔ (y ≡ z)) → ((v ≡ true) ↔ Agrees s t l)
  compared w e count ec z ez v k =
      let listed : z ≡ holding (rows_in (count_of (terms_in t)) l) old = rw (← ec) (is_old (holding (rows_in count l)) z ez) in (
        (λ f. record {
          whole = w;
          same = record { number = same_number e; place = same_place e; after = sym m.after ∙ (k.0 f ∙ listed) };
        }),
        (λ g. k.1 (m.after ∙ (g.same.after ∙ sym listed))),
      )
