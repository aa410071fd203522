-- Forms read operand by operand, and rows tried in order. Assumes nothing.
use Rattle.std.proofs.Common.{◌≡◌, ℕ, ◌/◌, ◌%◌, [], ◌∷◌, Option, None, Some, sym, ◌∙◌}
use Rattle.rules.specs.Option.{bind, or_else}
use Rattle.manual.specs.Manual.{Instruction, manual_words}
use Rattle.requests.specs.ManualCall.{Form, said}
use Rattle.encode_manual.specs.Form.{Reads}
use Rattle.encode_manual.specs.declared.form.Form.{Form as Read}
use Rattle.encode_manual.specs.declared.form.Form.TheVariants.{Word, Value, Long}

pub no_reading : Reads None None
no_reading = record { says = tt }

-- ---- operands, one by one: x is what the code reads
module _ {A : Type 0} (o : Option A) (f : A → Option Form) {x : Option A} (e : x ≡ o) where
  pub stops : {r : Option Read} → x ≡ None → r ≡ None → Reads (bind o f) r
  unfolding bind
  stops h k = rw (sym e ∙ h, k) no_reading

  pub goes : {v : A} {r : Option Read} → x ≡ Some v → Reads (f v) r → Reads (bind o f) r
  unfolding bind
  goes h k = rw (sym e ∙ h) k

-- ---- rows tried in order: the first that is read, and one that is not
module _ {A : Type 0} (o : Option A) {x : Option A} (e : x ≡ o) where
  pub row_one : (f : A → Form) (p : Option Form) {v : A} {r : Option Read} → x ≡ Some v → Reads (Some (f v)) r → Reads (or_else (bind o (λ y. Some (f y))) p) r
  unfolding bind or_else
  row_one f p h k = rw (sym e ∙ h) k

  pub row_two : {B : Type 0} (q : Option B) {y : Option B} → y ≡ q → (f : A → B → Form) (p : Option Form) {v : A} {w : B} {r : Option Read} → x ≡ Some v → y ≡ Some w → Reads (Some (f v w)) r
      → Reads (or_else (bind o (λ a. bind q (λ b. Some (f a b)))) p) r
  unfolding bind or_else
  row_two q d f p h g k = rw (sym e ∙ h, sym d ∙ g) k

  pub skips : (f : A → Option Form) (p : Option Form) {r : Option Read} → x ≡ None → Reads p r → Reads (or_else (bind o f) p) r
  unfolding bind or_else
  skips f p h k = rw (sym e ∙ h) k

-- ---- words as they stand
module _ (i : Instruction) where
  pub said_word : {w v : ℕ} → manual_words i ≡ v ∷ [] → w ≡ v → Reads (Some (said i)) (Some (Word w))
  said_word e h = record { says = rw h e }

  pub said_value : {w v x : ℕ} → manual_words i ≡ v ∷ x ∷ [] → w ≡ v → Reads (Some (said i)) (Some (Value w x))
  said_value e h = record { says = rw h e }

  pub said_long : {w v x : ℕ} → manual_words i ≡ v ∷ x / 65536 ∷ x % 65536 ∷ [] → w ≡ v → Reads (Some (said i)) (Some (Long w x))
  said_long e h = record { says = rw h e }
