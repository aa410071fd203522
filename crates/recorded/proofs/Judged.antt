-- The verdict on a record, by each of the tests that it takes. Assumes nothing.
use Rattle.std.proofs.Common.{◌≡◌, ℕ, ◌+◌, ◌<◌, ◌≤◌, Bool, true, false, ◌↔◌, length, get_or, arith, le-ltb, lt-ltb, eq-eqb, ne_eqb}
use Rattle.rules.specs.Text.{Text}
use Rattle.calls.specs.Calls.{CallAgrees}
use Rattle.recorded.specs.Recorded.{number_at, terms_in, count_of, Agrees}
use Rattle.recorded.specs.Replay.{part, judged, assemble_verdict, call_verdict, verdict_in, agrees_in, call_agrees_in}
use Rattle.std.specs.Prelude.{Option, None, Some}
use Rattle.recorded.proofs.Bytes.{one_byte}
use Rattle.recorded.proofs.Decide.{decided, agrees_decided, call_decided}

-- ---- by the record's front
pub judge_short : (t : Text) → length t < 17 → None ≡ verdict_in t
unfolding verdict_in
judge_short t h = rw (lt-ltb (length t) 17 h)

module _ (t : Text) (h : 17 ≤ length t) where
  pub judge_call : (get_or t 0 0 ≡ 1 → ⊥) → {v : Option ℕ} → v ≡ call_verdict (17 + number_at 13 4 t) t → v ≡ verdict_in t
  unfolding verdict_in
  judge_call k f = rw (le-ltb (length t) 17 h, ← (one_byte t 0 (omega arith)), ne_eqb (get_or t 0 0) 1 k) f

  pub judge_no_terms : get_or t 0 0 ≡ 1 → length t < 30 → None ≡ verdict_in t
  unfolding verdict_in
  judge_no_terms k l = rw (le-ltb (length t) 17 h, ← (one_byte t 0 (omega arith)), eq-eqb (get_or t 0 0) 1 k, lt-ltb (length t) 30 l)

  pub judge_terms : get_or t 0 0 ≡ 1 → 30 ≤ length t → (n : ℕ) → n ≡ number_at 5 4 t → {v : Option ℕ} → v ≡ assemble_verdict (30 + n) t → v ≡ verdict_in t
  unfolding verdict_in
  judge_terms k l n e f = rw (le-ltb (length t) 17 h, ← (one_byte t 0 (omega arith)), eq-eqb (get_or t 0 0) 1 k, le-ltb (length t) 30 l, ← e) f

-- ---- by what follows: b is the test of agreement, and there are n places
module _ (t : Text) (end : ℕ) (b : Bool) (n : ℕ) where
  cut : length t < end → None ≡ judged end t b n
  unfolding judged
  cut h = rw (lt-ltb (length t) end h)

  -- r is the code's answer
  module _ (h : end ≤ length t) (r : Bool) (same : r ≡ b) where
    differs : r ≡ false → None ≡ judged end t b n
    unfolding judged
    differs e = rw (le-ltb (length t) end h, ← same, e)

    agrees : r ≡ true → Some n ≡ judged end t b n
    unfolding judged
    agrees e = rw (le-ltb (length t) end h, ← same, e)

-- the assembler's call
module _ (t : Text) (end : ℕ) where
  pub assembly_cut : length t < end → None ≡ assemble_verdict end t
  unfolding assemble_verdict
  assembly_cut h = cut t end _ _ h

  module _ (h : end ≤ length t) (r : Bool) (told : (r ≡ true) ↔ Agrees (part 30 end t) (part 5 30 t) (part end (length t) t)) where
    tested : r ≡ agrees_in (part 30 end t) (part 5 30 t) (part end (length t) t)
    tested = decided r _ told (agrees_decided _ _ _)

    pub assembly_differs : r ≡ false → None ≡ assemble_verdict end t
    unfolding assemble_verdict
    assembly_differs e = differs t end _ _ h r tested e

    pub assembly_agrees : r ≡ true → (n : ℕ) → n ≡ count_of (terms_in (part 5 30 t)) → Some n ≡ assemble_verdict end t
    unfolding assemble_verdict
    assembly_agrees e n f = rw f (agrees t end _ _ h r tested e)

-- a call beside assembling, whose source has n bytes
module _ (t : Text) (n : ℕ) (size : n ≡ number_at 13 4 t) where
  pub call_cut : length t < 17 + n → None ≡ call_verdict (17 + number_at 13 4 t) t
  unfolding call_verdict
  call_cut h = rw (← size) (cut t (17 + n) _ _ h)

  module _ (h : 17 + n ≤ length t) (call x y : ℕ) (ec : call ≡ number_at 0 1 t) (ex : x ≡ number_at 5 4 t) (ey : y ≡ number_at 9 4 t) (r : Bool)
      (told : (r ≡ true) ↔ CallAgrees call x y (part 17 (17 + n) t) (part (17 + n) (length t) t)) where
    answered : r ≡ call_agrees_in (number_at 0 1 t) (number_at 5 4 t) (number_at 9 4 t) (part 17 (17 + n) t) (part (17 + n) (length t) t)
    answered = rw (← ec, ← ex, ← ey) (decided r _ told (call_decided _ _ _ _ _))

    pub call_differs : r ≡ false → None ≡ call_verdict (17 + number_at 13 4 t) t
    unfolding call_verdict
    call_differs e = rw (← size) (differs t (17 + n) _ _ h r answered e)

    pub call_agrees : r ≡ true → Some 0 ≡ call_verdict (17 + number_at 13 4 t) t
    unfolding call_verdict
    call_agrees e = rw (← size) (agrees t (17 + n) _ _ h r answered e)
