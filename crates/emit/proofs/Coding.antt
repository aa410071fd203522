-- The codes of the manual's call: kept in two cells and read again, and what a line's task comes to. Assumes nothing.
use Rattle.std.specs.Prelude.{None, Some, Result, Ok, Err}
use mathlib.Core.Path.{◌≡◌, refl, sym, ap, ◌∙◌}
use Prim.Native.Nat.{ℕ, ◌+◌, ◌*◌, ◌/◌, ◌%◌, ◌<◌}
use native.Mathlib.Omega.{arith}
use Rattle.rules.specs.Text.{Text}
use Rattle.rules.specs.Line.{instruction_of}
use Rattle.rules.specs.Label.{Table}
use Rattle.rules.specs.Assemble.{places_at, words_by, code_contents_by, code_places_by}
use Rattle.requests.specs.ManualCall.{manual_fault, manual_encode}
use Rattle.requests.specs.ManualAssemble.{task_fault}
use Rattle.text.specs.declared.Span.{Span}
use Rattle.text.specs.Spans.{span_text}
use Rattle.line.specs.declared.Task.{Task}
use Rattle.line.specs.declared.Task.TheVariants.{Skipped, End, Org, NoOrg, LabelOnly, Instruction, Value, Space}
use Rattle.answer.specs.Refusal.{number_of, place_of}
use Rattle.answer.specs.declared.Refusal.{Refusal}
use Rattle.encode_manual.specs.Code.{places_of, words_of, fault_of, fault_number, contents_of}
use Rattle.encode_manual.specs.declared.Fault.{Fault}
use Rattle.encode_manual.specs.declared.ManualCode.{ManualCode}
use Rattle.encode_manual.specs.declared.ManualCode.TheVariants.{Word, Value as WithValue, Long, Address}
use Rattle.emit.specs.Emit.{put_of}
use Rattle.emit.specs.Codes.{code_in, CellsOfGives, CodeLineGives}
use Rattle.emit.proofs.LineCode.{NoInstruction, no_instruction}

-- ---- a code comes back as it was
module _ (w k : ℕ) (h : k < 8) where
  kind_of_lem : (8 * w + k) % 8 ≡ k
  kind_of_lem = omega arith

  eighth : (8 * w + k) / 8 ≡ w
  eighth = omega arith

  word_of : w < 65536 → (8 * w + k) / 8 % 65536 ≡ w
  word_of l = rw eighth (omega arith)

pub no_cells : CellsOfGives None (0, 0)
unfolding code_in
no_cells = record { back = refl; words = λ a. refl }

module _ {code : ManualCode} {w : ℕ} (l : w < 65536) where
  pub word_cells : code ≡ Word w → CellsOfGives (Some code) (8 * w + 1, 0)
  unfolding code_in
  word_cells e = rw e (record { back = rw (kind_of_lem w 1 (omega arith), word_of w 1 (omega arith) l); words = λ a. omega arith })

  pub value_cells : {v : ℕ} → v < 65536 → code ≡ WithValue w v → CellsOfGives (Some code) (8 * w + 2, v)
  unfolding code_in
  value_cells {v} m e =
      let low : v % 65536 ≡ v = omega arith in
      rw e (record { back = rw (kind_of_lem w 2 (omega arith), word_of w 2 (omega arith) l, low); words = λ a. omega arith })

  pub long_cells : {v : ℕ} → code ≡ Long w v → CellsOfGives (Some code) (8 * w + 3, v)
  unfolding code_in
  long_cells e = rw e (record { back = rw (kind_of_lem w 3 (omega arith), word_of w 3 (omega arith) l); words = λ a. omega arith })

  pub address_cells : {x : ℕ} → code ≡ Address w x → CellsOfGives (Some code) (8 * w + 7, x)
  unfolding code_in
  address_cells e = rw e (record { back = rw (kind_of_lem w 7 (omega arith), word_of w 7 (omega arith) l); words = λ a. omega arith })

-- ---- what a line comes to
code_places_lem : (a : ℕ) (c : ManualCode) → places_of a c ≡ places_at a (words_of c)
unfolding places_at
code_places_lem a (Word w) = refl
code_places_lem a (WithValue w v) = refl
code_places_lem a (Long w v) = let k : a + 2 + 2 ≡ a + 4 = omega arith in rw k
code_places_lem a (Address w x) = let k : a + 2 + 2 ≡ a + 4 = omega arith in rw k

module _ (t : Table) (source : Text) (a n : ℕ) where
  no_fault : (task : Task) → NoInstruction task → task_fault t a (put_of source a task).task ≡ None
  unfolding task_fault
  no_fault Skipped h = refl
  no_fault End h = refl
  no_fault (Org v) h = refl
  no_fault NoOrg h = refl
  no_fault LabelOnly h = refl
  no_fault (Instruction s) h = absurd (h s refl)
  no_fault (Value m v) h = refl
  no_fault (Space m) h = refl

  pub no_code : (task : Task) → NoInstruction task → CodeLineGives t (put_of source a task) n (Ok None)
  no_code task h = (no_fault task h, sym (no_instruction t source a manual_encode task h))

  -- an instruction that is encoded to r
  module _ {task : Task} {s : Span} (e : task ≡ Instruction s) {r : Result ManualCode Fault}
      (f : fault_of r ≡ manual_fault t a (instruction_of (span_text source s))) (w : contents_of r ≡ words_by manual_encode t a (instruction_of (span_text source s))) where
    pub said_fault : {x : Fault} → r ≡ Err x → (q : Refusal) → number_of q ≡ fault_number x → place_of q ≡ n → CodeLineGives t (put_of source a task) n (Err q)
    unfolding task_fault
    said_fault g q h p = (rw e (sym f ∙ rw (g, h)), p)

    pub said_code : {c : ManualCode} → r ≡ Ok c → CodeLineGives t (put_of source a task) n (Ok (Some c))
    unfolding task_fault code_places_by code_contents_by
    said_code {c} g = (rw e (sym f ∙ rw g), rw e (code_places_lem a c ∙ ap (places_at a) (rw g at w)))
