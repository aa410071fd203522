-- The words of a line by its task: a value's, an instruction's, or none. Assumes nothing.
use Rattle.std.specs.Prelude.{Option}
use mathlib.Core.Path.{◌≡◌, refl}
use mathlib.Core.List.{List, [], ◌∷◌}
use Prim.Native.Nat.{ℕ, ◌+◌, ◌/◌, ◌%◌, ◌≤◌}
use native.Mathlib.Omega.{arith}
use lib.ListN.{length, length-take, length-drop}
use Rattle.rules.specs.Limits.{max_source}
use Rattle.rules.specs.Text.{Text}
use Rattle.rules.specs.Line.{instruction_of}
use Rattle.rules.specs.Label.{Table}
use Rattle.rules.specs.Encode.{Mnemonic, encode_by}
use Rattle.rules.specs.Assemble.{place, places_at, data_contents, data_places, Encoder, code_contents_by, code_places_by}
use Rattle.text.specs.declared.Span.{Span}
use Rattle.text.specs.Spans.{span_text, SpanIn}
use Rattle.label.specs.Labelled.{Labelled}
use Rattle.line.specs.declared.Task.{Task}
use Rattle.line.specs.declared.Task.TheVariants.{Skipped, End, Org, NoOrg, LabelOnly, Instruction, Value, Space}
use Rattle.encode.specs.Code.{code_of, places_of}
use Rattle.encode.specs.declared.Code.{Code}
use Rattle.encode.proofs.Callers.{encode_places}
use Rattle.emit.specs.Emit.{put_of, CodeNeeds}

-- ---- data words
abbrev pub NoValue : Task → Type 0
NoValue task = (n v : ℕ) → task ≡ Value n v → ⊥

module _ (source : Text) (a : ℕ) where
  pub no_value : (task : Task) → NoValue task → data_places (put_of source a task) ≡ []
  unfolding data_places data_contents places_at
  no_value Skipped h = refl
  no_value End h = refl
  no_value (Org v) h = refl
  no_value NoOrg h = refl
  no_value LabelOnly h = refl
  no_value (Instruction s) h = refl
  no_value (Value n v) h = absurd (h n v refl)
  no_value (Space n) h = refl

  pub value_places : (task : Task) {n v : ℕ} → task ≡ Value n v → {x y : ℕ} → x ≡ v / 65536 → y ≡ v % 65536
      → place a x 0 ∷ place (a + 2) y 0 ∷ [] ≡ data_places (put_of source a task)
  unfolding data_places data_contents places_at
  value_places task e p q = rw (e, p, q)

-- ---- instruction words
abbrev pub NoInstruction : Task → Type 0
NoInstruction task = (s : Span) → task ≡ Instruction s → ⊥

module _ (t : Table) (source : Text) (a : ℕ) where
  pub no_instruction : (e : Encoder) (task : Task) → NoInstruction task → code_places_by e t (put_of source a task) ≡ []
  unfolding code_places_by code_contents_by places_at
  no_instruction e Skipped h = refl
  no_instruction e End h = refl
  no_instruction e (Org v) h = refl
  no_instruction e NoOrg h = refl
  no_instruction e LabelOnly h = refl
  no_instruction e (Instruction s) h = absurd (h s refl)
  no_instruction e (Value n v) h = refl
  no_instruction e (Space n) h = refl

  pub instruction_places : (ns : List Mnemonic) (task : Task) {s : Span} {r : Option Code} → task ≡ Instruction s
      → r ≡ code_of (encode_by ns t a (instruction_of (span_text source s))) → places_of a r ≡ code_places_by (encode_by ns) t (put_of source a task)
  unfolding code_places_by code_contents_by
  instruction_places ns task {s} e f = rw (e, f) (encode_places ns t a (instruction_of (span_text source s)))

-- ---- an instruction's text
module _ {labels : Labelled} {a : ℕ} {task : Task} (h : CodeNeeds labels a task) {s : Span} (e : task ≡ Instruction s) where
  pub span_in : SpanIn labels.source s
  span_in = rw e at h.within

  pub text_short : length (span_text labels.source s) ≤ max_source
  text_short = let i = span_in in simp (length-take, length-drop) (omega (arith, h.short, i))
