-- The texts under a table: what is printed of an answer and of slices with at least 8,192 places is the list, or the refusal; at most 4,096 verdicts
-- come; the table goes before a script over the limit, and its front is enough. Assumes nothing.
use Rattle.std.specs.Prelude.{Option, None, Some}
use Prim.Native.Nat.{ℕ, ◌<◌, ◌≤◌}
use mathlib.Core.Path.{◌≡◌, refl, ap, ◌∙◌}
use mathlib.Core.List.{List}
use native.Mathlib.Omega.{arith}
use lib.ListN.{length}
use Rattle.rules.specs.Text.{Text}
use Rattle.rules.specs.Line.{size}
use Rattle.rules.specs.Encode.{Mnemonic, encode_by}
use Rattle.rules.specs.Answer.{Answer as Ruled, accepted, refused, and_then}
use Rattle.rules.specs.Assemble.{Place, Slices, pass_at_by, assemble_by}
use Rattle.requests.specs.Explain.{explain_all_by, explain_by}
use Rattle.requests.specs.Branches.{checked, rows, loaded, names_with, under, assemble_under, assemble_under_answer, assemble_under_slices}
use Rattle.promises.specs.Lawful.{RulesAreLawful}
use Rattle.promises.specs.Longest.{AtMostALine}
use Rattle.promises.proofs.Compared.{clash}
use Rattle.promises.proofs.Lawful.{rules_are_lawful}
use Rattle.promises.proofs.Longest.{at_most_a_line}
use Rattle.promises.proofs.BranchCalls.{front_is_enough}
use Rattle.listing.specs.Listing.{refused_text}
use Rattle.station.specs.Station.{answer_text, listed_text}
use Rattle.station.proofs.Script.{list_printed}
use Rattle.station.proofs.ScriptInput.{checks_long}
use Rattle.whytext.specs.WhyLine.{told_text, all_text}
use Rattle.whytext.specs.declared.LineAt.{LineAt}
use Rattle.branchtext.specs.BranchText.{list_under_text, line_under_text, lines_under_text, script_under_text, why_under_text, long_text}
use Rattle.branchtext.proofs.TableInput.{Loads}

-- what a call under a table accepts, the call accepts by some names
pub accepted_by : {A : Type 0} (t : Text) (call : List Mnemonic → Ruled A) (y : A) → under t call ≡ accepted y → (names : List Mnemonic) × (call names ≡ accepted y)
unfolding under and_then
accepted_by t call y e = go (loaded t) e
  where
    go : (x : Ruled (List Mnemonic)) → and_then x (λ rs. call (names_with rs)) ≡ accepted y → (names : List Mnemonic) × (call names ≡ accepted y)
    go (accepted rs) f = (names_with rs, f)
    go (refused n p) f = clash cc

-- ---- lists
longest : (t : Text) (base : ℕ) (s : Text) (l : List Place) → assemble_under t base s ≡ accepted l → length l ≤ 8192
unfolding AtMostALine RulesAreLawful
longest t base s l e =
    let c = accepted_by t (λ names. assemble_by size (encode_by names) base s) l e in
    let h = at_most_a_line size (encode_by c.0) 2 (rules_are_lawful c.0) s base l c.1 in
    omega (arith, h.0, h.1)

-- after a call of the assembler
pub assembled : (t : Text) (base : ℕ) (s : Text) (x : Slices) → 8192 ≤ length x.addresses → 8192 ≤ length x.words → 8192 ≤ length x.marks
    → (r : Ruled ℕ) (y : Slices) → r ≡ assemble_under_answer t base s x → y ≡ assemble_under_slices t base s x → answer_text r y ≡ list_under_text t base s
unfolding list_under_text assemble_under_answer assemble_under_slices
assembled t base s x a b c r y e f = rw (e, f) (list_printed 8192 (assemble_under t base s) (longest t base s) x a b c)

-- ---- a script over the limit
-- a call that refuses it, whatever the names: printed by q
module _ {A : Type 0} (q : Ruled A → Text) (r : (n p : ℕ) → q (refused n p) ≡ refused_text n p) (t s : Text) (call : List Mnemonic → Ruled A)
    (l : (names : List Mnemonic) → call names ≡ refused 1 (length s)) where
  long_under : q (under t call) ≡ long_text (checked t) (length s)
  unfolding under loaded and_then long_text
  long_under = go (checked t)
    where
      go : (x : Ruled ℕ) → q (and_then (and_then x (λ n. accepted (rows t))) (λ rs. call (names_with rs))) ≡ long_text x (length s)
      go (accepted n) = ap q (l (names_with (rows t))) ∙ r 1 (length s)
      go (refused n p) = r n p

list_long : (t : Text) (base : ℕ) (s : Text) → 32768 < length s → list_under_text t base s ≡ long_text (checked t) (length s)
unfolding list_under_text listed_text pass_at_by assemble_by and_then
list_long t base s h = long_under listed_text (λ n p. refl) t s (λ names. assemble_by size (encode_by names) base s) (λ names. rw (checks_long s _ h))

line_long : (t : Text) (base line : ℕ) (s : Text) → 32768 < length s → line_under_text t base line s ≡ long_text (checked t) (length s)
unfolding line_under_text told_text pass_at_by explain_all_by explain_by and_then
line_long t base line s h = long_under told_text (λ n p. refl) t s (λ names. explain_by names base s line) (λ names. rw (checks_long s _ h))

lines_long : (t : Text) (base : ℕ) (s : Text) → 32768 < length s → lines_under_text t base s ≡ long_text (checked t) (length s)
unfolding lines_under_text all_text pass_at_by explain_all_by and_then
lines_long t base s h = long_under all_text (λ n p. refl) t s (λ names. explain_all_by names base s) (λ names. rw (checks_long s _ h))

-- by what loading the table answers
pub long_accepted : (t : Text) {n : ℕ} → accepted n ≡ checked t → (m : ℕ) → refused_text 1 m ≡ long_text (checked t) m
unfolding long_text
long_accepted t e m = rw (← e)

pub long_refused : (t : Text) {n p : ℕ} → refused n p ≡ checked t → (m : ℕ) → refused_text n p ≡ long_text (checked t) m
unfolding long_text
long_refused t e m = rw (← e)

-- ---- the programs' texts
pub script_loads : Loads script_under_text
unfolding script_under_text list_under_text
script_loads =
    record {
      long = λ t s h. list_long t 0 s h;
      front = λ t s. ap listed_text ((front_is_enough t).list 0 s);
    }

pub why_loads : (asked : Option LineAt) → Loads (why_under_text asked)
unfolding why_under_text line_under_text lines_under_text
why_loads (Some a) =
    record {
      long = λ t s h. line_long t a.base a.line s h;
      front = λ t s. ap told_text ((front_is_enough t).verdict a.base s a.line);
    }
why_loads None =
    record {
      long = λ t s h. lines_long t 0 s h;
      front = λ t s. ap all_text ((front_is_enough t).verdicts 0 s);
    }
