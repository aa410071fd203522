-- From what the calls answer to what a command makes of a script; and a script over the limit is refused. Assumes nothing.
use Rattle.std.specs.Prelude.{Result, None}
use Prim.Native.Nat.{ℕ, ◌<◌, ◌≤◌}
use mathlib.Core.Path.{◌≡◌, refl, sym, ap}
use mathlib.Core.Bool.{Bool}
use mathlib.Core.List.{List, ◌++◌}
use lib.ListN.{length, take, drop}
use lib.Seq.{take_at}
use Rattle.rules.specs.Limits.{max_labels}
use Rattle.rules.specs.Text.{Text}
use Rattle.rules.specs.Label.{Label}
use Rattle.rules.specs.Answer.{Answer, accepted, refused, and_then}
use Rattle.rules.specs.Assemble.{pass_at_by}
use Rattle.requests.specs.Nearest.{Nearest, nearest}
use Rattle.requests.specs.Symbols.{symbols, Rows, rows, symbols_answer, symbols_rows}
use Rattle.answer.specs.declared.Refusal.{Refusal}
use Rattle.station.specs.Puts.{Puts, texts}
use Rattle.station.proofs.ScriptInput.{checks_long}
use Rattle.symtext.proofs.Told.{rows_listed, same_refusal}
use Rattle.jsontext.specs.Line.{line_text, IsLine}
use Rattle.jsontext.specs.Labels.{labels_data, nearest_data, labels_in}
use Rattle.cli_run.specs.Input.{Named}
use Rattle.cli_run.specs.Told.{told}
use Rattle.cli_labels.specs.Labels.{text_of_symbols, text_of_nearest, text_made}

-- what a call puts into a vector's slice, and the vector after it
pub lent_whole : (a : Answer Text) (r : Result ℕ Refusal) (x y items : List ℕ) (n : ℕ) → length y ≡ n → Puts a r x y → Puts a r x (take n (y ++ drop (length y) items))
lent_whole a r x y items n e p = rw (take_at y (drop (length y) items) n e) p

-- an answer with its text
pub texts_told : {A : Type 0} (f : A → Text) (b : Named) (a : Answer A) → text_made b (texts f a) ≡ told f 32768 None b a
texts_told f b (accepted x) = refl
texts_told f b (refused n p) = refl

-- ---- a script over the limit
module _ (json : Bool) (base total : ℕ) (s : Text) (e : total ≡ length s) (h : 32768 < length s) where
  pub symbols_long : text_of_symbols json base s ≡ refused 1 total
  unfolding symbols and_then pass_at_by
  symbols_long = rw (e, checks_long s _ h) refl

  pub nearest_long : (address : ℕ) → text_of_nearest json base address s ≡ refused 1 total
  unfolding nearest and_then pass_at_by
  nearest_long address = rw (e, checks_long s _ h) refl

-- ---- JSON: after a call that is accepted, and one that is refused
module _ (base : ℕ) (s : Text) (x : Rows) {y : Rows} {n : ℕ} (answered : accepted n ≡ symbols_answer base s x) (written : y ≡ symbols_rows base s x) {t : List ℕ}
    (is : IsLine (labels_data (labels_in s (rows (take n y.starts) (take n y.lengths) (take n y.addresses) (take n y.lines)))) t) where
  pub labels_made : texts (λ (ls : List Label). line_text (labels_data ls)) (symbols base s) ≡ accepted t
  labels_made = rw (rows_listed base s x answered written) (ap accepted (sym is.text))

pub labels_refused : (base : ℕ) (s : Text) (x : Rows) {n p : ℕ} → refused n p ≡ symbols_answer base s x
    → max_labels ≤ length x.starts → max_labels ≤ length x.lengths → max_labels ≤ length x.addresses → max_labels ≤ length x.lines
    → texts (λ (ls : List Label). line_text (labels_data ls)) (symbols base s) ≡ refused n p
labels_refused base s x {n} {p} e a b c d = rw (same_refusal x a b c d base s n p (sym e)) refl

module _ (base a : ℕ) (s : Text) where
  pub near_made : {m : Nearest} → accepted m ≡ nearest base s a → {t : List ℕ} → IsLine (nearest_data s m) t
      → texts (λ (n : Nearest). line_text (nearest_data s n)) (nearest base s a) ≡ accepted t
  near_made e is = rw (← e) (ap accepted (sym is.text))

  pub near_refused : {n p : ℕ} → refused n p ≡ nearest base s a → texts (λ (n : Nearest). line_text (nearest_data s n)) (nearest base s a) ≡ refused n p
  near_refused e = rw (← e) refl
