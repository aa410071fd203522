-- From what the calls answer to what is made: a text for what is accepted, or the refusal; and a script over the limit is refused. Assumes nothing.
use Rattle.std.specs.Prelude.{Result}
use Prim.Native.Nat.{ℕ, ◌<◌, ◌≤◌}
use mathlib.Core.Path.{◌≡◌, refl, sym, ap}
use mathlib.Core.List.{List, ◌++◌, flat_map}
use lib.ListN.{length, take, drop}
use lib.Seq.{take_at}
use Rattle.rules.specs.Limits.{max_labels}
use Rattle.rules.specs.Text.{Text}
use Rattle.rules.specs.Answer.{Answer, accepted, refused, and_then}
use Rattle.rules.specs.Assemble.{pass_at_by}
use Rattle.requests.specs.Nearest.{Nearest, nearest}
use Rattle.requests.specs.Symbols.{symbols, Rows, rows, symbols_answer, symbols_rows}
use Rattle.answer.specs.declared.Refusal.{Refusal}
use Rattle.station.specs.Puts.{Puts, texts}
use Rattle.station.proofs.ScriptInput.{checks_long}
use Rattle.symtext.proofs.Told.{rows_listed, same_refusal}
use Rattle.symtext.specs.Symlist.{symbol_text}
use Rattle.neartext.specs.NearLabel.{nearest_line}
use Rattle.jsontext.specs.Line.{IsLine}
use Rattle.jsontext.specs.Labels.{labels_data, nearest_data, labels_in}
use Rattle.outcome.specs.Made.{made, refuses, of_which, told, told_text}
use Rattle.outcome.specs.declared.Unmade.{Unmade}
use Rattle.outcome.specs.Outcome.{NotMade}
use Rattle.make_labels.specs.Labels.{symbols_made, symbols_json, nearest_made, nearest_json, TooLong}

-- what a call puts into a vector's slice, and the vector after it
pub lent_whole : (a : Answer Text) (r : Result ℕ Refusal) (x y items : List ℕ) (n : ℕ) → length y ≡ n → Puts a r x y → Puts a r x (take n (y ++ drop (length y) items))
lent_whole a r x y items n e p = rw (take_at y (drop (length y) items) n e) p

-- an answer with its text
texts_told : {A : Type 0} (f : A → Text) (a : Answer A) → told_text (texts f a) ≡ told f a
texts_told f (accepted x) = refl
texts_told f (refused n p) = refl

pub symbols_put : (base : ℕ) (s : Text) → told_text (texts (flat_map symbol_text) (symbols base s)) ≡ symbols_made base s
unfolding symbols_made
symbols_put base s = texts_told (flat_map symbol_text) (symbols base s)

pub nearest_put : (base a : ℕ) (s : Text) → told_text (texts (nearest_line s) (nearest base s a)) ≡ nearest_made base a s
unfolding nearest_made
nearest_put base a s = texts_told (nearest_line s) (nearest base s a)

-- ---- a script over the limit
symbols_long : (base : ℕ) (s : Text) → 32768 < length s → symbols base s ≡ refused 1 (length s)
unfolding symbols and_then pass_at_by
symbols_long base s h = rw (checks_long s _ h) refl

nearest_long : (base a : ℕ) (s : Text) → 32768 < length s → nearest base s a ≡ refused 1 (length s)
unfolding nearest and_then pass_at_by
nearest_long base a s h = rw (checks_long s _ h) refl

module _ (s : Text) (u : Unmade) (l : TooLong s u) where
  pub symbols_refused : (base : ℕ) → NotMade (symbols_made base s) u
  unfolding symbols_made of_which
  symbols_refused base = rw (l.1, symbols_long base s l.0) refl

  pub symbols_json_refused : (base : ℕ) → NotMade (symbols_json base s) u
  unfolding symbols_json of_which
  symbols_json_refused base = rw (l.1, symbols_long base s l.0) refl

  pub nearest_refused : (base a : ℕ) → NotMade (nearest_made base a s) u
  unfolding nearest_made of_which
  nearest_refused base a = rw (l.1, nearest_long base a s l.0) refl

  pub nearest_json_refused : (base a : ℕ) → NotMade (nearest_json base a s) u
  unfolding nearest_json of_which
  nearest_json_refused base a = rw (l.1, nearest_long base a s l.0) refl

-- ---- JSON: after a call that is accepted, and one that is refused
module _ (base : ℕ) (s : Text) (x : Rows) {y : Rows} {n : ℕ} (answered : accepted n ≡ symbols_answer base s x) (written : y ≡ symbols_rows base s x) {t : List ℕ}
    (is : IsLine (labels_data (labels_in s (rows (take n y.starts) (take n y.lengths) (take n y.addresses) (take n y.lines)))) t) where
  pub labels_made : symbols_json base s ≡ made t
  unfolding symbols_json
  labels_made = rw (rows_listed base s x answered written) (ap made (sym is.text))

pub labels_refused : (base : ℕ) (s : Text) (x : Rows) {n p : ℕ} → refused n p ≡ symbols_answer base s x
    → max_labels ≤ length x.starts → max_labels ≤ length x.lengths → max_labels ≤ length x.addresses → max_labels ≤ length x.lines
    → symbols_json base s ≡ refuses (of_which n) n p
unfolding symbols_json
labels_refused base s x {n} {p} e a b c d = rw (same_refusal x a b c d base s n p (sym e)) refl

module _ (base a : ℕ) (s : Text) where
  pub near_made : {m : Nearest} → accepted m ≡ nearest base s a → {t : List ℕ} → IsLine (nearest_data s m) t → nearest_json base a s ≡ made t
  unfolding nearest_json
  near_made e is = rw (← e) (ap made (sym is.text))

  pub near_refused : {n p : ℕ} → refused n p ≡ nearest base s a → nearest_json base a s ≡ refuses (of_which n) n p
  unfolding nearest_json
  near_refused e = rw (← e) refl
