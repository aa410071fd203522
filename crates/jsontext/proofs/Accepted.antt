-- What the calls that tell labels accept has no byte above 127, and their rows stand in it: what the texts of labels ask. Assumes nothing.
use Rattle.std.proofs.Common.{ℕ, ◌≡◌, None, refl, sym}
use Rattle.rules.specs.Text.{Text}
use Rattle.rules.specs.Answer.{Answer, accepted, refused, and_then}
use Rattle.rules.specs.Assemble.{Pass, first_high, pass_at, pass_at_by}
use Rattle.requests.specs.Symbols.{Rows, in_order, symbols, symbols_answer, room_rows}
use Rattle.requests.specs.Nearest.{Nearest, nearest, nearest_in, told_nearest}
use Rattle.promises.proofs.Accepted.{checks_passed}
use Rattle.promises.proofs.Compared.{clash}
use Rattle.symtext.specs.Rows.{RowsFit}
use Rattle.jsontext.specs.Labels.{RowsStand}

pass_ascii : (base : ℕ) (s : Text) (p : Pass) → pass_at base s ≡ accepted p → first_high 0 s ≡ None
unfolding pass_at_by
pass_ascii base s p e = (checks_passed s _ p e).0.ascii

pub symbols_ascii : (base : ℕ) (s : Text) (x : Rows) {n : ℕ} → accepted n ≡ symbols_answer base s x → first_high 0 s ≡ None
unfolding symbols_answer symbols and_then
symbols_ascii base s x {n} e = go (pass_at base s) refl (sym e)
  where
    go : (r : Answer Pass) → pass_at base s ≡ r → and_then (and_then r (λ p. accepted (in_order p.labels))) (room_rows x) ≡ accepted n → first_high 0 s ≡ None
    go (accepted p) f h = pass_ascii base s p f
    go (refused m q) f h = let g : ◌≡◌ {A = Answer ℕ} (refused m q) (accepted n) = h in clash cc

pub nearest_ascii : (base a : ℕ) (s : Text) {n : Nearest} → accepted n ≡ nearest base s a → first_high 0 s ≡ None
unfolding nearest and_then
nearest_ascii base a s {n} e = go (pass_at base s) refl (sym e)
  where
    go : (r : Answer Pass) → pass_at base s ≡ r → and_then r (λ p. told_nearest a (nearest_in a p.labels)) ≡ accepted n → first_high 0 s ≡ None
    go (accepted p) f h = pass_ascii base s p f
    go (refused m q) f h = let g : ◌≡◌ {A = Answer Nearest} (refused m q) (accepted n) = h in clash cc

pub rows_stand : (s : Text) (x : Rows) → RowsFit s x → first_high 0 s ≡ None → RowsStand s x
rows_stand s x f h = record { lengths = f.lengths; addresses = f.addresses; lines = f.lines; within = f.within; ascii = h }
