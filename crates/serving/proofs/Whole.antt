-- A file that was read to its end. Assumes nothing.
use Rattle.std.proofs.Common.{◌≡◌, ℕ, min, false, List, [], length, take, Option, Some, refl, sym, ap, ◌∙◌}
use Rattle.std.proofs.Math.Seq.{take-nil}
use Rattle.std.proofs.lemmas.List.{take_min}
use Rattle.std.proofs.KnownBytes.{Consumes-whole}
use Rattle.rules.specs.Text.{Text}
use Rattle.station.specs.Reads.{Reads}
use Rattle.station.specs.declared.input.Input.{Input}
use Rattle.outcome.specs.Reading.{Kept}
use Rattle.serving.specs.Served.{IsRead}

-- all was read that it held
pub is_read : (old new : Option (List ℕ)) (front : List ℕ) (i : Input) → Kept old new front i → IsRead old front i
is_read old new front i k =
    record { text = k.text; held = Consumes-whole old new k.text (λ xs. k.text ≡ xs) k.was_read.0 k.was_read.1 refl; reads = k.reads; whole = k.whole }

-- a table that is not lent has no bytes
pub not_lent : (front : List ℕ) (i : Input) → i.failed ≡ false → i.total ≡ 0 → IsRead (Some []) front i
not_lent front i whole none = record { text = []; held = refl; reads = record { total = none; front = take-nil (length front) ∙ sym (ap (λ n. take n front) none) }; whole = whole }

-- what is kept is the text's front
pub kept_front : (b : Text) (front : List ℕ) (i : Input) → Reads b front i → take (min i.total (length front)) front ≡ take (length front) b
kept_front b front i r = take_min i.total front ∙ sym r.front
