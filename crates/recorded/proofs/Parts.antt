-- Laws of a call's parts: when they are whole, and what that says of the numbers in the terms. Assumes nothing.
use Rattle.std.proofs.Common.{◌≡◌, ◌*◌, ◌≤◌, length}
use Rattle.rules.specs.Text.{Text}
use Rattle.recorded.specs.Recorded.{number_at, terms_in, count_of, WholeRecord}

-- the numbers in the terms that tell how long the parts are
pub record PartsIn (t : Text) : Type 0 where
  pub addresses : number_at 8 4 t ≤ 9000
  pub words : number_at 12 4 t ≤ 9000
  pub marks : number_at 16 4 t ≤ 9000

pub whole_within : {s t l : Text} → WholeRecord s t l → PartsIn t
unfolding terms_in
whole_within w = record { addresses = w.addresses; words = w.words; marks = w.marks }

pub whole_source : {s t l : Text} → WholeRecord s t l → length s ≡ number_at 0 4 t
unfolding terms_in
whole_source w = w.source

pub within_whole : (s t l : Text) → length t ≡ 25 → length s ≡ number_at 0 4 t → count_of (terms_in t) ≤ 9000 → length l ≡ 7 * count_of (terms_in t)
    → PartsIn t → WholeRecord s t l
unfolding terms_in
within_whole s t l r q n k w =
    record { terms = r; source = q; count = n; rows = k; addresses = w.addresses; words = w.words; marks = w.marks }
