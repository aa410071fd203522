-- A script over the limit: what is said of it goes by the table first. Assumes nothing.
use Rattle.std.proofs.Common.{ℕ, ◌≡◌, Bool, true, false, refl}
use Rattle.rules.specs.Text.{Text}
use Rattle.rules.specs.Answer.{accepted, refused, and_then}
use Rattle.requests.specs.Branches.{checked, loaded, under}
use Rattle.make_lines.specs.Lines.{by_names, lent_of}

pub long_alone : (lent : Bool) (t : Text) (m : ℕ) → lent ≡ false → by_names {A = Text} (lent_of lent t) (λ names. refused 1 m) ≡ refused 1 m
unfolding by_names lent_of
long_alone lent t m e = rw e refl

module _ (lent : Bool) (t : Text) (m : ℕ) (e : lent ≡ true) where
  pub long_accepted : (n : ℕ) → accepted n ≡ checked t → by_names {A = Text} (lent_of lent t) (λ names. refused 1 m) ≡ refused 1 m
  unfolding by_names lent_of under loaded and_then
  long_accepted n h = rw (e, ← h) refl

  pub long_refused : (n p : ℕ) → refused n p ≡ checked t → by_names {A = Text} (lent_of lent t) (λ names. refused 1 m) ≡ refused n p
  unfolding by_names lent_of under loaded and_then
  long_refused n p h = rw (e, ← h) refl
