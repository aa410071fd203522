-- What is printed for a script by what the call answers: a label's line, whose name lies in the script, or a refusal's. Assumes nothing.
use Prim.Native.Nat.{ℕ, ◌+◌, ◌-◌, ◌<◌, ◌≤◌}
use mathlib.Core.Path.{◌≡◌, refl, sym}
use native.Mathlib.Omega.{arith}
use lib.ListN.{length, take, drop}
use Rattle.rules.specs.Text.{Text}
use Rattle.rules.specs.Answer.{Answer, accepted, refused, and_then}
use Rattle.rules.specs.Assemble.{pass_at_by}
use Rattle.requests.specs.Nearest.{Nearest as Ruled, nearest}
use Rattle.promises.specs.Nearest.{NearestIsNear}
use Rattle.promises.proofs.Records.{records_stand}
use Rattle.promises.proofs.Nearest.{nearest_is_near}
use Rattle.station.specs.Puts.{texts}
use Rattle.station.proofs.Puts.{line_of}
use Rattle.station.proofs.ScriptInput.{RefusesLong, checks_long}
use Rattle.neartext.specs.NearLabel.{label_text, nearest_line, told_text, near_text}

pub near_refuses_long : (base a : ℕ) → RefusesLong (near_text base a)
unfolding near_text told_text nearest and_then pass_at_by
near_refuses_long base a t h = rw (checks_long t _ h)

-- the nearest label lies in the source
within : (base : ℕ) (s : Text) (a : ℕ) (n : Ruled) → nearest base s a ≡ accepted n → n.start + n.length ≤ length s
unfolding NearestIsNear
within base s a n e = let near = (nearest_is_near base s a n).0 e in rw near.length (records_stand.within near.last.made)

-- a source over the limit is refused
pub nearest_long : (base a : ℕ) (s : Text) → 32768 < length s → texts (nearest_line s) (nearest base s a) ≡ refused 1 (length s)
unfolding nearest and_then pass_at_by
nearest_long base a s h = rw (checks_long s _ h) refl

-- ---- the call's answer
module _ (base a : ℕ) (s : Text) where
  pub refusal_told : {n p : ℕ} → refused n p ≡ nearest base s a → texts (nearest_line s) (nearest base s a) ≡ refused n p
  refusal_told e = rw (← e) refl

  module _ {i n d : ℕ} (e : accepted (record { start = i; length = n; distance = d }) ≡ nearest base s a) where
    pub label_within : i + n ≤ length s
    label_within = within base s a (record { start = i; length = n; distance = d }) (sym e)

    pub label_told : texts (nearest_line s) (nearest base s a) ≡ accepted (label_text (take (i + n - i) (drop i s)) d)
    label_told = let z : i + n - i ≡ n = omega arith in rw (z, ← e) refl

  -- what is printed is the label's line, or that of the refusal
  pub near_told : line_of (texts (nearest_line s) (nearest base s a)) ≡ near_text base a s
  unfolding near_text told_text
  near_told = go (nearest base s a)
    where
      go : (r : Answer Ruled) → line_of (texts (nearest_line s) r) ≡ told_text s r
      go (accepted n) = refl
      go (refused n p) = refl
