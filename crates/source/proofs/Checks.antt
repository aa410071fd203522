-- Refusals 1 to 3 in their order, and what is left within the limits. Assumes nothing.
use Rattle.std.specs.Prelude.{None, Some}
use Rattle.std.proofs.Common.{◌≡◌, ℕ, ◌≤◌, ◌<◌, length, lt-ltb, le-ltb}
use Rattle.rules.specs.Limits.{max_source, max_lines}
use Rattle.rules.specs.Text.{Text, cut_at}
use Rattle.rules.specs.Answer.{Answer, refused, refuse_if, refuse_at}
use Rattle.rules.specs.Assemble.{first_high, checks}
use Rattle.source.specs.Clear.{Clear}

module _ {A : Type 0} (s : Text) (a : Answer A) where
  pub checks_1 : max_source < length s → checks s a ≡ refused 1 (length s)
  unfolding checks refuse_if
  checks_1 h = rw (lt-ltb max_source (length s) h)

  module _ (h : length s ≤ max_source) where
    pub checks_2 : (i : ℕ) → first_high 0 s ≡ Some i → checks s a ≡ refused 2 i
    unfolding checks refuse_if refuse_at
    checks_2 i e = rw (le-ltb max_source (length s) h, e)

    module _ (e : first_high 0 s ≡ None) where
      pub checks_3 : max_lines < length (cut_at 10 s) → checks s a ≡ refused 3 (length (cut_at 10 s))
      unfolding checks refuse_if refuse_at
      checks_3 k = rw (le-ltb max_source (length s) h, e, lt-ltb max_lines (length (cut_at 10 s)) k)

      pub checks_none : length (cut_at 10 s) ≤ max_lines → checks s a ≡ a
      unfolding checks refuse_if refuse_at
      checks_none k = rw (le-ltb max_source (length s) h, e, le-ltb max_lines (length (cut_at 10 s)) k)

pub clear : (s : Text) → length s ≤ max_source → first_high 0 s ≡ None → length (cut_at 10 s) ≤ max_lines → Clear s
clear s h e k = record { short = h; ascii = e; few = k }
