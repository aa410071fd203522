-- The lines of rows, one after another. Assumes nothing.
use Prim.Native.Nat.{ℕ, zero, suc, ◌+◌, ◌-◌, ◌<◌, ◌≤◌}
use mathlib.Core.Path.{◌≡◌, refl, sym, ap, ◌∙◌}
use mathlib.Core.List.{[], ◌∷◌, ◌++◌, flat_map, append-nil, append_assoc}
use native.Mathlib.Omega.{arith}
use lib.ListN.{length, length-append, get_or}
use Rattle.rules.specs.Text.{Text}
use Rattle.requests.specs.Symbols.{Rows}
use Rattle.text.specs.Spans.{part}
use Rattle.listing.specs.Listing.{digits_of, decimal}
use Rattle.listing.proofs.Digits.{length_digits}
use Rattle.symtext.specs.Symlist.{line_text, symbol_text}
use Rattle.symtext.specs.Rows.{label_at, labels_from, lines_from, RowsFit}

pub line_length : (name : Text) (a n : ℕ) → length (line_text name a n) ≡ length name + 11 + length (decimal n)
unfolding line_text
line_length name a n =
    rw
    (length-append name (32 ∷ (digits_of 16 8 a ++ (32 ∷ (decimal n ++ (10 ∷ []))))), length-append (digits_of 16 8 a) (32 ∷ (decimal n ++ (10 ∷ []))), length-append (decimal n) (10 ∷ []), length_digits 16 8 a)
    (omega arith)

module _ (s : Text) (x : Rows) where
  -- k rows from i on are n of them, and m from j on
  split : (n m k i j : ℕ) → n + m ≡ k → i + n ≡ j → lines_from s x i k ≡ lines_from s x i n ++ lines_from s x j m
  unfolding labels_from flat_map
  split zero m k i j e f = let a : k ≡ m = omega arith in let b : j ≡ i = omega arith in rw (a, b)
  split (suc n) m zero i j e f = absurd (omega arith)
  split (suc n) m (suc k) i j e f =
      rw (split n m k (suc i) j (omega arith) (omega arith)) (sym (append_assoc (symbol_text (label_at s x i)) (lines_from s x (suc i) n) (lines_from s x j m)))

  pub lines_none : lines_from s x 0 0 ≡ []
  unfolding labels_from flat_map
  lines_none = refl

  module _ (k : ℕ) where
    -- the part of the source that is lent for the next line is its label's name
    abbrev lent : Text
    lent = part s (get_or x.starts k 0) (get_or x.starts k 0 + get_or x.lengths k 0)

    abbrev line : Text
    line = line_text lent (get_or x.addresses k 0) (get_or x.lines k 0)

    one : lines_from s x k 1 ≡ line
    unfolding labels_from flat_map
    one =
        let size : get_or x.starts k 0 + get_or x.lengths k 0 - get_or x.starts k 0 ≡ get_or x.lengths k 0 = omega arith in
        rw size (append-nil (symbol_text (label_at s x k)))

    pub lines_more : lines_from s x 0 (k + 1) ≡ lines_from s x 0 k ++ line
    lines_more = split k 1 (k + 1) 0 k (omega arith) (omega arith) ∙ ap (λ (t : Text). lines_from s x 0 k ++ t) one

    -- there is room for it
    pub lines_room : RowsFit s x → k < length x.starts → length (lines_from s x 0 k) + length lent + 31 ≤ 36628
    lines_room fit h =
        let n = length x.starts in
        let rest = lines_from s x (k + 1) (n - (k + 1)) in
        let all = split (k + 1) (n - (k + 1)) n 0 (k + 1) (omega arith) (omega arith) in
        let size = ap length all ∙ length-append (lines_from s x 0 (k + 1)) rest in
        let more = ap length lines_more ∙ length-append (lines_from s x 0 k) line in
        omega (arith, fit.room, size, more, line_length lent (get_or x.addresses k 0) (get_or x.lines k 0))
