-- Rows, each a line's number and its verdict's line, one after another: a row has at most 31 bytes. Assumes nothing.
use Prim.Native.Nat.{ℕ, suc, ◌+◌, ◌<◌, ◌≤◌}
use mathlib.Core.Path.{◌≡◌, refl, sym, ap, ◌∙◌}
use mathlib.Core.List.{List, [], ◌∷◌, ◌++◌, map, append-nil, append_assoc, map-append}
use native.Mathlib.Numerals.{add-one}
use native.Mathlib.Omega.{arith}
use lib.ListN.{length, take, get_or, length-append, length-map}
use lib.Seq.{take-suc, length-take-le}
use Rattle.rules.specs.Limits.{max_lines}
use Rattle.rules.specs.Text.{Text, bytes}
use Rattle.listing.specs.Listing.{decimal}
use Rattle.listing.proofs.Digits.{few_places, decimal_length}
use Rattle.explain.specs.declared.Verdict.{Verdict}
use Rattle.explain.specs.declared.Verdict.TheVariants.{Emitted, NotInstruction, UnknownMnemonic, WrongCount, WrongKinds, NoDigits, BadDigit, OutOfRange, NotRecorded, OutOfReach}
use Rattle.whytext.specs.WhyLine.{verdict_text, row_text, rows_text}
use Rattle.whytext.specs.Verdicts.{line_of, rows_of, rows_by}

-- ---- a row
line_short : (v : Verdict) → length (line_of v) ≤ 26
unfolding line_of verdict_text bytes
line_short Emitted = omega arith
line_short NotInstruction = omega arith
line_short UnknownMnemonic = omega arith
line_short WrongCount = omega arith
line_short WrongKinds = omega arith
line_short NoDigits = omega arith
line_short BadDigit = omega arith
line_short OutOfRange = omega arith
line_short NotRecorded = omega arith
line_short OutOfReach = omega arith

-- a line's number has at most four digits
pub row_short : (line : ℕ) (v : Verdict) → line ≤ max_lines → length (row_text line (line_of v)) ≤ 31
unfolding row_text
row_short line v h = omega (arith, length-append (decimal line) (32 ∷ line_of v), line_short v, few_places 3 line (omega arith), decimal_length _ line refl)

-- ---- a row more
rows_append : (n : ℕ) (ts : List Text) (t : Text) → rows_text n (ts ++ (t ∷ [])) ≡ rows_text n ts ++ row_text (n + length ts) t
unfolding rows_text
rows_append n [] t = append-nil (row_text n t) ∙ let z : n ≡ n + 0 = omega arith in ap (λ (m : ℕ). row_text m t) z
rows_append n (s ∷ ts) t =
    let z : suc n + length ts ≡ n + suc (length ts) = omega arith in
    ap (λ (r : Text). row_text n s ++ r) (rows_append (suc n) ts t ∙ ap (λ (m : ℕ). rows_text (suc n) ts ++ row_text m t) z) ∙ sym (append_assoc (row_text n s) (rows_text (suc n) ts) (row_text (n + suc (length ts)) t))

-- of what stands for verdicts
module _ {V : Type 0} (verdict : V → Verdict) (vs : List V) where
  pub rows_by_none : rows_by verdict (take 0 vs) ≡ []
  unfolding rows_by rows_text
  rows_by_none = refl

  pub rows_by_more : (k : ℕ) (d : V) → k < length vs → rows_by verdict (take (k + 1) vs) ≡ rows_by verdict (take k vs) ++ row_text (k + 1) (line_of (verdict (get_or vs k d)))
  unfolding rows_by
  rows_by_more k d h =
      let f : V → Text = λ (v : V). line_of (verdict v) in
      let l : 1 + length (map f (take k vs)) ≡ suc k = omega (arith, length-map (take k vs) f, length-take-le k vs (omega arith)) in
      rw (add-one k, take-suc vs k d h, map-append) (rows_append 1 (map f (take k vs)) (f (get_or vs k d)) ∙ ap (λ (m : ℕ). rows_text 1 (map f (take k vs)) ++ row_text m (f (get_or vs k d))) l)

-- and of verdicts
pub rows_none : (vs : List Verdict) → rows_of (take 0 vs) ≡ []
unfolding rows_of rows_by
rows_none vs = rows_by_none (λ v. v) vs

pub rows_more : (k : ℕ) (vs : List Verdict) → k < length vs → rows_of (take (k + 1) vs) ≡ rows_of (take k vs) ++ row_text (k + 1) (line_of (get_or vs k Emitted))
unfolding rows_of rows_by
rows_more k vs h = rows_by_more (λ v. v) vs k Emitted h
