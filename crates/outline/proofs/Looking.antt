-- What the loops over a line's bytes keep: to its text, and over its text once. Assumes nothing.
use mathlib.Core.Path.{◌≡◌, refl, sym, ap, ◌∙◌}
use mathlib.Core.Logic.{◌≢◌}
use mathlib.Core.Bool.{Bool, true, false, ◌&&◌, ◌||◌, not, cond, or-false}
use mathlib.Core.List.{[], ◌∷◌}
use Prim.Native.Nat.{ℕ, zero, suc, ◌+◌, ◌-◌, ◌≤◌, ◌<◌}
use native.Mathlib.Numerals.{add-one}
use native.Mathlib.Omega.{arith}
use borrow.Author.Tests.{eq-eqb, ne_eqb, leb-true, leb-false, le-leb, lt-leb}
use lib.Dec.{eqb, leb}
use lib.ListN.{length, take, drop, get_or}
use lib.Seq.{drop-drop}
use Rattle.rules.specs.Text.{Text, blank, leading}
use Rattle.rules.specs.Line.{is_data}
use Rattle.text.specs.Pieces.{until}
use Rattle.text.proofs.Compare.{eqb_sym}
use Rattle.text.proofs.Trim.{leading_blank, leading_none, leading_le}
use Rattle.text.proofs.Until.{until_here, until_later, Stepped, stepped_all, stepped_stop, stepped_more}
use Rattle.outline.specs.Lines.{line_end, line_from}
use Rattle.outline.specs.Outline.{is_define, defines_from, back, next_colon, outline_by, OutlineLineGives}
use Rattle.outline.proofs.Lines.{line_end_le, line_length, line_ended, line_over, line_more}
use Rattle.outline.proofs.Defines.{defines_all, colon_trimmed}

is_ten : (b : ℕ) → b ≡ 10 → eqb 10 b ≡ true
is_ten b e = eqb_sym 10 b ∙ eq-eqb b 10 e

no_ten : (b : ℕ) → b ≢ 10 → eqb 10 b ≡ false
no_ten b e = eqb_sym 10 b ∙ ne_eqb b 10 e

is_not : (b : Bool) {y : Bool} → not b ≡ y → b ≡ not y
is_not true e = ap not e
is_not false e = ap not e

-- ---- the loop of `text_start`
-- blanks stand before i, and those after them lead to the same place
pub record Begun (s : Text) (at i : ℕ) : Type 0 where
  pub within : i ≤ length s
  pub same : i + leading (line_from s i) ≡ at + leading (line_from s at)

module _ {s : Text} {at i : ℕ} (inv : Begun s at i) where
  begun_none : line_from s i ≡ [] → i ≡ at + leading (line_from s at)
  unfolding leading
  begun_none e = let h = rw e at inv.same in omega arith

  pub begun_ended : length s ≤ i → length s ≡ at + leading (line_from s at)
  begun_ended h = let z = begun_none (line_ended s i h) in let w = inv.within in omega arith

  module _ (h : i < length s) where
    pub begun_over : get_or s i 0 ≡ 10 → i ≡ at + leading (line_from s at)
    begun_over e = begun_none (line_over s i h (is_ten _ e))

    module _ (e : get_or s i 0 ≢ 10) where
      pub begun_text : not (blank (get_or s i 0)) ≡ true → i ≡ at + leading (line_from s at)
      begun_text b =
          let k = rw (line_more s i h (no_ten _ e), leading_none (get_or s i 0) (line_from s (suc i)) (is_not _ b)) at inv.same in
          omega arith

      pub begun_more : not (blank (get_or s i 0)) ≡ false → Begun s at (i + 1)
      begun_more b =
          let k = rw (line_more s i h (no_ten _ e), leading_blank (get_or s i 0) (line_from s (suc i)) (is_not _ b)) at inv.same in
          record { within = omega arith; same = rw (add-one i) (omega arith) }

  -- from another byte on
  pub begun_there : {r : ℕ} → r ≡ i + leading (line_from s i) → r ≡ at + leading (line_from s at)
  begun_there e = e ∙ inv.same

  -- a space is a blank
  pub begun_space : i < length s → get_or s i 0 ≡ 32 → Begun s at (i + 1)
  unfolding blank
  begun_space h e = begun_more h (λ z. absurd (omega arith)) (rw e)

-- ---- a line from a place in it on
module _ (f : ℕ → Bool) where
  until_drop : (k : ℕ) (t : Text) → k ≤ until f t → k + until f (drop k t) ≡ until f t
  unfolding until
  until_drop zero t h = omega arith
  until_drop (suc k) [] h = absurd (omega arith)
  until_drop (suc k) (b ∷ t) h = go (f b) refl (until_drop k t)
    where
      go : (y : Bool) → f b ≡ y → (k ≤ until f t → k + until f (drop k t) ≡ until f t) → suc k + until f (drop k t) ≡ until f (b ∷ t)
      go true e ih = absurd (omega (arith, until_here f b t e))
      go false e ih = let u = until_later f b t e in let w = ih (omega arith) in omega arith

  take_until_drop : (k : ℕ) (t : Text) → k ≤ until f t → take (until f (drop k t)) (drop k t) ≡ drop k (take (until f t) t)
  unfolding until
  take_until_drop zero t h = refl
  take_until_drop (suc k) [] h = absurd (omega arith)
  take_until_drop (suc k) (b ∷ t) h = go (f b) refl (take_until_drop k t)
    where
      go : (y : Bool) → f b ≡ y → (k ≤ until f t → take (until f (drop k t)) (drop k t) ≡ drop k (take (until f t) t)) → take (until f (drop k t)) (drop k t) ≡ drop (suc k) (take (until f (b ∷ t)) (b ∷ t))
      go true e ih = absurd (omega (arith, until_here f b t e))
      go false e ih = rw (until_later f b t e) (ih (let u = until_later f b t e in omega arith))

-- what stands from the text on
module _ (s : Text) (at start : ℕ) (e : start ≡ at + leading (line_from s at)) where
  leads : leading (line_from s at) ≤ until (eqb 10) (drop at s)
  leads = rw (line_length s at) at (leading_le (line_from s at))

  from_text : Stepped (eqb 10) s at start
  from_text =
      let k = until_drop (eqb 10) (leading (line_from s at)) (drop at s) leads in
      rw (e, ← drop-drop (leading (line_from s at)) at s) (omega arith)

  text_from : line_from s start ≡ drop (leading (line_from s at)) (line_from s at)
  text_from = rw (e, ← drop-drop (leading (line_from s at)) at s) (take_until_drop (eqb 10) (leading (line_from s at)) (drop at s) leads)

-- ---- the loop of `outline_line`
-- the place of the first colon, of which none is left of i unless it is found
abbrev colon_by : Text → ℕ → ℕ → ℕ
colon_by s i colon = cond (eqb colon (length s)) (i + until (eqb 58) (line_from s i)) colon

-- DC. or DS. is found, or stands in what is left, with the two bytes before i
abbrev defines_by : Text → ℕ → ℕ → Bool → Bool
defines_by s start i d = d || defines_from (back s start i 2) (back s start i 1) (line_from s i)

pub record Looked (s : Text) (at start i colon : ℕ) (d : Bool) : Type 0 where
  pub begun : start ≡ at + leading (line_from s at)
  pub ordered : start ≤ i
  pub within : i ≤ length s
  pub inside : Stepped (eqb 10) s at i
  pub same_colon : colon_by s i colon ≡ at + until (eqb 58) (line_from s at)
  pub same_defines : defines_by s start i d ≡ is_data (line_from s at)

-- the byte before the next place is the byte here
back_one : (s : Text) (start i : ℕ) → start ≤ i → back s start (i + 1) 1 ≡ get_or s i 0
back_one s start i h = let k : i + 1 - 1 ≡ i = omega arith in rw (le-leb (start + 1) (i + 1) (omega arith), k)

back_two : (s : Text) (start i : ℕ) → start ≤ i → back s start (i + 1) 2 ≡ back s start i 1
back_two s start i h = go (leb (start + 1) i) refl
  where
    go : (y : Bool) → leb (start + 1) i ≡ y → back s start (i + 1) 2 ≡ back s start i 1
    go true e =
        let l = leb-true (start + 1) i e in
        let k : i + 1 - 2 ≡ i - 1 = omega arith in
        rw (e, le-leb (start + 2) (i + 1) (omega arith), k)
    go false e = let l = leb-false (start + 1) i e in rw (e, lt-leb (start + 2) (i + 1) (omega arith))

or_assoc : (a b c : Bool) → ((a || b) || c) ≡ (a || (b || c))
or_assoc true b c = refl
or_assoc false b c = refl

pub looked_first : (s : Text) (at start : ℕ) → at ≤ length s → start ≡ at + leading (line_from s at) → Looked s at start start (length s) false
looked_first s at start h e =
    let l : start ≤ length s = omega (arith, leads s at start e, line_end_le s at h) in
    let c = colon_trimmed (line_from s at) in
    let t = text_from s at start e in
    record {
      begun = e;
      ordered = omega arith;
      within = l;
      inside = from_text s at start e;
      same_colon = rw (eq-eqb (length s) (length s) refl, t) (omega arith);
      same_defines = rw (lt-leb (start + 2) start (omega arith), lt-leb (start + 1) start (omega arith), t) (defines_all (line_from s at));
    }

module _ {s : Text} {at start i colon : ℕ} {d : Bool} (inv : Looked s at start i colon d) where
  module _ (h : i < length s) (e : get_or s i 0 ≢ 10) where
    here : line_from s i ≡ get_or s i 0 ∷ line_from s (suc i)
    here = line_more s i h (no_ten (get_or s i 0) e)

    -- a byte that is a colon, and one that is none
    colon_here : get_or s i 0 ≡ 58 → colon_by s (i + 1) (next_colon (length s) colon i) ≡ at + until (eqb 58) (line_from s at)
    colon_here f = go (eqb colon (length s)) refl
      where
        go : (z : Bool) → eqb colon (length s) ≡ z → colon_by s (i + 1) (next_colon (length s) colon i) ≡ at + until (eqb 58) (line_from s at)
        go true g =
            let u = until_here (eqb 58) (get_or s i 0) (line_from s (suc i)) (eqb_sym 58 (get_or s i 0) ∙ eq-eqb (get_or s i 0) 58 f) in
            rw (g, ne_eqb i (length s) (λ z. absurd (omega arith))) (let k = rw (g, here, u) at inv.same_colon in omega arith)
        go false g = rw g (rw g (rw g at inv.same_colon))

    colon_later : get_or s i 0 ≢ 58 → colon_by s (i + 1) colon ≡ at + until (eqb 58) (line_from s at)
    colon_later f = go (eqb colon (length s)) refl
      where
        go : (z : Bool) → eqb colon (length s) ≡ z → colon_by s (i + 1) colon ≡ at + until (eqb 58) (line_from s at)
        go true g =
            let u = until_later (eqb 58) (get_or s i 0) (line_from s (suc i)) (eqb_sym 58 (get_or s i 0) ∙ ne_eqb (get_or s i 0) 58 f) in
            rw (g, add-one i) (let k = rw (g, here, u) at inv.same_colon in omega arith)
        go false g = rw g (rw g at inv.same_colon)

    defines_next : defines_by s start (i + 1) (d || (eqb (get_or s i 0) 46 && is_define (back s start i 2) (back s start i 1))) ≡ is_data (line_from s at)
    unfolding defines_from
    defines_next =
        rw (back_one s start i inv.ordered, back_two s start i inv.ordered, add-one i)
        (or_assoc d (eqb (get_or s i 0) 46 && is_define (back s start i 2) (back s start i 1)) (defines_from (back s start i 1) (get_or s i 0) (line_from s (suc i)))
        ∙ (rw here at inv.same_defines))

    -- a dot, and a byte that is none
    pub defines_found : get_or s i 0 ≡ 46 → {y : Bool} → y ≡ (d || is_define (back s start i 2) (back s start i 1)) → defines_by s start (i + 1) y ≡ is_data (line_from s at)
    defines_found f q = rw q (rw (eq-eqb (get_or s i 0) 46 f) at defines_next)

    pub defines_kept : get_or s i 0 ≢ 46 → {y : Bool} → y ≡ d → defines_by s start (i + 1) y ≡ is_data (line_from s at)
    defines_kept f q = rw q (rw (ne_eqb (get_or s i 0) 46 f, or-false d) at defines_next)

    pub colon_found : get_or s i 0 ≡ 58 → {k : ℕ} → k ≡ next_colon (length s) colon i → colon_by s (i + 1) k ≡ at + until (eqb 58) (line_from s at)
    colon_found f q = rw q (colon_here f)

    pub colon_kept : get_or s i 0 ≢ 58 → {k : ℕ} → k ≡ colon → colon_by s (i + 1) k ≡ at + until (eqb 58) (line_from s at)
    colon_kept f q = rw q (colon_later f)

    -- one byte more
    pub looked_byte : {k : ℕ} {y : Bool} → colon_by s (i + 1) k ≡ at + until (eqb 58) (line_from s at) → defines_by s start (i + 1) y ≡ is_data (line_from s at)
        → Looked s at start (i + 1) k y
    looked_byte c g =
        record {
          begun = inv.begun;
          ordered = let l = inv.ordered in omega arith;
          within = omega arith;
          inside = stepped_more (eqb 10) s at i h (no_ten (get_or s i 0) e) inv.inside;
          same_colon = c;
          same_defines = g;
        }

    -- a letter is neither colon nor dot
    pub looked_letter : 58 < get_or s i 0 → {k : ℕ} {y : Bool} → k ≡ colon → y ≡ d → Looked s at start (i + 1) k y
    looked_letter g p q = looked_byte (colon_kept (λ z. absurd (omega arith)) p) (defines_kept (λ z. absurd (omega arith)) q)

  module _ (e : line_from s i ≡ []) where
    colon_all : cond (eqb colon (length s)) i colon ≡ at + until (eqb 58) (line_from s at)
    unfolding until
    colon_all = go (eqb colon (length s)) refl
      where
        go : (y : Bool) → eqb colon (length s) ≡ y → cond (eqb colon (length s)) i colon ≡ at + until (eqb 58) (line_from s at)
        go true g = let k = rw (g, e) at inv.same_colon in rw g (omega arith)
        go false g = rw g (rw g at inv.same_colon)

    defines_all_seen : d ≡ is_data (line_from s at)
    unfolding defines_from
    defines_all_seen = let k = rw e at inv.same_defines in sym (or-false d) ∙ k

    -- the line is over
    pub looked_all : i ≡ line_end s at → OutlineLineGives s at (outline_by start (length s) colon d i)
    looked_all f = record { starts = inv.begun; colons = colon_all; directive = defines_all_seen; ends = f }

  -- how it comes to be over
  pub ended : length s ≤ i → OutlineLineGives s at (outline_by start (length s) colon d (length s))
  ended h =
      let w = inv.within in
      let z : i ≡ length s = omega arith in
      rw z at (looked_all (line_ended s i h) (z ∙ stepped_all (eqb 10) s at i (sym z) inv.inside))

  pub over : i < length s → get_or s i 0 ≡ 10 → OutlineLineGives s at (outline_by start (length s) colon d i)
  over h e = looked_all (line_over s i h (is_ten (get_or s i 0) e)) (stepped_stop (eqb 10) s at i h (is_ten (get_or s i 0) e) inv.inside)
