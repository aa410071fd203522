-- Laws of the first piece of an instruction's text, and what they come to: the instruction by its parts. Assumes nothing.
use Rattle.std.specs.Prelude.{Some}
use mathlib.Core.Path.{◌≡◌, refl, sym, ap, ◌∙◌}
use mathlib.Core.Bool.{Bool, true, false, and-false, or-false}
use mathlib.Core.List.{[], ◌∷◌}
use Prim.Native.Nat.{ℕ, suc, ◌+◌, ◌-◌, ◌≤◌, ◌<◌}
use native.Mathlib.Numerals.{add-one}
use native.Mathlib.Omega.{arith}
use borrow.Author.Tests.{ltb-true, ltb-false, lt-leb, ne_eqb}
use lib.Dec.{ltb, eqb}
use lib.ListN.{length, take, drop, get_or, length-drop, drop_of_length-le}
use lib.Seq.{length-take-le, take-nil, drop-cons, drop-drop}
use Rattle.rules.specs.Text.{Text, bytes, blank, uppers, leading, cut_where, cut_at, on_first, drop_empty, pieces, joined, same, nth, first_text, other_texts}
use Rattle.rules.specs.Line.{operands_of, instruction_of}
use Rattle.text.specs.Pieces.{until, run, next_piece}
use Rattle.text.specs.declared.Span.{Span}
use Rattle.text.proofs.Until.{until_here, until_later, until_le, until_rest, cut_here, cut_first}
use Rattle.text.proofs.Trim.{leading_le}
use Rattle.text.proofs.Pieces.{Next, next_some, next_none}
use Rattle.text.specs.Spans.{part}
use Rattle.text.proofs.Spans.{part_rest, part_front}
use Rattle.instruction.specs.FirstPiece.{head_parts, suffix_text, suffix_by, suffix_of, suffix_in, ends_name, head_of, HeadOf}
use Rattle.instruction.specs.declared.Suffix.{Suffix}
use Rattle.instruction.specs.declared.Suffix.TheVariants.{None, Empty, Long, Word, Other}
use Rattle.instruction.specs.Split.{operands_in}
use Rattle.instruction.specs.declared.Head.{Head}

-- ---- where the first piece stands
pub record Piece (t : Text) (r : Span) : Type 0 where
  pub start : r.start ≡ leading t
  pub end : r.end ≡ leading t + length (first_text (pieces t))
  pub within : r.end ≤ length t
  pub text : part t r.start r.end ≡ first_text (pieces t)
  pub others : pieces (drop r.end t) ≡ other_texts (pieces t)

module _ (t : Text) (r : Span) (e : r ≡ next_piece t 0) where
  starts : r.start ≡ leading t
  starts = ap (λ (x : Span). x.start) e ∙ omega arith

  ends : r.end ≡ r.start + run (drop r.start t)
  ends = ap (λ (x : Span). x.end) e ∙ ap (λ (n : ℕ). n + run (drop n t)) (sym (ap (λ (x : Span). x.start) e))

  there : Next t 0 r → Piece t r
  unfolding first_text other_texts
  there n =
      let l : length (part t r.start r.end) ≡ r.end - r.start = length-take-le (r.end - r.start) (drop r.start t) (rw length-drop (omega (arith, n.within))) in
      record {
        start = starts;
        end = rw n.parts (omega (arith, n.some, starts));
        within = n.within;
        text = rw n.parts;
        others = rw n.parts;
      }

  nowhere : length t ≤ r.start → Piece t r
  unfolding first_text other_texts until pieces cut_where drop_empty
  nowhere h =
      let p : pieces t ≡ [] = next_none t 0 r e h in
      let d : drop r.start t ≡ [] = drop_of_length-le t h in
      let z : r.end ≡ r.start + 0 = ends ∙ rw d in
      let s : r.end ≡ r.start = omega arith in
      record {
        start = starts;
        end = rw p (omega (arith, starts));
        within = omega (arith, starts, leading_le t);
        text = rw (p, d) (take-nil (r.end - r.start));
        others = rw (p, s, d);
      }

  pub first_piece : Piece t r
  first_piece = go (ltb r.start (length t)) refl
    where
      go : (y : Bool) → ltb r.start (length t) ≡ y → Piece t r
      go true q = there (next_some t 0 r e (ltb-true r.start (length t) q))
      go false q = nowhere (ltb-false r.start (length t) q)

-- with no blank in front it starts with the text's first byte
pub piece_filled : (b : ℕ) (s : Text) → blank b ≡ false → first_text (pieces (b ∷ s)) ≡ b ∷ take (run s) s
unfolding pieces drop_empty first_text
piece_filled b s e = rw (cut_first blank (b ∷ s), until_later blank b s e)

-- ---- the suffix
pub first_later : (b : ℕ) (s : Text) → eqb 46 b ≡ false → first_text (cut_at 46 (b ∷ s)) ≡ b ∷ first_text (cut_at 46 s)
unfolding cut_at first_text
first_later b s e = rw (cut_first (eqb 46) (b ∷ s), until_later (eqb 46) b s e, cut_first (eqb 46) s)

pub first_here : (b : ℕ) (s : Text) → eqb 46 b ≡ true → first_text (cut_at 46 (b ∷ s)) ≡ []
unfolding cut_at first_text
first_here b s e = rw (cut_here (eqb 46) b s e)

-- the returns of `byte_suffix`
module _ {b : ℕ} where
  pub byte_long : b ≡ 76 → Long ≡ suffix_in (b ∷ [])
  unfolding cut_at cut_where on_first first_text suffix_by same bytes
  byte_long e = rw e

  pub byte_word : b ≡ 87 → Word ≡ suffix_in (b ∷ [])
  unfolding cut_at cut_where on_first first_text suffix_by same bytes
  byte_word e = rw e

  pub byte_dot : b ≡ 46 → Empty ≡ suffix_in (b ∷ [])
  unfolding cut_at cut_where first_text suffix_by
  byte_dot e = rw e

  pub byte_other : (b ≡ 76 → ⊥) → (b ≡ 87 → ⊥) → (b ≡ 46 → ⊥) → Other ≡ suffix_in (b ∷ [])
  unfolding cut_at cut_where first_text suffix_by same bytes
  byte_other d e f = rw (first_later b [] (ne_eqb 46 b (λ q. f (sym q))), ne_eqb b 76 d, ne_eqb b 87 e, same)

-- the returns of `read_suffix`
pub suffix_alone : (t : Text) {r : Suffix} → length t ≡ 1 → r ≡ suffix_in (get_or t 0 0 ∷ []) → r ≡ suffix_in t
suffix_alone [] h e = absurd (omega arith)
suffix_alone (b ∷ []) h e = e
suffix_alone (b ∷ c ∷ s) h e = absurd (omega arith)

pub suffix_none : (t : Text) → length t ≡ 0 → Empty ≡ suffix_in t
unfolding cut_at cut_where first_text suffix_by
suffix_none [] h = refl
suffix_none (b ∷ s) h = absurd (omega arith)

pub suffix_dot : (t : Text) → get_or t 0 0 ≡ 46 → Empty ≡ suffix_in t
unfolding suffix_by
suffix_dot [] e = absurd (omega arith)
suffix_dot (b ∷ s) e = rw (first_here b s (rw e))

pub suffix_dotted : (t : Text) {r : Suffix} → (get_or t 0 0 ≡ 46 → ⊥) → get_or t 1 0 ≡ 46 → r ≡ suffix_in (get_or t 0 0 ∷ []) → r ≡ suffix_in t
unfolding cut_at cut_where first_text
suffix_dotted [] d q e = absurd (omega arith)
suffix_dotted (b ∷ []) d q e = absurd (omega arith)
suffix_dotted (b ∷ c ∷ s) d q e =
    let f : eqb 46 b ≡ false = ne_eqb 46 b (λ k. d (sym k)) in
    rw (first_later b (c ∷ s) f, first_here c s (rw q)) (rw (first_later b [] f) at e)

two_bytes : (b c : ℕ) (s : Text) → Other ≡ suffix_by (b ∷ c ∷ s)
unfolding suffix_by same bytes
two_bytes b c s = go (eqb b 76) (eqb b 87) refl refl
  where
    go : (x y : Bool) → eqb b 76 ≡ x → eqb b 87 ≡ y → Other ≡ suffix_by (b ∷ c ∷ s)
    go true true e f = rw (e, f, same)
    go true false e f = rw (e, f, same)
    go false true e f = rw (e, f, same)
    go false false e f = rw (e, f, same)

pub suffix_more : (t : Text) → (get_or t 0 0 ≡ 46 → ⊥) → 1 < length t → (get_or t 1 0 ≡ 46 → ⊥) → Other ≡ suffix_in t
suffix_more [] d h e = absurd (omega arith)
suffix_more (b ∷ []) d h e = absurd (omega arith)
suffix_more (b ∷ c ∷ s) d h e =
    rw (first_later b (c ∷ s) (ne_eqb 46 b (λ q. d (sym q))), first_later c s (ne_eqb 46 c (λ q. e (sym q)))) (two_bytes b c (first_text (cut_at 46 s)))

-- ---- the mnemonic's end
-- the byte that a search stops at passes its test
stop_byte : (f : ℕ → Bool) (b : ℕ) (s : Text) → until f (b ∷ s) ≡ 0 → f b ≡ true
stop_byte f b s h = go (f b) refl
  where
    go : (y : Bool) → f b ≡ y → y ≡ true
    go true e = refl
    go false e = absurd (omega (arith, until_later f b s e))

module _ (b : ℕ) where
  ends_blank : blank b ≡ true → ends_name b ≡ true
  unfolding ends_name
  ends_blank e = rw e

  ends_by : blank b ≡ false → ends_name b ≡ eqb 46 b
  unfolding ends_name
  ends_by e = rw e

  -- the returns of `ends_name`
  pub ends_high : 46 < b → false ≡ ends_name b
  unfolding ends_name blank
  ends_high h = rw (lt-leb b 13 (omega arith), and-false, ne_eqb b 32 (λ e. omega arith), ne_eqb 46 b (λ e. omega arith))

  pub ends_dot : b ≡ 46 → true ≡ ends_name b
  unfolding ends_name blank
  ends_dot e = rw e

  pub ends_rest : (b ≡ 46 → ⊥) → {y : Bool} → y ≡ blank b → y ≡ ends_name b
  unfolding ends_name
  ends_rest d q = rw (ne_eqb 46 b (λ e. d (sym e)), or-false) q

-- the mnemonic of a first piece, and the piece goes on after it as the text does
record Named (s : Text) : Type 0 where
  more : run s ≡ until ends_name s + run (drop (until ends_name s) s)
  name : first_text (cut_at 46 (take (run s) s)) ≡ take (until ends_name s) s

named : (s : Text) → Named s
unfolding until cut_at cut_where first_text
named [] = record { more = refl; name = refl }
named (b ∷ s) = go (blank b) (eqb 46 b) refl refl (named s)
  where
    go : (x y : Bool) → blank b ≡ x → eqb 46 b ≡ y → Named s → Named (b ∷ s)
    go true y e d w = let z = until_here ends_name b s (ends_blank b e) in record { more = rw z (omega arith); name = rw (z, until_here blank b s e) }
    go false true e d w =
        let z = until_here ends_name b s (ends_by b e ∙ d) in
        record { more = rw z (omega arith); name = rw (z, until_later blank b s e, first_here b (take (run s) s) d) }
    go false false e d w =
        let z = until_later ends_name b s (ends_by b e ∙ d) in
        record {
          more = rw (z, until_later blank b s e) (omega (arith, w.more));
          name = rw (z, until_later blank b s e, first_later b (take (run s) s) d, w.name);
        }

-- ---- what `read_head` answers
module _ (t : Text) (a n : ℕ) (p : a ≡ leading t) (q : n ≡ a + until ends_name (drop a t)) where
  after_name : drop (until ends_name (drop a t)) (drop a t) ≡ drop n t
  after_name = drop-drop (until ends_name (drop a t)) a t ∙ rw (← q)

  name_within : n ≤ length t
  name_within = omega (arith, leading_le t, until_le ends_name (drop a t), length-drop a t)

  abbrev here : Span
  here = record { start = a; end = a + run (drop a t) }

  here_first : Piece t here
  here_first = let z : 0 + leading t ≡ leading t = omega arith in first_piece t here (rw (z, p))

  first : take (run (drop a t)) (drop a t) ≡ first_text (pieces t)
  first = let z : a + run (drop a t) - a ≡ run (drop a t) = omega arith in rw z at here_first.text

  -- the piece goes on where the mnemonic ends
  to_tail : a + length (first_text (pieces t)) ≡ n + run (drop n t)
  to_tail = rw (← after_name) (omega (arith, here_first.end, (named (drop a t)).more))

  name_read : first_text (head_parts t) ≡ take (n - a) (drop a t)
  name_read =
      let z : until ends_name (drop a t) ≡ n - a = omega arith in
      rw (← first, ← z) (named (drop a t)).name

  -- the head, by the piece's end
  head_by : (e : ℕ) → e ≡ n + run (drop n t) → record { start = a; end = n; tail = e } ≡ head_of t
  unfolding head_of
  head_by e v =
      let k : a + length (take (n - a) (drop a t)) ≡ n = omega (arith, length-take-le (n - a) (drop a t) (omega (arith, name_within, length-drop a t))) in
      rw (← p, to_tail, ← v, name_read, k)

  -- the piece ends with the mnemonic
  plain : run (drop n t) ≡ 0 → record { start = a; end = n; tail = n } ≡ head_of t
  plain z = head_by n (omega arith)

  pub head_end : length t ≤ n → record { start = a; end = n; tail = n } ≡ head_of t
  unfolding until
  head_end h = plain (rw (drop_of_length-le t h))

  module _ (h : n < length t) where
    stopped : ends_name (get_or t n 0) ≡ true
    stopped = stop_byte ends_name (get_or t n 0) (drop (suc n) t) (rw (after_name, drop-cons t n 0 h) at (until_rest ends_name (drop a t)))

    pub head_plain : (get_or t n 0 ≡ 46 → ⊥) → record { start = a; end = n; tail = n } ≡ head_of t
    head_plain d = plain (rw (drop-cons t n 0 h) (until_here blank (get_or t n 0) (drop (suc n) t) (ends_rest (get_or t n 0) d refl ∙ stopped)))

    pub head_dotted : get_or t n 0 ≡ 46 → {e : ℕ} → e ≡ n + 1 + run (drop (n + 1) t) → record { start = a; end = n; tail = e } ≡ head_of t
    unfolding blank
    head_dotted d {e} u =
        let s : Text = drop (n + 1) t in
        let c : drop n t ≡ 46 ∷ s = drop-cons t n 0 h ∙ rw (d, add-one n) in
        let r : run (drop n t) ≡ suc (run s) = rw c (until_later blank 46 s refl) in
        head_by e (omega arith)

-- ---- the suffix, after the first dot of a piece w
-- a cut has a first text
nth_zero : (t : Text) → nth 0 (cut_at 46 t) ≡ Some (first_text (cut_at 46 t))
unfolding cut_at nth first_text
nth_zero t = rw (cut_first (eqb 46) t)

module _ (w : Text) where
  name_length : length (first_text (cut_at 46 w)) ≡ until (eqb 46) w
  unfolding cut_at first_text
  name_length = rw (cut_first (eqb 46) w) (length-take-le (until (eqb 46) w) w (until_le (eqb 46) w))

  -- w is all mnemonic where it has no dot
  undotted : length (first_text (cut_at 46 w)) ≡ length w → None ≡ suffix_of (nth 1 (cut_at 46 w))
  unfolding cut_at cut_where nth other_texts suffix_of
  undotted h = let l : length w ≤ until (eqb 46) w = omega (arith, name_length) in rw (cut_first (eqb 46) w, drop_of_length-le w l)

  dotted : (length (first_text (cut_at 46 w)) ≡ length w → ⊥) → suffix_in (drop (length (first_text (cut_at 46 w)) + 1) w) ≡ suffix_of (nth 1 (cut_at 46 w))
  unfolding cut_at nth other_texts suffix_of
  dotted d =
      let n : ℕ = until (eqb 46) w in
      let h : n < length w = omega (arith, name_length, until_le (eqb 46) w) in
      let c = cut_here (eqb 46) (get_or w n 0) (drop (suc n) w) (stop_byte (eqb 46) (get_or w n 0) (drop (suc n) w) (rw (drop-cons w n 0 h) at (until_rest (eqb 46) w))) in
      rw (name_length, add-one n, cut_first (eqb 46) w, drop-cons w n 0 h, c, nth_zero (drop (suc n) w))

-- ---- for callers
-- the piece stands between the head's start and its tail
whole : (t : Text) → part t (leading t) (leading t + length (first_text (pieces t))) ≡ first_text (pieces t)
whole t = let p = first_piece t (next_piece t 0) refl in rw (p.end, p.start) at p.text

head_piece : (t : Text) (r : Span) → Piece t r → HeadOf t (head_of t)
unfolding head_of cut_at first_text
head_piece t r p =
    let w : Text = first_text (pieces t) in
    let dot : ℕ = until (eqb 46) w in
    let a : ℕ = leading t in
    let m : first_text (cut_at 46 w) ≡ take dot w = rw (cut_first (eqb 46) w) in
    record {
      ordered = omega arith;
      before = omega (arith, name_length w, until_le (eqb 46) w);
      within = omega (arith, p.within, p.end);
      mnemonic = rw (name_length w) (sym (part_front t a (a + length w) dot (omega (arith, until_le (eqb 46) w))) ∙ ap (take dot) (whole t) ∙ sym m);
      others = rw p.end at p.others;
    }

module _ (t : Text) (h : Head) (e : h ≡ head_of t) where
  pub head_of_lem : HeadOf t h
  head_of_lem = rw e (head_piece t (next_piece t 0) (first_piece t (next_piece t 0) refl))

  -- the returns of `suffix_of`
  pub suffix_absent : h.end ≡ h.tail → None ≡ suffix_of (suffix_text t)
  unfolding head_of
  suffix_absent q = undotted (first_text (pieces t)) (let z = rw e at q in omega arith)

  pub suffix_there : (h.end ≡ h.tail → ⊥) → {x : Suffix} → x ≡ suffix_in (part t (h.end + 1) h.tail) → x ≡ suffix_of (suffix_text t)
  unfolding head_of
  suffix_there d u =
      let w : Text = first_text (pieces t) in
      let n : ℕ = length (first_text (cut_at 46 w)) in
      let k : leading t + n + 1 ≡ leading t + (n + 1) = omega arith in
      let c : n ≡ length w → ⊥ = λ q. d (rw (e, q)) in
      u ∙ rw (e, k, ← part_rest t (leading t) (leading t + length w) (n + 1), whole t) (dotted w c)

  -- the operands are those of the joined tail
  pub operands_read : operands_of t ≡ operands_in (joined (pieces (drop h.tail t)))
  unfolding operands_of operands_in
  operands_read = rw head_of_lem.others

  -- the instruction, by its head and its joined tail
  pub instruction_read : instruction_of t ≡ record { mnemonic = uppers (part t h.start h.end); suffix = suffix_text t; operands = operands_in (joined (pieces (drop h.tail t))) }
  unfolding instruction_of
  instruction_read = rw (head_of_lem.mnemonic, operands_read)
