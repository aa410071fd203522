-- Laws of step 5's label and directive: around a colon, or by the pieces. Assumes nothing.
use mathlib.Core.Path.{◌≡◌, refl, ap, ◌∙◌}
use mathlib.Core.Bool.{Bool, true, false}
use mathlib.Core.List.{List, [], ◌∷◌, append-nil}
use Prim.Native.Nat.{ℕ, suc, ◌+◌, ◌-◌, ◌≤◌, ◌<◌}
use native.Mathlib.Numerals.{add-one}
use native.Mathlib.Omega.{arith}
use borrow.Author.Tests.{ltb-true, ltb-false}
use lib.Dec.{ltb}
use lib.ListN.{length, take, drop}
use lib.Seq.{length-take-le}
use Rattle.rules.specs.Text.{Text, leading, trim, pieces, joined, uncut, first_cut}
use Rattle.rules.specs.Directive.{piece_directive, directive_of}
use Rattle.rules.specs.Line.{Name, name, line as line_with, data_value, data_task, is_directive, data_pieces, nonempty, data_line}
use Rattle.text.specs.declared.Span.{Span}
use Rattle.text.specs.Pieces.{next_piece}
use Rattle.text.specs.Spans.{PartIn}
use Rattle.text.proofs.Find.{Indexed}
use Rattle.text.proofs.Pieces.{Next, next_none, next_some, pieces_trim}
use Rattle.text.proofs.Joined.{pieces_words, pieces_joined}
use Rattle.line.specs.Steps.{PieceHeadGives}
use Rattle.line.proofs.Parts.{trim_front, trim_front_le}
use Rattle.line.proofs.Clauses.{directive_pieces, directive_colon, data_pieces_lem, data_colon}
use Rattle.line.proofs.Next.{next_part, piece_none, piece_some}

-- a directive counts by its pieces
pub body_pieces : (t d f : Text) → pieces d ≡ pieces f → data_task t d ≡ data_task t f
unfolding data_task data_value
body_pieces t d f e = rw e

pub nonempty_some : (i : ℕ) (t : Text) → 0 < length t → nonempty i t ≡ name i t ∷ []
unfolding nonempty
nonempty_some i [] h = absurd (omega arith)
nonempty_some i (b ∷ t) h = refl

pub head_colon : (t : Text) (i n d : ℕ) → leading t ≡ 0 → Indexed 58 t i → n ≡ length (trim (take i t)) → d ≡ i + 1 → PieceHeadGives t (record { label = n; directive = d })
head_colon t i n d z x p q =
    rw (p, q) (record {
      label_in = trim_front_le i t;
      directive_in = omega (arith, x.within);
      directs = rw (directive_colon t x.cut) (pieces_trim (drop (suc i) t) ∙ rw (add-one i));
      says = λ ns j. data_colon ns j t x.cut ∙ rw (← trim_front i t z, body_pieces t (trim (drop (suc i) t)) (drop (i + 1) t) (pieces_trim (drop (suc i) t) ∙ rw (add-one i)));
    })

-- no label: the text itself is the directive
head_none : (t : Text) → directive_of t ≡ t → ((ns : List Name) (i : ℕ) → data_line ns i t ≡ line_with ns (data_task t t)) → PieceHeadGives t (record { label = 0; directive = 0 })
unfolding nonempty
head_none t d e = record { label_in = omega arith; directive_in = omega arith; directs = ap pieces d; says = λ ns i. rw (append-nil ns) (e ns i) }

-- a text of at most one piece has no label
data Few : List Text → Type 0 where
  nothing : Few []
  one : (p : Text) → Few (p ∷ [])

few_line : (t : Text) {ps : List Text} → Few ps → (ns : List Name) (i : ℕ) → data_pieces ns i t ps ≡ line_with ns (data_task t t)
unfolding data_pieces
few_line t nothing ns i = refl
few_line t (one p) ns i = refl

few_directive : (t : Text) {ps : List Text} → Few ps → piece_directive t ps ≡ t
unfolding piece_directive
few_directive t nothing = refl
few_directive t (one p) = refl

-- f and s: the first piece, and the one after it
module _ (t : Text) (z : leading t ≡ 0) (u : first_cut 58 t ≡ uncut) (f s : Span) (p : f ≡ next_piece t 0) (q : s ≡ next_piece t f.end) where
  front : PartIn t f.start f.end
  front = next_part t 0 f p (omega arith)

  first_end : f.end ≤ length t
  first_end = front.inside

  -- fewer than two pieces
  few : pieces (drop f.end t) ≡ [] → Few (pieces t)
  few e = go (ltb f.start (length t)) refl
    where
      go : (y : Bool) → ltb f.start (length t) ≡ y → Few (pieces t)
      go true h = rw ((next_some t 0 f p (ltb-true f.start (length t) h)).parts, e) (one _)
      go false h = rw (next_none t 0 f p (ltb-false f.start (length t) h)) nothing

  pub head_single : s.start ≡ s.end → PieceHeadGives t (record { label = 0; directive = 0 })
  head_single e =
      let x : Few (pieces t) = few (next_none t f.end s q (piece_none t f.end s q first_end e)) in
      head_none t (directive_pieces t u ∙ few_directive t x) (λ ns i. data_pieces_lem ns i t u ∙ few_line t x ns i)

  module _ (d : s.start ≡ s.end → ⊥) {y : Bool} (g : y ≡ is_directive (take f.end t)) where
    second : Next t f.end s
    second = piece_some t f.end s q first_end d

    first : Next t 0 f
    first = next_some t 0 f p (omega (arith, second, front))

    two : pieces t ≡ take f.end t ∷ pieces (drop f.end t)
    two =
        let z : f.start ≡ 0 = omega (arith, ap (λ (x : Span). x.start) p) in
        let n : f.end - 0 ≡ f.end = omega arith in
        rw (z, n) at first.parts

    pub head_directive : y ≡ true → PieceHeadGives t (record { label = 0; directive = 0 })
    unfolding data_pieces piece_directive
    head_directive e = head_none t (directive_pieces t u ∙ rw (two, second.parts, ← g, e)) (λ ns i. data_pieces_lem ns i t u ∙ rw (two, second.parts, ← g, e))

    pub head_piece : y ≡ false → PieceHeadGives t (record { label = f.end; directive = f.end })
    unfolding data_pieces piece_directive
    head_piece e =
        let rest : List Text = pieces (drop f.end t) in
        let same : pieces (joined rest) ≡ rest = pieces_joined rest (pieces_words (drop f.end t)) in
        let some : 0 < length (take f.end t) = rw (length-take-le f.end t first_end) (omega (arith, first)) in
        record {
          label_in = first_end;
          directive_in = first_end;
          directs = ap pieces (directive_pieces t u ∙ rw (two, second.parts, ← g, e, ← second.parts)) ∙ same;
          says = λ ns i. data_pieces_lem ns i t u ∙ rw (two, second.parts, ← g, e, ← second.parts, nonempty_some i (take f.end t) some, body_pieces t (joined rest) (drop f.end t) same);
        }
