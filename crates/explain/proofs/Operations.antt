-- An operation's forms, and the verdict by the operands that stand in a text. Assumes nothing.
use Rattle.std.specs.Prelude.{Option, None, Some}
use Prim.Native.Nat.{ℕ, ◌<◌, ◌+◌, ◌-◌}
use native.Mathlib.Omega.{arith}
use mathlib.Core.Path.{◌≡◌, refl, sym, ap, ◌∙◌}
use mathlib.Core.Bool.{Bool, true, false}
use mathlib.Core.List.{List, [], ◌∷◌}
use lib.ListN.{length, take, drop}
use borrow.Author.Tests.{eq-eqb, ne_eqb, le-leb, lt-leb}
use Rattle.rules.specs.Text.{Text, uppers, leading, pieces, joined, cut_at, first_text, other_texts}
use Rattle.rules.specs.Label.{Table}
use Rattle.rules.specs.Line.{instruction_of}
use Rattle.rules.specs.Encode.{Mnemonic, operation_in}
use Rattle.rules.specs.Encode.{moveq, move, movea, muls, tst, subq, asl, dbra, nop, simhalt, add, sub, cmp, jmp, branch}
use Rattle.rules.specs.Encode.{Operation as Ruled}
use Rattle.rules.specs.Forms.{Forms, counted, forms_of}
use Rattle.requests.specs.Explain.{unknown_mnemonic, because, why_forms, why_operation, why, one_met, met}
use Rattle.opcode.specs.Operation.{coded, operation_of}
use Rattle.opcode.specs.declared.mnemonic.Operation.{Operation}
use Rattle.text.specs.declared.Span.{Span}
use Rattle.text.specs.Spans.{part, span_text, SpanIn}
use Rattle.instruction.specs.FirstPiece.{head_of}
use Rattle.instruction.specs.Joined.{is_joined}
use Rattle.instruction.specs.Split.{spans, summary, operands_in, operands_at, OperandsOf}
use Rattle.instruction.specs.declared.Head.{Head}
use Rattle.instruction.specs.declared.Operands.{Operands}
use Rattle.instruction.proofs.FirstPiece.{instruction_read}
use Rattle.instruction.proofs.Joined.{joined_there}
use Rattle.instruction.proofs.Places.{operands_of_lem}
use Rattle.explain.specs.Verdict.{verdict_of}
use Rattle.explain.specs.Form.{WhyOneGives, pairs_of, shape_of, forms_for, why_by}
use Rattle.explain.specs.declared.Verdict.{Verdict}
use Rattle.explain.specs.declared.Verdict.TheVariants.{Emitted, UnknownMnemonic, WrongCount}
use Rattle.explain.specs.declared.operand.Operand.{Operand}
use Rattle.explain.specs.declared.form.Pairs.{Pairs}
use Rattle.explain.specs.declared.form.Shape.{Shape}
use Rattle.explain.specs.declared.form.Shape.TheVariants.{Any, One, OneOrMore, Two}

-- ---- by the count
module _ (ls : Table) (a : ℕ) (f : Forms) (ps : List Text) where
  pub miscounted : counted f.count (length ps) ≡ false → WrongCount ≡ verdict_of (why_by f ls a ps)
  unfolding why_by
  miscounted e = rw e

  well_counted : {r : Verdict} → counted f.count (length ps) ≡ true → r ≡ verdict_of (why_forms ls a f.forms ps) → r ≡ verdict_of (why_by f ls a ps)
  unfolding why_by
  well_counted e q = rw e q

-- an operation of any count and no place
pub always : (ls : Table) (a : ℕ) (ps : List Text) → Emitted ≡ verdict_of (why_by (forms_for Any) ls a ps)
unfolding why_by counted why_forms one_met met
always ls a ps = rw (le-leb 0 (length ps) (omega arith))

-- ---- the operands that stand in the text
module _ {t : Text} {o : Operands} {ps : List Text} (w : OperandsOf t o ps) where
  -- the first, and what comes after it
  record Headed : Type 0 where
    pub others : List Text
    pub is : ps ≡ span_text t o.first ∷ others

  headed : 0 < o.count → Headed
  unfolding first_text
  headed h = go ps w.count (w.first h).text refl
    where
      go : (qs : List Text) → o.count ≡ length qs → span_text t o.first ≡ first_text qs → ps ≡ qs → Headed
      go [] n e q = absurd (omega arith)
      go (s ∷ qs) n e q = record { others = qs; is = q ∙ ap (λ (u : Text). u ∷ qs) (sym e) }

  both_there : o.count ≡ 2 → ps ≡ span_text t o.first ∷ span_text t o.second ∷ []
  unfolding first_text other_texts
  both_there h = go ps w.count (w.first (omega arith)).text (w.second (omega arith)).text
    where
      go : (qs : List Text) → o.count ≡ length qs → span_text t o.first ≡ first_text qs → span_text t o.second ≡ first_text (other_texts qs) → qs ≡ span_text t o.first ∷ span_text t o.second ∷ []
      go [] n e f = absurd (omega arith)
      go (s ∷ []) n e f = absurd (omega arith)
      go (s ∷ u ∷ []) n e f = rw (e, f)
      go (s ∷ u ∷ v ∷ qs) n e f = absurd (omega arith)

  module _ (ls : Table) (a : ℕ) where
    -- by the one operand, whatever comes after it
    pub told_by_one : (x : Operand) {r : Verdict} → o.count ≡ 1 → WhyOneGives ls a x (span_text t o.first) r → r ≡ verdict_of (why_by (forms_for (One x)) ls a ps)
    unfolding counted
    told_by_one x h g = let i = headed (omega arith) in well_counted ls a (forms_for (One x)) ps (rw (← w.count) (eq-eqb o.count 1 h)) (rw i.is (g i.others))

    pub told_by_first : (x : Operand) {r : Verdict} → 0 < o.count → WhyOneGives ls a x (span_text t o.first) r → r ≡ verdict_of (why_by (forms_for (OneOrMore x)) ls a ps)
    unfolding counted
    told_by_first x h g = let i = headed h in well_counted ls a (forms_for (OneOrMore x)) ps (rw (← w.count) (le-leb 1 o.count h)) (rw i.is (g i.others))

    pub told_by_two : (p : Pairs) {r : Verdict} → o.count ≡ 2 → r ≡ verdict_of (why_forms ls a (pairs_of p) (span_text t o.first ∷ span_text t o.second ∷ []))
        → r ≡ verdict_of (why_by (forms_for (Two p)) ls a ps)
    unfolding counted
    told_by_two p h q = let i = both_there h in well_counted ls a (forms_for (Two p)) ps (rw (← w.count) (eq-eqb o.count 2 h)) (rw i q)

    -- of another count
    pub not_one : (x : Operand) → (o.count ≡ 1 → ⊥) → WrongCount ≡ verdict_of (why_by (forms_for (One x)) ls a ps)
    unfolding counted
    not_one x d = miscounted ls a (forms_for (One x)) ps (rw (← w.count) (ne_eqb o.count 1 d))

    pub not_any : (x : Operand) → o.count ≡ 0 → WrongCount ≡ verdict_of (why_by (forms_for (OneOrMore x)) ls a ps)
    unfolding counted
    not_any x h = miscounted ls a (forms_for (OneOrMore x)) ps (rw (← w.count) (lt-leb 1 o.count (omega arith)))

    pub not_two : (p : Pairs) → (o.count ≡ 2 → ⊥) → WrongCount ≡ verdict_of (why_by (forms_for (Two p)) ls a ps)
    unfolding counted
    not_two p d = miscounted ls a (forms_for (Two p)) ps (rw (← w.count) (ne_eqb o.count 2 d))

-- ---- where the first two stand lies in the text, also where there are fewer
pub record Lying (t : Text) (o : Operands) : Type 0 where
  pub first : SpanIn t o.first
  pub second : SpanIn t o.second

pub lying : (t : Text) (o : Operands) → o ≡ operands_at t → Lying t o
unfolding operands_at summary
lying t o e = go (spans 0 (cut_at 44 t)) e
  where
    x : OperandsOf t o (operands_in t)
    x = operands_of_lem t o e

    go : (ss : List Span) → o ≡ summary ss → Lying t o
    go [] p = rw p (record { first = record { ordered = omega arith; inside = omega arith }; second = record { ordered = omega arith; inside = omega arith } })
    go (s ∷ []) p =
        let y = x.first (rw p (omega arith)) in
        let i : SpanIn t o.first = record { ordered = omega (arith, y.some); inside = y.within } in
        let same : o.second ≡ o.first = rw p in
        record { first = i; second = rw same i }
    go (s ∷ u ∷ ss) p =
        let y = x.first (rw p (omega arith)) in
        let z = x.second (rw p (omega arith)) in
        record {
          first = record { ordered = omega (arith, y.some); inside = y.within };
          second = record { ordered = omega (arith, z.some); inside = z.within };
        }

-- by the shape x that was found, which is y
pub as_shape : {x y : Shape} → x ≡ y → (ls : Table) (a : ℕ) (ps : List Text) {r : Verdict} → r ≡ verdict_of (why_by (forms_for x) ls a ps) → r ≡ verdict_of (why_by (forms_for y) ls a ps)
as_shape e ls a ps h = rw e at h

-- ---- an instruction's operation, by the table
by_shape : (ls : Table) (a : ℕ) (o : Ruled) (ps : List Text) → why_by (forms_for (shape_of (coded o))) ls a ps ≡ why_operation ls a o ps
unfolding why_by why_operation forms_of
by_shape ls a moveq ps = refl
by_shape ls a move ps = refl
by_shape ls a movea ps = refl
by_shape ls a muls ps = refl
by_shape ls a tst ps = refl
by_shape ls a subq ps = refl
by_shape ls a asl ps = refl
by_shape ls a dbra ps = refl
by_shape ls a nop ps = refl
by_shape ls a simhalt ps = refl
by_shape ls a add ps = refl
by_shape ls a sub ps = refl
by_shape ls a cmp ps = refl
by_shape ls a jmp ps = refl
by_shape ls a (branch c) ps = refl

module _ (ls : Table) (a : ℕ) (ps : List Text) {r : Verdict} where
  known : (o : Operation) (q : Option Ruled) → Some o ≡ operation_of q → r ≡ verdict_of (why_by (forms_for (shape_of o)) ls a ps)
      → r ≡ verdict_of (elim q [ None ↦ because unknown_mnemonic | Some p ↦ why_operation ls a p ps ])
  known o None e h = absurd cc
  known o (Some p) e h = let k : o ≡ coded p = cc in rw (← by_shape ls a p ps) (rw k at h)

unknown : (ls : Table) (a : ℕ) (ps : List Text) (q : Option Ruled) → None ≡ operation_of q → UnknownMnemonic ≡ verdict_of (elim q [ None ↦ because unknown_mnemonic | Some p ↦ why_operation ls a p ps ])
unknown ls a ps None e = refl
unknown ls a ps (Some p) e = absurd cc

module _ (names : List Mnemonic) (t : Text) (h : Head) (e : h ≡ head_of t) (ls : Table) (a : ℕ) where
  abbrev named : Option Ruled
  named = operation_in names (uppers (part t h.start h.end))

  abbrev tail : List Text
  tail = operands_in (joined (pieces (drop h.tail t)))

  pub why_unknown : None ≡ operation_of named → UnknownMnemonic ≡ verdict_of (why names ls a (instruction_of t))
  unfolding why
  why_unknown f = rw (instruction_read t h e) (unknown ls a tail named f)

  module _ {o : Operation} (f : Some o ≡ operation_of named) {r : Verdict} where
    -- by the joined tail, however it is come by
    pub why_read : r ≡ verdict_of (why_by (forms_for (shape_of o)) ls a tail) → r ≡ verdict_of (why names ls a (instruction_of t))
    unfolding why
    why_read q = rw (instruction_read t h e) (known ls a tail o named f q)

    pub why_there : {s : ℕ} {y : Bool} → s ≡ h.tail + leading (drop h.tail t) → y ≡ is_joined (drop s t) → y ≡ true
        → r ≡ verdict_of (why_by (forms_for (shape_of o)) ls a (operands_in (take (length t - s) (drop s t)))) → r ≡ verdict_of (why names ls a (instruction_of t))
    why_there {s} w j y q = why_read (rw (joined_there t h.tail s w j y) at q)
