-- An instruction by its operands' count, and by its head and its joined tail: how each way out answers. Assumes nothing.
use Rattle.std.specs.Prelude.{Option, None, Some, Result, Err}
use Rattle.rules.specs.Option.{bind}
use Prim.Native.Nat.{ℕ, ◌+◌, ◌-◌}
use mathlib.Core.Path.{◌≡◌, refl, ◌∙◌}
use mathlib.Core.Bool.{Bool, true}
use mathlib.Core.List.{List, [], ◌∷◌}
use native.Mathlib.Omega.{arith}
use lib.ListN.{length, take, drop}
use Rattle.rules.specs.Text.{Text, uppers, leading, pieces, joined, first_text, other_texts}
use Rattle.rules.specs.Line.{instruction_of}
use Rattle.rules.specs.Label.{Table}
use Rattle.rules.specs.Encode.{mnemonics, operation_in, two, one}
use Rattle.requests.specs.ManualCall.{Form, Head, moveq, nop, jmp, dbra, branch_on, move_w, add_w, sub_w, cmp_w, muls_w, move_l, movea_l, cmp_l, tst_l, subq_l, asl_l, no_operand, form_of, form, form_size}
use Rattle.opcode.specs.Operation.{operation_of}
use Rattle.opcode.specs.declared.mnemonic.Operation.{Operation}
use Rattle.text.specs.Spans.{part, span_text}
use Rattle.instruction.specs.FirstPiece.{head_of, suffix_text, suffix_of}
use Rattle.instruction.specs.Joined.{is_joined}
use Rattle.instruction.specs.Split.{operands_in, operands_at, OperandsOf}
use Rattle.instruction.specs.declared.Head.{Head as Place}
use Rattle.instruction.specs.declared.Operands.{Operands}
use Rattle.instruction.specs.declared.Suffix.{Suffix}
use Rattle.instruction.proofs.FirstPiece.{instruction_read}
use Rattle.instruction.proofs.Joined.{joined_there}
use Rattle.instruction.proofs.Places.{operands_of_lem}
use Rattle.encode_manual.specs.Code.{Codes}
use Rattle.encode_manual.specs.Form.{Says, SaysIf, Reads, size_of}
use Rattle.encode_manual.specs.Heads.{head_by, form_by}
use Rattle.encode_manual.specs.declared.ManualCode.{ManualCode}
use Rattle.encode_manual.specs.declared.Fault.{Fault}
use Rattle.encode_manual.specs.declared.Fault.TheVariants.{NoEncoding}
use Rattle.encode_manual.specs.declared.form.Form.{Form as Read}
use Rattle.encode_manual.proofs.Coded.{no_form, size_said}
use Rattle.encode_manual.proofs.Forms.{no_reading}
use Rattle.encode_manual.proofs.HeadsFound.{head_found}

-- ---- the operands by their count
module _ {t : Text} {o : Operands} (ps : List Text) (x : OperandsOf t o ps) where
  none_there : o.count ≡ 0 → ps ≡ []
  none_there c = go ps x.count
    where
      go : (qs : List Text) → o.count ≡ length qs → qs ≡ []
      go [] n = refl
      go (u ∷ qs) n = absurd (omega arith)

  one_there : o.count ≡ 1 → ps ≡ span_text t o.first ∷ []
  unfolding first_text
  one_there c = go ps x.count (x.first (omega arith)).text
    where
      go : (qs : List Text) → o.count ≡ length qs → span_text t o.first ≡ first_text qs → qs ≡ span_text t o.first ∷ []
      go [] n p = absurd (omega arith)
      go (u ∷ []) n p = rw p
      go (u ∷ v ∷ qs) n p = absurd (omega arith)

  two_there : o.count ≡ 2 → ps ≡ span_text t o.first ∷ span_text t o.second ∷ []
  unfolding first_text other_texts
  two_there c = go ps x.count (x.first (omega arith)).text (x.second (omega arith)).text
    where
      go : (qs : List Text) → o.count ≡ length qs → span_text t o.first ≡ first_text qs → span_text t o.second ≡ first_text (other_texts qs) → qs ≡ span_text t o.first ∷ span_text t o.second ∷ []
      go [] n p q = absurd (omega arith)
      go (u ∷ []) n p q = absurd (omega arith)
      go (u ∷ v ∷ []) n p q = rw (p, q)
      go (u ∷ v ∷ w ∷ qs) n p q = absurd (omega arith)

-- no form has three operands
three : (h : Option Head) (s t u : Text) (ps : List Text) → form_by h (s ∷ t ∷ u ∷ ps) ≡ None
unfolding bind form_of no_operand one two
three None s t u ps = refl
three (Some moveq) s t u ps = refl
three (Some nop) s t u ps = refl
three (Some jmp) s t u ps = refl
three (Some dbra) s t u ps = refl
three (Some (branch_on c)) s t u ps = refl
three (Some move_w) s t u ps = refl
three (Some add_w) s t u ps = refl
three (Some sub_w) s t u ps = refl
three (Some cmp_w) s t u ps = refl
three (Some muls_w) s t u ps = refl
three (Some move_l) s t u ps = refl
three (Some movea_l) s t u ps = refl
three (Some cmp_l) s t u ps = refl
three (Some tst_l) s t u ps = refl
three (Some subq_l) s t u ps = refl
three (Some asl_l) s t u ps = refl

module _ (h : Option Head) (t : Text) (o : Operands) (x : o ≡ operands_at t) {r : Option Read} where
  pub no_operand_lem : o.count ≡ 0 → Reads (form_by h []) r → Reads (form_by h (operands_in t)) r
  no_operand_lem n g = rw (none_there (operands_in t) (operands_of_lem t o x) n) g

  pub one_operand : o.count ≡ 1 → Reads (form_by h (span_text t o.first ∷ [])) r → Reads (form_by h (operands_in t)) r
  one_operand n g = rw (one_there (operands_in t) (operands_of_lem t o x) n) g

  pub two_operands : o.count ≡ 2 → Reads (form_by h (span_text t o.first ∷ span_text t o.second ∷ [])) r → Reads (form_by h (operands_in t)) r
  two_operands n g = rw (two_there (operands_in t) (operands_of_lem t o x) n) g

pub more_operands : (h : Option Head) (t : Text) (o : Operands) → o ≡ operands_at t → (o.count ≡ 0 → ⊥) → (o.count ≡ 1 → ⊥) → (o.count ≡ 2 → ⊥) → Reads (form_by h (operands_in t)) None
more_operands h t o x d e f = go (operands_in t) (operands_of_lem t o x).count
  where
    go : (ps : List Text) → o.count ≡ length ps → Reads (form_by h ps) None
    go [] n = absurd (d n)
    go (u ∷ []) n = absurd (e n)
    go (u ∷ v ∷ []) n = absurd (f n)
    go (u ∷ v ∷ w ∷ ps) n = rw (three h u v w ps) no_reading

-- ---- what is read: none, or what a form of the rules says
module _ {g : Option Form} {r : Option Read} (h : Reads g r) where
  pub no_form_read : (ls : Table) (a : ℕ) → r ≡ None → Codes ls a g (Err (NoEncoding 0))
  no_form_read ls a e = go g (rw e at h.says)
    where
      go : (p : Option Form) → SaysIf p None → Codes ls a p (Err (NoEncoding 0))
      go None k = no_form ls a
      go (Some f) k = absurd k

  pub form_there : {f : Read} → r ≡ Some f → (q : Form) × Says q f
  form_there {f} e = go g (rw e at h.says)
    where
      go : (p : Option Form) → SaysIf p (Some f) → (q : Form) × Says q f
      go None k = absurd k
      go (Some q) k = (q, k)

  pub form_encoded : {f : Read} → r ≡ Some f → (ls : Table) (a : ℕ) {x : Result ManualCode Fault} → ((q : Form) → Says q f → Codes ls a (Some q) x) → Codes ls a g x
  form_encoded {f} e ls a {x} k = go g (rw e at h.says)
    where
      go : (p : Option Form) → SaysIf p (Some f) → Codes ls a p x
      go None j = absurd j
      go (Some q) j = k q j

  pub form_sized : {n : ℕ} {f : Read} → r ≡ Some f → n ≡ size_of f → n ≡ form_size g
  form_sized {n} {f} e q = go g (rw e at h.says)
    where
      go : (p : Option Form) → SaysIf p (Some f) → n ≡ form_size p
      go None k = absurd k
      go (Some p) k = q ∙ size_said p f k

  pub none_sized : r ≡ None → 0 ≡ form_size g
  unfolding form_size
  none_sized e = go g (rw e at h.says)
    where
      go : (p : Option Form) → SaysIf p None → 0 ≡ form_size p
      go None k = refl
      go (Some f) k = absurd k

-- ---- the instruction by its head and its joined tail
module _ (t : Text) (h : Place) (e : h ≡ head_of t) {y : Suffix} (g : y ≡ suffix_of (suffix_text t)) where
  module _ {o : Operation} (f : operation_of (operation_in mnemonics (uppers (part t h.start h.end))) ≡ Some o) where
    -- by the joined tail, however it is come by
    pub encoded : form_by (head_by y o) (operands_in (joined (pieces (drop h.tail t)))) ≡ form (instruction_of t)
    unfolding form bind
    encoded = rw (instruction_read t h e, head_found (uppers (part t h.start h.end)) (suffix_text t), f, g)

    pub encoded_there : {s : ℕ} {z : Bool} → s ≡ h.tail + leading (drop h.tail t) → z ≡ is_joined (drop s t) → z ≡ true → form_by (head_by y o) (operands_in (take (length t - s) (drop s t))) ≡ form (instruction_of t)
    encoded_there {s} w j z = rw (joined_there t h.tail s w j z) encoded

pub unnamed : (t : Text) (h : Place) → h ≡ head_of t → operation_of (operation_in mnemonics (uppers (part t h.start h.end))) ≡ None → Reads (form (instruction_of t)) None
unfolding form bind
unnamed t h e f = rw (instruction_read t h e, head_found (uppers (part t h.start h.end)) (suffix_text t), f) no_reading
