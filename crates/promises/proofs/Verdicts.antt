-- The verdict on an instruction: the verdict on it is right, and no other is. Assumes nothing.
use Rattle.std.specs.Prelude.{Option, None, Some}
use Rattle.rules.specs.Option.{or_else}
use Prim.Native.Nat.{ℕ, ◌<◌, ◌≤◌}
use mathlib.Core.Path.{◌≡◌, refl, sym, ap, ◌∙◌}
use mathlib.Core.Bool.{Bool, true, false, cond, ◌&&◌, false≢true, or-true}
use mathlib.Core.List.{List}
use native.Mathlib.Omega.{arith}
use lib.ListN.{length}
use Rattle.rules.specs.Text.{Text}
use Rattle.rules.specs.Label.{Table, find}
use Rattle.rules.specs.Encode.{Operation, is_some, encode_operation}
use Rattle.rules.specs.Forms.{hash, dn, an, at_an, kind_of, Operand, i8, u16, hash_label, Dn, An, AtAn, label, jump_target, branch_target, kind_for, forms_of, form_with}
use Rattle.rules.proofs.Operands.{kind_itself}
use Rattle.requests.proofs.Places.{clear, solid_i8, solid_u16, solid_hash_label, solid_dn, solid_an, solid_at_an, label_place, jump_place, branch_place}
use Rattle.requests.specs.Explain.{Reason, wrong_count, wrong_kinds, Verdict, emitted, because, meets, fault, met, one_met, fault_in, unless, why_kinds, why_forms, why_operation}
use Rattle.promises.specs.Nearest.{In, head, tail}
use Rattle.promises.specs.Explain.{rank, Counts, Stand, all_stand, stands, Faulty, count, kinds, numeral, unrecorded, far}
use Rattle.promises.proofs.Compared.{clash}
use Rattle.promises.proofs.Decided.{Decided, yes, no}
use Rattle.promises.proofs.OperandKinds.{kind_is}
use Rattle.promises.proofs.Forms.{counts, forms_agree}
use Rattle.promises.proofs.OperandTests.{Chosen, form, no_form, chosen}
use Rattle.promises.proofs.Reasons.{blames_in, rows, row, sound, number_fault, label_fault, far_fault}

-- ---- an operand of the right kind with nothing wrong makes the word
module _ (ls : Table) (a : ℕ) where
  faultless : (x : Operand) (s : Text) → kind_of s ≡ kind_for x → fault ls a x s ≡ None → meets ls a x s ≡ true
  unfolding kind_for
  faultless i8 s k e = solid_i8 ls a s ∙ rw (k, kind_itself hash, e)
  faultless u16 s k e = solid_u16 ls a s ∙ rw (k, kind_itself hash, e)
  faultless hash_label s k e = solid_hash_label ls a s ∙ rw (k, kind_itself hash, e)
  faultless Dn s k e = solid_dn ls a s ∙ rw (k, kind_itself dn, e)
  faultless An s k e = solid_an ls a s ∙ rw (k, kind_itself an, e)
  faultless AtAn s k e = solid_at_an ls a s ∙ rw (k, kind_itself at_an, e)
  faultless label s k e = label_place ls a s ∙ ap clear e
  faultless jump_target s k e = jump_place ls a s ∙ ap clear e
  faultless branch_target s k e = branch_place ls a s ∙ rw (e, or-true)

  form_met : {f : List Operand} {ps : List Text} → Stand f ps → fault_in ls a f ps ≡ None → met ls a f ps ≡ true
  unfolding met fault_in or_else
  form_met all_stand e = refl
  form_met (stands {x} {xs} {s} {ps} k h) e = go (fault ls a x s) refl e (form_met h)
    where
      go : (o : Option Reason) → fault ls a x s ≡ o → or_else o (fault_in ls a xs ps) ≡ None → (fault_in ls a xs ps ≡ None → met ls a xs ps ≡ true)
          → (meets ls a x s && met ls a xs ps) ≡ true
      go None f e ih = rw (faultless x s (kind_is k) f) (ih e)
      go (Some r) f e ih = clash cc

  one_met_lem : {f : List Operand} {fs : List (List Operand)} (ps : List Text) → In f fs → met ls a f ps ≡ true → one_met ls a fs ps ≡ true
  unfolding one_met
  one_met_lem ps (head e) h = rw (← e, h)
  one_met_lem ps (tail i) h = rw (one_met_lem ps i h, or-true)

-- ---- the verdict on an operation
-- a right one, where At says at which address a label is recorded
pub data Judged (ls : Table) (a : ℕ) (At : Text → ℕ → Type 0) (o : Operation) (ps : List Text) : Verdict → Type 0 where
  makes : is_some (encode_operation ls a o ps) ≡ true → Judged ls a At o ps emitted
  lacks : {r : Reason} → is_some (encode_operation ls a o ps) ≡ false → Faulty At a o ps r → ((q : Reason) → rank q < rank r → ¬ Faulty At a o ps q)
      → Judged ls a At o ps (because r)

faulty_rank : {At : Text → ℕ → Type 0} {a : ℕ} {o : Operation} {ps : List Text} {q : Reason} → Faulty At a o ps q → 3 ≤ rank q
unfolding rank
faulty_rank (count n) = omega arith
faulty_rank (kinds n) = omega arith
faulty_rank (numeral n) = omega arith
faulty_rank (unrecorded n k) = omega arith
faulty_rank (far n k f) = omega arith

module _ (ls : Table) (a : ℕ) (At : Text → ℕ → Type 0) (at : (l : Text) (x : ℕ) → find l ls ≡ Some x → At l x)
    (is_at : (l : Text) (x : ℕ) → At l x → find l ls ≡ Some x) (o : Operation) (ps : List Text) where
  abbrev words : Bool
  words = is_some (encode_operation ls a o ps)

  not_found : (l : Text) → ((x : ℕ) → ¬ At l x) → find l ls ≡ None
  not_found l k = go (find l ls) refl
    where
      go : (y : Option ℕ) → find l ls ≡ y → y ≡ None
      go None e = refl
      go (Some x) e = absurd (k x (at l x e))

  -- of operands that have a form's kinds, any reason is what is wrong in its places
  only : {g : List Operand} → form_with (forms_of o).forms ps ≡ Some g → Counts (forms_of o).count (length ps) → In g (forms_of o).forms → Stand g ps
      → {q : Reason} → Faulty At a o ps q → fault_in ls a g ps ≡ Some q
  only e c i h (count n) = absurd (n c)
  only {g} e c i h (kinds n) = absurd (n g i h)
  only e c i h (numeral n) = number_fault ls a n e
  only e c i h (unrecorded {l} n k) = label_fault ls a n (not_found l k) e
  only e c i h (far {l} {x} n k f) = far_fault ls a n (is_at l x k) f e

  -- no reason comes before the kinds but the count
  before_kinds : Counts (forms_of o).count (length ps) → (q : Reason) → rank q < 4 → ¬ Faulty At a o ps q
  unfolding rank
  before_kinds c _ l (count n) = n c
  before_kinds c _ l (kinds n) = omega arith
  before_kinds c _ l (numeral n) = omega arith
  before_kinds c _ l (unrecorded n k) = omega arith
  before_kinds c _ l (far n k f) = omega arith

  by_kinds : words ≡ false → Counts (forms_of o).count (length ps) → one_met ls a (forms_of o).forms ps ≡ false → Judged ls a At o ps (why_kinds ls a (forms_of o).forms ps)
  unfolding why_kinds rank unless
  by_kinds w c m = go (form_with (forms_of o).forms ps) refl (chosen (forms_of o).forms ps)
    where
      fault_of : (g : List Operand) → form_with (forms_of o).forms ps ≡ Some g → In g (forms_of o).forms → Stand g ps → (y : Option Reason) → fault_in ls a g ps ≡ y
          → Judged ls a At o ps (unless y)
      fault_of g e i h None f = absurd (false≢true (sym m ∙ one_met_lem ls a ps i (form_met ls a h f)))
      fault_of g e i h (Some r) f =
          lacks w (sound ls a At at is_at (row i (rows o)) h (blames_in ls a g ps r f))
          (λ q l n. let u = only e c i h n in let v : q ≡ r = cc in let k : rank q ≡ rank r = ap rank v in omega arith)

      go : (y : Option (List Operand)) → form_with (forms_of o).forms ps ≡ y → Chosen (forms_of o).forms ps y
          → Judged ls a At o ps (elim y [ None ↦ because wrong_kinds | Some f ↦ unless (fault_in ls a f ps) ])
      go None e (no_form k) = lacks w (kinds k) (before_kinds c)
      go (Some g) e (form i h) = fault_of g e i h (fault_in ls a g ps) refl

  pub judged : Judged ls a At o ps (why_operation ls a o ps)
  unfolding why_operation why_forms rank
  judged = go (counts (forms_of o).count (length ps)) (forms_agree ls a o ps)
    where
      met_or_not : Counts (forms_of o).count (length ps) → (y : Bool) → one_met ls a (forms_of o).forms ps ≡ y → words ≡ y
          → Judged ls a At o ps (cond y emitted (why_kinds ls a (forms_of o).forms ps))
      met_or_not c true e w = makes w
      met_or_not c false e w = by_kinds w c e

      go : {x : Bool} → Decided (Counts (forms_of o).count (length ps)) x → words ≡ (x && one_met ls a (forms_of o).forms ps)
          → Judged ls a At o ps (cond x (why_forms ls a (forms_of o).forms ps) (because wrong_count))
      go (yes c) w = met_or_not c (one_met ls a (forms_of o).forms ps) refl w
      go (no n) w = lacks w (count n) (λ q l f. let h = faulty_rank f in omega arith)

  -- the count is the first reason, or the kinds are
  first_count : {r : Reason} → ¬ Counts (forms_of o).count (length ps) → Faulty At a o ps r → ((q : Reason) → rank q < rank r → ¬ Faulty At a o ps q) → r ≡ wrong_count
  unfolding rank
  first_count n (count m) k = refl
  first_count n (kinds m) k = absurd (k wrong_count (omega arith) (count n))
  first_count n (numeral m) k = absurd (k wrong_count (omega arith) (count n))
  first_count n (unrecorded m j) k = absurd (k wrong_count (omega arith) (count n))
  first_count n (far m j f) k = absurd (k wrong_count (omega arith) (count n))

  first_kinds : {r : Reason} → Counts (forms_of o).count (length ps) → ((f : List Operand) → In f (forms_of o).forms → ¬ Stand f ps) → Faulty At a o ps r
      → ((q : Reason) → rank q < rank r → ¬ Faulty At a o ps q) → r ≡ wrong_kinds
  unfolding rank
  first_kinds c n (count m) k = absurd (m c)
  first_kinds c n (kinds m) k = refl
  first_kinds c n (numeral m) k = absurd (k wrong_kinds (omega arith) (kinds n))
  first_kinds c n (unrecorded m j) k = absurd (k wrong_kinds (omega arith) (kinds n))
  first_kinds c n (far m j f) k = absurd (k wrong_kinds (omega arith) (kinds n))

  -- without words the first reason is the verdict
  pub first_told : {r : Reason} → words ≡ false → Faulty At a o ps r → ((q : Reason) → rank q < rank r → ¬ Faulty At a o ps q) → why_operation ls a o ps ≡ because r
  unfolding why_operation why_forms why_kinds unless
  first_told {r} w f k = go (counts (forms_of o).count (length ps)) (forms_agree ls a o ps)
    where
      by_form : {y : Option (List Operand)} → form_with (forms_of o).forms ps ≡ y → Counts (forms_of o).count (length ps) → Chosen (forms_of o).forms ps y
          → elim y [ None ↦ because wrong_kinds | Some g ↦ unless (fault_in ls a g ps) ] ≡ because r
      by_form e c (no_form n) = ap because (sym (first_kinds c n f k))
      by_form e c (form i h) = ap unless (only e c i h f)

      go : {x : Bool} → Decided (Counts (forms_of o).count (length ps)) x → words ≡ (x && one_met ls a (forms_of o).forms ps)
          → cond x (why_forms ls a (forms_of o).forms ps) (because wrong_count) ≡ because r
      go (yes c) e = rw (sym e ∙ w) (by_form refl c (chosen (forms_of o).forms ps))
      go (no n) e = ap because (sym (first_count n f k))
