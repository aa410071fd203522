-- the stations' rows and the table of forms agree: an operation gives words exactly if its count is right and one of its forms is met, and a
-- form is met only by its kinds or by a recorded label. Assumes nothing.
use Rattle.std.specs.Prelude.{Option, None, Some}
use Rattle.rules.specs.Option.{bind, or_else}
use Prim.Native.Nat.{ℕ, suc, ◌+◌, ◌≤◌}
use mathlib.Core.Path.{◌≡◌, refl, sym, ap, ◌∙◌}
use mathlib.Core.Bool.{Bool, true, false, cond, ◌&&◌, ◌||◌, false≢true, and-true, and_comm, or-false}
use mathlib.Core.List.{List, [], ◌∷◌}
use native.Mathlib.Omega.{arith}
use lib.Dec.{eqb, leb}
use lib.ListN.{length}
use borrow.Author.Tests.{eqb-true, eqb-false, ne_eqb, leb-true, leb-false, le-leb}
use Rattle.rules.specs.Text.{Text, bytes, after}
use Rattle.rules.specs.Number.{hex_tail, number16, imm8, imm16}
use Rattle.rules.specs.Label.{Table, find}
use Rattle.rules.specs.Encode.{Content, literal, Operation, moveq, move, movea, muls, tst, subq, asl, dbra, nop, simhalt, add, sub, cmp, jmp, branch, R, data_register, address_register, indirect, two, one, one_or_more, displacement, is_some, all_digits, jumps, with_label, registers_row, high_row, low_row, from_indirect, to_indirect, from_label, to_label, move_rows, movea_row, muls_rows, cmp_rows, moveq_row, quick_row, tst_row, jump_row, dbra_row, branch_row, encode_operation}
use Rattle.rules.specs.Forms.{text, kind_of, same_kind, Operand, i8, u16, hash_label, Dn, An, AtAn, label, jump_target, branch_target, kind_for, Count, exactly, or_more, counted, forms_of}
use Rattle.rules.proofs.Operands.{kind_told, numeric_text}
use Rattle.requests.specs.Explain.{Reason, meets, fault, met, one_met}
use Rattle.requests.proofs.Places.{clear, near, solid_i8, solid_u16, solid_hash_label, solid_dn, solid_an, solid_at_an, branch_place, number_text_lem}
use Rattle.promises.specs.Nearest.{In, head, tail}
use Rattle.promises.specs.Explain.{Counts, exact, more, StandsIn, by_kind, by_name, AllStandIn, no_place, place, WordsFitForms}
use Rattle.promises.proofs.Stages.{and_both}
use Rattle.promises.proofs.Decided.{Decided, yes, no, decided_yes, there, bound}
use Rattle.promises.proofs.OperandKinds.{of_kind}

-- ---- something is there
module _ {A : Type 0} where
  on : {X : Type 0} (o : Option X) (f : X → Option A) (c : Bool) → ((x : X) → is_some (f x) ≡ c) → is_some (bind o f) ≡ (is_some o && c)
  unfolding bind is_some
  on None f c k = refl
  on (Some x) f c k = k x

  either : (x y : Option A) (b c : Bool) → is_some x ≡ b → is_some y ≡ c → is_some (or_else x y) ≡ (b || c)
  unfolding or_else is_some
  either None y b c e f = rw (← e) f
  either (Some a) y b c e f = rw (← e)

  last : (x : Option A) (b : Bool) → is_some x ≡ b → is_some x ≡ (b || false)
  last x b e = rw or-false e

-- ---- each row gives words exactly if its form is met
module _ (ls : Table) (a : ℕ) where
  -- the form of two places, and of one
  abbrev both : Operand → Operand → Text → Text → Bool
  both x y s t = meets ls a x s && (meets ls a y t && true)

  labelled : (w : ℕ) (l : Text) → is_some (with_label ls w l) ≡ is_some (find l ls)
  unfolding with_label is_some
  labelled w l = on (find l ls) _ true (λ x. refl) ∙ and-true (is_some (find l ls))

  registers : (w : ℕ) (s t : Text) → is_some (registers_row w s t) ≡ both Dn Dn s t
  unfolding registers_row meets is_some
  registers w s t = on (data_register s) _ _ λ n. on (data_register t) _ true λ m. refl

  high : (w : ℕ) (s t : Text) → is_some (high_row w s t) ≡ both u16 Dn s t
  unfolding high_row meets is_some
  high w s t = on (imm16 s) _ _ λ v. on (data_register t) _ true λ n. refl

  low : (w : ℕ) (s t : Text) → is_some (low_row w s t) ≡ both u16 Dn s t
  unfolding low_row meets is_some
  low w s t = on (imm16 s) _ _ λ v. on (data_register t) _ true λ n. refl

  moves : (s t : Text) → is_some (move_rows ls s t) ≡ one_met ls a (forms_of move).forms (s ∷ t ∷ [])
  unfolding move_rows from_indirect to_indirect from_label to_label meets is_some one_met met forms_of
  moves s t =
      either (high_row 0x21FC s t) _ _ _ (high 0x21FC s t)
      (either (from_indirect s t) _ _ _ (on (indirect s) _ _ λ n. on (data_register t) _ true λ m. refl)
      (either (to_indirect s t) _ _ _ (on (data_register s) _ _ λ n. on (indirect t) _ true λ m. refl)
      (either (registers_row 0x3000 s t) _ _ _ (registers 0x3000 s t)
      (either (from_label ls s t) _ _ _ (on (data_register t) _ _ (λ n. labelled _ s) ∙ swapped (is_some (data_register t)) (is_some (find s ls)))
      (last (to_label ls s t) _ (on (data_register s) _ _ λ n. labelled _ t ∙ sym (and-true (is_some (find t ls)))))))))
    where
      swapped : (x y : Bool) → (x && y) ≡ (y && (x && true))
      swapped x y = rw (and-true x) (and_comm x y)

  addresses : (s t : Text) → is_some (movea_row ls s t) ≡ one_met ls a (forms_of movea).forms (s ∷ t ∷ [])
  unfolding movea_row meets is_some one_met met forms_of bind
  addresses s t = go (after (bytes "#") s)
    where
      go : (o : Option Text)
          → is_some (bind o λ l. bind (address_register t) λ n. with_label ls (0x207C + R n) l) ≡ (is_some (bind o λ l. find l ls) && (is_some (address_register t) && true) || false)
      go None = refl
      go (Some l) = rw (or-false, and-true) (on (address_register t) _ _ (λ n. labelled _ l) ∙ and_comm (is_some (address_register t)) (is_some (find l ls)))

  -- ---- counts
  module _ (o : Operation) where
    abbrev agreeing : List Text → Bool
    agreeing ps = counted (forms_of o).count (length ps) && one_met ls a (forms_of o).forms ps

    two_forms : (h : Text → Text → Option (List Content)) → (forms_of o).count ≡ exactly 2 → ((s t : Text) → is_some (h s t) ≡ one_met ls a (forms_of o).forms (s ∷ t ∷ []))
        → (ps : List Text) → is_some (two h ps) ≡ agreeing ps
    unfolding two is_some counted
    two_forms h e k [] = rw e
    two_forms h e k (s ∷ []) = rw e
    two_forms h e k (s ∷ t ∷ []) = rw e (k s t)
    two_forms h e k (s ∷ t ∷ u ∷ ps) = rw (e, ne_eqb (suc (suc (suc (length ps)))) 2 (λ i. omega arith))

    one_form : (h : Text → Option (List Content)) → (forms_of o).count ≡ exactly 1 → ((s : Text) → is_some (h s) ≡ one_met ls a (forms_of o).forms (s ∷ []))
        → (ps : List Text) → is_some (one h ps) ≡ agreeing ps
    unfolding one is_some counted
    one_form h e k [] = rw e
    one_form h e k (s ∷ []) = rw e (k s)
    one_form h e k (s ∷ t ∷ ps) = rw (e, ne_eqb (suc (suc (length ps))) 1 (λ i. omega arith))

    first_form : (h : Text → Option (List Content)) → (forms_of o).count ≡ or_more 1 → ((s : Text) (ps : List Text) → is_some (h s) ≡ one_met ls a (forms_of o).forms (s ∷ ps))
        → (ps : List Text) → is_some (one_or_more h ps) ≡ agreeing ps
    unfolding one_or_more is_some counted
    first_form h e k [] = rw e
    first_form h e k (s ∷ ps) = rw (e, le-leb 1 (suc (length ps)) (omega arith)) (k s ps)

  -- the stations' rows and the table
  pub forms_agree : (o : Operation) (ps : List Text)
      → is_some (encode_operation ls a o ps) ≡ (counted (forms_of o).count (length ps) && one_met ls a (forms_of o).forms ps)
  unfolding encode_operation forms_of muls_rows cmp_rows moveq_row quick_row tst_row jump_row dbra_row branch_row one_met met meets is_some counted
  forms_agree move = two_forms move (move_rows ls) refl moves
  forms_agree movea = two_forms movea (movea_row ls) refl addresses
  forms_agree muls = two_forms muls muls_rows refl λ s t. either (high_row 0xC1FC s t) _ _ _ (high 0xC1FC s t) (last (registers_row 0xC1C0 s t) _ (registers 0xC1C0 s t))
  forms_agree cmp = two_forms cmp cmp_rows refl λ s t. either (low_row 0x0C80 s t) _ _ _ (low 0x0C80 s t) (last (registers_row 0xB040 s t) _ (registers 0xB040 s t))
  forms_agree add = two_forms add (registers_row 0xD040) refl λ s t. last (registers_row 0xD040 s t) _ (registers 0xD040 s t)
  forms_agree sub = two_forms sub (registers_row 0x9040) refl λ s t. last (registers_row 0x9040 s t) _ (registers 0x9040 s t)
  forms_agree moveq = two_forms moveq moveq_row refl λ s t. last (moveq_row s t) _ (on (imm8 s) _ _ λ v. on (data_register t) _ true λ n. refl)
  forms_agree subq = two_forms subq (quick_row 0x5180) refl λ s t. last (quick_row 0x5180 s t) _ (on (imm8 s) _ _ λ v. on (data_register t) _ true λ n. refl)
  forms_agree asl = two_forms asl (quick_row 0xE180) refl λ s t. last (quick_row 0xE180 s t) _ (on (imm8 s) _ _ λ v. on (data_register t) _ true λ n. refl)
  forms_agree tst = one_form tst tst_row refl λ s. last (tst_row s) _ (on (data_register s) _ true λ n. refl)
  forms_agree jmp = one_form jmp (jump_row ls) refl λ s. last (jump_row ls s) _ (jumping (jumps ls s))
    where
      jumping : (x : Bool) → is_some {A = List Content} (cond x (Some (literal 0x4EF8 ∷ [])) None) ≡ (x && true)
      jumping true = refl
      jumping false = refl
  forms_agree dbra = two_forms dbra (dbra_row ls a) refl λ s t. last (dbra_row ls a s t) _ (on (data_register s) _ _ λ n. on (displacement ls a t) _ true λ z. refl)
  forms_agree (branch c) = first_form (branch c) (branch_row ls a c) refl λ s ps. last (branch_row ls a c s) _ (on (displacement ls a s) _ true λ z. refl)
  forms_agree nop = λ ps. rw (le-leb 0 (length ps) (omega arith))
  forms_agree simhalt = λ ps. rw (le-leb 0 (length ps) (omega arith))

-- ---- a place that is met is met by its kind, or by a recorded label
module _ (ls : Table) (a : ℕ) where
  named : (x : Operand) (s : Text) → kind_for x ≡ text → is_some (find s ls) ≡ true → StandsIn ls x s
  named x s k e = by_name k (there (find s ls) e).1

  -- by its kind, where a place has one only
  by_its_kind : (x : Operand) (s : Text) (b : Bool) → meets ls a x s ≡ (same_kind (kind_of s) (kind_for x) && b) → meets ls a x s ≡ true → StandsIn ls x s
  by_its_kind x s b e f = by_kind (of_kind s (kind_told (kind_of s) (kind_for x) (and_both (same_kind (kind_of s) (kind_for x)) b (sym e ∙ f)).0))

  meets_stands : (x : Operand) (s : Text) → meets ls a x s ≡ true → StandsIn ls x s
  unfolding meets kind_for jumps
  meets_stands i8 s e = by_its_kind i8 s _ (solid_i8 ls a s) e
  meets_stands u16 s e = by_its_kind u16 s _ (solid_u16 ls a s) e
  meets_stands hash_label s e = by_its_kind hash_label s _ (solid_hash_label ls a s) e
  meets_stands Dn s e = by_its_kind Dn s _ (solid_dn ls a s) e
  meets_stands An s e = by_its_kind An s _ (solid_an ls a s) e
  meets_stands AtAn s e = by_its_kind AtAn s _ (solid_at_an ls a s) e
  meets_stands label s e = named label s refl e
  meets_stands jump_target s e = go (is_some (hex_tail s) || all_digits s) refl e
    where
      go : (x : Bool) → (is_some (hex_tail s) || all_digits s) ≡ x → cond x (is_some (number16 s)) (is_some (find s ls)) ≡ true → StandsIn ls jump_target s
      go true f e = by_kind (of_kind s (numeric_text s f))
      go false f e = named jump_target s refl e
  meets_stands branch_target s e = go (near ls a s) refl (fault ls a branch_target s) refl (sym (branch_place ls a s) ∙ e)
    where
      go : (x : Bool) → near ls a s ≡ x → (o : Option Reason) → fault ls a branch_target s ≡ o → (x || clear o) ≡ true → StandsIn ls branch_target s
      go true f o g e = named branch_target s refl (bound (find s ls) _ f)
      go false f None g e = by_kind (of_kind s (number_text_lem ls a s f g))
      go false f (Some r) g e = absurd (false≢true e)

  met_stands : (f : List Operand) (ps : List Text) → met ls a f ps ≡ true → AllStandIn ls f ps
  unfolding met
  met_stands [] ps e = no_place
  met_stands (x ∷ xs) [] e = absurd (false≢true e)
  met_stands (x ∷ xs) (s ∷ ps) e =
      let h = and_both (meets ls a x s) (met ls a xs ps) e in
      place (meets_stands x s h.0) (met_stands xs ps h.1)

  -- the form that is met
  form_met : (fs : List (List Operand)) (ps : List Text) → one_met ls a fs ps ≡ true → (f : List Operand) × In f fs × (met ls a f ps ≡ true)
  unfolding one_met
  form_met [] ps e = absurd (false≢true e)
  form_met (f ∷ fs) ps e = go (met ls a f ps) refl e (form_met fs ps)
    where
      go : (y : Bool) → met ls a f ps ≡ y → (y || one_met ls a fs ps) ≡ true → (one_met ls a fs ps ≡ true → (g : List Operand) × In g fs × (met ls a g ps ≡ true))
          → (g : List Operand) × In g (f ∷ fs) × (met ls a g ps ≡ true)
      go true e h ih = (f, head refl, e)
      go false e h ih = let k = ih h in (k.0, tail k.1, k.2)

-- ---- counts, by their test
exactly_so : {m n : ℕ} → Counts (exactly m) n → n ≡ m
exactly_so exact = refl

at_least : {m n : ℕ} → Counts (or_more m) n → m ≤ n
at_least (more h) = h

pub counts : (c : Count) (n : ℕ) → Decided (Counts c n) (counted c n)
unfolding counted
counts (exactly m) n = go (eqb n m) refl
  where
    go : (x : Bool) → eqb n m ≡ x → Decided (Counts (exactly m) n) x
    go true e = yes (rw (eqb-true n m e) exact)
    go false e = no (λ c. eqb-false n m e (exactly_so c))
counts (or_more m) n = go (leb m n) refl
  where
    go : (x : Bool) → leb m n ≡ x → Decided (Counts (or_more m) n) x
    go true e = yes (more (leb-true m n e))
    go false e = no (λ c. let h = at_least c in let k = leb-false m n e in omega arith)

pub words_fit_forms : WordsFitForms
unfolding WordsFitForms is_some
words_fit_forms ls a o ps cs e =
    let h = and_both (counted (forms_of o).count (length ps)) (one_met ls a (forms_of o).forms ps) (sym (forms_agree ls a o ps) ∙ ap is_some e) in
    let k = form_met ls a (forms_of o).forms ps h.1 in
    record { counts = decided_yes (counts (forms_of o).count (length ps)) h.0; form = k.0; is = k.1; stand = met_stands ls a k.0 ps k.2 }
