-- Why a line has no word: the verdict on operands of a right count, a law for each of the stations' groups of forms, test by test. Assumes nothing.
use Rattle.std.specs.Prelude.{Option, None, Some}
use Rattle.rules.specs.Option.{or_else}
use Prim.Native.Nat.{ℕ}
use mathlib.Core.Path.{◌≡◌, refl, sym, ap, ◌∙◌}
use mathlib.Core.Bool.{Bool, true, false, ◌&&◌, ◌||◌, cond, false≢true, and-true, and-false, or-false}
use mathlib.Core.List.{List, [], ◌∷◌}
use Rattle.rules.specs.Text.{Text}
use Rattle.rules.specs.Label.{Table, find}
use Rattle.rules.specs.Encode.{is_some, move}
use Rattle.rules.specs.Forms.{Kind, hash, dn, an, at_an, text, kind_of, kind_number, same_kind, Operand, i8, u16, hash_label, Dn, An, AtAn, label, jump_target, branch_target, kind_for, forms_of, stand, form_with}
use Rattle.rules.proofs.Operands.{kind_told, kind_itself}
use Rattle.requests.specs.Explain.{Reason, wrong_kinds, not_recorded, Verdict, emitted, because, meets, unless_found, fault, met, one_met, fault_in, unless, why_kinds, why_forms}
use Rattle.requests.proofs.Places.{clear, near, number_text_lem, solid_i8, solid_u16, solid_hash_label, solid_dn, solid_an, solid_at_an, jump_place, branch_place}

module _ (ls : Table) (a : ℕ) where
  -- what makes the word in a place of one kind only
  abbrev Solid : Operand → Type 0
  Solid x = (s : Text) → meets ls a x s ≡ (same_kind (kind_of s) (kind_for x) && clear (fault ls a x s))

  -- a form of two places, of which the second is a register, and then nothing or another one
  module _ (x y : Operand) (p : Solid x) (q : Solid y) (n : (t : Text) → fault ls a y t ≡ None) (s t : Text) where
    pair_forms : why_forms ls a ((x ∷ y ∷ []) ∷ []) (s ∷ t ∷ [])
        ≡ cond (same_kind (kind_of s) (kind_for x)) (cond (same_kind (kind_of t) (kind_for y)) (unless (fault ls a x s)) (because wrong_kinds)) (because wrong_kinds)
    unfolding why_forms why_kinds one_met met form_with stand fault_in or_else unless
    pair_forms = rw (p s, q t, n t) (go (same_kind (kind_of s) (kind_for x)) (same_kind (kind_of t) (kind_for y)) (fault ls a x s) refl)
      where
        go : (k j : Bool) (o : Option Reason) → fault ls a x s ≡ o
            → cond (k && clear o && (j && true && true) || false) emitted
            (elim (cond (k && (j && true)) (Some (x ∷ y ∷ [])) None) [ None ↦ because wrong_kinds | Some f ↦ unless (fault_in ls a f (s ∷ t ∷ [])) ])
            ≡ cond k (cond j (unless o) (because wrong_kinds)) (because wrong_kinds)
        go false j o e = refl
        go true false None e = refl
        go true false (Some r) e = refl
        go true true None e = refl
        go true true (Some r) e = rw (fault_in, e)

  -- MOVEQ, SUBQ, ASL: #i8,Dn
  pub quick_forms : (s t : Text) → why_forms ls a ((i8 ∷ Dn ∷ []) ∷ []) (s ∷ t ∷ [])
      ≡ cond (same_kind (kind_of s) hash) (cond (same_kind (kind_of t) dn) (unless (fault ls a i8 s)) (because wrong_kinds)) (because wrong_kinds)
  unfolding fault kind_for
  quick_forms s t = pair_forms i8 Dn (solid_i8 ls a) (solid_dn ls a) (λ u. refl) s t

  -- ADD, SUB: Dn,Dm
  pub register_forms : (s t : Text) → why_forms ls a ((Dn ∷ Dn ∷ []) ∷ []) (s ∷ t ∷ [])
      ≡ cond (same_kind (kind_of s) dn) (cond (same_kind (kind_of t) dn) emitted (because wrong_kinds)) (because wrong_kinds)
  unfolding fault kind_for unless
  register_forms s t = pair_forms Dn Dn (solid_dn ls a) (solid_dn ls a) (λ u. refl) s t

  -- MOVEA: #label,An
  pub address_forms : (s t : Text) → why_forms ls a ((hash_label ∷ An ∷ []) ∷ []) (s ∷ t ∷ [])
      ≡ cond (same_kind (kind_of s) hash) (cond (same_kind (kind_of t) an) (unless (fault ls a hash_label s)) (because wrong_kinds)) (because wrong_kinds)
  unfolding fault kind_for
  address_forms s t = pair_forms hash_label An (solid_hash_label ls a) (solid_an ls a) (λ u. refl) s t

  -- MULS, CMP: #u16,Dn or Dn,Dm
  pub wide_forms : (s t : Text) → why_forms ls a ((u16 ∷ Dn ∷ []) ∷ (Dn ∷ Dn ∷ []) ∷ []) (s ∷ t ∷ [])
      ≡ cond (same_kind (kind_of t) dn) (cond (same_kind (kind_of s) hash) (unless (fault ls a u16 s)) (cond (same_kind (kind_of s) dn) emitted (because wrong_kinds)))
      (because wrong_kinds)
  unfolding why_forms why_kinds one_met met form_with stand fault_in fault kind_for or_else unless same_kind kind_number
  wide_forms s t = rw (solid_u16 ls a s, solid_dn ls a s, solid_dn ls a t) (go (kind_of s) (same_kind (kind_of t) dn) (fault ls a u16 s) refl)
    where
      go : (k : Kind) (j : Bool) (o : Option Reason) → fault ls a u16 s ≡ o
          → cond (same_kind k hash && clear o && (j && true && true) || (same_kind k dn && true && (j && true && true) || false)) emitted
          (elim (cond (same_kind k hash && (j && true)) (Some (u16 ∷ Dn ∷ [])) (cond (same_kind k dn && (j && true)) (Some (Dn ∷ Dn ∷ [])) None)) [
            | None ↦ because wrong_kinds
            | Some f ↦ unless (fault_in ls a f (s ∷ t ∷ []))
          ])
          ≡ cond j (cond (same_kind k hash) (unless o) (cond (same_kind k dn) emitted (because wrong_kinds))) (because wrong_kinds)
      go hash true None e = refl
      go hash true (Some r) e = rw (fault_in, e)
      go hash false None e = refl
      go hash false (Some r) e = refl
      go dn true o e = refl
      go dn false o e = refl
      go an true o e = refl
      go an false o e = refl
      go at_an true o e = refl
      go at_an false o e = refl
      go text true o e = refl
      go text false o e = refl

  -- TST: Dn
  pub test_form : (s : Text) → why_forms ls a ((Dn ∷ []) ∷ []) (s ∷ []) ≡ cond (same_kind (kind_of s) dn) emitted (because wrong_kinds)
  unfolding why_forms why_kinds one_met met form_with stand fault kind_for
  test_form s = rw (solid_dn ls a s) (go (same_kind (kind_of s) dn))
    where
      go : (k : Bool)
          → cond (k && true && true || false) emitted
          (elim (cond (k && true) (Some (Dn ∷ [])) None) [ None ↦ because wrong_kinds | Some f ↦ unless (fault_in ls a f (s ∷ [])) ])
          ≡ cond k emitted (because wrong_kinds)
      go true = refl
      go false = refl

  -- NOP, SIMHALT: any operands
  pub no_places : (ps : List Text) → why_forms ls a ([] ∷ []) ps ≡ emitted
  unfolding why_forms one_met met
  no_places ps = refl

  -- JMP: a number, or a label whatever it looks like
  pub jump_form : (s : Text) → why_forms ls a ((jump_target ∷ []) ∷ []) (s ∷ [])
      ≡ elim (fault ls a jump_target s) [ None ↦ emitted | Some r ↦ cond (same_kind (kind_of s) text) (because r) (because wrong_kinds) ]
  unfolding why_forms why_kinds one_met met form_with stand fault_in kind_for or_else unless
  jump_form s = rw (jump_place ls a s) (go (same_kind (kind_of s) text) (fault ls a jump_target s) refl)
    where
      go : (k : Bool) (o : Option Reason) → fault ls a jump_target s ≡ o
          → cond (clear o && true || false) emitted
          (elim (cond (k && true) (Some (jump_target ∷ [])) None) [ None ↦ because wrong_kinds | Some f ↦ unless (fault_in ls a f (s ∷ [])) ])
          ≡ elim o [ None ↦ emitted | Some r ↦ cond k (because r) (because wrong_kinds) ]
      go k None e = refl
      go true (Some r) e = rw (fault_in, e)
      go false (Some r) e = refl

  -- branches: a label in reach whatever it looks like, else a signed number or a label by its fault
  pub branch_form : (s : Text) (ps : List Text) → why_forms ls a ((branch_target ∷ []) ∷ []) (s ∷ ps)
      ≡ cond (near ls a s) emitted (cond (same_kind (kind_of s) text) (unless (fault ls a branch_target s)) (because wrong_kinds))
  unfolding why_forms why_kinds one_met met form_with stand fault_in kind_for or_else unless
  branch_form s ps = rw (branch_place ls a s) (go (near ls a s) refl (same_kind (kind_of s) text) refl (fault ls a branch_target s) refl)
    where
      go : (n : Bool) → near ls a s ≡ n → (k : Bool) → same_kind (kind_of s) text ≡ k → (o : Option Reason) → fault ls a branch_target s ≡ o
          → cond ((n || clear o) && true || false) emitted
          (elim (cond (k && true) (Some (branch_target ∷ [])) None) [ None ↦ because wrong_kinds | Some f ↦ unless (fault_in ls a f (s ∷ ps)) ])
          ≡ cond n emitted (cond k (unless o) (because wrong_kinds))
      go true d k e o f = refl
      go false d true e None f = refl
      go false d true e (Some r) f = rw (fault_in, f)
      go false d false e None f = absurd (false≢true (sym e ∙ rw (number_text_lem ls a s d f) (kind_itself text)))
      go false d false e (Some r) f = refl

  -- DBRA: Dn, and then as a branch
  pub count_form : (s t : Text) → why_forms ls a ((Dn ∷ branch_target ∷ []) ∷ []) (s ∷ t ∷ [])
      ≡ cond (same_kind (kind_of s) dn) (why_forms ls a ((branch_target ∷ []) ∷ []) (t ∷ [])) (because wrong_kinds)
  unfolding why_forms why_kinds one_met met form_with stand fault_in fault kind_for or_else
  count_form s t = rw (solid_dn ls a s) (go (same_kind (kind_of s) dn) (same_kind (kind_of t) text) (meets ls a branch_target t))
    where
      go : (k j m : Bool)
          → cond (k && true && (m && true) || false) emitted
          (elim (cond (k && (j && true)) (Some (Dn ∷ branch_target ∷ [])) None) [ None ↦ because wrong_kinds | Some f ↦ unless (fault_in ls a f (s ∷ t ∷ [])) ])
          ≡ cond k
          (cond (m && true || false) emitted
          (elim (cond (j && true) (Some (branch_target ∷ [])) None) [ None ↦ because wrong_kinds | Some f ↦ unless (fault_in ls a f (t ∷ [])) ])) (because wrong_kinds)
      go true true m = refl
      go true false m = refl
      go false j m = refl

  -- a label in its place, and one that is not recorded
  label_meets : (l : Text) → meets ls a label l ≡ is_some (find l ls)
  unfolding meets
  label_meets l = refl

  unfound : (l : Text) → find l ls ≡ None → fault ls a label l ≡ Some not_recorded
  unfolding fault unless_found
  unfound l e = rw (fault, unless_found, e)

  -- MOVE: what makes the word in each place, by kinds k and j, what is found for the operands, and what is wrong with the number
  moves : Kind → Kind → Option ℕ → Option ℕ → Option Reason → Bool
  moves k j x y o =
      same_kind k hash && clear o && (same_kind j dn && true && true)
      || (same_kind k at_an && true && (same_kind j dn && true && true)
      || (same_kind k dn && true && (same_kind j at_an && true && true)
      || (same_kind k dn && true && (same_kind j dn && true && true)
      || (is_some x && (same_kind j dn && true && true)
      || (same_kind k dn && true && (is_some y && true) || false)))))

  -- and which form has the kinds
  moved : Kind → Kind → Option (List Operand)
  moved k j =
      cond (same_kind k hash && (same_kind j dn && true)) (Some (u16 ∷ Dn ∷ []))
      (cond (same_kind k at_an && (same_kind j dn && true)) (Some (AtAn ∷ Dn ∷ []))
      (cond (same_kind k dn && (same_kind j at_an && true)) (Some (Dn ∷ AtAn ∷ []))
      (cond (same_kind k dn && (same_kind j dn && true)) (Some (Dn ∷ Dn ∷ []))
      (cond (same_kind k text && (same_kind j dn && true)) (Some (label ∷ Dn ∷ []))
      (cond (same_kind k dn && (same_kind j text && true)) (Some (Dn ∷ label ∷ [])) None)))))

  module _ (s t : Text) where
    why_move : Kind → Kind → Option ℕ → Option ℕ → Option Reason → Verdict
    why_move k j x y o = cond (moves k j x y o) emitted (elim (moved k j) [ None ↦ because wrong_kinds | Some f ↦ unless (fault_in ls a f (s ∷ t ∷ [])) ])

    move_is : why_forms ls a (forms_of move).forms (s ∷ t ∷ []) ≡ why_move (kind_of s) (kind_of t) (find s ls) (find t ls) (fault ls a u16 s)
    unfolding why_forms why_kinds one_met met form_with stand forms_of fault kind_for moves moved why_move
    move_is = rw (solid_u16 ls a s, solid_at_an ls a s, solid_at_an ls a t, solid_dn ls a s, solid_dn ls a t, label_meets s, label_meets t)

    -- to Dn
    to_dn : (k : Kind) (x y : Option ℕ) → find s ls ≡ x → (o : Option Reason) → fault ls a u16 s ≡ o
        → why_move k dn x y o
        ≡ cond (is_some x) emitted (cond (same_kind k hash) (unless o) (cond (same_kind k text) (because not_recorded) (cond (same_kind k an) (because wrong_kinds) emitted)))
    unfolding why_move moves moved same_kind kind_number is_some fault_in or_else unless
    to_dn hash None y e None f = refl
    to_dn hash None y e (Some r) f = rw (fault_in, f)
    to_dn hash (Some x) y e None f = refl
    to_dn hash (Some x) y e (Some r) f = refl
    to_dn dn None y e o f = refl
    to_dn dn (Some x) y e o f = refl
    to_dn an None y e o f = refl
    to_dn an (Some x) y e o f = refl
    to_dn at_an None y e o f = refl
    to_dn at_an (Some x) y e o f = refl
    to_dn text None y e o f = rw (fault_in, unfound s e)
    to_dn text (Some x) y e o f = refl

    -- to anything else
    to_other : (k j : Kind) (x y : Option ℕ) (o : Option Reason) → same_kind j dn ≡ false → find t ls ≡ y
        → why_move k j x y o
        ≡ cond (same_kind k dn) (cond (is_some y) emitted (cond (same_kind j at_an) emitted (cond (same_kind j text) (because not_recorded) (because wrong_kinds)))) (because wrong_kinds)
    unfolding why_move moves moved is_some fault_in fault or_else unless
    to_other k j x y o e f = simp (e, and-false, or-false, and-true) (go (same_kind k dn) (same_kind j at_an) (same_kind j text) y f)
      where
        go : (u v w : Bool) (y : Option ℕ) → find t ls ≡ y
            → cond (u && v || u && is_some y) emitted
            (elim (cond (u && v) (Some (Dn ∷ AtAn ∷ [])) (cond (u && w) (Some (Dn ∷ label ∷ [])) None)) [
              | None ↦ because wrong_kinds
              | Some g ↦ unless (fault_in ls a g (s ∷ t ∷ []))
            ])
            ≡ cond u (cond (is_some y) emitted (cond v emitted (cond w (because not_recorded) (because wrong_kinds)))) (because wrong_kinds)
        go false v w y f = refl
        go true true w None f = refl
        go true true w (Some z) f = refl
        go true false w (Some z) f = refl
        go true false true None f = ap (λ r. unless (or_else r None)) (unfound t f)
        go true false false None f = refl

    -- MOVE, by whether the second operand is Dn
    pub move_to_dn : same_kind (kind_of t) dn ≡ true → why_forms ls a (forms_of move).forms (s ∷ t ∷ [])
        ≡ cond (is_some (find s ls)) emitted
        (cond (same_kind (kind_of s) hash) (unless (fault ls a u16 s))
        (cond (same_kind (kind_of s) text) (because not_recorded)
        (cond (same_kind (kind_of s) an) (because wrong_kinds) emitted)))
    move_to_dn e = move_is ∙ rw (kind_told (kind_of t) dn e) (to_dn (kind_of s) (find s ls) (find t ls) refl (fault ls a u16 s) refl)

    pub move_to_other : same_kind (kind_of t) dn ≡ false → why_forms ls a (forms_of move).forms (s ∷ t ∷ [])
        ≡ cond (same_kind (kind_of s) dn)
        (cond (is_some (find t ls)) emitted
        (cond (same_kind (kind_of t) at_an) emitted
        (cond (same_kind (kind_of t) text) (because not_recorded) (because wrong_kinds)))) (because wrong_kinds)
    move_to_other e = move_is ∙ to_other (kind_of s) (kind_of t) (find s ls) (find t ls) (fault ls a u16 s) e refl
