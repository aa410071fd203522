-- What is wrong in a form's places is a reason that holds of its operation, and the other way round. Assumes nothing.
use Rattle.std.specs.Prelude.{Option, None, Some}
use Rattle.rules.specs.Option.{bind, or_else}
use Prim.Native.Nat.{ℕ}
use mathlib.Core.Path.{◌≡◌, refl, sym, ap, subst, ◌∙◌}
use mathlib.Core.Bool.{Bool, true, false, cond}
use mathlib.Core.List.{List, [], ◌∷◌}
use lib.IntN.{ℤ}
use Rattle.rules.specs.Text.{Text, bytes, after}
use Rattle.rules.specs.Number.{Failure, Reading, read, failed, signed_reading, reading16, reading8, immediate}
use Rattle.rules.specs.Label.{Table, find}
use Rattle.rules.specs.Encode.{Operation, moveq, move, movea, muls, tst, subq, asl, dbra, nop, simhalt, add, sub, cmp, jmp, branch, reach, written_reading}
use Rattle.rules.specs.Forms.{kind_number, same_kind, Operand, i8, u16, hash_label, Dn, An, AtAn, label, jump_target, branch_target, kind_for, forms_of, stand, form_with}
use Rattle.requests.specs.Explain.{Reason, bad_number, not_recorded, out_of_reach, failing, unless_found, unless_reached, fault, fault_in}
use Rattle.promises.specs.Nearest.{In, head, tail}
use Rattle.promises.specs.Explain.{Stand, stands, behind_hash, Numeric, Signed, Quick, by_moveq, by_subq, by_asl, Wide, by_move, by_muls, by_cmp, NumberFails, quick, wide, jump, counting, branching, Leads, counting_to, branching_to, Names, leading, moved_from, moved_to, address_of, jumped_to, Far, Faulty, numeral, unrecorded, far}
use Rattle.promises.proofs.Compared.{clash}
use Rattle.promises.proofs.Lists.{All}
use Rattle.promises.proofs.Decided.{Decided, yes, no, decided_true, decided_false}
use Rattle.promises.proofs.OperandKinds.{kind_is}
use Rattle.promises.proofs.OperandTests.{hash_kind, behind_hash_lem, signed, written, unwritten, numeric, Reaches, near, out, reaches}

-- ---- what is wrong with an operand in a form's place
pub data Blames (ls : Table) (a : ℕ) : Operand → Text → Reason → Type 0 where
  of_i8 : {s : Text} {f : Failure} → reading8 s ≡ failed f → Blames ls a i8 (behind_hash s) (bad_number f)
  of_u16 : {s : Text} {f : Failure} → reading16 s ≡ failed f → Blames ls a u16 (behind_hash s) (bad_number f)
  of_hash_label : {l : Text} → find l ls ≡ None → Blames ls a hash_label (behind_hash l) not_recorded
  of_label : {l : Text} → find l ls ≡ None → Blames ls a label l not_recorded
  of_jump : {s : Text} {f : Failure} → Numeric s → reading16 s ≡ failed f → Blames ls a jump_target s (bad_number f)
  of_jump_label : {l : Text} → ¬ Numeric l → find l ls ≡ None → Blames ls a jump_target l not_recorded
  of_offset : {s : Text} {f : Failure} → Signed s → signed_reading 10 128 s ≡ failed f → Blames ls a branch_target s (bad_number f)
  of_target : {l : Text} → ¬ Signed l → find l ls ≡ None → Blames ls a branch_target l not_recorded
  of_far : {l : Text} {x : ℕ} → ¬ Signed l → find l ls ≡ Some x → Far a x → Blames ls a branch_target l out_of_reach

-- a reader's answer, of a text and of what follows `#`
failing_by : {A : Type 0} (P : Reason → Type 0) (x : Reading A) (r : Reason) → ((f : Failure) → x ≡ failed f → P (bad_number f)) → failing x ≡ Some r → P r
unfolding failing
failing_by P (read v) r k e = clash cc
failing_by P (failed f) r k e = let h : bad_number f ≡ r = cc in rw (← h) (k f refl)

immediate_by : {A : Type 0} (P : Text → Reason → Type 0) (g : Text → Reading A) (s : Text) (r : Reason)
    → ((t : Text) (f : Failure) → g t ≡ failed f → P (behind_hash t) (bad_number f)) → bind (immediate g s) failing ≡ Some r → P s r
unfolding immediate bind
immediate_by {A} P g s r k e = go (after (bytes "#") s) refl e
  where
    go : (o : Option Text) → after (bytes "#") s ≡ o → bind {A = Reading A} (elim o [ None ↦ None | Some t ↦ Some (g t) ]) failing ≡ Some r → P s r
    go None h e = clash cc
    go (Some t) h e = rw (behind_hash_lem s t h) (failing_by (P (behind_hash t)) (g t) r (k t) e)

module _ (ls : Table) (a : ℕ) where
  -- a label's record, and its reach
  found_by : (P : Reason → Type 0) (l : Text) (r : Reason) → (find l ls ≡ None → P not_recorded) → unless_found ls l ≡ Some r → P r
  unfolding unless_found
  found_by P l r k e = go (find l ls) refl e
    where
      go : (o : Option ℕ) → find l ls ≡ o → elim o [ None ↦ Some not_recorded | Some x ↦ None ] ≡ Some r → P r
      go None f e = let h : not_recorded ≡ r = cc in rw (← h) (k f)
      go (Some x) f e = clash cc

  reached_by : (P : Reason → Type 0) (l : Text) (r : Reason) → (find l ls ≡ None → P not_recorded) → ((x : ℕ) → find l ls ≡ Some x → Far a x → P out_of_reach)
      → unless_reached ls a l ≡ Some r → P r
  unfolding unless_reached
  reached_by P l r k j e = go (find l ls) refl e
    where
      last : (x : ℕ) → find l ls ≡ Some x → {z : Option ℤ} → Reaches a x z → elim z [ None ↦ Some out_of_reach | Some y ↦ None ] ≡ Some r → P r
      last x f (near n) e = clash cc
      last x f (out h) e = let u : out_of_reach ≡ r = cc in rw (← u) (j x f h)

      go : (o : Option ℕ) → find l ls ≡ o → elim o [ None ↦ Some not_recorded | Some x ↦ elim (reach x a) [ None ↦ Some out_of_reach | Some z ↦ None ] ] ≡ Some r → P r
      go None f e = let h : not_recorded ≡ r = cc in rw (← h) (k f)
      go (Some x) f e = last x f (reaches a x) e

  blames : (x : Operand) (s : Text) (r : Reason) → fault ls a x s ≡ Some r → Blames ls a x s r
  unfolding fault bind written_reading
  blames i8 s r e = immediate_by (Blames ls a i8) reading8 s r (λ t f. of_i8) e
  blames u16 s r e = immediate_by (Blames ls a u16) reading16 s r (λ t f. of_u16) e
  blames hash_label s r e = go (after (bytes "#") s) refl e
    where
      go : (o : Option Text) → after (bytes "#") s ≡ o → bind o (unless_found ls) ≡ Some r → Blames ls a hash_label s r
      go None f e = clash cc
      go (Some l) f e = rw (behind_hash_lem s l f) (found_by (Blames ls a hash_label (behind_hash l)) l r of_hash_label e)
  blames Dn s r e = clash cc
  blames An s r e = clash cc
  blames AtAn s r e = clash cc
  blames label s r e = found_by (Blames ls a label s) s r of_label e
  blames jump_target s r e = go (numeric s) e
    where
      go : {x : Bool} → Decided (Numeric s) x → cond x (failing (reading16 s)) (unless_found ls s) ≡ Some r → Blames ls a jump_target s r
      go (yes n) e = failing_by (Blames ls a jump_target s) (reading16 s) r (λ f. of_jump n) e
      go (no n) e = found_by (Blames ls a jump_target s) s r (of_jump_label n) e
  blames branch_target s r e = go (signed s) e
    where
      go : {x : Bool} → Decided (Signed s) x
          → ◌≡◌ {A = Option Reason} (elim (cond x (Some (signed_reading 10 128 s)) None) [ None ↦ unless_reached ls a s | Some y ↦ failing y ]) (Some r)
          → Blames ls a branch_target s r
      go (yes n) e = failing_by (Blames ls a branch_target s) (signed_reading 10 128 s) r (λ f. of_offset n) e
      go (no n) e = reached_by (Blames ls a branch_target s) s r (of_target n) (λ x. of_far n) e

  -- and in which place
  pub data BlamesIn : List Operand → List Text → Reason → Type 0 where
    here : {x : Operand} {xs : List Operand} {s : Text} {ps : List Text} {r : Reason} → Blames ls a x s r → BlamesIn (x ∷ xs) (s ∷ ps) r
    later : {x : Operand} {xs : List Operand} {s : Text} {ps : List Text} {r : Reason} → BlamesIn xs ps r → BlamesIn (x ∷ xs) (s ∷ ps) r

  pub blames_in : (f : List Operand) (ps : List Text) (r : Reason) → fault_in ls a f ps ≡ Some r → BlamesIn f ps r
  unfolding fault_in or_else
  blames_in [] ps r e = clash cc
  blames_in (x ∷ xs) [] r e = clash cc
  blames_in (x ∷ xs) (s ∷ ps) r e = go (fault ls a x s) refl (blames_in xs ps r) e
    where
      go : (o : Option Reason) → fault ls a x s ≡ o → (fault_in ls a xs ps ≡ Some r → BlamesIn xs ps r) → or_else o (fault_in ls a xs ps) ≡ Some r
          → BlamesIn (x ∷ xs) (s ∷ ps) r
      go None f ih e = later (ih e)
      go (Some q) f ih e = here (blames x s r (f ∙ e))

-- ---- the table, row by row
-- a form of registers alone: nothing is ever wrong in it
pub data Plain : List Operand → Type 0 where
  plain : Plain []
  and_dn : {f : List Operand} → Plain f → Plain (Dn ∷ f)
  and_an : {f : List Operand} → Plain f → Plain (An ∷ f)
  and_at_an : {f : List Operand} → Plain f → Plain (AtAn ∷ f)

pub data Row : Operation → List Operand → Type 0 where
  quick_row : {o : Operation} → Quick o → Row o (i8 ∷ Dn ∷ [])
  wide_row : {o : Operation} → Wide o → Row o (u16 ∷ Dn ∷ [])
  from_row : Row move (label ∷ Dn ∷ [])
  to_row : Row move (Dn ∷ label ∷ [])
  address_row : Row movea (hash_label ∷ An ∷ [])
  jump_row : Row jmp (jump_target ∷ [])
  counting_row : Row dbra (Dn ∷ branch_target ∷ [])
  branch_row : {c : ℕ} → Row (branch c) (branch_target ∷ [])
  plain_row : {o : Operation} {f : List Operand} → Plain f → Row o f

pub rows : (o : Operation) → All (Row o) (forms_of o).forms
unfolding forms_of
rows move =
    (wide_row by_move, (plain_row (and_at_an (and_dn plain)), (plain_row (and_dn (and_at_an plain)), (plain_row (and_dn (and_dn plain)), (from_row, (to_row, tt))))))
rows movea = (address_row, tt)
rows muls = (wide_row by_muls, (plain_row (and_dn (and_dn plain)), tt))
rows add = (plain_row (and_dn (and_dn plain)), tt)
rows sub = (plain_row (and_dn (and_dn plain)), tt)
rows cmp = (wide_row by_cmp, (plain_row (and_dn (and_dn plain)), tt))
rows moveq = (quick_row by_moveq, tt)
rows subq = (quick_row by_subq, tt)
rows asl = (quick_row by_asl, tt)
rows tst = (plain_row (and_dn plain), tt)
rows nop = (plain_row plain, tt)
rows simhalt = (plain_row plain, tt)
rows jmp = (jump_row, tt)
rows dbra = (counting_row, tt)
rows (branch c) = (branch_row, tt)

pub row : {o : Operation} {f : List Operand} {fs : List (List Operand)} → In f fs → All (Row o) fs → Row o f
row {o} (head e) h = subst (Row o) (sym e) h.0
row (tail i) h = row i h.1

module _ (ls : Table) (a : ℕ) where
  no_dn : {s : Text} {r : Reason} → ¬ Blames ls a Dn s r
  no_dn = elim [ ]

  no_an : {s : Text} {r : Reason} → ¬ Blames ls a An s r
  no_an = elim [ ]

  no_at_an : {s : Text} {r : Reason} → ¬ Blames ls a AtAn s r
  no_at_an = elim [ ]

  never : {f : List Operand} {ps : List Text} {r : Reason} → Plain f → ¬ BlamesIn ls a f ps r
  never (and_dn p) (here b) = no_dn b
  never (and_dn p) (later b) = never p b
  never (and_an p) (here b) = no_an b
  never (and_an p) (later b) = never p b
  never (and_at_an p) (here b) = no_at_an b
  never (and_at_an p) (later b) = never p b
  never plain i = elim i [ ]

-- ---- what is wrong in a form's places is a reason of its operation, where At says what the table of labels does
module _ (ls : Table) (a : ℕ) (At : Text → ℕ → Type 0) (at : (l : Text) (x : ℕ) → find l ls ≡ Some x → At l x)
    (is_at : (l : Text) (x : ℕ) → At l x → find l ls ≡ Some x) where
  nowhere : (l : Text) → find l ls ≡ None → (x : ℕ) → ¬ At l x
  nowhere l e x h = let f = is_at l x h in clash cc

  pub sound : {o : Operation} {f : List Operand} {ps : List Text} {r : Reason} → Row o f → Stand f ps → BlamesIn ls a f ps r → Faulty At a o ps r
  unfolding kind_for
  sound (quick_row q) (stands k (stands j h)) (here (of_i8 e)) = numeral (quick q j e)
  sound (quick_row q) (stands k h) (later b) = absurd (never ls a (and_dn plain) b)
  sound (wide_row q) (stands k (stands j h)) (here (of_u16 e)) = numeral (wide q j e)
  sound (wide_row q) (stands k h) (later b) = absurd (never ls a (and_dn plain) b)
  sound from_row (stands k (stands j h)) (here (of_label {l} e)) = unrecorded (moved_from k j) (nowhere l e)
  sound from_row (stands k h) (later b) = absurd (never ls a (and_dn plain) b)
  sound to_row (stands k h) (here b) = absurd (no_dn ls a b)
  sound to_row (stands k (stands j h)) (later (here (of_label {l} e))) = unrecorded (moved_to k j) (nowhere l e)
  sound address_row (stands k (stands j h)) (here (of_hash_label {l} e)) = unrecorded address_of (nowhere l e)
  sound address_row (stands k h) (later b) = absurd (never ls a (and_an plain) b)
  sound jump_row (stands k h) (here (of_jump n e)) = numeral (jump n e)
  sound jump_row (stands k h) (here (of_jump_label {l} n e)) = unrecorded (jumped_to n) (nowhere l e)
  sound jump_row (stands k h) (later b) = absurd (never ls a plain b)
  sound counting_row (stands k h) (here b) = absurd (no_dn ls a b)
  sound counting_row (stands k (stands j h)) (later (here (of_offset n e))) = numeral (counting n e)
  sound counting_row (stands k (stands j h)) (later (here (of_target {l} n e))) = unrecorded (leading (counting_to n)) (nowhere l e)
  sound counting_row (stands k (stands j h)) (later (here (of_far {l} {x} n e i))) = far (counting_to n) (at l x e) i
  sound counting_row (stands k h) (later (later b)) = absurd (never ls a plain b)
  sound branch_row (stands k h) (here (of_offset n e)) = numeral (branching n e)
  sound branch_row (stands k h) (here (of_target {l} n e)) = unrecorded (leading (branching_to n)) (nowhere l e)
  sound branch_row (stands k h) (here (of_far {l} {x} n e i)) = far (branching_to n) (at l x e) i
  sound branch_row (stands k h) (later b) = absurd (never ls a plain b)
  sound (plain_row p) h b = absurd (never ls a p b)
  sound to_row (stands k (stands j h)) (later (later b)) = elim b [ ]

-- ---- and the other way round: of operands that have a form's kinds, a reason after the kinds is what is wrong in its places
-- the one form there is
sole : (f g : List Operand) (ps : List Text) → form_with (f ∷ []) ps ≡ Some g → f ≡ g
unfolding form_with
sole f g ps e = go (stand f ps) e
  where
    go : (x : Bool) → cond x (Some f) None ≡ Some g → f ≡ g
    go true e = cc
    go false e = clash cc

-- a label out of reach
out_of : (a x : ℕ) → Far a x → reach x a ≡ None
out_of a x f = go (reaches a x)
  where
    go : {z : Option ℤ} → Reaches a x z → z ≡ None
    go (near n) = absurd (n f)
    go (out g) = refl

module _ (ls : Table) (a : ℕ) where
  -- a branch's operand, as a number and as a label
  offset_fault : (s : Text) (f : Failure) → Signed s → signed_reading 10 128 s ≡ failed f → fault ls a branch_target s ≡ Some (bad_number f)
  unfolding fault failing
  offset_fault s f n e = rw (fault, written s n, e)

  target_fault : (s : Text) → ¬ Signed s → fault ls a branch_target s ≡ unless_reached ls a s
  unfolding fault
  target_fault s n = rw (fault, unwritten s n)

  missing : (l : Text) → find l ls ≡ None → unless_found ls l ≡ Some not_recorded
  unfolding unless_found
  missing l e = rw (unless_found, e)

  unfound : (l : Text) → find l ls ≡ None → unless_reached ls a l ≡ Some not_recorded
  unfolding unless_reached
  unfound l e = rw (unless_reached, e)

  unreached : (l : Text) (x : ℕ) → find l ls ≡ Some x → Far a x → unless_reached ls a l ≡ Some out_of_reach
  unfolding unless_reached
  unreached l x e f = rw (unless_reached, e, out_of a x f)

  -- of each operation
  pub number_fault : {o : Operation} {ps : List Text} {f : Failure} {g : List Operand} → NumberFails o ps f → form_with (forms_of o).forms ps ≡ Some g
      → fault_in ls a g ps ≡ Some (bad_number f)
  unfolding forms_of form_with stand kind_for same_kind kind_number fault_in fault immediate after bytes bind failing or_else
  number_fault {g = g} (quick {s} {t} {ps} by_moveq k e) h = rw (← (sole (i8 ∷ Dn ∷ []) g (behind_hash s ∷ t ∷ ps) h), e)
  number_fault {g = g} (quick {s} {t} {ps} by_subq k e) h = rw (← (sole (i8 ∷ Dn ∷ []) g (behind_hash s ∷ t ∷ ps) h), e)
  number_fault {g = g} (quick {s} {t} {ps} by_asl k e) h = rw (← (sole (i8 ∷ Dn ∷ []) g (behind_hash s ∷ t ∷ ps) h), e)
  number_fault {g = g} (wide {s} by_move k e) h = let u : u16 ∷ Dn ∷ [] ≡ g = cc (rw (hash_kind s, kind_is k) at h) in rw (← u, e)
  number_fault {g = g} (wide {s} by_muls k e) h = let u : u16 ∷ Dn ∷ [] ≡ g = cc (rw (hash_kind s, kind_is k) at h) in rw (← u, e)
  number_fault {g = g} (wide {s} by_cmp k e) h = let u : u16 ∷ Dn ∷ [] ≡ g = cc (rw (hash_kind s, kind_is k) at h) in rw (← u, e)
  number_fault {g = g} (jump {s} {ps} n e) h = rw (← (sole (jump_target ∷ []) g (s ∷ ps) h), decided_true (numeric s) n, e)
  number_fault {g = g} (counting {s} {t} {ps} {f} n e) h = rw (← (sole (Dn ∷ branch_target ∷ []) g (s ∷ t ∷ ps) h)) (ap (λ r. or_else r None) (offset_fault t f n e))
  number_fault {g = g} (branching {c} {s} {ps} {f} n e) h = rw (← (sole (branch_target ∷ []) g (s ∷ ps) h)) (ap (λ r. or_else r None) (offset_fault s f n e))

  -- the place that leads to a label
  lead_fault : {o : Operation} {ps : List Text} {l : Text} {g : List Operand} → Leads o ps l → form_with (forms_of o).forms ps ≡ Some g
      → fault_in ls a g ps ≡ or_else (unless_reached ls a l) None
  unfolding forms_of fault_in fault or_else
  lead_fault {g = g} (counting_to {s} {t} {ps} n) h = rw (← (sole (Dn ∷ branch_target ∷ []) g (s ∷ t ∷ ps) h)) (ap (λ r. or_else r None) (target_fault t n))
  lead_fault {g = g} (branching_to {c} {s} {ps} n) h = rw (← (sole (branch_target ∷ []) g (s ∷ ps) h)) (ap (λ r. or_else r None) (target_fault s n))

  pub label_fault : {o : Operation} {ps : List Text} {l : Text} {g : List Operand} → Names o ps l → find l ls ≡ None → form_with (forms_of o).forms ps ≡ Some g
      → fault_in ls a g ps ≡ Some not_recorded
  unfolding forms_of form_with stand kind_for same_kind kind_number fault_in fault after bytes bind or_else
  label_fault {l = l} (leading n) e h = lead_fault n h ∙ ap (λ r. or_else r None) (unfound l e)
  label_fault {l = l} {g = g} (moved_from k j) e h = let u : label ∷ Dn ∷ [] ≡ g = cc (rw (kind_is k, kind_is j) at h) in rw (← u) (ap (λ r. or_else r None) (missing l e))
  label_fault {l = l} {g = g} (moved_to k j) e h = let u : Dn ∷ label ∷ [] ≡ g = cc (rw (kind_is k, kind_is j) at h) in rw (← u) (ap (λ r. or_else r None) (missing l e))
  label_fault {g = g} (address_of {l} {t} {ps}) e h = rw (← (sole (hash_label ∷ An ∷ []) g (behind_hash l ∷ t ∷ ps) h)) (ap (λ r. or_else r None) (missing l e))
  label_fault {g = g} (jumped_to {s} {ps} n) e h = rw (← (sole (jump_target ∷ []) g (s ∷ ps) h), decided_false (numeric s) n) (ap (λ r. or_else r None) (missing s e))

  pub far_fault : {o : Operation} {ps : List Text} {l : Text} {g : List Operand} {x : ℕ} → Leads o ps l → find l ls ≡ Some x → Far a x
      → form_with (forms_of o).forms ps ≡ Some g → fault_in ls a g ps ≡ Some out_of_reach
  unfolding or_else
  far_fault {l = l} {x = x} n e f h = lead_fault n h ∙ ap (λ r. or_else r None) (unreached l x e f)
