-- Why a line has no word: when an operand makes the word in a form's place, by its kind and by what is wrong with it there. Assumes nothing.
use Rattle.std.specs.Prelude.{Option, None, Some}
use Rattle.rules.specs.Option.{bind, or_else}
use Prim.Native.Nat.{ℕ}
use mathlib.Core.Path.{◌≡◌, refl, sym, ap, ◌∙◌}
use mathlib.Core.Bool.{Bool, true, false, ◌&&◌, ◌||◌, cond, false≢true, and-true}
use lib.IntN.{ℤ}
use Rattle.rules.specs.Text.{Text, bytes, starts, after}
use Rattle.rules.specs.Number.{Reading, read, failed, reading8, reading16, signed_reading, immediate, imm8, imm16, hex_tail, value_of, number16}
use Rattle.rules.specs.Label.{Table, find}
use Rattle.rules.specs.Encode.{data_register, address_register, indirect, is_some, reach, written_reading, written_signed, displacement, all_digits, jumps}
use Rattle.rules.specs.Forms.{hash, text, kind_of, same_kind, Operand, i8, u16, hash_label, Dn, An, AtAn, label, jump_target, branch_target, kind_for}
use Rattle.rules.proofs.Operands.{after_starts, kinded, signed_text}
use Rattle.requests.specs.Explain.{Reason, not_recorded, out_of_reach, meets, failing, unless_found, unless_reached, fault}

-- nothing is wrong
abbrev pub clear : Option Reason → Bool
clear None = true
clear (Some r) = false

read_clear : {A : Type 0} (x : Reading A) → is_some (value_of x) ≡ clear (failing x)
unfolding value_of failing is_some
read_clear (read v) = refl
read_clear (failed f) = refl

-- what stands after `#`, where it stands so
hash_there : (s : Text) → same_kind (kind_of s) hash ≡ is_some (after (bytes "#") s)
hash_there s = (kinded s).as_hash ∙ sym (after_starts (bytes "#") s)

number_place : {A : Type 0} (g : Text → Reading A) (s : Text)
    → is_some (bind (immediate g s) value_of) ≡ (same_kind (kind_of s) hash && clear (bind (immediate g s) failing))
unfolding immediate bind is_some
number_place {A} g s = rw (hash_there s) (go (after (bytes "#") s))
  where
    go : (o : Option Text)
        → is_some (bind {A = Reading A} (elim o [ None ↦ None | Some t ↦ Some (g t) ]) value_of)
        ≡ (is_some o && clear (bind {A = Reading A} (elim o [ None ↦ None | Some t ↦ Some (g t) ]) failing))
    go None = refl
    go (Some t) = read_clear (g t)

module _ (ls : Table) (a : ℕ) where
  found_clear : (l : Text) → is_some (find l ls) ≡ clear (unless_found ls l)
  unfolding unless_found is_some
  found_clear l = go (find l ls)
    where
      go : (o : Option ℕ) → is_some o ≡ clear (elim o [ None ↦ Some not_recorded | Some x ↦ None ])
      go None = refl
      go (Some x) = refl

  -- a recorded label in reach
  abbrev pub near : Text → Bool
  near l = is_some (bind (find l ls) λ x. reach x a)

  near_clear : (l : Text) → near l ≡ clear (unless_reached ls a l)
  unfolding unless_reached is_some bind
  near_clear l = go (find l ls)
    where
      last : (z : Option ℤ) → is_some z ≡ clear (elim z [ None ↦ Some out_of_reach | Some y ↦ None ])
      last None = refl
      last (Some y) = refl

      go : (o : Option ℕ)
          → is_some (bind o λ x. reach x a) ≡ clear (elim o [ None ↦ Some not_recorded | Some x ↦ elim (reach x a) [ None ↦ Some out_of_reach | Some z ↦ None ] ])
      go None = refl
      go (Some x) = last (reach x a)

  -- places of one kind only
  abbrev Solid : Operand → Type 0
  Solid x = (s : Text) → meets ls a x s ≡ (same_kind (kind_of s) (kind_for x) && clear (fault ls a x s))

  pub solid_i8 : Solid i8
  unfolding meets fault kind_for imm8
  solid_i8 s = number_place reading8 s

  pub solid_u16 : Solid u16
  unfolding meets fault kind_for imm16
  solid_u16 s = number_place reading16 s

  pub solid_hash_label : Solid hash_label
  unfolding meets fault kind_for is_some bind
  solid_hash_label s = rw (hash_there s) (go (after (bytes "#") s))
    where
      go : (o : Option Text) → is_some (bind o λ l. find l ls) ≡ (is_some o && clear (bind o (unless_found ls)))
      go None = refl
      go (Some l) = found_clear l

  pub solid_dn : Solid Dn
  unfolding meets fault kind_for
  solid_dn s = rw (kinded s).as_dn (sym (and-true (is_some (data_register s))))

  pub solid_an : Solid An
  unfolding meets fault kind_for
  solid_an s = rw (kinded s).as_an (sym (and-true (is_some (address_register s))))

  pub solid_at_an : Solid AtAn
  unfolding meets fault kind_for
  solid_at_an s = rw (kinded s).as_at_an (sym (and-true (is_some (indirect s))))

  -- places of other text: a label makes the word there whatever it looks like
  pub label_place : (s : Text) → meets ls a label s ≡ clear (fault ls a label s)
  unfolding meets fault
  label_place s = found_clear s

  pub jump_place : (s : Text) → meets ls a jump_target s ≡ clear (fault ls a jump_target s)
  unfolding meets fault jumps number16
  jump_place s = go (is_some (hex_tail s) || all_digits s)
    where
      go : (x : Bool) → cond x (is_some (value_of (reading16 s))) (is_some (find s ls)) ≡ clear (cond x (failing (reading16 s)) (unless_found ls s))
      go true = read_clear (reading16 s)
      go false = found_clear s

  pub branch_place : (s : Text) → meets ls a branch_target s ≡ (near s || clear (fault ls a branch_target s))
  unfolding meets fault displacement written_signed is_some or_else bind
  branch_place s = go (bind (find s ls) λ x. reach x a) refl (written_reading s)
    where
      go : (o : Option ℤ) → (bind (find s ls) λ x. reach x a) ≡ o → (w : Option (Reading ℤ))
          → is_some (or_else o (bind w value_of)) ≡ (is_some o || clear (elim w [ None ↦ unless_reached ls a s | Some r ↦ failing r ]))
      go None e None = sym (ap is_some e) ∙ near_clear s
      go None e (Some r) = read_clear r
      go (Some z) e w = refl

  -- an operand with nothing wrong that is no label in reach is a signed number, hence other text
  pub number_text_lem : (s : Text) → near s ≡ false → fault ls a branch_target s ≡ None → kind_of s ≡ text
  unfolding fault written_reading
  number_text_lem s d f = go (starts (bytes "+") s || starts (bytes "-") s) refl f
    where
      go : (x : Bool) → (starts (bytes "+") s || starts (bytes "-") s) ≡ x
          → ◌≡◌ {A = Option Reason} (elim (cond x (Some (signed_reading 10 128 s)) None) [ None ↦ unless_reached ls a s | Some r ↦ failing r ]) None → kind_of s ≡ text
      go true e f = signed_text s e
      go false e f = absurd (false≢true (sym d ∙ near_clear s ∙ ap clear f))
