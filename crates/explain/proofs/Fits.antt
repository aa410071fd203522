-- Operands as their readers answer: whether the word is made in a place, and what is wrong there. Assumes nothing.
use Rattle.std.specs.Prelude.{Option, None, Some, ℕ, ◌≡◌, Bool, true, false, ◌||◌, cond, ℤ, [], ◌∷◌}
use Rattle.std.specs.Option.{option_map}
use Rattle.rules.specs.Option.{bind, or_else}
use mathlib.Core.Path.{refl}
use Rattle.rules.specs.Text.{Text, bytes, starts, after}
use Rattle.rules.specs.Number.{no_digits, bad_digit, out_of_range, Reading, read, failed, value_of, reading8, reading16, signed_reading, immediate, imm8, imm16, number16, hex_tail}
use Rattle.rules.specs.Label.{Table, find}
use Rattle.rules.specs.Encode.{data_register, address_register, indirect, reach, written_reading, written_signed, displacement, is_some, all_digits, jumps}
use Rattle.rules.specs.Forms.{i8, u16, hash_label, Dn, An, AtAn, label, jump_target, branch_target}
use Rattle.requests.specs.Explain.{not_recorded, out_of_reach, meets, fault, failing, unless_found, unless_reached}
use Rattle.numeral.specs.Number.{result_of, number_of, signed_of, immediate_of, signed_immediate_of}
use Rattle.explain.specs.Verdict.{fault_of}
use Rattle.explain.specs.Operand.{fit_at, fit, read_fit, register_fit, label_fit, hash_fit, near_fit, reach_fit, signed_fit}

-- ---- numbers
module _ {A : Type 0} where
  number : (r : Reading A) → read_fit (Some (result_of r)) ≡ fit (is_some (value_of r)) (fault_of (failing r))
  unfolding value_of is_some failing
  number (read v) = refl
  number (failed no_digits) = refl
  number (failed bad_digit) = refl
  number (failed out_of_range) = refl

  immediate_number : (o : Option (Reading A)) → read_fit (option_map result_of o) ≡ fit (is_some (bind o value_of)) (fault_of (bind o failing))
  unfolding value_of is_some failing bind
  immediate_number None = refl
  immediate_number (Some r) = number r

registers : (o : Option ℕ) → register_fit o ≡ fit (is_some o) None
unfolding is_some
registers None = refl
registers (Some n) = refl

module _ (ls : Table) (a : ℕ) (s : Text) where
  pub as_i8 : read_fit (signed_immediate_of (immediate reading8 s)) ≡ fit_at ls a i8 s
  unfolding meets fault imm8
  as_i8 = immediate_number (immediate reading8 s)

  pub as_u16 : read_fit (immediate_of (immediate reading16 s)) ≡ fit_at ls a u16 s
  unfolding meets fault imm16
  as_u16 = immediate_number (immediate reading16 s)

  pub as_dn : register_fit (data_register s) ≡ fit_at ls a Dn s
  unfolding meets fault
  as_dn = registers (data_register s)

  pub as_an : register_fit (address_register s) ≡ fit_at ls a An s
  unfolding meets fault
  as_an = registers (address_register s)

  pub as_at_an : register_fit (indirect s) ≡ fit_at ls a AtAn s
  unfolding meets fault
  as_at_an = registers (indirect s)

-- ---- labels
module _ (ls : Table) where
  found : (l : Text) → label_fit (find l ls) ≡ fit (is_some (find l ls)) (fault_of (unless_found ls l))
  unfolding unless_found is_some
  found l = go (find l ls)
    where
      go : (o : Option ℕ) → label_fit o ≡ fit (is_some o) (fault_of (elim o [ None ↦ Some not_recorded | Some x ↦ None ]))
      go None = refl
      go (Some x) = refl

  pub as_label : (a : ℕ) (s : Text) → label_fit (find s ls) ≡ fit_at ls a label s
  unfolding meets fault
  as_label a s = found s

  pub as_hash : (a : ℕ) (s : Text) → hash_fit ls (after (35 ∷ []) s) ≡ fit_at ls a hash_label s
  unfolding meets fault bytes bind is_some
  as_hash a s = go (after (35 ∷ []) s)
    where
      go : (o : Option Text) → hash_fit ls o ≡ fit (is_some (bind o (λ l. find l ls))) (fault_of (bind o (unless_found ls)))
      go None = refl
      go (Some l) = found l

  -- JMP's number or label
  pub as_jump : (a : ℕ) (s : Text) → cond (is_some (hex_tail s) || all_digits s) (read_fit (Some (number_of (reading16 s)))) (label_fit (find s ls)) ≡ fit_at ls a jump_target s
  unfolding meets fault jumps number16
  as_jump a s = go (is_some (hex_tail s) || all_digits s)
    where
      go : (y : Bool) → cond y (read_fit (Some (number_of (reading16 s)))) (label_fit (find s ls))
          ≡ fit (cond y (is_some (value_of (reading16 s))) (is_some (find s ls))) (fault_of (cond y (failing (reading16 s)) (unless_found ls s)))
      go true = number (reading16 s)
      go false = found s

  -- ---- a branch's displacement: of a label in reach, else as written
  module _ (a : ℕ) (s : Text) where
    reached : reach_fit a (find s ls) ≡ fit (is_some (bind (find s ls) (λ x. reach x a))) (fault_of (unless_reached ls a s))
    unfolding unless_reached bind is_some
    reached = go (find s ls)
      where
        near : (o : Option ℤ) → near_fit o ≡ fit (is_some o) (fault_of (elim o [ None ↦ Some out_of_reach | Some z ↦ None ]))
        near None = refl
        near (Some z) = refl

        go : (o : Option ℕ) → reach_fit a o ≡ fit (is_some (bind o (λ x. reach x a))) (fault_of (elim o [ None ↦ Some not_recorded | Some x ↦ elim (reach x a) [ None ↦ Some out_of_reach | Some z ↦ None ] ]))
        go None = refl
        go (Some x) = near (reach x a)

    pub as_branch : cond (starts (43 ∷ []) s || starts (45 ∷ []) s) (signed_fit (reach_fit a (find s ls)).met (signed_of (signed_reading 10 128 s))) (reach_fit a (find s ls)) ≡ fit_at ls a branch_target s
    unfolding meets fault displacement written_signed written_reading bytes bind or_else value_of is_some failing
    as_branch = rw reached (go (starts (43 ∷ []) s || starts (45 ∷ []) s) (bind (find s ls) (λ x. reach x a)))
      where
        signed : (o : Option ℤ) (r : Reading ℤ) → signed_fit (is_some o) (signed_of r) ≡ fit (is_some (or_else o (value_of r))) (fault_of (failing r))
        signed None (read z) = refl
        signed None (failed no_digits) = refl
        signed None (failed bad_digit) = refl
        signed None (failed out_of_range) = refl
        signed (Some d) (read z) = refl
        signed (Some d) (failed no_digits) = refl
        signed (Some d) (failed bad_digit) = refl
        signed (Some d) (failed out_of_range) = refl

        unsigned : (o : Option ℤ) → is_some o ≡ is_some (or_else o None)
        unsigned None = refl
        unsigned (Some d) = refl

        go : (y : Bool) (o : Option ℤ)
            → cond y (signed_fit (is_some o) (signed_of (signed_reading 10 128 s))) (fit (is_some o) (fault_of (unless_reached ls a s)))
            ≡ fit (is_some (or_else o (bind (cond y (Some (signed_reading 10 128 s)) None) value_of))) (fault_of (elim (cond y (Some (signed_reading 10 128 s)) None) [ None ↦ unless_reached ls a s | Some r ↦ failing r ]))
        go true o = signed o (signed_reading 10 128 s)
        go false o = rw (← unsigned)
