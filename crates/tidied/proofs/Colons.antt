-- What the writers of a line that reaches step 4 write: around a colon, and where there is none. Assumes nothing.
use Rattle.std.specs.Prelude.{None, Some}
use mathlib.Core.Path.{◌≡◌, refl, sym, ap, ◌∙◌}
use mathlib.Core.Bool.{Bool, true, false, false≢true, cond}
use mathlib.Core.List.{[], ◌∷◌, ◌++◌, append_assoc}
use Prim.Native.Nat.{ℕ, suc, ◌+◌, ◌-◌, ◌≤◌, ◌<◌}
use native.Mathlib.Numerals.{add-one}
use native.Mathlib.Omega.{arith}
use lib.ListN.{length, take, drop, length-append, length-drop}
use lib.Seq.{length-take-le}
use Rattle.rules.specs.Text.{Text, trim}
use Rattle.rules.specs.Line.{is_data}
use Rattle.text.specs.Find.{index_of}
use Rattle.text.proofs.Find.{indexed, unindexed}
use Rattle.text.proofs.Trim.{trim_le}
use Rattle.listing.specs.declared.writer.Writer.{Writer}
use Rattle.listing.specs.Writer.{Adds}
use Rattle.requests.specs.Tidy.{squeezed, around_colon, tidy_rest}
use Rattle.tidylaws.proofs.Neat.{squeezed_trim}
use Rattle.tidylaws.proofs.Shapes.{around_none, around_some, rest_data, rest_code}
use Rattle.tidied.specs.Copy.{named, second_colon}

-- ---- the name x before the colon at c of s
pub name_short : (s : Text) (c : ℕ) {x : Text} → x ≡ trim (take c s) → c < length s → length x < length s
name_short s c e h = omega (arith, ap length e, trim_le (take c s), length-take-le c s (omega arith))

-- after it there is room for what follows
named_le : (s : Text) (c : ℕ) → c < length s → length (named (take c s)) ≤ c + 1
named_le s c h = rw (length-append (trim (take c s)) (58 ∷ [])) (omega (arith, trim_le (take c s), length-take-le c s (omega arith)))

pub rest_room : (s : Text) (c : ℕ) {w v : Writer} → Adds (named (take c s)) w v → c < length s → w.len + length s ≤ length w.out.now
    → (x : Text) → length x ≤ length s - (c + 1) → v.len + length x ≤ length v.out.now
rest_room s c a l h x k = omega (arith, a.len, a.room, named_le s c l)

pub drop_le : (s : Text) (c : ℕ) → length (drop (c + 1) s) ≤ length s - (c + 1)
drop_le s c = omega (arith, length-drop (c + 1) s)

pub trimmed_le : (s : Text) (c : ℕ) → length (trim (drop (c + 1) s)) ≤ length s - (c + 1)
trimmed_le s c = omega (arith, trim_le (drop (c + 1) s), length-drop (c + 1) s)

-- ---- a text without a colon; the texts around the first one
pub colon_within : (s : Text) (c : ℕ) → index_of 58 s ≡ Some c → c < length s
colon_within s c e = (indexed 58 s c e).within

module _ (f : Text → Text) (s : Text) where
  pub no_colon : index_of 58 s ≡ None → around_colon f s ≡ squeezed s
  no_colon e = around_none f s (unindexed 58 s e).cut

  pub at_colon : (c : ℕ) → index_of 58 s ≡ Some c → named (take c s) ++ f (trim (drop (c + 1) s)) ≡ around_colon f s
  at_colon c e = sym (rw (add-one c) (around_some f s (indexed 58 s c e).cut ∙ sym (append_assoc (trim (take c s)) (58 ∷ []) (f (trim (drop (suc c) s))))))

-- ---- the colon that is treated in what follows the first one
module _ (s : Text) where
  pub second_within : (c : ℕ) → second_colon s ≡ Some c → c < length s
  unfolding second_colon
  second_within c e = go (is_data s) e
    where
      go : (y : Bool) → cond y (index_of 58 s) None ≡ Some c → c < length s
      go true f = colon_within s c f
      go false f = absurd (false≢true cc)

  pub second_none : second_colon s ≡ None → squeezed s ≡ tidy_rest s
  unfolding second_colon
  second_none e = go (is_data s) refl e
    where
      go : (y : Bool) → is_data s ≡ y → cond y (index_of 58 s) None ≡ None → squeezed s ≡ tidy_rest s
      go true d f = sym (rest_data s d ∙ no_colon squeezed s f)
      go false d f = sym (rest_code s d)

  pub second_at : (c : ℕ) → second_colon s ≡ Some c → named (take c s) ++ squeezed (drop (c + 1) s) ≡ tidy_rest s
  unfolding second_colon
  second_at c e = go (is_data s) refl e
    where
      go : (y : Bool) → is_data s ≡ y → cond y (index_of 58 s) None ≡ Some c → named (take c s) ++ squeezed (drop (c + 1) s) ≡ tidy_rest s
      go true d f = sym (rest_data s d ∙ sym (at_colon squeezed s c f) ∙ rw (squeezed_trim (drop (c + 1) s)))
      go false d f = absurd (false≢true cc)
