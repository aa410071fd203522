-- What is judged may be done. Assumes nothing.
use Rattle.std.proofs.Common.{◌≡◌, ℕ, Bool, true, false, cond, List, refl, ap, arith}
use Rattle.machine.specs.Form.{Valid}
use Rattle.machine.specs.Decode.{decode_of}
use Rattle.machine.specs.Machine.{word_at, reached, reaches, judged_as, judge_of}
use Rattle.machine.proofs.Inverse.{sound}
use Rattle.machine.specs.declared.Form.{Form}
use Rattle.machine.specs.declared.Decoded.{Decoded}
use Rattle.machine.specs.declared.Decoded.TheVariants.{Is, Halt, Other}
use Rattle.machine.specs.declared.Judged.TheVariants.{Runs, Outside}

-- a form that a word decodes to has its numbers in range
pub in_range : (w : ℕ) (f : Form) → decode_of w ≡ Is f → Valid f
in_range w f e = (rw e at (sound w)).0

-- a step that is judged to run
judged_as_lem : (o : Decoded) (a : List ℕ) (pc : ℕ) (f : Form) → judged_as o a pc ≡ Runs f → (o ≡ Is f) × (reaches f a pc ≡ true)
unfolding judged_as
judged_as_lem (Is g) a pc f e = go (reaches g a pc) refl e
  where
    go : (x : Bool) → reaches g a pc ≡ x → cond x (Runs g) Outside ≡ Runs f → (Is g ≡ Is f) × (reaches f a pc ≡ true)
    go true r e = let q : g ≡ f = cc in (ap Is q, rw q at r)
    go false r e = let z : ◌≡◌ {A = ℕ} 0 1 = cc in absurd (omega arith)
judged_as_lem Halt a pc f e = let z : ◌≡◌ {A = ℕ} 0 1 = cc in absurd (omega arith)
judged_as_lem Other a pc f e = let z : ◌≡◌ {A = ℕ} 0 1 = cc in absurd (omega arith)

pub judged : (a mem : List ℕ) (pc : ℕ) (f : Form) → judge_of a mem pc ≡ Runs f → Valid f × (reaches f a pc ≡ true)
unfolding judge_of
judged a mem pc f e = go (reached pc 2) e
  where
    go : (x : Bool) → cond x (judged_as (decode_of (word_at mem pc)) a pc) Outside ≡ Runs f → Valid f × (reaches f a pc ≡ true)
    go true e = let j = judged_as_lem (decode_of (word_at mem pc)) a pc f e in (in_range (word_at mem pc) f j.0, j.1)
    go false e = let z : ◌≡◌ {A = ℕ} 0 1 = cc in absurd (omega arith)
