-- What a form comes to: words as they stand, a label's address, a displacement. Assumes nothing.
use Rattle.std.specs.Prelude.{Option, None, Some, Result, Ok, Err}
use Rattle.std.proofs.Common.{Bor}
use Rattle.rules.specs.Option.{bind}
use Prim.Native.Nat.{ℕ, zero, suc, ◌+◌, ◌*◌, ◌%◌, ◌<◌}
use mathlib.Core.Path.{◌≡◌, refl, sym, ap, ◌∙◌}
use mathlib.Core.Bool.{Bool, true, false, false≢true}
use mathlib.Core.List.{List, [], ◌∷◌}
use native.Mathlib.Omega.{arith}
use lib.IntN.{ℤ, pos, negsuc}
use borrow.Author.Tests.{lt-ltb, ltb-true}
use Rattle.rules.specs.Text.{Text}
use Rattle.rules.specs.Label.{Table, find}
use Rattle.rules.specs.Encode.{literal, is_some}
use Rattle.manual.specs.Manual.{Condition, T, byte, sixteen_bits, displacement_word, extension, extensions, halves, Bcc, DBRA, operation_word, manual_words}
use Rattle.manual.proofs.OperationWords.{operation_words}
use Rattle.requests.specs.ManualCall.{Form, said, labelled, displaced, Addressing, load, store, point, jump, addressed, branch, loop, branched, as_if_there, form_size, first_that, fits, displacements, range_fault, with_address, form_contents, form_fault}
use Rattle.encode_manual.specs.Code.{fault_size, fault_number, Codes}
use Rattle.encode_manual.specs.Form.{Says, size_of}
use Rattle.encode_manual.specs.Displacement.{branching_in, reached, displacement_in, unfit_fault}
use Rattle.encode_manual.specs.declared.displacement.Room.TheVariants.{Byte, Word as AWord}
use Rattle.encode_manual.specs.declared.displacement.Unfit.{Unfit}
use Rattle.encode_manual.specs.declared.displacement.Unfit.TheVariants.{Outside, Nothing}
use Rattle.encode_manual.specs.declared.form.Form.{Form as Read}
use Rattle.encode_manual.specs.declared.form.Form.TheVariants as F
use Rattle.encode_manual.specs.declared.Fault.TheVariants.{NoEncoding}
use Rattle.encode_manual.specs.declared.ManualCode.TheVariants.{Word, Value, Long, Address}
use Rattle.encode_manual.proofs.HeadsFound.{condition_small}

-- ---- the first displacement that fits, and what there is without one
module _ (f : ℤ → Bool) where
  first_fits : (ds : List ℤ) (z : ℤ) → first_that f ds ≡ Some z → f z ≡ true
  unfolding first_that
  first_fits [] z e = cc
  first_fits (d ∷ ds) z e = go (f d) refl (λ k. first_fits ds z k)
    where
      go : (y : Bool) → f d ≡ y → (first_that f ds ≡ Some z → f z ≡ true) → f z ≡ true
      go true q r = let c = rw (first_that, q) at e in let k : d ≡ z = cc in rw (← k) q
      go false q r = r (rw (first_that, q) at e)

  record Fitting (ds : List ℤ) (w : ℕ) : Type 0 where
    value : ℤ
    first : first_that f ds ≡ Some value
    fits : f value ≡ true
    bits : w ≡ sixteen_bits value
    faultless : range_fault f ds ≡ None

  module _ (ds : List ℤ) {x : Result ℕ Unfit} (e : x ≡ displacement_in f ds) where
    fitting : {w : ℕ} → x ≡ Ok w → Fitting ds w
    unfolding range_fault is_some
    fitting {w} h = go ds (sym e ∙ h)
      where
        each : (d : ℤ) (es : List ℤ) (o : Option ℤ) → first_that f (d ∷ es) ≡ o → reached o ≡ Ok w → Fitting (d ∷ es) w
        each d es None q p = cc
        each d es (Some z) q p = record { value = z; first = q; fits = first_fits (d ∷ es) z q; bits = let c = p in cc; faultless = rw q }

        go : (es : List ℤ) → displacement_in f es ≡ Ok w → Fitting es w
        go [] p = cc
        go (d ∷ es) p = each d es (first_that f (d ∷ es)) refl p

    unfitting : (n : ℕ) {u : Unfit} → x ≡ Err u → (range_fault f ds ≡ Some (fault_number (unfit_fault n u))) × (first_that f ds ≡ None)
    unfolding range_fault is_some first_that
    unfitting n {u} h = go ds (sym e ∙ h)
      where
        each : (d : ℤ) (es : List ℤ) (o : Option ℤ) → first_that f (d ∷ es) ≡ o → reached o ≡ Err u → (range_fault f (d ∷ es) ≡ Some (fault_number (unfit_fault n u))) × (first_that f (d ∷ es) ≡ None)
        each d es None q p = let k : Outside ≡ u = cc in rw (← k) (rw q, q)
        each d es (Some z) q p = cc

        go : (es : List ℤ) → displacement_in f es ≡ Err u → (range_fault f es ≡ Some (fault_number (unfit_fault n u))) × (first_that f es ≡ None)
        go [] p = let k : Nothing ≡ u = cc in rw (← k) (refl, refl)
        go (d ∷ es) p = each d es (first_that f (d ∷ es)) refl p

-- ---- what fits: which branch it is, and which register, does not matter
fits_branch : (c : Condition) (z : ℤ) → fits (branch T) z ≡ fits (branch c) z
unfolding fits
fits_branch c (pos n) = refl
fits_branch c (negsuc n) = refl

fits_loop : (n : ℕ) (z : ℤ) → fits (loop 0) z ≡ fits (loop n) z
unfolding fits
fits_loop n (pos k) = refl
fits_loop n (negsuc k) = refl

any_branch : (c : Condition) (ds : List ℤ) {x : Result ℕ Unfit} → x ≡ displacement_in (fits (branch T)) ds → x ≡ displacement_in (fits (branch c)) ds
any_branch c ds e = e ∙ ap (λ (f : ℤ → Bool). displacement_in f ds) (λ k z. fits_branch c z k)

any_loop : (n : ℕ) (ds : List ℤ) {x : Result ℕ Unfit} → x ≡ displacement_in (fits (loop 0)) ds → x ≡ displacement_in (fits (loop n)) ds
any_loop n ds e = e ∙ ap (λ (f : ℤ → Bool). displacement_in f ds) (λ k z. fits_loop n z k)

byte_in : (c : Condition) (z : ℤ) → fits (branch c) z ≡ true → byte z ≡ sixteen_bits z % 256
unfolding fits byte sixteen_bits
byte_in c (pos zero) h = absurd (false≢true h)
byte_in c (pos (suc n)) h = let l = ltb-true (suc n) 128 (rw (lt-ltb 0 (suc n) (omega arith)) at h) in omega arith
byte_in c (negsuc zero) h = absurd (false≢true h)
byte_in c (negsuc (suc n)) h = let l = ltb-true (suc n) 128 (rw (lt-ltb 0 (suc n) (omega arith)) at h) in omega arith

no_word_after : (c : Condition) (z : ℤ) → fits (branch c) z ≡ true → displacement_word z ≡ []
unfolding fits displacement_word
no_word_after c (pos zero) h = absurd (false≢true h)
no_word_after c (pos (suc n)) h = refl
no_word_after c (negsuc zero) h = absurd (false≢true h)
no_word_after c (negsuc (suc n)) h = refl

pair_words : {v w x y : ℕ} → v ≡ x → w ≡ y → literal v ∷ literal w ∷ [] ≡ literal x ∷ literal y ∷ []
pair_words e f = rw (e, f)

-- ---- sizes: six bytes with a label's address, two with a displacement in the word, four with it after the word
six : (g : Addressing) (l : Text) → 6 ≡ form_size (Some (labelled g l))
unfolding form_size as_if_there addressed manual_words extensions extension halves
six (load n) l = refl
six (store n) l = refl
six (point n) l = refl
six jump l = refl

two : (c : Condition) (s : Text) → 2 ≡ form_size (Some (displaced (branch c) s))
unfolding form_size as_if_there branched manual_words extensions displacement_word
two c s = refl

four : (n : ℕ) (s : Text) → 4 ≡ form_size (Some (displaced (loop n) s))
unfolding form_size as_if_there branched manual_words extensions
four n s = refl

fault_takes : (n : ℕ) (u : Unfit) → fault_size (unfit_fault n u) ≡ n
fault_takes n Outside = refl
fault_takes n Nothing = refl

-- ---- what a form comes to, by what the code reads
module _ (ls : Table) (a : ℕ) where
  pub no_form : Codes ls a None (Err (NoEncoding 0))
  unfolding form_size form_fault bind
  no_form = record { sized = refl; fault = refl; words = refl }

  pub a_word : (g : Form) {w : ℕ} → Says g (F.Word w) → Codes ls a (Some g) (Ok (Word w))
  unfolding form_size as_if_there form_fault form_contents bind
  a_word (said i) e = record { sized = rw e; fault = refl; words = rw e }
  a_word (labelled g l) e = absurd e
  a_word (displaced (branch c) s) e = absurd e
  a_word (displaced (loop n) s) e = absurd e

  pub a_value : (g : Form) {w v : ℕ} → Says g (F.Value w v) → Codes ls a (Some g) (Ok (Value w v))
  unfolding form_size as_if_there form_fault form_contents bind
  a_value (said i) e = record { sized = rw e; fault = refl; words = rw e }
  a_value (labelled g l) e = absurd e
  a_value (displaced (branch c) s) e = absurd e
  a_value (displaced (loop n) s) e = absurd e

  pub a_long : (g : Form) {w v : ℕ} → Says g (F.Long w v) → Codes ls a (Some g) (Ok (Long w v))
  unfolding form_size as_if_there form_fault form_contents bind
  a_long (said i) e = record { sized = rw e; fault = refl; words = rw e }
  a_long (labelled g l) e = absurd e
  a_long (displaced (branch c) s) e = absurd e
  a_long (displaced (loop n) s) e = absurd e

  module _ (t : Bor Text) where
    module _ (w : ℕ) {o : Option ℕ} (e : o ≡ find t.now ls) where
      pub no_label : (g : Form) → Says g (F.Labelled w t) → o ≡ None → Codes ls a (Some g) (Err (NoEncoding 6))
      unfolding form_fault form_contents is_some bind
      no_label (said i) h k = absurd h
      no_label (labelled g l) h k = let q : find l ls ≡ None = rw h.1 (sym e ∙ k) in record { sized = six g l; fault = rw q; words = rw q }
      no_label (displaced (branch c) s) h k = absurd h
      no_label (displaced (loop n) s) h k = absurd h

      pub a_label : (g : Form) → Says g (F.Labelled w t) → {x : ℕ} → o ≡ Some x → Codes ls a (Some g) (Ok (Address w x))
      unfolding form_fault form_contents with_address is_some bind
      a_label (said i) h k = absurd h
      a_label (labelled g l) h {x} k = let q : find l ls ≡ Some x = rw h.1 (sym e ∙ k) in record { sized = six g l; fault = rw q; words = rw (q, h.0 x) }
      a_label (displaced (branch c) s) h k = absurd h
      a_label (displaced (loop n) s) h k = absurd h

    module _ (k : ℕ) {x : Result ℕ Unfit} (e : x ≡ displacement_in (fits (branching_in Byte)) (displacements ls a t.now)) where
      pub a_branch : (g : Form) → Says g (F.Branch k t) → {d v : ℕ} → x ≡ Ok d → v ≡ 0x6000 + 256 * k + d % 256 → Codes ls a (Some g) (Ok (Word v))
      unfolding form_fault form_contents bind branched manual_words extensions
      a_branch (said i) h p q = absurd h
      a_branch (labelled g l) h p q = absurd h
      a_branch (displaced (branch c) s) h {d} {v} p q =
          let f = fitting (fits (branch c)) (displacements ls a s) (any_branch c (displacements ls a s) (rw (← h.1) at e)) p in
          let z = f.value in
          let o : v ≡ operation_word (Bcc c z) = rw (operation_words.branch c z, byte_in c z f.fits, ← f.bits, ← h.0) q in
          record { sized = two c s; fault = sym f.faultless; words = rw (f.first, no_word_after c z f.fits, o) }
      a_branch (displaced (loop n) s) h p q = absurd h

      pub no_branch : (g : Form) → Says g (F.Branch k t) → {u : Unfit} → x ≡ Err u → Codes ls a (Some g) (Err (unfit_fault 2 u))
      unfolding form_fault form_contents bind
      no_branch (said i) h p = absurd h
      no_branch (labelled g l) h p = absurd h
      no_branch (displaced (branch c) s) h {u} p =
          let f = unfitting (fits (branch c)) (displacements ls a s) (any_branch c (displacements ls a s) (rw (← h.1) at e)) 2 p in
          record { sized = fault_takes 2 u ∙ two c s; fault = sym f.0; words = rw f.1 }
      no_branch (displaced (loop n) s) h p = absurd h

    module _ (w : ℕ) {x : Result ℕ Unfit} (e : x ≡ displacement_in (fits (branching_in AWord)) (displacements ls a t.now)) where
      pub a_loop : (g : Form) → Says g (F.Loop w t) → {d : ℕ} → x ≡ Ok d → Codes ls a (Some g) (Ok (Value w d))
      unfolding form_fault form_contents bind branched manual_words extensions
      a_loop (said i) h p = absurd h
      a_loop (labelled g l) h p = absurd h
      a_loop (displaced (branch c) s) h p = absurd h
      a_loop (displaced (loop n) s) h {d} p =
          let f = fitting (fits (loop n)) (displacements ls a s) (any_loop n (displacements ls a s) (rw (← h.1) at e)) p in
          let z = f.value in
          let o : w ≡ operation_word (DBRA n z) = h.0 ∙ sym (operation_words.dbra n z) in
          record { sized = four n s; fault = sym f.faultless; words = rw f.first (pair_words o f.bits) }

      pub no_loop : (g : Form) → Says g (F.Loop w t) → {u : Unfit} → x ≡ Err u → Codes ls a (Some g) (Err (unfit_fault 4 u))
      unfolding form_fault form_contents bind
      no_loop (said i) h p = absurd h
      no_loop (labelled g l) h p = absurd h
      no_loop (displaced (branch c) s) h p = absurd h
      no_loop (displaced (loop n) s) h {u} p =
          let f = unfitting (fits (loop n)) (displacements ls a s) (any_loop n (displacements ls a s) (rw (← h.1) at e)) 4 p in
          record { sized = fault_takes 4 u ∙ four n s; fault = sym f.0; words = rw f.1 }

-- a branch's condition
pub branch_small : (k : ℕ) (t : Bor Text) (g : Form) → Says g (F.Branch k t) → k < 16
branch_small k t (said i) h = absurd h
branch_small k t (labelled g l) h = absurd h
branch_small k t (displaced (branch c) s) h = rw h.0 (condition_small c)
branch_small k t (displaced (loop n) s) h = absurd h

-- how many bytes a form takes
pub size_said : (g : Form) (f : Read) → Says g f → size_of f ≡ form_size (Some g)
unfolding form_size as_if_there
size_said (said i) (F.Word w) e = rw e
size_said (said i) (F.Value w v) e = rw e
size_said (said i) (F.Long w v) e = rw e
size_said (said i) (F.Labelled w t) e = absurd e
size_said (said i) (F.Branch k t) e = absurd e
size_said (said i) (F.Loop w t) e = absurd e
size_said (labelled g l) (F.Labelled w t) e = six g l
size_said (labelled g l) (F.Word w) e = absurd e
size_said (labelled g l) (F.Value w v) e = absurd e
size_said (labelled g l) (F.Long w v) e = absurd e
size_said (labelled g l) (F.Branch k t) e = absurd e
size_said (labelled g l) (F.Loop w t) e = absurd e
size_said (displaced (branch c) s) (F.Branch k t) e = two c s
size_said (displaced (branch c) s) (F.Word w) e = absurd e
size_said (displaced (branch c) s) (F.Value w v) e = absurd e
size_said (displaced (branch c) s) (F.Long w v) e = absurd e
size_said (displaced (branch c) s) (F.Labelled w t) e = absurd e
size_said (displaced (branch c) s) (F.Loop w t) e = absurd e
size_said (displaced (loop n) s) (F.Loop w t) e = four n s
size_said (displaced (loop n) s) (F.Word w) e = absurd e
size_said (displaced (loop n) s) (F.Value w v) e = absurd e
size_said (displaced (loop n) s) (F.Long w v) e = absurd e
size_said (displaced (loop n) s) (F.Labelled w t) e = absurd e
size_said (displaced (loop n) s) (F.Branch k t) e = absurd e
