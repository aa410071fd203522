-- 14 and 15 come exactly by their conditions, and an instruction has words or one of them. Assumes nothing.
use Rattle.std.specs.Prelude.{Option, None, Some}
use Rattle.rules.specs.Option.{bind}
use Prim.Native.Nat.{ℕ}
use mathlib.Core.Path.{◌≡◌, refl, sym, ◌∙◌}
use mathlib.Core.Bool.{Bool, cond}
use mathlib.Core.List.{List, [], ◌∷◌, map}
use native.Mathlib.Omega.{arith}
use lib.IntN.{ℤ}
use Rattle.rules.specs.Text.{Text, bytes, same}
use Rattle.rules.specs.Line.{Instruction as Said}
use Rattle.rules.specs.Label.{Table, find}
use Rattle.rules.specs.Encode.{Content, literal, is_some, two, one}
use Rattle.rules.proofs.Readings.{All}
use Rattle.manual.specs.Manual.{Instruction, manual_words}
use Rattle.requests.specs.ManualCall.{branch as branches, loop as loops, Branching, branched, Form, said, labelled, displaced, heads, same_suffix, head_in, form_of, form, displacements, fits, first_that, with_address, form_contents, range_fault, form_fault, manual_encode, manual_fault}
use Rattle.promises.specs.ManualWritten.{WrittenHere}
use Rattle.promises.specs.ManualFaults.{Gives, Outside, OutOfRange, branch, loop, NoEncoding, FaultsExactly, Outcome, emits, no_encoding, out_of_range, WordsOrFault}
use Rattle.promises.proofs.Compared.{clash}
use Rattle.promises.proofs.Decided.{decided_true, decided_false}
use Rattle.promises.proofs.ManualLaws.{data_register_lem}
use Rattle.promises.proofs.ManualOperands.{other_read, Range, in_range, Among, here, gives_among, among_gives, none_passes, passes_none, takes, taken}
use Rattle.promises.proofs.ManualWritten.{Leads, branch_to, loop_to, Written, form_written}
use Rattle.promises.proofs.ManualWords.{branch_head, line, Formed, as_said, as_label, as_taken, formed, leads_written}

-- two numbers of refusals are apart
apart : {X : Type 0} → ◌≡◌ {A = ℕ} 14 15 → X
apart e = absurd (let h : ◌≡◌ {A = ℕ} 14 15 = e in omega arith)

-- ---- displacements
in_range_none : (f : ℤ → Bool) (ds : List ℤ) (d : ℤ) → first_that f ds ≡ Some d → range_fault f ds ≡ None
unfolding range_fault first_that is_some
in_range_none f [] d e = clash cc
in_range_none f (x ∷ ds) d e = rw e

module _ (ls : Table) (a : ℕ) (g : Branching) (s : Text) where
  abbrev ds : List ℤ
  ds = displacements ls a s

  -- none in range, where one is given
  outside_15 : Outside ls a (Range g) s → range_fault (fits g) ds ≡ Some 15
  unfolding range_fault is_some
  outside_15 o = go ds (gives_among o.given) (passes_none (fits g) ds (λ e k. decided_false (in_range g e) (o.outside e (among_gives ls a s e k))))
    where
      go : (xs : List ℤ) → Among o.displacement xs → first_that (fits g) xs ≡ None → range_fault (fits g) xs ≡ Some 15
      go (x ∷ xs) k e = rw e
      go [] k e = elim k [ ]

  none_outside : (x : ℤ) (xs : List ℤ) → ds ≡ x ∷ xs → first_that (fits g) ds ≡ None → Outside ls a (Range g) s
  none_outside x xs e f =
      record {
        displacement = x;
        given = among_gives ls a s x (rw e (here refl));
        outside = λ d k r. let h = none_passes (fits g) ds f d (gives_among k) in let v = decided_true (in_range g d) r in clash cc;
      }

  -- what the fault of displacements says: one is in range, there is none, or none is in range
  data Ranged : Option ℕ → Type 0 where
    one_taken : (d : ℤ) → first_that (fits g) ds ≡ Some d → Ranged None
    none_given : ((d : ℤ) → ¬ Gives ls a s d) → Ranged (Some 14)
    all_outside : Outside ls a (Range g) s → Ranged (Some 15)

  ranged : Ranged (range_fault (fits g) ds)
  unfolding range_fault is_some
  ranged = go ds refl (first_that (fits g) ds) refl
    where
      none_in : (d : ℤ) → ¬ Among d []
      none_in d k = elim k [ ]

      go : (xs : List ℤ) → ds ≡ xs → (o : Option ℤ) → first_that (fits g) ds ≡ o → Ranged (range_fault (fits g) ds)
      go [] e o f = rw e (none_given (λ d k. none_in d (rw e at (gives_among k))))
      go (x ∷ xs) e None f = rw (outside_15 (none_outside x xs e f)) (all_outside (none_outside x xs e f))
      go (x ∷ xs) e (Some d) f = rw (in_range_none (fits g) ds d f) (one_taken d f)

-- ---- a form's fault
leads_out : {ls : Table} {a : ℕ} {m : Text} {f : Option Text} {ps : List Text} {g : Branching} {s : Text} → Leads m f ps g s → Outside ls a (Range g) s → OutOfRange ls a m f ps
leads_out (branch_to c o) k = branch c o k
leads_out (loop_to h o) k = loop h o k

-- what is written as a form has none
no_fault : {ls : Table} {a : ℕ} {i : Said} {ins : Instruction} {ms : List ℕ} → Formed ls a i ins ms → manual_fault ls a i ≡ None
unfolding manual_fault form_fault is_some
no_fault (as_said e k) = rw e
no_fault (as_label e k) = rw (e, form_fault, k)
no_fault {ls} {a} (as_taken {g} {s} {d} e k w) = rw (e, form_fault) (in_range_none (fits g) (displacements ls a s) d (taken ls a g s d k))

-- what is out of range has 15
has_15 : {ls : Table} {a : ℕ} {m : Text} {f : Option Text} {ps : List Text} → OutOfRange ls a m f ps → manual_fault ls a (line m f ps) ≡ Some 15
unfolding manual_fault form head_in heads same same_suffix bytes bind form_of two one form_fault
has_15 {ls} {a} (branch c {s} o k) = rw (branch_head c, other_read s o) (outside_15 ls a (branches c) s k)
has_15 {ls} {a} (loop {s} {n} h o k) = rw (data_register_lem n h, other_read s o) (outside_15 ls a (loops n) s k)

module _ (ls : Table) (a : ℕ) (i : Said) where
  abbrev Has : Form → Type 0
  Has = Written i.mnemonic i.suffix i.operands

  -- which fault it is, by the form
  data Judged : Option ℕ → Type 0 where
    fine : (ins : Instruction) (ms : List ℕ) → WrittenHere ls a i.mnemonic i.suffix i.operands ins ms → Judged None
    unencoded : Judged (Some 14)
    far : OutOfRange ls a i.mnemonic i.suffix i.operands → Judged (Some 15)

  judged_form : (o : Option Form) → All Has o → Judged (form_fault ls a o)
  unfolding form_fault is_some
  judged_form None w = unencoded
  judged_form (Some (said ins)) w = fine ins _ (w ls a)
  judged_form (Some (labelled g l)) w = go (find l ls) refl
    where
      go : (o : Option ℕ) → find l ls ≡ o → Judged (cond (is_some o) None (Some 14))
      go None e = unencoded
      go (Some x) e = fine _ _ (w ls a x e)
  judged_form (Some (displaced g s)) w = go (ranged ls a g s)
    where
      go : {o : Option ℕ} → Ranged ls a g s o → Judged o
      go (one_taken d e) = fine _ _ (leads_written w ls a d (takes ls a g s d e))
      go (none_given n) = unencoded
      go (all_outside k) = far (leads_out w k)

  judged : Judged (manual_fault ls a i)
  unfolding manual_fault
  judged = judged_form (form i) (form_written i)

  to_14 : manual_fault ls a i ≡ Some 14 → NoEncoding ls a i
  to_14 e =
      record {
        unwritten = λ ins ms w. let c = sym e ∙ no_fault (formed w) in clash cc;
        in_range = λ o. let c = sym e ∙ has_15 o in apart cc;
      }

  from_14 : NoEncoding ls a i → manual_fault ls a i ≡ Some 14
  from_14 n = go judged
    where
      go : {o : Option ℕ} → Judged o → o ≡ Some 14
      go (fine ins ms w) = absurd (n.unwritten ins ms w)
      go unencoded = refl
      go (far k) = absurd (n.in_range k)

  to_15 : manual_fault ls a i ≡ Some 15 → OutOfRange ls a i.mnemonic i.suffix i.operands
  to_15 e = go judged e
    where
      go : {o : Option ℕ} → Judged o → o ≡ Some 15 → OutOfRange ls a i.mnemonic i.suffix i.operands
      go (fine ins ms w) k = clash cc
      go unencoded k = apart cc
      go (far o) k = o

pub faults_exactly : FaultsExactly
faults_exactly = record { fourteen = λ ls a i. (to_14 ls a i, from_14 ls a i); fifteen = λ ls a i. (to_15 ls a i, has_15) }

-- ---- words or a fault
by_label : (k : ℕ → List Content) (o : Option ℕ) → Outcome (bind o λ x. Some (k x)) (cond (is_some o) None (Some 14))
unfolding bind is_some
by_label k None = no_encoding
by_label k (Some x) = emits

by_range : (k : ℤ → List Content) (o : Option ℤ) → Outcome (bind o λ d. Some (k d)) (cond (is_some o) None (Some 15))
unfolding bind is_some
by_range k None = out_of_range
by_range k (Some d) = emits

by_displacement : (k : ℤ → List Content) (f : ℤ → Bool) (xs : List ℤ) → Outcome (bind (first_that f xs) λ d. Some (k d)) (range_fault f xs)
unfolding bind first_that range_fault
by_displacement k f [] = no_encoding
by_displacement k f (x ∷ xs) = by_range k (first_that f (x ∷ xs))

form_outcome : (ls : Table) (a : ℕ) (o : Option Form) → Outcome (bind o (form_contents ls a)) (form_fault ls a o)
unfolding bind form_contents form_fault
form_outcome ls a None = no_encoding
form_outcome ls a (Some (said i)) = emits
form_outcome ls a (Some (labelled g l)) = by_label (with_address g) (find l ls)
form_outcome ls a (Some (displaced g s)) = by_displacement (λ d. map literal (manual_words (branched g d))) (fits g) (displacements ls a s)

pub words_or_fault : WordsOrFault
unfolding WordsOrFault manual_encode manual_fault
words_or_fault ls a i = form_outcome ls a (form i)
