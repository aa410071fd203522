-- Moving is assembling, for the manual's call: its lists are those of a lawful pair, and its faults are the same at every base. Assumes nothing.
use Rattle.std.specs.Prelude.{Option, None, Some}
use Prim.Native.Nat.{ℕ, suc, ◌+◌}
use mathlib.Core.Path.{◌≡◌, refl, sym, ap, ◌∙◌}
use mathlib.Core.List.{List, [], ◌∷◌, map}
use native.Mathlib.Nat.{add-zero}
use native.Mathlib.Omega.{arith}
use lib.IntN.{pos}
use Rattle.rules.specs.Text.{Text}
use Rattle.rules.specs.Line.{lines_of, Task, skipped, end, org, no_org, label_only, instruction, value, space}
use Rattle.rules.specs.Label.{Table}
use Rattle.rules.specs.Answer.{Answer, accepted, refused, and_then}
use Rattle.rules.specs.Assemble.{Put, Pass, Place, first_pass_by, second_pass_by, encoded, pass_at_by, assemble_by}
use Rattle.rules.specs.Tally.{tally_list}
use Rattle.requests.specs.ManualCall.{Form, said, labelled, displaced, form, form_fault, manual_size, manual_encode, manual_fault}
use Rattle.requests.specs.ManualAssemble.{task_fault, faultless, encoded_manual, assemble_manual}
use Rattle.promises.specs.Lawful.{shift_table, shift_put, shift_pass}
use Rattle.promises.specs.MovedLists.{LawfulMoves, MarksSayWhatMovesFor}
use Rattle.promises.specs.Pairs.{LawfulListsArePaired}
use Rattle.promises.specs.Longest.{AtMostALine}
use Rattle.promises.specs.ManualCall.{AtMostThree}
use Rattle.promises.specs.ManualMovedLists.{ManualMoves, ManualListsArePaired, FaultsAtEveryBase}
use Rattle.promises.proofs.Compared.{clash}
use Rattle.promises.proofs.Accepted.{not_refused, checks_passed}
use Rattle.promises.proofs.Shift.{find_shift, pass_shift}
use Rattle.promises.proofs.Words.{is_some_mapped}
use Rattle.promises.proofs.Places.{second_shift}
use Rattle.promises.proofs.MovedLists.{lawful_moves}
use Rattle.promises.proofs.Pairs.{lawful_lists_are_paired}
use Rattle.promises.proofs.Longest.{at_most_a_line}
use Rattle.promises.proofs.ManualCall.{displacements_shift, lawful}

-- ---- faults under a shift
form_fault_shift : (d : ℕ) (ls : Table) (a : ℕ) (o : Option Form) → form_fault (shift_table d ls) (d + a) o ≡ form_fault ls a o
unfolding form_fault
form_fault_shift d ls a None = refl
form_fault_shift d ls a (Some (said i)) = refl
form_fault_shift d ls a (Some (labelled g l)) = simp (find_shift, is_some_mapped)
form_fault_shift d ls a (Some (displaced g s)) = rw (displacements_shift d ls a s)

fault_shift : (d : ℕ) (ls : Table) (a : ℕ) (k : Task) → task_fault (shift_table d ls) (d + a) k ≡ task_fault ls a k
unfolding task_fault manual_fault
fault_shift d ls a skipped = refl
fault_shift d ls a end = refl
fault_shift d ls a (org v) = refl
fault_shift d ls a no_org = refl
fault_shift d ls a label_only = refl
fault_shift d ls a (instruction i) = form_fault_shift d ls a (form i)
fault_shift d ls a (value n v) = refl
fault_shift d ls a (space n) = refl

-- the first fault is the same, d higher
faultless_shift : (d : ℕ) (t : Table) (n : ℕ) (ps : List Put) (r : Answer (List Place)) → faultless (shift_table d t) n (map (shift_put d) ps) r ≡ faultless t n ps r
unfolding faultless shift_put
faultless_shift d t n [] r = refl
faultless_shift d t n (p ∷ ps) r = go (task_fault t p.address p.task) refl (faultless_shift d t (suc n) ps r)
  where
    go : (o : Option ℕ) → task_fault t p.address p.task ≡ o → faultless (shift_table d t) (suc n) (map (shift_put d) ps) r ≡ faultless t (suc n) ps r
        → faultless (shift_table d t) n (map (shift_put d) (p ∷ ps)) r ≡ faultless t n (p ∷ ps) r
    go None e ih = rw (fault_shift d t p.address p.task, e, faultless) ih
    go (Some f) e ih = rw (fault_shift d t p.address p.task, e, faultless)

-- without a fault what follows is there, whatever it is; and a fault does not look at it
pub data Faults (t : Table) (n : ℕ) (ps : List Put) : Type 0 where
  none_there : ((r : Answer (List Place)) → faultless t n ps r ≡ r) → Faults t n ps
  one_there : (f m : ℕ) → ((r : Answer (List Place)) → faultless t n ps r ≡ refused f m) → Faults t n ps

pub faults : (t : Table) (n : ℕ) (ps : List Put) → Faults t n ps
unfolding faultless
faults t n [] = none_there (λ r. refl)
faults t n (p ∷ ps) = go (task_fault t p.address p.task) refl (faults t (suc n) ps)
  where
    go : (o : Option ℕ) → task_fault t p.address p.task ≡ o → Faults t (suc n) ps → Faults t n (p ∷ ps)
    go None e (none_there h) = none_there (λ r. rw (e, faultless) (h r))
    go None e (one_there f m h) = one_there f m (λ r. rw (e, faultless) (h r))
    go (Some f) e ih = one_there f n (λ r. rw (e, faultless))

-- ---- an accepted list is that of the lawful pair
pub plain_pass : (p : Pass) (l : List Place) → encoded_manual p ≡ accepted l → (second_pass_by manual_encode p ≡ l) × ((r : Answer (List Place)) → faultless p.labels 1 p.puts r ≡ r)
unfolding encoded_manual
plain_pass p l h = go (faults p.labels 1 p.puts)
  where
    go : Faults p.labels 1 p.puts → (second_pass_by manual_encode p ≡ l) × ((r : Answer (List Place)) → faultless p.labels 1 p.puts r ≡ r)
    go (none_there k) = let e : accepted (second_pass_by manual_encode p) ≡ accepted l = sym (k (encoded manual_encode p)) ∙ h in (cc, k)
    go (one_there f m k) = let e : refused f m ≡ accepted l = sym (k (encoded manual_encode p)) ∙ h in clash cc

pub plain : (b : ℕ) (s : Text) (l : List Place) → assemble_manual b s ≡ accepted l → assemble_by manual_size manual_encode b s ≡ accepted l
unfolding assemble_manual assemble_by and_then
plain b s l h = go (pass_at_by manual_size b s) h
  where
    go : (m : Answer Pass) → and_then m encoded_manual ≡ accepted l → and_then m (encoded manual_encode) ≡ accepted l
    go (accepted p) k = ap accepted (plain_pass p l k).0
    go (refused n i) k = clash cc

-- marks, with labels and lines d higher
marks_say : MarksSayWhatMovesFor manual_size encoded_manual assemble_manual
unfolding assemble_manual and_then encoded_manual shift_pass
marks_say s b p l f g d =
    let h : encoded_manual p ≡ accepted l = rw f at g in
    let k = plain_pass p l h in
    faultless_shift d p.labels 1 p.puts (encoded manual_encode (shift_pass d p))
    ∙ k.1 (encoded manual_encode (shift_pass d p)) ∙ ap accepted (second_shift lawful d p ∙ ap (tally_list (pos d)) k.0)

pub manual_moves : ManualMoves
unfolding ManualMoves LawfulMoves
manual_moves =
    let m = lawful_moves manual_size manual_encode 3 lawful in
    record {
      moved = λ s b c lb lc eb ec. m.moved s b c lb lc (plain b s lb eb) (plain c s lc ec);
      differ = λ s b c lb lc eb ec. m.differ s b c lb lc (plain b s lb eb) (plain c s lc ec);
      marks = marks_say;
      follow = λ s b l e. m.follow s b l (plain b s l e);
      one = λ s b l e. m.one s b l (plain b s l e);
    }

pub manual_lists_are_paired : ManualListsArePaired
unfolding ManualListsArePaired LawfulListsArePaired
manual_lists_are_paired s b l e = lawful_lists_are_paired manual_size manual_encode 3 lawful s b l (plain b s l e)

pub at_most_three : AtMostThree
unfolding AtMostThree AtMostALine
at_most_three s b l e =
    let h = at_most_a_line manual_size manual_encode 3 lawful s b l (plain b s l e) in
    (h.0, omega (arith, h.0, h.1))

-- ---- 14 and 15 at every base
-- an accepted pass from base b is that from base 0, shifted
at_zero : (b : ℕ) (s : Text) (p : Pass) → pass_at_by manual_size b s ≡ accepted p
    → (q : Pass) × (first_pass_by manual_size 0 0 [] (lines_of s) ≡ accepted q) × (p ≡ shift_pass b q)
unfolding and_then pass_at_by
at_zero b s p h = go (first_pass_by manual_size 0 0 [] (lines_of s)) refl (pass_shift manual_size b p 0 [] (lines_of s) accepted (rw (add-zero b, passed)))
  where
    passed : first_pass_by manual_size b b [] (lines_of s) ≡ accepted p
    passed = (not_refused _ 4 0 _ p (checks_passed s _ p h).1).1

    go : (m : Answer Pass) → first_pass_by manual_size 0 0 [] (lines_of s) ≡ m → and_then m (λ q. accepted (shift_pass b q)) ≡ accepted p
        → (q : Pass) × (first_pass_by manual_size 0 0 [] (lines_of s) ≡ accepted q) × (p ≡ shift_pass b q)
    go (accepted q) e k = (q, e, cc)
    go (refused n i) e k = clash cc

-- a refusal of a pass is that of the pass shifted
refused_shift : (d : ℕ) (p : Pass) (n k : ℕ) → (encoded_manual (shift_pass d p) ≡ refused n k → encoded_manual p ≡ refused n k) × (encoded_manual p ≡ refused n k → encoded_manual (shift_pass d p) ≡ refused n k)
unfolding encoded_manual shift_pass
refused_shift d p n k = go (faults p.labels 1 p.puts)
  where
    shifted : (r : Answer (List Place)) → faultless (shift_table d p.labels) 1 (map (shift_put d) p.puts) r ≡ faultless p.labels 1 p.puts r
    shifted r = faultless_shift d p.labels 1 p.puts r

    here : Answer (List Place)
    here = encoded manual_encode p

    there : Answer (List Place)
    there = encoded manual_encode (shift_pass d p)

    go : Faults p.labels 1 p.puts
        → (faultless (shift_table d p.labels) 1 (map (shift_put d) p.puts) there ≡ refused n k → faultless p.labels 1 p.puts here ≡ refused n k)
        × (faultless p.labels 1 p.puts here ≡ refused n k → faultless (shift_table d p.labels) 1 (map (shift_put d) p.puts) there ≡ refused n k)
    go (none_there h) = (λ e. let c = sym (h there) ∙ sym (shifted there) ∙ e in clash cc, λ e. let c = sym (h here) ∙ e in clash cc)
    go (one_there f m h) = (λ e. h here ∙ sym (h there) ∙ sym (shifted there) ∙ e, λ e. shifted there ∙ h there ∙ sym (h here) ∙ e)

pub faults_at_every_base : FaultsAtEveryBase
unfolding FaultsAtEveryBase assemble_manual and_then
faults_at_every_base s b c p q hp hq n k h =
    let zb = at_zero b s p hp in
    let zc = at_zero c s q hq in
    let same : zb.0 ≡ zc.0 = cc in
    let e : encoded_manual p ≡ refused n k = rw hp at h in
    let f : encoded_manual zb.0 ≡ refused n k = (refused_shift b zb.0 n k).0 (rw zb.2 at e) in
    rw (hq, zc.2, ← same) ((refused_shift c zb.0 n k).1 f)
