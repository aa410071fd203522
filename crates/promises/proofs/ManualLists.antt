-- The manual's words on the list, of the stations' call and of the manual's: of each line that is read they stand there in their place. Assumes nothing.
use Rattle.std.specs.Prelude.{Option, None, Some}
use Rattle.std.proofs.lemmas.Option.{same_Some, none-some}
use Prim.Native.Nat.{ℕ, suc, ◌+◌, ◌%◌, ◌<◌}
use mathlib.Core.Path.{◌≡◌, refl, sym, ap, ◌∙◌}
use mathlib.Core.Logic.{◌≢◌}
use mathlib.Core.Bool.{Bool, true, false}
use mathlib.Core.List.{List, [], ◌∷◌, ◌++◌, flat_map, map, append_assoc}
use native.Mathlib.Omega.{arith}
use borrow.Author.Tests.{leb-false}
use lib.ListN.{take, drop}
use Rattle.rules.specs.Limits.{address_limit}
use Rattle.rules.specs.Text.{Text, same}
use Rattle.rules.specs.Line.{SourceLine, Name, lines_of, end, Instruction as Said, instruction, line_of, size}
use Rattle.rules.specs.Label.{Label, Table, find, recorded, has_room, label_of, record_all}
use Rattle.rules.specs.Encode.{Content, literal, address, long_address, encode}
use Rattle.rules.specs.Answer.{Answer, accepted, and_then}
use Rattle.rules.specs.Assemble.{Put, Pass, Sizes, Encoder, first_pass_by, putting, Place, place, places_at, data_places, code_contents_by, code_places, code_places_by, second_pass_by, pass_at_by, assemble_by, address_after}
use Rattle.manual.specs.Manual.{Instruction, manual_words}
use Rattle.requests.specs.ManualCall.{manual_size, manual_encode}
use Rattle.requests.specs.ManualAssemble.{task_fault, faultless, encoded_manual, assemble_manual}
use Rattle.promises.specs.Refusals.{IsLine, Reached}
use Rattle.promises.specs.ListedForms.{LineSays, marked_zero, words_before, words_after, ListHoldsTheManuals}
use Rattle.promises.specs.ManualWritten.{Addresses32, IsManual, WordsAreTheManuals}
use Rattle.promises.specs.ManualFaults.{Outcome, emits, no_encoding, out_of_range, WordsOrFault}
use Rattle.promises.specs.ManualLists.{marked, StandsThere, ListsAreManual}
use Rattle.promises.proofs.Compared.{clash}
use Rattle.promises.proofs.Accepted.{not_refused, checks_passed}
use Rattle.promises.proofs.Lists.{All, flat_map_append}
use Rattle.promises.proofs.Fit.{Holds, holds_then}
use Rattle.promises.proofs.Tasks.{pass_line}
use Rattle.promises.proofs.Asked.{put_at_lem}
use Rattle.promises.proofs.ManualLines.{encoded as encodes, zero_places}
use Rattle.promises.proofs.ManualWords.{words_are_the_manuals}
use Rattle.promises.proofs.ManualFaults.{words_or_fault}
use Rattle.promises.proofs.ManualMovedLists.{plain_pass}

-- ---- where a line's words stand, by any sizes and any encoder
module _ (z : Sizes) (e : Encoder) (base : ℕ) (s : Text) (p : Pass) (h : pass_at_by z base s ≡ accepted p) where
  passed : (first_pass_by z base base [] (lines_of s) ≡ accepted p) × (base < address_limit)
  unfolding pass_at_by
  passed =
      let k = not_refused _ 4 0 _ p (checks_passed s _ p h).1 in
      (k.1, leb-false address_limit base k.0)

  pub cut : {j a : ℕ} {ns : List Text} (l : Text) → Reached z base s j a ns → IsLine s j l → (line_of l).task ≢ end
      → second_pass_by e p ≡ words_before e p j ++ (code_places_by e p.labels (record { address = a; task = (line_of l).task }) ++ words_after e p j)
  unfolding second_pass_by words_before words_after flat_map
  cut {j} {a} l r i k =
      ap (λ (x : List Place). flat_map data_places p.puts ++ x)
      (ap (flat_map code) (put_at_lem z base s p passed.0 l r i k) ∙ flat_map_append code (take j p.puts) (_ ∷ drop (suc j) p.puts))
      ∙ sym (append_assoc (flat_map data_places p.puts) (flat_map code (take j p.puts)) _)
    where
      code : Put → List Place
      code = code_places_by e p.labels

-- ---- the stations' call
-- the words of a line of the manual
line_words : (ls : Table) (a : ℕ) (l : Text) (i : Instruction) → LineSays ls a l i → code_places ls (record { address = a; task = (line_of l).task }) ≡ marked_zero a (manual_words i)
unfolding code_places_by code_contents_by
line_words ls a l i r = rw (r.read, encodes r.written, zero_places a (manual_words i))

pub list_holds_the_manuals : ListHoldsTheManuals
unfolding ListHoldsTheManuals assemble_by and_then
list_holds_the_manuals base s p h j a ns l r e i m =
    rw h (ap accepted (cut size encode base s p h l r e (λ k. let u = m.read in clash cc) ∙ rw (line_words p.labels a l i m)))

-- ---- the manual's call
-- every label lies below the limit
abbrev Low : Label → Type 0
Low l = l.address < address_limit

find_low : (t : Table) → All Low t → (n : Text) (x : ℕ) → find n t ≡ Some x → x < address_limit
unfolding find
find_low [] h n x e = absurd (none-some x e)
find_low (l ∷ t) h n x e = go (same n l.name) refl (find_low t h.1 n x)
  where
    go : (y : Bool) → same n l.name ≡ y → (find n t ≡ Some x → x < address_limit) → x < address_limit
    go true f ih = let c = same_Some l.address x (rw (f, find) at e) in rw (← c) h.0
    go false f ih = ih (rw (f, find) at e)

recorded_low : (x : Label) (t : Table) → Low x → All Low t → All Low (recorded x t)
unfolding recorded
recorded_low x [] k h = (k, tt)
recorded_low x (l ∷ t) k h = go (same x.name l.name) (recorded_low x t k h.1)
  where
    go : (y : Bool) → All Low (recorded x t) → All Low (elim y [ true ↦ x ∷ t | false ↦ l ∷ recorded x t ])
    go true ih = (k, h.1)
    go false ih = (h.0, ih)

all_low : (l : SourceLine) (a : ℕ) (ns : List Name) (t : Table) → a < address_limit → All Low t → (r : Table) → record_all l a ns t ≡ Some r → All Low r
unfolding record_all
all_low l a [] t k h r e = rw (← same_Some t r e) h
all_low l a (n ∷ ns) t k h r e = go (has_room (find n.text t) t) refl (all_low l a ns (recorded (label_of l a n) t) k (recorded_low (label_of l a n) t k h) r)
  where
    go : (y : Bool) → has_room (find n.text t) t ≡ y → (record_all l a ns (recorded (label_of l a n) t) ≡ Some r → All Low r) → All Low r
    go true f ih = ih (rw (f, record_all) at e)
    go false f ih = absurd (none-some r (rw (f, record_all) at e))

abbrev LowPass : Pass → Type 0
LowPass p = All Low p.labels

pass_low : (z : Sizes) (base a : ℕ) (t : Table) (ls : List SourceLine) → a < address_limit → All Low t → Holds LowPass (first_pass_by z base a t ls)
unfolding first_pass_by putting
pass_low z base a t [] k h = h
pass_low z base a t (l ∷ ls) k h =
    pass_line z base a t l ls (Holds LowPass) (λ e. h) (λ e o. tt) (λ t' e o v. tt)
    (λ t' e o v. holds_then LowPass LowPass (first_pass_by z base _ t' ls) (putting a (line_of l.text).task)
    (pass_low z base (address_after z base a (line_of l.text).task) t' ls v (all_low l a (line_of l.text).names t k h t' o)) (λ p q. q))

low_addresses : (z : Sizes) (base : ℕ) (s : Text) (p : Pass) → pass_at_by z base s ≡ accepted p → Addresses32 p.labels
low_addresses z base s p h l x e =
    let k = passed z manual_encode base s p h in
    let low : LowPass p = rw k.0 at (pass_low z base base [] (lines_of s) k.1 tt) in
    omega (arith, find_low p.labels low l x e)

-- in an accepted source no line has a fault
no_fault_at : (t : Table) (n : ℕ) (ps : List Put) (k : Put) (qs ks : List Put) → ps ≡ qs ++ (k ∷ ks)
    → ((r : Answer (List Place)) → faultless t n ps r ≡ r) → task_fault t k.address k.task ≡ None
unfolding faultless
no_fault_at t n ps k [] ks e h = go (task_fault t k.address k.task) refl
  where
    go : (o : Option ℕ) → task_fault t k.address k.task ≡ o → task_fault t k.address k.task ≡ None
    go None f = f
    go (Some m) f = let u = rw (e, f, faultless) at (h (accepted [])) in clash cc
no_fault_at t n ps k (q ∷ qs) ks e h = go (task_fault t q.address q.task) refl (no_fault_at t (suc n) (qs ++ (k ∷ ks)) k qs ks refl)
  where
    go : (o : Option ℕ) → task_fault t q.address q.task ≡ o
        → (((r : Answer (List Place)) → faultless t (suc n) (qs ++ (k ∷ ks)) r ≡ r) → task_fault t k.address k.task ≡ None) → task_fault t k.address k.task ≡ None
    go None f ih = ih (λ r. rw (e, f, faultless) at (h r))
    go (Some m) f ih = let u = rw (e, f, faultless) at (h (accepted [])) in clash cc

-- so an instruction has its words
has_words : {o : Option (List Content)} {f : Option ℕ} → Outcome o f → f ≡ None → (cs : List Content) × (o ≡ Some cs)
has_words (emits {cs}) e = (cs, refl)
has_words no_encoding e = clash cc
has_words out_of_range e = clash cc

pub line_encoded : (base : ℕ) (s : Text) (p : Pass) (l : List Place) → pass_at_by manual_size base s ≡ accepted p → assemble_manual base s ≡ accepted l
    → {j a : ℕ} {ns : List Text} (line : Text) (i : Said) → Reached manual_size base s j a ns → IsLine s j line → (line_of line).task ≡ instruction i
    → (cs : List Content) × (manual_encode p.labels a i ≡ Some cs)
unfolding WordsOrFault assemble_manual and_then task_fault
line_encoded base s p l h g {j} {a} line i r e k =
    let go_on : (line_of line).task ≢ end = λ u. let v = sym k ∙ u in clash cc in
    let puts = rw k at (put_at_lem manual_size base s p (passed manual_size manual_encode base s p h).0 line r e go_on) in
    let plain = (plain_pass p l (rw h at g)).1 in
    has_words (words_or_fault p.labels a i) (no_fault_at p.labels 1 p.puts (record { address = a; task = instruction i }) (take j p.puts) (drop (suc j) p.puts) puts plain)

-- places are their words and marks, from the address on
places_marked : (a : ℕ) (cs : List Content) → places_at a cs ≡ marked a (map (λ p. p.word) (places_at a cs)) (map (λ p. p.mark) (places_at a cs))
unfolding places_at marked
places_marked a [] = refl
places_marked a (literal w ∷ cs) = ap (λ r. place a w 0 ∷ r) (places_marked (a + 2) cs)
places_marked a (address x ∷ cs) = ap (λ r. place a (x % 65536) 1 ∷ r) (places_marked (a + 2) cs)
places_marked a (long_address x ∷ cs) =
    let e : a + 2 + 2 ≡ a + 4 = omega arith in
    rw (e, ← places_marked (a + 4) cs)

pub lists_are_manual : ListsAreManual
unfolding ListsAreManual WordsAreTheManuals assemble_manual and_then code_places_by code_contents_by
lists_are_manual base s p l h g j a ns line i r e k =
    let go_on : (line_of line).task ≢ end = λ u. let v = sym k ∙ u in clash cc in
    let f : encoded_manual p ≡ accepted l = rw h at g in
    let w = line_encoded base s p l h g line i r e k in
    let m = words_are_the_manuals p.labels a i w.0 (low_addresses manual_size base s p h) w.1 in
    stands w.0 w.1 m f (sym (plain_pass p l f).0 ∙ cut manual_size manual_encode base s p h line r e go_on)
  where
    words : (cs : List Content) → manual_encode p.labels a i ≡ Some cs → code_places_by manual_encode p.labels (record { address = a; task = (line_of line).task }) ≡ places_at a cs
    words cs c = rw (k, c)

    there : (cs : List Content) → manual_encode p.labels a i ≡ Some cs → (m : IsManual p.labels a i cs)
        → words_before manual_encode p j ++ (code_places_by manual_encode p.labels (record { address = a; task = (line_of line).task }) ++ words_after manual_encode p j)
        ≡ words_before manual_encode p j ++ (marked a (manual_words m.instruction) m.marks ++ words_after manual_encode p j)
    there cs c m = ap (λ (x : List Place). words_before manual_encode p j ++ (x ++ words_after manual_encode p j)) (words cs c ∙ rw (m.manual.words, m.manual.marks) at (places_marked a cs))

    stands : (cs : List Content) → manual_encode p.labels a i ≡ Some cs → IsManual p.labels a i cs → encoded_manual p ≡ accepted l
        → l ≡ words_before manual_encode p j ++ (code_places_by manual_encode p.labels (record { address = a; task = (line_of line).task }) ++ words_after manual_encode p j)
        → StandsThere base s p j a i
    stands cs c m f q = record { instruction = m.instruction; marks = m.marks; written = m.written; list = rw h (f ∙ ap accepted (q ∙ there cs c m)) }
