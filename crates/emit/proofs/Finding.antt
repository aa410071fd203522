-- What the look for faults keeps: no line before line k has one, their codes are kept, and their words are counted. Assumes nothing.
use Rattle.std.specs.Prelude.{Option, None, Some, Ok, Err}
use mathlib.Core.Path.{◌≡◌, refl, ap, ◌∙◌}
use mathlib.Core.Bool.{Bool, true, false}
use mathlib.Core.List.{List, [], ◌∷◌}
use Prim.Native.Nat.{ℕ, suc, ◌+◌, ◌*◌, ◌%◌, ◌^◌, ◌≤◌, ◌<◌}
use native.Mathlib.Numerals.{add-one}
use native.Mathlib.Omega.{arith}
use borrow.Author.Tests.{ltb-true, ltb-false}
use lib.Dec.{ltb}
use lib.ListN.{length, drop, drop_of_length-le}
use Rattle.rules.specs.Label.{Table}
use Rattle.rules.specs.Answer.{Answer as Ruled, accepted, refused, and_then}
use Rattle.rules.specs.Assemble.{Put, Place, code_places_by, second_pass_by}
use Rattle.requests.specs.ManualCall.{manual_encode}
use Rattle.requests.specs.ManualAssemble.{task_fault, faultless, encoded_manual}
use Rattle.answer.specs.Refusal.{number_of, place_of}
use Rattle.answer.specs.declared.Refusal.{Refusal}
use Rattle.label.specs.Labelled.{Labelled}
use Rattle.cells.specs.Cells.{after_by, kept_at, with_line, InCells}
use Rattle.cells.specs.Puts.{address_at, put_at, puts_of}
use Rattle.cells.specs.declared.Kept.{Kept}
use Rattle.cells.proofs.Cells.{with_length, with_this, with_other}
use Rattle.cells.proofs.Puts.{puts_length, puts_next}
use Rattle.first.specs.Pass.{pass_in}
use Rattle.first.specs.declared.Pass.{Pass}
use Rattle.encode_manual.specs.declared.ManualCode.{ManualCode}
use Rattle.emit.specs.Emit.{put_of, CodeNeeds}
use Rattle.emit.specs.Codes.{manual_places, code_in, CellsOfGives, CodeLineGives, CodeHeld, CodesHeld, counted, FindFaultNeeds}
use Rattle.emit.proofs.Callers.{manual_few}
use Rattle.emit.proofs.Emitting.{Counting, counting_start, counting_needs, counting_low, counting_fits, counting_more, counting_all}

-- ---- the first line that is left
module _ {A : Type 0} (t : Table) (n : ℕ) (u : Put) (ps : List Put) (r : Ruled A) where
  sound_first : task_fault t u.address u.task ≡ None → faultless t n (u ∷ ps) r ≡ faultless t (suc n) ps r
  unfolding faultless
  sound_first e = rw (e, faultless)

  faulty_first : (f : ℕ) → task_fault t u.address u.task ≡ Some f → faultless t n (u ∷ ps) r ≡ refused f n
  unfolding faultless
  faulty_first f e = rw (e, faultless)

abbrev list_of : Labelled → List ℕ → Pass → List Place
list_of labels cells pass = second_pass_by manual_encode (pass_in labels cells pass)

pub record Finding (labels : Labelled) (cells codes₀ : List ℕ) (pass : Pass) (codes : List ℕ) (address count k : ℕ) : Type 0 where
  pub counting : Counting manual_encode labels cells pass address count k
  pub long : length codes ≡ length codes₀
  pub held : (j : ℕ) → j < k → CodeHeld codes j (put_at labels.source pass.base cells j) labels.table
  pub left : encoded_manual (pass_in labels cells pass) ≡ faultless labels.table (suc k) (drop k (puts_of labels.source pass.base cells pass.lines)) (accepted (list_of labels cells pass))

pub finding_start : (labels : Labelled) (cells codes : List ℕ) (pass : Pass) → Finding labels cells codes pass codes pass.base pass.values 0
unfolding encoded_manual
finding_start labels cells codes pass = record { counting = counting_start manual_encode labels cells pass; long = refl; held = λ j l. absurd (omega arith); left = refl }

module _ {labels : Labelled} {cells codes₀ : List ℕ} {pass : Pass} (needs : FindFaultNeeds labels cells codes₀ pass)
    {codes : List ℕ} {address count k : ℕ} (inv : Finding labels cells codes₀ pass codes address count k) where
  -- ---- one line
  module _ (more : k < pass.lines) {kept : Kept} (e : kept ≡ kept_at cells k) where
    pub line_needs : CodeNeeds labels address kept.task
    line_needs = counting_needs manual_few needs.holds inv.counting more e

    pub in_codes : InCells codes k
    in_codes = record { room = omega (arith, needs.room, inv.long) }

    pub address_fits : after_by pass.base address kept < 2 ^ 32
    address_fits = counting_low manual_few needs.holds inv.counting more e

    -- a fault
    module _ (r : Refusal) (g : CodeLineGives labels.table (put_of labels.source address kept.task) (k + 1) (Err r)) where
      faulty_here : task_fault labels.table (address_at pass.base cells k) (put_at labels.source pass.base cells k).task ≡ Some (number_of r)
      faulty_here = rw (inv.counting.here, e) at g.0

      pub faulty : refused (number_of r) (place_of r) ≡ counted (encoded_manual (pass_in labels cells pass))
      unfolding and_then
      faulty =
          let x : encoded_manual (pass_in labels cells pass) ≡ refused (number_of r) (suc k) = inv.left ∙ rw (puts_next labels.source pass.base cells pass.lines k more) (faulty_first _ _ _ _ _ (number_of r) faulty_here) in
          let n : place_of r ≡ suc k = rw (add-one k) at g.1 in
          rw (x, n)

    -- none
    module _ (code : Option ManualCode) (g : CodeLineGives labels.table (put_of labels.source address kept.task) (k + 1) (Ok code)) {cs : ℕ × ℕ} (kept_in : CellsOfGives code cs) where
      sound : (task_fault labels.table (address_at pass.base cells k) (put_at labels.source pass.base cells k).task ≡ None) × (manual_places (address_at pass.base cells k) code ≡ code_places_by manual_encode labels.table (put_at labels.source pass.base cells k))
      sound = rw (inv.counting.here, e) at g

      words : cs.0 % 4 ≡ length (code_places_by manual_encode labels.table (put_of labels.source address kept.task))
      words = kept_in.words address ∙ ap length g.1

      pub count_fits : length cells * 4 < 2 ^ 63 → count + cs.0 % 4 < 2 ^ 64
      count_fits = counting_fits manual_few needs.holds inv.counting more e words

      code_held : (j : ℕ) → j < suc k → CodeHeld (with_line codes k cs.0 cs.1) j (put_at labels.source pass.base cells j) labels.table
      code_held j l = go (ltb j k) refl
        where
          room : InCells (with_line codes k cs.0 cs.1) j
          room = record { room = omega (arith, with_length codes k cs.0 cs.1, in_codes.room) }

          go : (y : Bool) → ltb j k ≡ y → CodeHeld (with_line codes k cs.0 cs.1) j (put_at labels.source pass.base cells j) labels.table
          go true b =
              let d : j < k = ltb-true j k b in
              record { room = room; places = rw (with_other codes k cs.0 cs.1 code_in j (omega arith)) (inv.held j d).places }
          go false b =
              let d : k ≤ j = ltb-false j k b in
              let i : j ≡ k = omega arith in
              record { room = room; places = rw (i, with_this codes k cs.0 cs.1 code_in in_codes, kept_in.back) sound.1 }

      pub finding_next : {codes' : List ℕ} {a : ℕ} → codes' ≡ with_line codes k cs.0 cs.1 → a ≡ after_by pass.base address kept
          → Finding labels cells codes₀ pass codes' a (count + cs.0 % 4) (k + 1)
      finding_next x y =
          let c = counting_more manual_few needs.holds inv.counting more e words y in
          rw x
          (record {
            counting = c;
            long = with_length codes k cs.0 cs.1 ∙ inv.long;
            held = λ j l. code_held j (omega arith);
            left = rw (add-one k) (inv.left ∙ rw (puts_next labels.source pass.base cells pass.lines k more) (sound_first _ _ _ _ _ sound.0));
          })

  -- ---- all lines
  module _ (last : pass.lines ≤ k) where
    pub all_sound : accepted count ≡ counted (encoded_manual (pass_in labels cells pass))
    unfolding faultless and_then
    all_sound =
        let z : k ≡ pass.lines = omega (arith, inv.counting.among) in
        let ps = puts_of labels.source pass.base cells pass.lines in
        let d : drop k ps ≡ [] = drop_of_length-le ps {i = k} (rw (puts_length labels.source pass.base cells pass.lines) last) in
        let x : encoded_manual (pass_in labels cells pass) ≡ accepted (list_of labels cells pass) = inv.left ∙ rw d in
        let n : count ≡ length (list_of labels cells pass) = counting_all manual_few needs.holds inv.counting last in
        rw (x, n)

    pub all_held : CodesHeld labels cells codes pass
    all_held = record { line = λ j l. inv.held j (omega arith) }
