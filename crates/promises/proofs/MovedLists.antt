-- Moving is assembling, for every lawful pair: the four statements, from the shift of the base and the mover's tally; and so for the stations' call. Assumes nothing.
use Rattle.std.specs.Prelude.{None, Some, slice_get}
use Rattle.std.proofs.lemmas.Option.{same_Some, none-some}
use Prim.Native.Nat.{ℕ, zero, suc, ◌-◌, ◌≤◌, ◌<◌}
use mathlib.Core.Path.{◌≡◌, refl, sym, ◌∙◌, ap}
use mathlib.Core.Logic.{◌≢◌, ◌↔◌}
use mathlib.Core.Bool.{Bool, true, false, cond}
use mathlib.Core.List.{List, [], ◌∷◌}
use native.Mathlib.Omega.{arith}
use borrow.Author.Tests.{ltb-true, ltb-false, lt-leb, leb-false, ne_eqb}
use lib.Dec.{ltb}
use lib.ListN.{length}
use lib.IntN.{ℤ, pos, negsuc, ◌+ℤ◌, ◌-ℤ◌, nat_abs, sub_ℕ, +ℤ_comm, -ℤ-+ℤ_cancel}
use Rattle.rules.specs.Limits.{address_limit, distance_limit}
use Rattle.rules.specs.Text.{Text}
use Rattle.rules.specs.Number.{modulo}
use Rattle.rules.specs.Answer.{accepted, and_then}
use Rattle.rules.specs.Line.{size}
use Rattle.rules.specs.Encode.{encode, mnemonics}
use Rattle.rules.specs.Assemble.{Sizes, Encoder, Place, second_pass_by, encoded, assemble_by, assemble}
use Rattle.rules.specs.Relocate.{far, added_word, moved_word}
use Rattle.rules.specs.Tally.{first_outside, first_word, moved_place, tally_list, tallied, tally}
use Rattle.promises.specs.Lawful.{Lawful, RulesAreLawful, ShortAddresses, RulesAreShort}
use Rattle.promises.specs.Pairs.{Sixteen, Low}
use Rattle.promises.specs.MovedLists.{last_total, MovedIsAssembledFor, WordsDifferFor, MarkedWordsDifferFor, MarksSayWhatMovesFor, MovesFollowTallyFor, OneMoveForAllFor, MovesAsAssembledFor, LawfulMoves, ShortWordsDiffer, MovedIsAssembled, WordsDiffer, MarksSayWhatMoves, MovesFollowTally, OneMoveForAll}
use Rattle.promises.proofs.Lists.{All, all_at, all_by}
use Rattle.promises.proofs.Accepted.{accepts}
use Rattle.promises.proofs.Places.{second_shift, list_at}
use Rattle.promises.proofs.Fit.{Fit, listed}
use Rattle.promises.proofs.ShortMarks.{Plain, short_marks}
use Rattle.promises.proofs.Residues.{residue_lt}
use Rattle.promises.proofs.Twice.{inside_reached, list_twice, outside_twice, inside_none, low_inside, length_moved}
use Rattle.promises.proofs.Paired.{grouped_good, grouped_paired}
use Rattle.promises.proofs.Lawful.{rules_are_lawful, rules_are_short}
use Rattle.promises.proofs.Moves.{follow_from_zero, last_total_inside, last_list_is, move_accepted, move_gives}

-- two bases are less than 2^30 apart
apart_sub : (b c : ℕ) → suc b < address_limit → c < address_limit → nat_abs (sub_ℕ c (suc b)) < distance_limit
apart_sub b c hb hc = go (ltb c (suc b)) refl
  where
    go : (x : Bool) → ltb c (suc b) ≡ x → nat_abs (cond x (negsuc (suc b - suc c)) (pos (c - suc b))) < distance_limit
    go true e = let h = ltb-true c (suc b) e in omega arith
    go false e = let h = ltb-false c (suc b) e in omega arith

apart : (b c : ℕ) → b < address_limit → c < address_limit → nat_abs (pos c -ℤ pos b) < distance_limit
apart zero c hb hc = omega arith
apart (suc b) c hb hc = apart_sub b c hb hc

-- a word that is not marked stays; one of 16 bits that moves by itself is another word when moved by no multiple of 65,536
unmarked_stays : (d : ℤ) (m w v : ℕ) → m ≡ 0 → w ≡ moved_word d m w v
unfolding moved_word
unmarked_stays d m w v e = rw e

low_differs : (d : ℤ) (m w v : ℕ) → m ≢ 0 → m ≢ 2 → w < 65536 → (w ≢ moved_word d m w v) ↔ (modulo 65536 d ≢ 0)
unfolding moved_word added_word
low_differs d m w v h k l =
    let r = residue_lt d in
    rw (ne_eqb m 0 h, ne_eqb m 2 k) (λ u e. u (omega arith), λ u e. u (omega arith))

-- the place at an index of a moved list
moved_at : (d : ℤ) (l : List Place) (i : ℕ) (p q : Place) → slice_get l i ≡ Some p → slice_get (tally_list d l) i ≡ Some q → (v : ℕ) × (q ≡ moved_place d p v)
unfolding tally_list
moved_at d [] i p q hp hq = absurd (none-some p hp)
moved_at d (r ∷ rs) zero p q hp hq = (first_word rs, rw (← same_Some r p hp) (sym (same_Some (moved_place d r (first_word rs)) q hq)))
moved_at d (r ∷ rs) (suc i) p q hp hq = moved_at d rs i p q hp hq

-- words of marks 0 and 1 differ where their mark is 1, if those of mark 0 do not and those of others do
zero_or_one : (m : ℕ) → m ≤ 1 → {A C : Type 0} → (m ≡ 0 → A) → (m ≢ 0 → m ≢ 2 → ¬ A ↔ C) → C → ¬ A ↔ (m ≡ 1)
zero_or_one zero h u v c = (λ f. absurd (f (u refl)), λ e. absurd (omega arith))
zero_or_one (suc zero) h u v c = (λ f. refl, λ e. (v (λ e. omega arith) (λ e. omega arith)).1 c)
zero_or_one (suc (suc m)) h u v c = absurd (omega arith)

-- what the moves ask of a list that fits
pub sixteen : (l : List Place) → All Fit l → All Sixteen l
sixteen l h = all_by Fit Sixteen (λ p f. f.reduced) l h

pub low : (l : List Place) → All Fit l → All Low l
low l h = all_by Fit Low (λ p f. f.bound) l h

module _ {z : Sizes} {e : Encoder} {most : ℕ} (law : Lawful z e most) where
  -- one source accepted at two bases
  module _ (s : Text) (b c : ℕ) (lb lc : List Place) (eb : assemble_by z e b s ≡ accepted lb) (ec : assemble_by z e c s ≡ accepted lc) where
    -- c − b is no distance that refusal 8 names
    near : far (pos c -ℤ pos b) ≡ false
    unfolding far
    near =
        lt-leb distance_limit (nat_abs (pos c -ℤ pos b))
        (apart b c (leb-false address_limit b (accepts z e b s lb eb).low) (leb-false address_limit c (accepts z e c s lc ec).low))

    -- the list for c is the list for b, moved by c − b, and refusal 11 names no place: both are the list at base 0, moved
    moved : (tally_list (pos c -ℤ pos b) lb ≡ lc) × (first_outside (pos c -ℤ pos b) 0 lb ≡ None)
    moved =
        let qb = list_at law b s lb eb in
        let qc = list_at law c s lc ec in
        let same : qb.0 ≡ qc.0 = cc in
        let to_c : pos b +ℤ (pos c -ℤ pos b) ≡ pos c = +ℤ_comm (pos b) (pos c -ℤ pos b) ∙ -ℤ-+ℤ_cancel (pos c) (pos b) in
        let at_b = inside_reached (pos b) qb.0 (low_inside b qb.0 (rw qb.2 at (low lb (listed law b s lb eb).fit))) in
        let at_c = low_inside c qc.0 (rw qc.2 at (low lc (listed law c s lc ec).fit)) in (
          rw (qb.2, list_twice (pos b) (pos c -ℤ pos b) qb.0 at_b (grouped_paired (listed law 0 s qb.0 qb.1).grouped), to_c, same) (sym qc.2),
          rw (qb.2, outside_twice (pos b) (pos c -ℤ pos b) 0 qb.0 at_b, to_c, same) (inside_none (pos c) 0 qc.0 at_c),
        )

  moved_is_assembled_by : MovedIsAssembledFor (assemble_by z e)
  moved_is_assembled_by s b c lb lc eb ec x h =
      let k = listed law b s lb eb in
      let good = grouped_good k.grouped in
      let six = sixteen lb k.fit in
      let ok = near s b c lb lc eb ec in
      let m = moved s b c lb lc eb ec in
      let n : length lb ≡ length lc = sym (length_moved (pos c -ℤ pos b) lb) ∙ ap length m.0 in (
        n,
        move_accepted lb good six x h (pos c -ℤ pos b) ok m.1 ∙ ap accepted n,
        rw (← n) (move_gives lb good six x h (pos c -ℤ pos b) ok m.1 ∙ m.0),
      )

  marked_words_differ_by : MarkedWordsDifferFor (assemble_by z e)
  unfolding moved_place
  marked_words_differ_by s b c lb lc eb ec i p q hp hq =
      let d : ℤ = pos c -ℤ pos b in
      let fit = all_at Fit lb i p (listed law b s lb eb).fit hp in
      let m = moved_at d lb i p q hp (rw (moved s b c lb lc eb ec).0 hq) in
      rw m.1
      (record {
        marks = refl;
        unmarked = unmarked_stays d p.mark p.word m.0;
        low = λ u v. low_differs d p.mark p.word m.0 u v (fit.reduced u);
      })

  -- where no address has 32 bits, a mark is 0 or 1
  words_differ_by : ShortAddresses e → WordsDifferFor (assemble_by z e)
  words_differ_by short s b c lb lc eb ec k i p q hp hq =
      let d = marked_words_differ_by s b c lb lc eb ec i p q hp hq in
      (d.marks, zero_or_one p.mark (all_at Plain lb i p (short_marks z e short b s lb eb) hp) d.unmarked d.low k)

  marks_say_what_moves_by : MarksSayWhatMovesFor z (encoded e) (assemble_by z e)
  unfolding assemble_by and_then
  marks_say_what_moves_by s b p l f g d =
      let h : accepted (second_pass_by e p) ≡ accepted l = rw f at g in
      let k : second_pass_by e p ≡ l = cc in
      ap accepted (second_shift law d p ∙ ap (tally_list (pos d)) k)

  moves_follow_tally_by : MovesFollowTallyFor (assemble_by z e)
  unfolding tally
  moves_follow_tally_by s b l f x h ds = let k = listed law b s l f in follow_from_zero l (grouped_good k.grouped) (sixteen l k.fit) x h ds

  one_move_for_all_by : OneMoveForAllFor (assemble_by z e)
  unfolding far
  one_move_for_all_by s b l f x h ds ok =
      let k = listed law b s l f in
      let good = grouped_good k.grouped in
      let six = sixteen l k.fit in
      let total : ℤ = last_total (pos 0) (tallied l (pos 0) ds) in
      let near : far total ≡ false = lt-leb distance_limit (nat_abs total) ok in
      let ins = inside_none total 0 l (last_total_inside l good six (low l k.fit) ds) in
      (move_accepted l good six x h total near ins, move_gives l good six x h total near ins ∙ sym (last_list_is l good six ds))

  moves_as_assembled_by : MovesAsAssembledFor z (encoded e) (assemble_by z e)
  moves_as_assembled_by = record { moved = moved_is_assembled_by; differ = marked_words_differ_by; marks = marks_say_what_moves_by; follow = moves_follow_tally_by; one = one_move_for_all_by }

pub lawful_moves : LawfulMoves
unfolding LawfulMoves
lawful_moves z e most law = moves_as_assembled_by law

pub short_words_differ : ShortWordsDiffer
unfolding ShortWordsDiffer
short_words_differ z e most law short = words_differ_by law short

-- the stations' pair
moves_as_assembled : MovesAsAssembledFor size (encoded encode) assemble
unfolding LawfulMoves RulesAreLawful
moves_as_assembled = lawful_moves size encode 2 (rules_are_lawful mnemonics)

pub moved_is_assembled : MovedIsAssembled
unfolding MovedIsAssembled
moved_is_assembled = moves_as_assembled.moved

pub words_differ : WordsDiffer
unfolding WordsDiffer ShortWordsDiffer RulesAreLawful RulesAreShort
words_differ = short_words_differ size encode 2 (rules_are_lawful mnemonics) (rules_are_short mnemonics)

pub marks_say_what_moves : MarksSayWhatMoves
unfolding MarksSayWhatMoves
marks_say_what_moves = moves_as_assembled.marks

pub moves_follow_tally : MovesFollowTally
unfolding MovesFollowTally
moves_follow_tally = moves_as_assembled.follow

pub one_move_for_all : OneMoveForAll
unfolding OneMoveForAll
one_move_for_all = moves_as_assembled.one
