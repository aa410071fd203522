-- What the loops over the lines keep: the turn and the places are those of the first k lines; and what they owe to each call. Assumes nothing.
use mathlib.Core.Path.{◌≡◌, refl, sym, ap, ◌∙◌}
use mathlib.Core.List.{List, flat_map}
use Prim.Native.Nat.{ℕ, suc, ◌+◌, ◌-◌, ◌*◌, ◌^◌, ◌≤◌, ◌<◌}
use native.Mathlib.Numerals.{add-one}
use native.Mathlib.Omega.{arith}
use lib.ListN.{length, length-take, length-drop}
use Rattle.rules.specs.Text.{Text}
use Rattle.rules.specs.Limits.{address_limit}
use Rattle.rules.specs.Assemble.{Sizes, Place, slices, Encoder, data_places, code_places_by, second_pass_by}
use Rattle.label.specs.Labelled.{Labelled}
use Rattle.cells.specs.Cells.{data_words, after_by, kept_at}
use Rattle.cells.specs.Puts.{address_at, put_at, puts_of}
use Rattle.cells.specs.declared.Kept.{Kept}
use Rattle.cells.proofs.Tasks.{data_places_lem}
use Rattle.first.specs.Pass.{pass_in, HoldsBy}
use Rattle.first.specs.declared.Pass.{Pass}
use Rattle.first.proofs.Callers.{bounded}
use Rattle.emit.specs.Places.{Room, placed, SameSlices, put_from, Puts, Taken, Stored, Holds}
use Rattle.emit.specs.Emit.{names_of, encoder_of, put_of, CodeNeeds, HeldLine, HeldLines, PutInstructionNeeds, EmitWordsNeeds}
use Rattle.emit.specs.declared.Encoding.{Encoding}
use Rattle.emit.specs.declared.Encoding.TheVariants.{Named, Kept as KeptCodes}
use Rattle.emit.specs.declared.Turn.{Turn}
use Rattle.emit.specs.declared.places.Places.{Places}
use Rattle.emit.proofs.Slices.{put_room, room_less, same_slices, then_same, puts_room, rest_of, back_at, put_lent}
use Rattle.emit.proofs.Filled.{filled, filled_none, filled_more, filled_all}
use Rattle.emit.proofs.Lines.{words_more, length_more}
use Rattle.emit.proofs.Callers.{Few, named_few, manual_few}
use Rattle.emit.proofs.Whole.{values_to, codes_to, all_values, all_words, all_few, values_fit, codes_fit, after_low}

-- what `code_at` asks of line k
pub code_needs : {z : Sizes} {labels : Labelled} {cells : List ℕ} {pass : Pass} → HoldsBy z labels cells pass → (k : ℕ) → k < pass.lines
    → CodeNeeds labels (address_at pass.base cells k) (kept_at cells k).task
code_needs h k more =
    let b = bounded h in
    record { near = record { labels_below = b.labels_below; address_below = (b.puts k more).here }; short = b.short; within = (h.lines.line k more).within }

-- ---- the words counted
pub record Counting (e : Encoder) (labels : Labelled) (cells : List ℕ) (pass : Pass) (address count k : ℕ) : Type 0 where
  pub among : k ≤ pass.lines
  pub here : address ≡ address_at pass.base cells k
  pub counts : count ≡ pass.values + length (codes_to e labels cells pass k)

pub counting_start : (e : Encoder) (labels : Labelled) (cells : List ℕ) (pass : Pass) → Counting e labels cells pass pass.base pass.values 0
unfolding address_at puts_of flat_map
counting_start e labels cells pass = record { among = omega arith; here = refl; counts = omega arith }

module _ {z : Sizes} {e : Encoder} (f : Few e) {labels : Labelled} {cells : List ℕ} {pass : Pass} (h : HoldsBy z labels cells pass) {address count k : ℕ} (inv : Counting e labels cells pass address count k) where
  module _ (more : k < pass.lines) {kept : Kept} (q : kept ≡ kept_at cells k) where
    pub counting_needs : CodeNeeds labels address kept.task
    counting_needs = rw (inv.here, q) (code_needs h k more)

    pub counting_low : after_by pass.base address kept < 2 ^ 32
    counting_low = rw (inv.here, q) (after_low f h k more)

    module _ {r : ℕ} (g : r ≡ length (code_places_by e labels.table (put_of labels.source address kept.task))) where
      words_here : r ≡ length (code_places_by e labels.table (put_at labels.source pass.base cells k))
      words_here = rw (inv.here, q) at g

      pub counting_fits : length cells * 4 < 2 ^ 63 → count + r < 2 ^ 64
      counting_fits l = omega (arith, inv.counts, words_here, codes_fit f h k more, all_few f h)

      pub counting_more : {a : ℕ} → a ≡ after_by pass.base address kept → Counting e labels cells pass a (count + r) (k + 1)
      unfolding address_at
      counting_more b =
          rw (b, inv.here, q, add-one k)
          (record { among = more; here = refl; counts = omega (arith, inv.counts, words_here, length_more (code_places_by e labels.table) labels.source pass.base cells k) })

  pub counting_all : pass.lines ≤ k → count ≡ length (second_pass_by e (pass_in labels cells pass))
  counting_all last =
      let t : k ≡ pass.lines = omega (arith, inv.among) in
      inv.counts ∙ rw t (omega (arith, all_values f h, all_words f h))

-- ---- the words put
abbrev turn_at : Encoder → Labelled → List ℕ → Pass → ℕ → Turn
turn_at e labels cells pass k =
    record { address = address_at pass.base cells k; values = length (values_to labels cells pass k); codes = length (codes_to e labels cells pass k) }

pub record Emitting (e : Encoder) (labels : Labelled) (cells : List ℕ) (pass : Pass) (p₀ p : Places) (turn : Turn) (k : ℕ) : Type 0 where
  pub among : k ≤ pass.lines
  pub stands : turn ≡ turn_at e labels cells pass k
  pub same : SameSlices p₀ p
  pub put : placed p ≡ filled pass.values (values_to labels cells pass k) (codes_to e labels cells pass k) (placed p₀)

pub emitting_start : (e : Encoder) (labels : Labelled) (cells : List ℕ) (pass : Pass) (p : Places) → Emitting e labels cells pass p p (record { address = pass.base; values = 0; codes = 0 }) 0
unfolding address_at puts_of flat_map
emitting_start e labels cells pass p = record { among = omega arith; stands = refl; same = same_slices p; put = filled_none pass.values (placed p) }

-- whatever the codes, an encoder gives at most three words
codes_few : (encoding : Encoding) → Few (encoder_of encoding)
codes_few (Named names) = named_few (names_of names)
codes_few (KeptCodes kept) = manual_few

held_line : (encoding : Encoding) (labels : Labelled) (cells : List ℕ) (pass : Pass) → HeldLines encoding labels cells pass → (k : ℕ) → k < pass.lines → HeldLine encoding k (put_at labels.source pass.base cells k) labels
held_line (Named names) labels cells pass h k l = Prim.tt
held_line (KeptCodes kept) labels cells pass h k l = h.line k l

-- room in the rest
rest_length : (v : ℕ) (l : List ℕ) → length (rest_of v l) ≡ length l - v
rest_length v l = simp (length-take, length-drop) (omega arith)

room_rest : (v m : ℕ) (xs ys zs : List ℕ) → Room (v + m) (slices xs ys zs) → Room m (slices (rest_of v xs) (rest_of v ys) (rest_of v zs))
room_rest v m xs ys zs r =
    record {
      addresses = omega (arith, rest_length v xs, r.addresses);
      words = omega (arith, rest_length v ys, r.words);
      marks = omega (arith, rest_length v zs, r.marks);
    }

module _ {encoding : Encoding} {labels : Labelled} {cells : List ℕ} {pass : Pass} {p₀ : Places} (needs : EmitWordsNeeds encoding labels cells pass (placed p₀))
    {p : Places} {turn : Turn} {k : ℕ} (inv : Emitting (encoder_of encoding) labels cells pass p₀ p turn k) where
  few : Few (encoder_of encoding)
  few = codes_few encoding

  room_all : Room (length (second_pass_by (encoder_of encoding) (pass_in labels cells pass))) (placed p)
  room_all = rw inv.put (put_room pass.values _ _ _ (put_room 0 _ _ _ needs.room))

  -- ---- one line
  module _ (more : k < pass.lines) {kept : Kept} (q : kept ≡ kept_at cells k) where
    pub after_fits : after_by pass.base turn.address kept < 2 ^ 32
    after_fits = rw (inv.stands, q) (after_low few needs.holds k more)

    pub below : turn.address < address_limit
    below = rw inv.stands ((bounded needs.holds).puts k more).here

    pub value_needs : Room (turn.values + data_words kept.task) (placed p)
    value_needs = rw (inv.stands, q) (room_less _ _ (omega (arith, values_fit few needs.holds k more, codes_fit few needs.holds k more, data_places_lem labels.source (address_at pass.base cells k) (kept_at cells k).task)) room_all)

    -- also after a line's data words, what is lent starts in the slices
    pub rest_lent : {n : ℕ} {l : List Place} {r : Places} → Puts n l p r → Room pass.values (placed r)
    rest_lent h = puts_room _ h (room_less _ _ (omega (arith, codes_fit few needs.holds k more)) room_all)

    pub instruction_needs : {n : ℕ} {l : List Place} {r : Places} → Puts n l p r
        → PutInstructionNeeds encoding labels k turn kept.task (slices (rest_of pass.values r.addresses.now) (rest_of pass.values r.words.now) (rest_of pass.values r.marks.now))
    instruction_needs h =
        rw (inv.stands, q)
        (record {
          code = code_needs needs.holds k more;
          below = ((bounded needs.holds).puts k more).here;
          room = room_rest pass.values _ _ _ _ (puts_room _ h (room_less _ _ (codes_fit few needs.holds k more) room_all));
          kept = held_line encoding labels cells pass needs.kept k more;
        })

    -- the next line
    module _ {v n a : ℕ} {r : Places} {xs ys zs : List ℕ} (values : (t : Text) → Taken turn.values (data_places (put_of t turn.address kept.task)) p v r)
        (words : Stored turn.codes (code_places_by (encoder_of encoding) labels.table (put_of labels.source turn.address kept.task))
        (slices (rest_of pass.values r.addresses.now) (rest_of pass.values r.words.now) (rest_of pass.values r.marks.now)) n (slices xs ys zs))
        (after : a ≡ after_by pass.base turn.address kept) where
      values_here : Taken (length (values_to labels cells pass k)) (data_places (put_at labels.source pass.base cells k)) p v r
      values_here = rw (inv.stands, q) at (values labels.source)

      words_put : Stored (length (codes_to (encoder_of encoding) labels cells pass k)) (code_places_by (encoder_of encoding) labels.table (put_at labels.source pass.base cells k))
          (slices (rest_of pass.values r.addresses.now) (rest_of pass.values r.words.now) (rest_of pass.values r.marks.now)) n (slices xs ys zs)
      words_put = rw (inv.stands, q) at words

      turn_more : record { address = a; values = v; codes = n } ≡ turn_at (encoder_of encoding) labels cells pass (suc k)
      unfolding address_at
      turn_more =
          let i : a ≡ after_by pass.base (address_at pass.base cells k) (kept_at cells k) = rw (inv.stands, q) at after in
          let j : v ≡ length (values_to labels cells pass (suc k)) = values_here.count ∙ sym (length_more data_places labels.source pass.base cells k) in
          let l : n ≡ length (codes_to (encoder_of encoding) labels cells pass (suc k)) = words_put.count ∙ sym (length_more (code_places_by (encoder_of encoding) labels.table) labels.source pass.base cells k) in
          rw (i, j, l)

      put_more : slices (back_at pass.values r.addresses.now xs) (back_at pass.values r.words.now ys) (back_at pass.values r.marks.now zs)
          ≡ filled pass.values (values_to labels cells pass (suc k)) (codes_to (encoder_of encoding) labels cells pass (suc k)) (placed p₀)
      put_more =
          let d = data_places (put_at labels.source pass.base cells k) in
          let c = code_places_by (encoder_of encoding) labels.table (put_at labels.source pass.base cells k) in
          put_lent pass.values _ c r.addresses.now r.words.now r.marks.now xs ys zs words_put.put
          ∙ ap (put_from (pass.values + length (codes_to (encoder_of encoding) labels cells pass k)) c) (values_here.puts.put ∙ ap (put_from (length (values_to labels cells pass k)) d) inv.put)
          ∙ filled_more (placed p₀) pass.values (values_to labels cells pass k) d (codes_to (encoder_of encoding) labels cells pass k) c (values_fit few needs.holds k more)
          ∙ rw (words_more data_places labels.source pass.base cells k, words_more (code_places_by (encoder_of encoding) labels.table) labels.source pass.base cells k)

      pub emitting_more : (s : Places) → SameSlices r s → placed s ≡ slices (back_at pass.values r.addresses.now xs) (back_at pass.values r.words.now ys) (back_at pass.values r.marks.now zs)
          → Emitting (encoder_of encoding) labels cells pass p₀ s (record { address = a; values = v; codes = n }) (k + 1)
      emitting_more s h g = rw (add-one k) (record { among = more; stands = turn_more; same = then_same (then_same inv.same values_here.puts.same) h; put = g ∙ put_more })

  -- ---- all lines
  module _ (last : pass.lines ≤ k) where
    at_last : k ≡ pass.lines
    at_last = omega (arith, inv.among)

    pub all_counted : pass.values + turn.codes ≡ length (second_pass_by (encoder_of encoding) (pass_in labels cells pass))
    all_counted = rw (inv.stands, at_last) (omega (arith, all_values few needs.holds, all_words few needs.holds))

    pub all_put : Holds (second_pass_by (encoder_of encoding) (pass_in labels cells pass)) p₀ p
    unfolding second_pass_by
    all_put = record { same = inv.same; holds = inv.put ∙ rw at_last (filled_all (placed p₀) pass.values _ _ (all_values few needs.holds) needs.room) }
