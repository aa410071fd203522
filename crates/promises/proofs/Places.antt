-- The list under a shift: a source accepted at base b is accepted at base 0, and its list at b is that at 0, moved by b. Assumes nothing.
use Prim.Native.Nat.{ℕ, ◌+◌, ◌*◌, ◌/◌, ◌%◌, ◌^◌}
use mathlib.Core.Path.{◌≡◌, refl, ◌∙◌, ap}
use mathlib.Core.Bool.{false≢true}
use mathlib.Core.List.{List, [], ◌∷◌, map, flat_map}
use native.Mathlib.Nat.{add_assoc, add_comm, add-zero}
use native.Mathlib.Omega.{arith}
use lib.IntN.{ℤ, pos}
use Rattle.rules.specs.Text.{Text}
use Rattle.rules.specs.Number.{modulo}
use Rattle.rules.specs.Line.{Task, lines_of}
use Rattle.rules.specs.Label.{Table}
use Rattle.rules.specs.Encode.{Content, literal, address, long_address}
use Rattle.rules.specs.Answer.{Answer, accepted, refused, and_then}
use Rattle.rules.specs.Assemble.{Sizes, Encoder, Put, Pass, first_pass_by, Place, place, places_at, data_contents, code_contents_by, data_places, code_places_by, second_pass_by, encoded, assemble_by}
use Rattle.promises.specs.Lawful.{shift_put, shift_pass, shift_table, shift_content, shift_contents, Lawful}
use Rattle.rules.specs.Relocate.{moved_address, added_word, added_pair, added_high, moved_word}
use Rattle.rules.specs.Tally.{first_word, moved_place, tally_list}
use Rattle.promises.proofs.Twice.{moved_append}
use Rattle.promises.proofs.Paired.{Grouped, over, single, double, grouped_append, grouped_paired}
use Rattle.promises.proofs.Tasks.{Worded, silent, codes, holds, worded}
use Rattle.promises.proofs.Shift.{pass_shift}
use Rattle.promises.proofs.Accepted.{passes_by, accepts, assembles}

-- an address plus b: its low word, and its high word
low_shift : (b x : ℕ) → (b + x) % 65536 ≡ added_word (pos b) (x % 65536)
unfolding added_word modulo
low_shift b x = omega arith

high_shift : (b x : ℕ) → (b + x) / 65536 % 65536 ≡ added_high (pos b) (x / 65536 % 65536) (x % 65536)
unfolding added_high added_pair modulo
high_shift b x = halves (b + x) ∙ ap (λ n. n / 65536) sum
  where
    halves : (n : ℕ) → n / 65536 % 65536 ≡ n % 2 ^ 32 / 65536
    halves n = omega arith

    sum : (b + x) % 2 ^ 32 ≡ (65536 * (x / 65536 % 65536) + x % 65536 + b % 2 ^ 32) % 2 ^ 32
    sum = omega arith

-- the places of words b higher, at an address b higher, are the places moved by b
places_at_shift : (b a : ℕ) (cs : List Content) → places_at (b + a) (shift_contents b cs) ≡ tally_list (pos b) (places_at a cs)
unfolding places_at shift_content tally_list moved_place moved_address moved_word first_word
places_at_shift b a [] = refl
places_at_shift b a (literal w ∷ cs) = rw (add_assoc b a 2, places_at_shift b (a + 2) cs, add_comm b a)
places_at_shift b a (address x ∷ cs) = rw (low_shift b x, add_assoc b a 2, places_at_shift b (a + 2) cs, add_comm b a)
places_at_shift b a (long_address x ∷ cs) =
    rw (high_shift b x, low_shift b x, add_assoc b a 2, add_assoc b a 4, places_at_shift b (a + 4) cs, add_comm b a, add_comm b (a + 2))

-- and their marks are well paired
pub places_grouped : (a : ℕ) (cs : List Content) → Grouped (places_at a cs)
unfolding places_at
places_grouped a [] = over
places_grouped a (literal w ∷ cs) = single {p = place a w 0} (omega arith) (places_grouped (a + 2) cs)
places_grouped a (address x ∷ cs) = single {p = place a (x % 65536) 1} (omega arith) (places_grouped (a + 2) cs)
places_grouped a (long_address x ∷ cs) =
    double {p = place a (x / 65536 % 65536) 2} {q = place (a + 2) (x % 65536) 3} refl refl (places_grouped (a + 4) cs)

-- lists one after another: each one moved, then joined, is the joined list moved
flat_map_moved : {A : Type 0} (t : ℤ) (g : A → A) (f f' : A → List Place) → ((x : A) → f (g x) ≡ tally_list t (f' x)) → ((x : A) → Grouped (f' x))
    → (xs : List A) → flat_map f (map g xs) ≡ tally_list t (flat_map f' xs)
unfolding flat_map tally_list
flat_map_moved t g f f' e k [] = refl
flat_map_moved t g f f' e k (x ∷ xs) = rw (e x, flat_map_moved t g f f' e k xs, moved_append t (f' x) (flat_map f' xs) (grouped_paired (k x)))

flat_map_grouped : {A : Type 0} (f : A → List Place) → ((x : A) → Grouped (f x)) → (xs : List A) → Grouped (flat_map f xs)
unfolding flat_map
flat_map_grouped f k [] = over
flat_map_grouped f k (x ∷ xs) = grouped_append (k x) (flat_map f xs) (flat_map_grouped f k xs)

-- data words are numbers as they stand
data_contents_shift : (b : ℕ) {k : Task} → Worded k → data_contents k ≡ shift_contents b (data_contents k)
unfolding data_contents shift_content
data_contents_shift b (silent e f) = rw e
data_contents_shift b (codes i) = refl
data_contents_shift b (holds n v) = refl

-- what a line asks, as data and as code
data_places_shift : (b : ℕ) (p : Put) → data_places (shift_put b p) ≡ tally_list (pos b) (data_places p)
unfolding data_places shift_put
data_places_shift b p = ap (places_at (b + p.address)) (data_contents_shift b (worded p.task)) ∙ places_at_shift b p.address (data_contents p.task)

data_grouped : (p : Put) → Grouped (data_places p)
unfolding data_places
data_grouped p = places_grouped p.address (data_contents p.task)

code_grouped : (e : Encoder) (t : Table) (p : Put) → Grouped (code_places_by e t p)
unfolding code_places_by
code_grouped e t p = places_grouped p.address (code_contents_by e t p.address p.task)

-- whatever the encoder, a list's marks are well paired
pub second_grouped : (e : Encoder) (p : Pass) → Grouped (second_pass_by e p)
unfolding second_pass_by
second_grouped e p =
    grouped_append (flat_map_grouped data_places data_grouped p.puts) (flat_map (code_places_by e p.labels) p.puts)
    (flat_map_grouped (code_places_by e p.labels) (code_grouped e p.labels) p.puts)

-- by a lawful pair
module _ {z : Sizes} {e : Encoder} {most : ℕ} (law : Lawful z e most) where
  code_contents_shift : (b : ℕ) (t : Table) (a : ℕ) {k : Task} → Worded k → code_contents_by e (shift_table b t) (b + a) k ≡ shift_contents b (code_contents_by e t a k)
  unfolding code_contents_by
  code_contents_shift b t a (silent d f) = rw (f e t a, f e (shift_table b t) (b + a))
  code_contents_shift b t a (codes i) = law.shifts b t a i
  code_contents_shift b t a (holds n v) = refl

  code_places_shift : (b : ℕ) (t : Table) (p : Put) → code_places_by e (shift_table b t) (shift_put b p) ≡ tally_list (pos b) (code_places_by e t p)
  unfolding code_places_by shift_put
  code_places_shift b t p =
      ap (places_at (b + p.address)) (code_contents_shift b t p.address (worded p.task)) ∙ places_at_shift b p.address (code_contents_by e t p.address p.task)

  -- the second pass over a shifted first pass is the list, moved
  pub second_shift : (b : ℕ) (p : Pass) → second_pass_by e (shift_pass b p) ≡ tally_list (pos b) (second_pass_by e p)
  unfolding second_pass_by shift_pass
  second_shift b p =
      let data_whole = grouped_paired (flat_map_grouped data_places data_grouped p.puts) in
      rw (
        flat_map_moved (pos b) (shift_put b) data_places data_places (data_places_shift b) data_grouped p.puts,
        flat_map_moved (pos b) (shift_put b) (code_places_by e (shift_table b p.labels)) (code_places_by e p.labels) (code_places_shift b p.labels) (code_grouped e p.labels) p.puts,
        moved_append (pos b) (flat_map data_places p.puts) (flat_map (code_places_by e p.labels) p.puts) data_whole,
      )

  -- the passes from base b are those from base 0, moved by b
  passes_shift : (b : ℕ) (s : Text) (l : List Place) → passes_by z e b s ≡ accepted l → (q : List Place) × (passes_by z e 0 s ≡ accepted q) × (l ≡ tally_list (pos b) q)
  unfolding and_then
  passes_shift b s l h = go (first_pass_by z 0 0 [] (lines_of s)) refl (pass_shift z b l 0 [] (lines_of s) (encoded e) (rw (add-zero b) h))
    where
      go : (m : Answer Pass) → first_pass_by z 0 0 [] (lines_of s) ≡ m → and_then m (λ p. encoded e (shift_pass b p)) ≡ accepted l
          → (q : List Place) × (passes_by z e 0 s ≡ accepted q) × (l ≡ tally_list (pos b) q)
      go (accepted p) f k = (second_pass_by e p, rw f, (let u : l ≡ second_pass_by e (shift_pass b p) = cc in u ∙ second_shift b p))
      go (refused n i) f k = absurd (false≢true cc)

  -- so a list at base b is the list at base 0, moved by b
  pub list_at : (b : ℕ) (s : Text) (l : List Place) → assemble_by z e b s ≡ accepted l → (q : List Place) × (assemble_by z e 0 s ≡ accepted q) × (l ≡ tally_list (pos b) q)
  list_at b s l h =
      let c = accepts z e b s l h in
      let m = passes_shift b s l c.passed in
      (m.0, assembles z e 0 s m.0 (record { through = c.through; low = refl; passed = m.1 }), m.2)
