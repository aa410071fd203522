-- By a lawful pair a list fits the mover, and has at most the pair's places for each line. Assumes nothing.
use Prim.Native.Nat.{ℕ, ◌+◌, ◌*◌, ◌/◌, ◌≤◌, ◌<◌}
use mathlib.Core.Path.{◌≡◌, refl}
use mathlib.Core.Logic.{◌≢◌}
use mathlib.Core.List.{List, [], ◌∷◌, flat_map}
use native.Mathlib.Nat.{mod-lt, mul-suc, le_trans, mul-le-mul_left}
use native.Mathlib.Omega.{arith}
use borrow.Author.Tests.{leb-false}
use lib.ListN.{length, length-append}
use Rattle.rules.specs.Limits.{address_limit, last_address}
use Rattle.rules.specs.Text.{Text, cut_at}
use Rattle.rules.specs.Line.{SourceLine, lines_of, Task, line_of}
use Rattle.rules.specs.Label.{Table}
use Rattle.rules.specs.Encode.{Content, literal, address, long_address}
use Rattle.rules.specs.Answer.{Answer, accepted, refused, and_then}
use Rattle.rules.specs.Assemble.{Sizes, Encoder, Put, Pass, address_after, putting, first_pass_by, Place, places_at, data_contents, code_contents_by, data_places, code_places_by, second_pass_by, encoded, assemble_by}
use Rattle.rules.proofs.Lines.{length_lines}
use Rattle.promises.specs.Lawful.{Lawful}
use Rattle.promises.proofs.Lists.{All, all_append, all_flat_map}
use Rattle.promises.proofs.Accepted.{accepts}
use Rattle.promises.proofs.Paired.{Grouped}
use Rattle.promises.proofs.Places.{second_grouped}
use Rattle.promises.proofs.Tasks.{Worded, silent, codes, holds, worded, pass_line}

-- a place that the mover takes: an address up to 2^30 + 1, and a marked word of 16 bits
pub record Fit (p : Place) : Type 0 where
  pub bound : p.address ≤ last_address
  pub reduced : p.mark ≢ 0 → p.word < 65536

-- places whose addresses end in time fit
places_at_fit : (a : ℕ) (cs : List Content) → a + 2 * length (places_at a cs) ≤ last_address + 2 → All Fit (places_at a cs)
unfolding places_at
places_at_fit a [] h = tt
places_at_fit a (literal w ∷ cs) h = (record { bound = omega arith; reduced = λ e. absurd (e refl) }, places_at_fit (a + 2) cs (omega arith))
places_at_fit a (address x ∷ cs) h = (record { bound = omega arith; reduced = λ e. mod-lt x (omega arith) }, places_at_fit (a + 2) cs (omega arith))
places_at_fit a (long_address x ∷ cs) h = (
  record { bound = omega arith; reduced = λ e. mod-lt (x / 65536) (omega arith) },
  (record { bound = omega arith; reduced = λ e. mod-lt x (omega arith) }, places_at_fit (a + 4) cs (omega arith)),
)

-- data takes up to two places
data_two : (a : ℕ) {k : Task} → Worded k → length (places_at a (data_contents k)) ≤ 2
unfolding data_contents places_at
data_two a (silent e f) = rw (e, places_at) (omega arith)
data_two a (codes i) = omega arith
data_two a (holds n v) = omega arith

-- what holds of an accepted answer
abbrev pub Holds : {A : Type 0} → (A → Type 0) → Answer A → Type 0
Holds P (accepted a) = P a
Holds P (refused n i) = Unit {0}

-- what holds of an answer, and of what follows it
pub holds_then : {A B : Type 0} (P : A → Type 0) (Q : B → Type 0) (m : Answer A) (f : A → Answer B) → Holds P m → ((a : A) → P a → Holds Q (f a)) → Holds Q (and_then m f)
unfolding and_then
holds_then P Q (accepted a) f h k = k a h
holds_then P Q (refused n i) f h k = tt

-- a list fits, its marks are well paired, and it has at most so many places for each line
pub record Listed (most : ℕ) (s : Text) (l : List Place) : Type 0 where
  pub fit : All Fit l
  pub grouped : Grouped l
  pub count : length l ≤ most * length (cut_at 10 s)

module _ {z : Sizes} {e : Encoder} {most : ℕ} (law : Lawful z e most) where
  -- a task takes at most so many places, for data and code together
  few_words : (t : Table) (a : ℕ) {k : Task} → Worded k → length (places_at a (data_contents k)) + length (places_at a (code_contents_by e t a k)) ≤ most
  unfolding data_contents code_contents_by places_at
  few_words t a (silent d f) = rw (d, f e t a, places_at) (omega arith)
  few_words t a (codes i) = omega (arith, law.few t a i)
  few_words t a (holds n v) = omega (arith, law.two)

  few_a_put : (t : Table) (ps : List Put) → length (flat_map data_places ps) + length (flat_map (code_places_by e t) ps) ≤ most * length ps
  unfolding flat_map data_places code_places_by
  few_a_put t [] = omega arith
  few_a_put t (p ∷ ps) = simp (length-append, mul-suc) (omega (arith, few_a_put t ps, few_words t p.address (worded p.task)))

  -- where the address before and after a line is below the limit, its code ends in time
  code_ends : (t : Table) (base a : ℕ) {k : Task} → Worded k → a < address_limit → address_after z base a k < address_limit
      → a + 2 * length (places_at a (code_contents_by e t a k)) ≤ last_address + 2
  unfolding address_after code_contents_by places_at
  code_ends t base a (silent d f) h l = rw (f e t a, places_at) (omega arith)
  code_ends t base a (codes i) h l = omega (arith, law.ends t a i)
  code_ends t base a (holds n v) h l = omega arith

  -- what a line asks below the limits: its places fit
  record Low (p : Put) : Type 0 where
    address : p.address < address_limit
    ends : (t : Table) → p.address + 2 * length (places_at p.address (code_contents_by e t p.address p.task)) ≤ last_address + 2

  data_fit : (p : Put) → Low p → All Fit (data_places p)
  unfolding data_places
  data_fit p h = places_at_fit p.address (data_contents p.task) (omega (arith, data_two p.address (worded p.task), h.address))

  code_fit : (t : Table) (p : Put) → Low p → All Fit (code_places_by e t p)
  unfolding code_places_by
  code_fit t p h = places_at_fit p.address (code_contents_by e t p.address p.task) (h.ends t)

  -- what a pass over the lines ls comes to: each line asks at most once, below the limits
  record Sound (ls : List SourceLine) (p : Pass) : Type 0 where
    low : All Low p.puts
    count : length p.puts ≤ length ls

  pass_sound : (base a : ℕ) (t : Table) (ls : List SourceLine) → a < address_limit → Holds (Sound ls) (first_pass_by z base a t ls)
  unfolding first_pass_by putting
  pass_sound base a t [] h = record { low = tt; count = omega arith }
  pass_sound base a t (l ∷ ls) h =
      pass_line z base a t l ls (Holds (Sound (l ∷ ls)))
      (λ k. record { low = tt; count = omega arith }) (λ k o. tt) (λ t' k o v. tt)
      (λ t' k o v. holds_then (Sound ls) (Sound (l ∷ ls)) (first_pass_by z base _ t' ls) (putting a task) (pass_sound base (address_after z base a (line_of l.text).task) t' ls v)
      (λ p s. record { low = (record { address = h; ends = λ u. code_ends u base a (worded task) h v }, s.low); count = omega (arith, s.count) }))
    where
      task : Task
      task = (line_of l.text).task

  -- so is the second pass's list
  second_listed : (s : Text) (p : Pass) → Sound (lines_of s) p → Listed most s (second_pass_by e p)
  unfolding second_pass_by lines_of
  second_listed s p h =
      record {
        fit = all_append Fit (flat_map data_places p.puts) (flat_map (code_places_by e p.labels) p.puts)
            (all_flat_map Fit Low data_places data_fit p.puts h.low)
            (all_flat_map Fit Low (code_places_by e p.labels) (code_fit p.labels) p.puts h.low);
        grouped = second_grouped e p;
        count = rw length-append (le_trans (few_a_put p.labels p.puts) (mul-le-mul_left most (omega (arith, length_lines s))));
      }

  -- and so is an accepted source's list
  pub listed : (b : ℕ) (s : Text) (l : List Place) → assemble_by z e b s ≡ accepted l → Listed most s l
  listed b s l h =
      let c = accepts z e b s l h in
      rw c.passed at
      (holds_then (Sound (lines_of s)) (Listed most s) (first_pass_by z b b [] (lines_of s)) (encoded e) (pass_sound b b [] (lines_of s) (leb-false address_limit b c.low))
      (second_listed s))
