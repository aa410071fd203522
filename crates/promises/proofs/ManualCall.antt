-- The manual's call: an instruction's size is the length of its words, and under a shift only label addresses change, so that size and
-- words are lawful. Assumes nothing.
use Rattle.std.specs.Prelude.{Option, None, Some, unwrap_or, option_map}
use Rattle.rules.specs.Option.{bind}
use Prim.Native.Nat.{ℕ, zero, suc, ◌+◌, ◌*◌, ◌≤◌}
use mathlib.Core.Path.{◌≡◌, refl}
use mathlib.Core.Bool.{Bool, true, false, false≢true}
use mathlib.Core.List.{List, [], ◌∷◌, map}
use native.Mathlib.Nat.{add_assoc}
use native.Mathlib.Omega.{arith}
use lib.ListN.{length}
use lib.IntN.{ℤ, pos, negsuc}
use Rattle.rules.specs.Text.{Text}
use Rattle.rules.specs.Line.{Instruction as Said}
use Rattle.rules.specs.Label.{Table, find}
use Rattle.rules.specs.Encode.{Content, literal}
use Rattle.rules.specs.Assemble.{places_at, words_by}
use Rattle.rules.proofs.Readings.{All, all_some}
use Rattle.manual.specs.Manual.{mode, register, extension, halves, layout, displacement_word, extensions, operation_word, manual_words}
use Rattle.requests.specs.ManualCall.{Addressing, load, store, point, jump, addressed, Branching, branch, loop, branched, Form, said, labelled, displaced, form, as_if_there, form_size, listed, displacements, fits, first_that, with_address, form_contents, manual_size, manual_encode}
use Rattle.promises.specs.Lawful.{shift_table, shift_content, shift_contents, Lawful}
use Rattle.promises.specs.ManualCall.{SizeIsLength, ThreeWords, ManualIsLawful}
use Rattle.promises.proofs.Compared.{clash}
use Rattle.promises.proofs.Kept.{same_self}
use Rattle.promises.proofs.Shift.{find_shift}
use Rattle.promises.proofs.Words.{bind_map, bind_mapped, sub_shift}
use Rattle.promises.proofs.ManualWords.{three_words}

-- ---- the size
-- what follows a value that is there
bind_all : {X Y : Type 0} (P : Y → Type 0) (o : Option X) (f : X → Option Y) → ((x : X) → o ≡ Some x → All P (f x)) → All P (bind o f)
unfolding bind
bind_all P None f h = tt
bind_all P (Some x) f h = h x refl

-- numbers take a place each
pub literal_places : (a : ℕ) (ws : List ℕ) → length (places_at a (map literal ws)) ≡ length ws
unfolding places_at
literal_places a [] = refl
literal_places a (w ∷ ws) = rw (literal_places (a + 2) ws)

-- what is found passes the test
pub first_that_lem : (f : ℤ → Bool) (ds : List ℤ) → All (λ d. f d ≡ true) (first_that f ds)
unfolding first_that
first_that_lem f [] = tt
first_that_lem f (d ∷ ds) = go (f d) refl (first_that_lem f ds)
  where
    go : (x : Bool) → f d ≡ x → All (λ e. f e ≡ true) (first_that f ds) → All (λ e. f e ≡ true) (elim x [ true ↦ Some d | false ↦ first_that f ds ])
    go true e ih = e
    go false e ih = ih

-- an instruction with an address has three words, one with a displacement in range as many as with any other
addressed_three : (g : Addressing) (x : ℕ) → length (manual_words (addressed g x)) ≡ 3
unfolding manual_words extensions addressed extension halves
addressed_three (load n) x = refl
addressed_three (store n) x = refl
addressed_three (point n) x = refl
addressed_three jump x = refl

branched_length : (g : Branching) (d : ℤ) → fits g d ≡ true → length (manual_words (branched g d)) ≡ length (manual_words (branched g (pos 1)))
unfolding manual_words extensions branched displacement_word fits
branched_length (branch c) (pos zero) h = absurd (false≢true h)
branched_length (branch c) (pos (suc n)) h = refl
branched_length (branch c) (negsuc zero) h = absurd (false≢true h)
branched_length (branch c) (negsuc (suc n)) h = refl
branched_length (loop r) d h = refl

form_size_lem : (ls : Table) (a : ℕ) (g : Form) → All (λ cs. form_size (Some g) ≡ 2 * length (places_at a cs)) (form_contents ls a g)
unfolding form_contents form_size as_if_there with_address places_at
form_size_lem ls a (said i) = rw (literal_places a (manual_words i))
form_size_lem ls a (labelled g l) =
    bind_all (λ cs. 2 * length (manual_words (addressed g 0)) ≡ 2 * length (places_at a cs)) (find l ls) (λ x. Some (with_address g x)) (λ x e. rw (addressed_three g 0))
form_size_lem ls a (displaced g s) =
    bind_all (λ cs. 2 * length (manual_words (branched g (pos 1))) ≡ 2 * length (places_at a cs)) (first_that (fits g) (displacements ls a s)) (λ d. Some (map literal (manual_words (branched g d))))
    (λ d e. rw (literal_places a (manual_words (branched g d)), branched_length g d (all_some (λ x. fits g x ≡ true) (first_that_lem (fits g) (displacements ls a s)) e)))

size_by_lem : (ls : Table) (a : ℕ) (o : Option Form) → All (λ cs. form_size o ≡ 2 * length (places_at a cs)) (bind o (form_contents ls a))
unfolding bind
size_by_lem ls a None = tt
size_by_lem ls a (Some g) = form_size_lem ls a g

size_is : (ls : Table) (a : ℕ) (i : Said) (cs : List Content) → manual_encode ls a i ≡ Some cs → manual_size i ≡ 2 * length (places_at a cs)
unfolding manual_encode manual_size
size_is ls a i cs h = all_some (λ ds. form_size (form i) ≡ 2 * length (places_at a ds)) (size_by_lem ls a (form i)) h

-- a form has words with some labels at some address: with its label recorded, one byte past the program counter
abbrev only : Text → Table
only l = record { name = l; start = 0; address = 3; line = 1 } ∷ []

found_only : (l : Text) → find l (only l) ≡ Some 3
unfolding find
found_only l = rw (same_self l, find)

fits_one : (g : Branching) → fits g (pos 1) ≡ true
unfolding fits
fits_one (branch c) = refl
fits_one (loop r) = refl

one_ahead : (g : Branching) (s : Text) → first_that (fits g) (displacements (only s) 0 s) ≡ Some (pos 1)
unfolding displacements listed first_that
one_ahead g s = rw (found_only s, fits_one g, first_that)

none_fits : (o : Option Form) → ((ls : Table) (a : ℕ) → bind o (form_contents ls a) ≡ None) → form_size o ≡ 0
unfolding bind form_contents form_size
none_fits None h = refl
none_fits (Some (said i)) h = let e = h [] 0 in clash cc
none_fits (Some (labelled g l)) h = let e = rw (found_only l) at (h (only l) 0) in clash cc
none_fits (Some (displaced g s)) h = let e = rw (one_ahead g s) at (h (only s) 0) in clash cc

pub size_is_length : SizeIsLength
unfolding manual_encode manual_size
size_is_length = record { words = size_is; nothing = λ i h. none_fits (form i) h }

-- ---- the words under a shift
-- a displacement does not change with the base
option_map_twice : {X Y Z : Type 0} (g : Y → Z) (f : X → Y) (o : Option X) → option_map g (option_map f o) ≡ option_map (λ x. g (f x)) o
option_map_twice g f None = refl
option_map_twice g f (Some x) = refl

pub displacements_shift : (d : ℕ) (ls : Table) (a : ℕ) (s : Text) → displacements (shift_table d ls) (d + a) s ≡ displacements ls a s
unfolding displacements
displacements_shift d ls a s = simp (find_shift, option_map_twice, add_assoc, sub_shift)

-- numbers stand, and an address in an instruction is d higher
literals_shift : (d : ℕ) (ws : List ℕ) → shift_contents d (map literal ws) ≡ map literal ws
unfolding shift_content
literals_shift d [] = refl
literals_shift d (w ∷ ws) = rw (literals_shift d ws)

address_shift : (d : ℕ) (g : Addressing) (x : ℕ) → shift_contents d (with_address g x) ≡ with_address g (d + x)
unfolding with_address shift_content operation_word layout addressed mode register
address_shift d (load n) x = refl
address_shift d (store n) x = refl
address_shift d (point n) x = refl
address_shift d jump x = refl

contents_shift : (d : ℕ) (ls : Table) (a : ℕ) (g : Form) → form_contents (shift_table d ls) (d + a) g ≡ option_map (shift_contents d) (form_contents ls a g)
unfolding form_contents
contents_shift d ls a (said i) = rw (literals_shift d (manual_words i))
contents_shift d ls a (labelled g l) = simp (find_shift, bind_mapped, bind_map, address_shift)
contents_shift d ls a (displaced g s) = simp (displacements_shift, bind_map, literals_shift)

encode_shift : (d : ℕ) (ls : Table) (a : ℕ) (i : Said) → manual_encode (shift_table d ls) (d + a) i ≡ option_map (shift_contents d) (manual_encode ls a i)
unfolding manual_encode
encode_shift d ls a i = simp (bind_map, contents_shift)

words_shift : (d : ℕ) (ls : Table) (a : ℕ) (i : Said) → words_by manual_encode (shift_table d ls) (d + a) i ≡ shift_contents d (words_by manual_encode ls a i)
words_shift d ls a i = rw (encode_shift d ls a i) (go (manual_encode ls a i))
  where
    go : (o : Option (List Content)) → unwrap_or (option_map (shift_contents d) o) [] ≡ shift_contents d (unwrap_or o [])
    go None = refl
    go (Some cs) = refl

-- ---- so they are lawful: the words take the size, or there are none
takes_size : (t : Table) (a : ℕ) (i : Said) → 2 * length (places_at a (words_by manual_encode t a i)) ≤ manual_size i
unfolding places_at
takes_size t a i = go (manual_encode t a i) refl
  where
    go : (o : Option (List Content)) → manual_encode t a i ≡ o → 2 * length (places_at a (unwrap_or o [])) ≤ manual_size i
    go None e = omega arith
    go (Some cs) e = omega (arith, size_is t a i cs e)

pub lawful : Lawful manual_size manual_encode 3
unfolding ThreeWords
lawful =
    record {
      shifts = words_shift;
      few = λ t a i. omega (arith, takes_size t a i, three_words i);
      two = omega arith;
      ends = λ t a i. omega (arith, takes_size t a i);
    }

pub manual_is_lawful : ManualIsLawful
unfolding ManualIsLawful
manual_is_lawful = lawful
