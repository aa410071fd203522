-- Each number by its definition. Assumes nothing.
use borrow.Author.Tests.{ltb-true}
use Prim.Native.Nat.{ℕ, zero, suc, ◌/◌, ◌%◌, ◌<◌}
use mathlib.Core.Path.{◌≡◌, refl, ◌∙◌}
use mathlib.Core.Bool.{Bool, true, false, ◌&&◌}
use mathlib.Core.List.{List}
use lib.Dec.{eqb, ltb}
use lib.ListN.{length, replicate, length-set, length-replicate}
use Rattle.rules.specs.Assemble.{places_at}
use Rattle.rules.specs.Relocate.{moved_word}
use Rattle.requests.specs.Sheet.{numbers_in}
use Rattle.machine.specs.Bench.{fill_of, state_at}
use Rattle.machine.specs.declared.Flags.{Flags}
use Rattle.numbers.specs.Ran.{flags_number, not_run}
use Rattle.explain.specs.Called.{not_told}
use Rattle.promises_numbers.specs.Numbers.{NumbersAreThese, NoVerdict, NoEnd, Bit, MemoryOf, TotalAt, OtherWord, LabelWord, HighWord, LowWord}

-- ---- what is left where a call is refused
no_verdict : NoVerdict 255
unfolding NoVerdict
no_verdict n p m v q (not_told k l) = refl

no_end : NoEnd 255
unfolding NoEnd
no_end n p m e s c f q (not_run k l) = refl

-- ---- flags, by all 32 of them
abbrev both : (Bool → Bool) → Bool
both p = p true && p false

both_are : (p : Bool → Bool) → both p ≡ true → (b : Bool) → p b ≡ true
both_are p e b = go (p true) (p false) refl refl e b
  where
    go : (x y : Bool) → p true ≡ x → p false ≡ y → x && y ≡ true → (b : Bool) → p b ≡ true
    go true true t f e true = t
    go true true t f e false = f
    go true false t f e b = let z : ◌≡◌ {A = Bool} false true = e in absurd cc
    go false y t f e b = let z : ◌≡◌ {A = Bool} false true = e in absurd cc

abbrev flags : Bool → Bool → Bool → Bool → Bool → Flags
flags x n z v c = record { x = x; n = n; z = z; v = v; c = c }

abbrev all : (Flags → Bool) → Bool
all p = both (λ x. both (λ n. both (λ z. both (λ v. both (λ c. p (flags x n z v c))))))

all_are : (p : Flags → Bool) → all p ≡ true → (f : Flags) → p f ≡ true
all_are p e f =
    both_are (λ c. p (flags f.x f.n f.z f.v c))
    (both_are (λ v. both (λ c. p (flags f.x f.n f.z v c)))
    (both_are (λ z. both (λ v. both (λ c. p (flags f.x f.n z v c))))
    (both_are (λ n. both (λ z. both (λ v. both (λ c. p (flags f.x n z v c)))))
    (both_are (λ x. both (λ n. both (λ z. both (λ v. both (λ c. p (flags x n z v c)))))) e f.x) f.n) f.z) f.v) f.c

abbrev alike : Bool → Bool → Bool
alike true true = true
alike true false = false
alike false true = false
alike false false = true

same : (a b : Bool) → alike a b ≡ true → a ≡ b
same true true e = refl
same true false e = absurd cc
same false true e = absurd cc
same false false e = refl

bit : (g : Flags → Bool) (b : ℕ) → all (λ f. alike (eqb (flags_number f / b % 2) 1) (g f)) ≡ true → Bit g b
unfolding Bit
bit g b e f = same _ _ (all_are (λ f. alike (eqb (flags_number f / b % 2) 1) (g f)) e f)

no_other : (f : Flags) → flags_number f < 32
no_other f = ltb-true _ 32 (all_are (λ f. ltb (flags_number f) 32) refl f)

-- ---- filling keeps the memory's length
filled : (n : ℕ) (xs ws mem : List ℕ) → length (fill_of n xs ws mem) ≡ length mem
unfolding fill_of
filled zero xs ws mem = refl
filled (suc n) xs ws mem = rw (length-set, length-set) (filled n xs ws mem)

memory : MemoryOf 16384
unfolding MemoryOf state_at
memory n xs ws a pc = filled n xs ws (replicate 16384 0) ∙ length-replicate {A = ℕ} 16384 0

pub numbers_are_these : NumbersAreThese
unfolding TotalAt numbers_in OtherWord LabelWord HighWord LowWord places_at moved_word
numbers_are_these =
    record {
      lagvettu_accepted = λ n. refl;
      lagvettu_source_too_long = λ p. refl;
      lagvettu_byte_not_ascii = λ p. refl;
      lagvettu_too_many_lines = λ p. refl;
      lagvettu_base_too_high = refl;
      lagvettu_address_too_high = λ p. refl;
      lagvettu_too_many_labels = λ p. refl;
      lagvettu_slice_too_short = λ p. refl;
      lagvettu_distance_too_far = refl;
      lagvettu_count_too_high = λ p. refl;
      lagvettu_mark_unknown = λ p. refl;
      lagvettu_moved_outside = λ p. refl;
      lagvettu_no_label_near = refl;
      lagvettu_no_such_line = λ p. refl;
      lagvettu_no_encoding = λ p. refl;
      lagvettu_out_of_reach = λ p. refl;
      lagvettu_bad_command = λ p. refl;
      lagvettu_bad_branch_name = λ p. refl;
      lagvettu_copy_too_long = λ p. refl;
      lagvettu_misplaced = λ p. refl;
      lagvettu_too_many_sources = refl;
      lagvettu_total_too_high = refl;
      lagvettu_skipped_lines = (λ t. refl, λ ns. refl);
      lagvettu_org_lines = (λ t. refl, λ ns. refl);
      lagvettu_label_lines = (λ t. refl, λ ns. refl);
      lagvettu_data_lines = (λ t. refl, λ ns. refl);
      lagvettu_word_lines = (λ t. refl, λ ns. refl);
      lagvettu_wordless_lines = (λ t. refl, λ ns. refl);
      lagvettu_end_lines = (λ t. refl, λ ns. refl);
      lagvettu_words = (λ t. refl, λ ns. refl);
      lagvettu_marked_words = (λ t. refl, λ ns. refl);
      lagvettu_most_labels = (λ t. refl, λ ns. refl);
      lagvettu_accepted_sources = (λ t. refl, λ ns. refl);
      lagvettu_refused_sources = (λ t. refl, λ ns. refl);
      lagvettu_totals = λ t. refl;
      lagvettu_read = λ v. refl;
      lagvettu_no_digits = refl;
      lagvettu_bad_digit = refl;
      lagvettu_out_of_range = refl;
      lagvettu_no_number = refl;
      lagvettu_word_emitted = refl;
      lagvettu_not_an_instruction = refl;
      lagvettu_unknown_mnemonic = refl;
      lagvettu_wrong_operand_count = refl;
      lagvettu_operand_kinds = refl;
      lagvettu_number_no_digits = refl;
      lagvettu_number_bad_digit = refl;
      lagvettu_number_out_of_range = refl;
      lagvettu_label_not_recorded = refl;
      lagvettu_displacement_out_of_range = refl;
      lagvettu_no_verdict = no_verdict;
      lagvettu_on_halt = refl;
      lagvettu_on_word = refl;
      lagvettu_on_access = refl;
      lagvettu_on_limit = refl;
      lagvettu_no_end = no_end;
      lagvettu_x = bit (λ f. f.x) 16 refl;
      lagvettu_n = bit (λ f. f.n) 8 refl;
      lagvettu_z = bit (λ f. f.z) 4 refl;
      lagvettu_v = bit (λ f. f.v) 2 refl;
      lagvettu_c = bit (λ f. f.c) 1 refl;
      no_other_bit = no_other;
      mark_other_word = (λ a w. refl, λ d w n. refl);
      mark_label_word = (λ a w. refl, λ d w n. refl);
      mark_high_word = (λ a w. refl, λ d w n. refl);
      mark_low_word = (λ a w. refl, λ d w n. refl);
      lagvettu_memory = memory;
      lagvettu_max_source = refl;
      lagvettu_max_labels = refl;
      lagvettu_max_nesting = refl;
      lagvettu_max_places = refl;
      lagvettu_max_manual_places = refl;
    }
