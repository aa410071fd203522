-- The numbers of the C interface, each once: a row is named like its number in include/lagvettu.h, in small letters, and ends with it; the row
-- of a mark is named by the header's words for it. That the definitions which the C functions' contracts cite have these numbers is proved;
-- that the header has them, and no other, is what tools/numbers looks at. Assumes nothing.
use Rattle.std.specs.Prelude.{ℕ, ◌*◌, ◌/◌, ◌%◌, ◌≡◌, ◌<◌, Bool, List, [], ◌∷◌, map, eqb, length, get_or, ℤ, None, Some, Ok, Err}
use Rattle.rules.specs.Limits.{max_source, max_lines, max_labels, max_nesting}
use Rattle.rules.specs.Answer.{accepted, refused}
use Rattle.rules.specs.Encode.{Content, literal, address, long_address}
use Rattle.rules.specs.Assemble.{places_at}
use Rattle.rules.specs.Number.{no_digits, bad_digit, out_of_range}
use Rattle.rules.specs.Relocate.{moved_word, added_word, added_high}
use Rattle.requests.specs.Explain.{Verdict, emitted, because, not_instruction, unknown_mnemonic, wrong_count, wrong_kinds, bad_number, not_recorded, out_of_reach}
use Rattle.requests.specs.Sheet.{Totals, numbers_in}
use Rattle.answer.specs.Refusal.{answer_of}
use Rattle.answer.specs.Told.{told_number}
use Rattle.answer.specs.declared.Refusal.{Refusal}
use Rattle.answer.specs.declared.Refusal.TheVariants.{LongSource, HighByte, ManyLines, HighBase, HighAddress, ManyLabels, ShortSlice, FarDistance, ShortList, BadMark, OutsideAddress, NoLabelNear, NoSuchLine, NoEncoding, OutOfReach, BadCommand, BadBranchName, LongCopy, Misplaced, ManySources, HighTotal}
use Rattle.numeral.specs.declared.Failure.TheVariants.{NoDigits, BadDigit, OutOfRange}
use Rattle.explain.specs.Verdict.{verdict_of, verdict_number}
use Rattle.explain.specs.Called.{Explains}
use Rattle.sheet.specs.Totals.{lent_totals}
use Rattle.machine.specs.Bench.{state_at}
use Rattle.machine.specs.declared.End.TheVariants.{OnHalt, OnWord, OnAccess, OnLimit}
use Rattle.machine.specs.declared.Flags.{Flags}
use Rattle.numbers.specs.Said.{said_number}
use Rattle.numbers.specs.Ran.{end_number, flags_number, Numbers}

-- ---- what a row says
-- a call that is refused answers this
abbrev pub answered : Refusal → ℕ
answered e = told_number {A = ℕ} (answer_of (Err e))

-- the total stands at this place of the twelve, those that are lent and those that are left
unfoldable pub TotalAt : (Totals → ℕ) → ℕ → Type 0
TotalAt g i = ((t : Totals) → get_or (numbers_in t) i 0 ≡ g t) × ((ns : List ℕ) → g (lent_totals ns) ≡ get_or ns i 0)

-- a line's verdict is told as this
abbrev pub told : Verdict → ℕ
told v = verdict_number (verdict_of v)

-- what a call leaves in the verdict's, or the end's, place when it is refused
unfoldable pub NoVerdict : ℕ → Type 0
NoVerdict k = (n p m v q : ℕ) → Explains (refused n p) m v q → v ≡ k

unfoldable pub NoEnd : ℕ → Type 0
NoEnd k = (n p m e s c f q : ℕ) → Numbers (refused n p) m e s c f q → e ≡ k

-- the flag is the bit of this worth
unfoldable pub Bit : (Flags → Bool) → ℕ → Type 0
Bit g b = (f : Flags) → eqb (flags_number f / b % 2) 1 ≡ g f

-- the marks that a list's words get, and how the mover reads one: it keeps the word, adds to it, or adds to it and the next as one number
abbrev pub marks_of : ℕ → Content → List ℕ
marks_of a c = map (λ p. p.mark) (places_at a (c ∷ []))

unfoldable pub OtherWord : ℕ → Type 0
OtherWord m = ((a w : ℕ) → get_or (marks_of a (literal w)) 0 4 ≡ m) × ((d : ℤ) (w n : ℕ) → moved_word d m w n ≡ w)

unfoldable pub LabelWord : ℕ → Type 0
LabelWord m = ((a x : ℕ) → get_or (marks_of a (address x)) 0 4 ≡ m) × ((d : ℤ) (w n : ℕ) → moved_word d m w n ≡ added_word d w)

unfoldable pub HighWord : ℕ → Type 0
HighWord m = ((a x : ℕ) → get_or (marks_of a (long_address x)) 0 4 ≡ m) × ((d : ℤ) (w n : ℕ) → moved_word d m w n ≡ added_high d w n)

unfoldable pub LowWord : ℕ → Type 0
LowWord m = ((a x : ℕ) → get_or (marks_of a (long_address x)) 1 4 ≡ m) × ((d : ℤ) (w n : ℕ) → moved_word d m w n ≡ added_word d w)

-- the memory of a run has so many bytes
unfoldable pub MemoryOf : ℕ → Type 0
MemoryOf k = (n : ℕ) (xs ws a : List ℕ) (pc : ℕ) → length (state_at n xs ws a pc).mem ≡ k

-- ---- the table
pub record NumbersAreThese : Type 0 where
  -- enum lagvettu_refusal
  pub lagvettu_accepted : (n : ℕ) → told_number (accepted n) ≡ 0
  pub lagvettu_source_too_long : (p : ℕ) → answered (LongSource p) ≡ 1
  pub lagvettu_byte_not_ascii : (p : ℕ) → answered (HighByte p) ≡ 2
  pub lagvettu_too_many_lines : (p : ℕ) → answered (ManyLines p) ≡ 3
  pub lagvettu_base_too_high : answered HighBase ≡ 4
  pub lagvettu_address_too_high : (p : ℕ) → answered (HighAddress p) ≡ 5
  pub lagvettu_too_many_labels : (p : ℕ) → answered (ManyLabels p) ≡ 6
  pub lagvettu_slice_too_short : (p : ℕ) → answered (ShortSlice p) ≡ 7
  pub lagvettu_distance_too_far : answered FarDistance ≡ 8
  pub lagvettu_count_too_high : (p : ℕ) → answered (ShortList p) ≡ 9
  pub lagvettu_mark_unknown : (p : ℕ) → answered (BadMark p) ≡ 10
  pub lagvettu_moved_outside : (p : ℕ) → answered (OutsideAddress p) ≡ 11
  pub lagvettu_no_label_near : answered NoLabelNear ≡ 12
  pub lagvettu_no_such_line : (p : ℕ) → answered (NoSuchLine p) ≡ 13
  pub lagvettu_no_encoding : (p : ℕ) → answered (NoEncoding p) ≡ 14
  pub lagvettu_out_of_reach : (p : ℕ) → answered (OutOfReach p) ≡ 15
  pub lagvettu_bad_command : (p : ℕ) → answered (BadCommand p) ≡ 16
  pub lagvettu_bad_branch_name : (p : ℕ) → answered (BadBranchName p) ≡ 17
  pub lagvettu_copy_too_long : (p : ℕ) → answered (LongCopy p) ≡ 18
  pub lagvettu_misplaced : (p : ℕ) → answered (Misplaced p) ≡ 19
  pub lagvettu_too_many_sources : answered ManySources ≡ 20
  pub lagvettu_total_too_high : answered HighTotal ≡ 21
  -- enum lagvettu_total
  pub lagvettu_skipped_lines : TotalAt (λ t. t.skipped_lines) 0
  pub lagvettu_org_lines : TotalAt (λ t. t.org_lines) 1
  pub lagvettu_label_lines : TotalAt (λ t. t.label_lines) 2
  pub lagvettu_data_lines : TotalAt (λ t. t.data_lines) 3
  pub lagvettu_word_lines : TotalAt (λ t. t.word_lines) 4
  pub lagvettu_wordless_lines : TotalAt (λ t. t.wordless_lines) 5
  pub lagvettu_end_lines : TotalAt (λ t. t.end_lines) 6
  pub lagvettu_words : TotalAt (λ t. t.words) 7
  pub lagvettu_marked_words : TotalAt (λ t. t.marked) 8
  pub lagvettu_most_labels : TotalAt (λ t. t.labels) 9
  pub lagvettu_accepted_sources : TotalAt (λ t. t.accepted_sources) 10
  pub lagvettu_refused_sources : TotalAt (λ t. t.refused_sources) 11
  pub lagvettu_totals : (t : Totals) → length (numbers_in t) ≡ 12
  -- enum lagvettu_reading
  pub lagvettu_read : (v : ℕ) → said_number (Some (Ok v)) ≡ 0
  pub lagvettu_no_digits : said_number (Some (Err NoDigits)) ≡ 1
  pub lagvettu_bad_digit : said_number (Some (Err BadDigit)) ≡ 2
  pub lagvettu_out_of_range : said_number (Some (Err OutOfRange)) ≡ 3
  pub lagvettu_no_number : said_number None ≡ 4
  -- enum lagvettu_verdict
  pub lagvettu_word_emitted : told emitted ≡ 0
  pub lagvettu_not_an_instruction : told (because not_instruction) ≡ 1
  pub lagvettu_unknown_mnemonic : told (because unknown_mnemonic) ≡ 2
  pub lagvettu_wrong_operand_count : told (because wrong_count) ≡ 3
  pub lagvettu_operand_kinds : told (because wrong_kinds) ≡ 4
  pub lagvettu_number_no_digits : told (because (bad_number no_digits)) ≡ 5
  pub lagvettu_number_bad_digit : told (because (bad_number bad_digit)) ≡ 6
  pub lagvettu_number_out_of_range : told (because (bad_number out_of_range)) ≡ 7
  pub lagvettu_label_not_recorded : told (because not_recorded) ≡ 8
  pub lagvettu_displacement_out_of_range : told (because out_of_reach) ≡ 9
  pub lagvettu_no_verdict : NoVerdict 255
  -- enum lagvettu_end
  pub lagvettu_on_halt : end_number OnHalt ≡ 0
  pub lagvettu_on_word : end_number OnWord ≡ 1
  pub lagvettu_on_access : end_number OnAccess ≡ 2
  pub lagvettu_on_limit : end_number OnLimit ≡ 3
  pub lagvettu_no_end : NoEnd 255
  -- enum lagvettu_flag
  pub lagvettu_x : Bit (λ f. f.x) 16
  pub lagvettu_n : Bit (λ f. f.n) 8
  pub lagvettu_z : Bit (λ f. f.z) 4
  pub lagvettu_v : Bit (λ f. f.v) 2
  pub lagvettu_c : Bit (λ f. f.c) 1
  pub no_other_bit : (f : Flags) → flags_number f < 32
  -- marks
  pub mark_other_word : OtherWord 0
  pub mark_label_word : LabelWord 1
  pub mark_high_word : HighWord 2
  pub mark_low_word : LowWord 3
  -- sizes
  pub lagvettu_memory : MemoryOf 16384
  pub lagvettu_max_source : max_source ≡ 32768
  pub lagvettu_max_labels : max_labels ≡ 256
  pub lagvettu_max_nesting : max_nesting ≡ 16
  pub lagvettu_max_places : 2 * max_lines ≡ 8192
  pub lagvettu_max_manual_places : 3 * max_lines ≡ 12288
