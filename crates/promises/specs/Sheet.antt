-- "One sheet for a plant": of which class a line is, by its text and by the list; what a source adds to the totals; refusals 20 and
-- 21; that the classes add up to the lines, and the sheets of a series' parts to that of the series, in any order. Assumes nothing.
use Rattle.std.specs.Prelude.{ℕ, suc, ◌+◌, ◌^◌, ◌<◌, ◌≤◌, ◌≡◌, ◌≢◌, true, List, [], ◌∷◌, ◌++◌, length, Some, slice_get}
use Rattle.rules.specs.Text.{Text, bytes, uppers, trim, starts, contains}
use Rattle.rules.specs.Line.{size}
use Rattle.rules.specs.Encode.{encode}
use Rattle.rules.specs.Label.{Label}
use Rattle.rules.specs.Answer.{accepted, refused, and_then}
use Rattle.rules.specs.Assemble.{Pass, Place, pass_at, assemble}
use Rattle.requests.specs.Sheet.{Class, skip, origin, bare_label, datum, emitting, wordless, ending, Totals, totals, no_totals, add_source, add_sheet, plant_sheet}
use Rattle.promises.specs.Stages.{Stage, all, RefusesExactly}
use Rattle.promises.specs.Refusals.{line_count, IsLine, PassCondition}
use Rattle.promises.specs.Nearest.{In}
use Rattle.promises.specs.Symbols.{IsSymbols}
use Rattle.promises.specs.Explain.{PutsWords, PutsNone}

-- ---- a line by its text u, which has no outer blanks
-- "Empty, or first byte `;`: skipped."
pub data Skips : Text → Type 0 where
  is_empty : Skips []
  is_comment : {u : Text} → Skips (59 ∷ u)

-- "Upper-cased start END", of a line that is not skipped; and ORG
pub record Ends (u : Text) : Type 0 where
  pub kept : ¬ Skips u
  pub begins : starts (bytes "END") (uppers u) ≡ true

pub record Orgs (u : Text) : Type 0 where
  pub kept : ¬ Skips u
  pub begins : starts (bytes "ORG") (uppers u) ≡ true

-- the last part, by which it is judged where it is none of these: what follows the first colon, without outer blanks, or the whole line
pub data LastPart (u r : Text) : Type 0 where
  without_colon : ¬ In 58 u → r ≡ u → LastPart u r
  past_colon : (x y : Text) → u ≡ x ++ (58 ∷ y) → ¬ In 58 x → r ≡ trim y → LastPart u r

pub record Judged (u r : Text) : Type 0 where
  pub kept : ¬ Skips u
  pub reads_on : ¬ Ends u
  pub stays : ¬ Orgs u
  pub part : LastPart u r

-- "Upper-cased, contains `DC.` or `DS.`: data."
pub data HoldsData (r : Text) : Type 0 where
  a_constant : contains (bytes "DC.") (uppers r) ≡ true → HoldsData r
  a_space : contains (bytes "DS.") (uppers r) ≡ true → HoldsData r

-- any other last part is an instruction
pub record HoldsInstruction (r : Text) : Type 0 where
  pub some_text : r ≢ []
  pub no_data : ¬ HoldsData r

-- the class of a line that is read before END, the line after the first j ones of a source whose first pass came to p
pub data ReadClass (p : Pass) (j : ℕ) (u : Text) : Class → Type 0 where
  -- "lines skipped, ORG, label only, data"
  skipped_line : Skips u → ReadClass p j u skip
  org_line : Orgs u → ReadClass p j u origin
  only_label : Judged u [] → ReadClass p j u bare_label
  data_line : {r : Text} → Judged u r → HoldsData r → ReadClass p j u datum
  -- "instructions with a word, instructions without": the list has words of it, or it is the list without that line
  word_line : {r : Text} {a : ℕ} → Judged u r → HoldsInstruction r → PutsWords encode p j a → ReadClass p j u emitting
  wordless_line : {r : Text} → Judged u r → HoldsInstruction r → PutsNone encode p j → ReadClass p j u wordless

-- the class of any line of such a source
pub data InClass (s : Text) (p : Pass) (j : ℕ) : Class → Type 0 where
  -- "END together with what follows"
  ended : {i : ℕ} {l : Text} → IsLine s i l → Ends (trim l) → i ≤ j → j < line_count s → InClass s p j ending
  read : {l : Text} {c : Class} → ((i : ℕ) (k : Text) → i ≤ j → IsLine s i k → ¬ Ends (trim k)) → IsLine s j l → ReadClass p j (trim l) c → InClass s p j c

-- each line of an accepted source is in one class
pub record EachInOneClass : Type 0 where
  pub in_one : (s : Text) (p : Pass) → pass_at 0 s ≡ accepted p → (j : ℕ) → j < line_count s → (c : Class) × InClass s p j c
  pub in_no_other : (s : Text) (p : Pass) → pass_at 0 s ≡ accepted p → (j : ℕ) (c d : Class) → InClass s p j c → InClass s p j d → c ≡ d

-- ---- what a source adds
-- n of the entries have the property P
pub data HowMany {A : Type 0} (P : A → Type 0) : List A → ℕ → Type 0 where
  no_entry : HowMany P [] 0
  one_more : {x : A} {xs : List A} {n : ℕ} → P x → HowMany P xs n → HowMany P (x ∷ xs) (suc n)
  as_many : {x : A} {xs : List A} {n : ℕ} → ¬ P x → HowMany P xs n → HowMany P (x ∷ xs) n

-- n of the lines are of the class c
abbrev pub LinesIn : Class → List Class → ℕ → Type 0
LinesIn c cs n = HowMany (λ d. d ≡ c) cs n

-- the totals of an accepted source
pub record OfAccepted (s : Text) (t : Totals) : Type 0 where
  pub clear : (m q : ℕ) → ¬ PassCondition size 0 s m q
  pub pass : Pass
  pub passed : pass_at 0 s ≡ accepted pass
  -- the class of each line
  pub classes : List Class
  pub all_lines : length classes ≡ line_count s
  pub each : (j : ℕ) (c : Class) → slice_get classes j ≡ Some c → InClass s pass j c
  pub of_skipped : LinesIn skip classes t.skipped_lines
  pub of_org : LinesIn origin classes t.org_lines
  pub of_label : LinesIn bare_label classes t.label_lines
  pub of_data : LinesIn datum classes t.data_lines
  pub of_word : LinesIn emitting classes t.word_lines
  pub of_wordless : LinesIn wordless classes t.wordless_lines
  pub of_end : LinesIn ending classes t.end_lines
  -- "words, words with mark 1": those of the list
  pub list : List Place
  pub listed : assemble 0 s ≡ accepted list
  pub of_words : t.words ≡ length list
  pub of_marked : HowMany (λ (p : Place). p.mark ≡ 1) list t.marked
  -- the labels, each once
  pub symbols : List Label
  pub are_symbols : IsSymbols 0 s symbols
  pub of_labels : t.labels ≡ length symbols
  pub accepts : t.accepted_sources ≡ 1
  pub refuses_none : t.refused_sources ≡ 0

-- "A source refused by 1 to 6 adds only to the count of refused ones."
pub record OfRefused (s : Text) (t : Totals) : Type 0 where
  pub number : ℕ
  pub place : ℕ
  pub condition : PassCondition size 0 s number place
  pub adds_only : t ≡ totals 0 0 0 0 0 0 0 0 0 0 0 1

pub data IsSheet (s : Text) (t : Totals) : Type 0 where
  of_accepted : OfAccepted s t → IsSheet s t
  of_refused : OfRefused s t → IsSheet s t

-- n is the larger of two numbers
pub data Larger (a b : ℕ) : ℕ → Type 0 where
  the_first : b ≤ a → Larger a b a
  the_second : a ≤ b → Larger a b b

-- v is t and u added up, total by total; of the most labels in one source the larger
pub record Added (t u v : Totals) : Type 0 where
  pub of_skipped : v.skipped_lines ≡ t.skipped_lines + u.skipped_lines
  pub of_org : v.org_lines ≡ t.org_lines + u.org_lines
  pub of_label : v.label_lines ≡ t.label_lines + u.label_lines
  pub of_data : v.data_lines ≡ t.data_lines + u.data_lines
  pub of_word : v.word_lines ≡ t.word_lines + u.word_lines
  pub of_wordless : v.wordless_lines ≡ t.wordless_lines + u.wordless_lines
  pub of_end : v.end_lines ≡ t.end_lines + u.end_lines
  pub of_words : v.words ≡ t.words + u.words
  pub of_marked : v.marked ≡ t.marked + u.marked
  pub of_labels : Larger t.labels u.labels v.labels
  pub of_accepted : v.accepted_sources ≡ t.accepted_sources + u.accepted_sources
  pub of_refused : v.refused_sources ≡ t.refused_sources + u.refused_sources

-- n is one of the twelve totals
pub data OneOfTotals (t : Totals) : ℕ → Type 0 where
  skipped_total : OneOfTotals t t.skipped_lines
  org_total : OneOfTotals t t.org_lines
  label_total : OneOfTotals t t.label_lines
  data_total : OneOfTotals t t.data_lines
  word_total : OneOfTotals t t.word_lines
  wordless_total : OneOfTotals t t.wordless_lines
  end_total : OneOfTotals t t.end_lines
  words_total : OneOfTotals t t.words
  marked_total : OneOfTotals t t.marked
  labels_total : OneOfTotals t t.labels
  accepted_total : OneOfTotals t t.accepted_sources
  refused_total : OneOfTotals t t.refused_sources

-- refusals 20 and 21
pub data SheetCondition (t : Totals) : ℕ → ℕ → Type 0 where
  -- "20: one source more; place 1,000,000"
  source_more : 1000000 ≤ t.accepted_sources + t.refused_sources → SheetCondition t 20 1000000
  -- "21: a total handed in above 2^33; place 0"
  total_over : {n : ℕ} → OneOfTotals t n → 2 ^ 33 < n → SheetCondition t 21 0

-- "before the others"; "next after 20"
abbrev pub sheeting : List Stage
sheeting = all 20 ∷ all 21 ∷ []

unfoldable pub SheetRefusesExactly : Type 0
SheetRefusesExactly = (t : Totals) (s : Text) → RefusesExactly sheeting (SheetCondition t) (add_source t s)

-- an accepted call: no condition holds, and the source's own totals are added
pub record SourceAdded (t : Totals) (s : Text) (v : Totals) : Type 0 where
  pub clear : (m q : ℕ) → ¬ SheetCondition t m q
  pub own : Totals
  pub is_own : IsSheet s own
  pub added : Added t own v

unfoldable pub SourcesAreAdded : Type 0
SourcesAreAdded = (t : Totals) (s : Text) (v : Totals) → add_source t s ≡ accepted v → SourceAdded t s v

-- ---- a series
-- the totals of a series, source by source
pub data OfSeries : List Text → Totals → Type 0 where
  no_source : OfSeries [] no_totals
  with_source : {s : Text} {ss : List Text} {t u v : Totals} → IsSheet s t → OfSeries ss u → Added t u v → OfSeries (s ∷ ss) v

-- n is the number of "all lines of the accepted sources"
pub data AcceptedLines : List Text → ℕ → Type 0 where
  no_lines : AcceptedLines [] 0
  accepted_lines : {s : Text} {ss : List Text} {n : ℕ} → ((m q : ℕ) → ¬ PassCondition size 0 s m q) → AcceptedLines ss n
      → AcceptedLines (s ∷ ss) (line_count s + n)
  refused_lines : {s : Text} {ss : List Text} {m q n : ℕ} → PassCondition size 0 s m q → AcceptedLines ss n → AcceptedLines (s ∷ ss) n

-- "The seven line counts add up to all lines of the accepted sources"
unfoldable pub ClassesAddUp : Type 0
ClassesAddUp =
    (ss : List Text) (t : Totals) → plant_sheet ss ≡ accepted t
    → AcceptedLines ss (t.skipped_lines + t.org_lines + t.label_lines + t.data_lines + t.word_lines + t.wordless_lines + t.end_lines)

-- an accepted series
pub record SeriesAdded (ss : List Text) : Type 0 where
  pub sheet : Totals
  pub answered : plant_sheet ss ≡ accepted sheet
  pub of_series : OfSeries ss sheet
  -- no total is above 2^33: 21 never comes, and no sum of 64 bits wraps
  pub low : (n : ℕ) → OneOfTotals sheet n → n ≤ 2 ^ 33

-- a list in another order, by exchanges of neighbours
pub data Reordered {A : Type 0} (xs : List A) : List A → Type 0 where
  as_it_is : Reordered xs xs
  exchanged : (x y : A) (front back : List A) → Reordered xs (front ++ (x ∷ y ∷ back)) → Reordered xs (front ++ (y ∷ x ∷ back))

pub record SheetsAddUp : Type 0 where
  -- "a series of at most 1,000,000 sources" has its totals, and no longer one
  pub accepts : (ss : List Text) → length ss ≤ 1000000 → SeriesAdded ss
  pub refuses : (ss : List Text) → 1000000 < length ss → plant_sheet ss ≡ refused 20 1000000
  -- the sheets of its parts add up to that of the whole, or are refused as it is
  pub parts : (ss ts : List Text) → and_then (plant_sheet ss) (λ t. and_then (plant_sheet ts) (add_sheet t)) ≡ plant_sheet (ss ++ ts)
  pub in_any_order : (ss ts : List Text) → Reordered ss ts → plant_sheet ss ≡ plant_sheet ts
