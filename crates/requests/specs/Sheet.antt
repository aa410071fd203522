-- "One sheet for a plant": the totals of one source at base 0, of a series of sources, and of sheets added up; refusals 20 and
-- 21. Assumes nothing.
use Rattle.std.specs.Prelude.{ℕ, suc, ◌+◌, ◌-◌, ◌^◌, max, Bool, false, ◌||◌, cond, List, [], ◌∷◌, map, ◌++◌, leb, ltb, eqb, length, replicate}
use Rattle.rules.specs.Text.{Text, cut_at}
use Rattle.rules.specs.Line.{Task, skipped, end, org, no_org, label_only, instruction, value, space}
use Rattle.rules.specs.Label.{Table}
use Rattle.rules.specs.Answer.{Answer, accepted, refused, refuse_if, and_then}
use Rattle.rules.specs.Assemble.{Put, Pass, Place, code_places, second_pass, pass_at}

-- "a series of at most 1,000,000 sources"
abbrev pub max_sources : ℕ
max_sources = 1000000

-- "a total handed in above 2^33"
abbrev pub max_total : ℕ
max_total = 2 ^ 33

-- ---- a line
-- the seven classes: "lines skipped, ORG, label only, data, instructions with a word, instructions without, and END together with what
-- follows"
pub data Class : Type 0 where
  skip origin bare_label datum emitting wordless ending : Class

-- their order
unfoldable pub class_number : Class → ℕ
class_number skip = 0
class_number origin = 1
class_number bare_label = 2
class_number datum = 3
class_number emitting = 4
class_number wordless = 5
class_number ending = 6

-- an instruction's, by its places in the list
unfoldable pub word_class : List Place → Class
word_class [] = wordless
word_class (p ∷ ps) = emitting

-- the class of what a line asks at address a, by the labels ls: "judged by its last part"
unfoldable pub class_of : Table → ℕ → Task → Class
class_of ls a skipped = skip
class_of ls a end = ending
class_of ls a (org v) = origin
class_of ls a no_org = origin
class_of ls a label_only = bare_label
class_of ls a (instruction i) = word_class (code_places ls (record { address = a; task = instruction i }))
class_of ls a (value n v) = datum
class_of ls a (space n) = datum

-- the classes of the lines that are read before END
unfoldable pub read_classes : Table → List Put → List Class
read_classes ls us = map (λ (u : Put). class_of ls u.address u.task) us

-- and of all lines of a source
unfoldable pub classes : Text → Pass → List Class
classes s p = read_classes p.labels p.puts ++ replicate (length (cut_at 10 s) - length p.puts) ending

-- how many of them are of the class c
unfoldable pub how_many : Class → List Class → ℕ
how_many c [] = 0
how_many c (d ∷ ds) = cond (eqb (class_number c) (class_number d)) (suc (how_many c ds)) (how_many c ds)

-- "words with mark 1"
unfoldable pub marked_in : List Place → ℕ
marked_in [] = 0
marked_in (p ∷ ps) = cond (eqb p.mark 1) (suc (marked_in ps)) (marked_in ps)

-- ---- totals
-- the seven line counts, words, marked words, "the most labels in one source", and how many sources were accepted and refused
pub record Totals : Type 0 where
  pub skipped_lines : ℕ
  pub org_lines : ℕ
  pub label_lines : ℕ
  pub data_lines : ℕ
  pub word_lines : ℕ
  pub wordless_lines : ℕ
  pub end_lines : ℕ
  pub words : ℕ
  pub marked : ℕ
  pub labels : ℕ
  pub accepted_sources : ℕ
  pub refused_sources : ℕ

abbrev pub totals : ℕ → ℕ → ℕ → ℕ → ℕ → ℕ → ℕ → ℕ → ℕ → ℕ → ℕ → ℕ → Totals
totals a b c d e f g h i j k l =
    record {
      skipped_lines = a;
      org_lines = b;
      label_lines = c;
      data_lines = d;
      word_lines = e;
      wordless_lines = f;
      end_lines = g;
      words = h;
      marked = i;
      labels = j;
      accepted_sources = k;
      refused_sources = l;
    }

-- the twelve numbers
unfoldable pub numbers_in : Totals → List ℕ
numbers_in t =
    t.skipped_lines ∷ t.org_lines ∷ t.label_lines ∷ t.data_lines ∷ t.word_lines ∷ t.wordless_lines ∷ t.end_lines ∷ t.words ∷ t.marked ∷ t.labels
    ∷ t.accepted_sources ∷ t.refused_sources ∷ []

-- "Totals start at 0."
abbrev pub no_totals : Totals
no_totals = totals 0 0 0 0 0 0 0 0 0 0 0 0

-- "A source refused by 1 to 6 adds only to the count of refused ones."
abbrev pub one_refused : Totals
one_refused = totals 0 0 0 0 0 0 0 0 0 0 0 1

-- the totals of an accepted source
unfoldable pub accepted_sheet : Text → Pass → Totals
accepted_sheet s p =
    totals (how_many skip (classes s p)) (how_many origin (classes s p)) (how_many bare_label (classes s p)) (how_many datum (classes s p))
    (how_many emitting (classes s p)) (how_many wordless (classes s p)) (how_many ending (classes s p)) (length (second_pass p)) (marked_in (second_pass p))
    (length p.labels) 1 0

-- "each at base 0"
unfoldable pub answer_sheet : Text → Answer Pass → Totals
answer_sheet s (accepted p) = accepted_sheet s p
answer_sheet s (refused n k) = one_refused

unfoldable pub source_sheet : Text → Totals
source_sheet s = answer_sheet s (pass_at 0 s)

-- added up: of the labels, which are the most in one source, the larger
unfoldable pub plus : Totals → Totals → Totals
plus t u =
    totals (t.skipped_lines + u.skipped_lines) (t.org_lines + u.org_lines) (t.label_lines + u.label_lines) (t.data_lines + u.data_lines)
    (t.word_lines + u.word_lines) (t.wordless_lines + u.wordless_lines) (t.end_lines + u.end_lines) (t.words + u.words) (t.marked + u.marked)
    (max t.labels u.labels) (t.accepted_sources + u.accepted_sources) (t.refused_sources + u.refused_sources)

-- ---- the calls
unfoldable pub sources : Totals → ℕ
sources t = t.accepted_sources + t.refused_sources

unfoldable pub any_over : List ℕ → Bool
any_over [] = false
any_over (n ∷ ns) = ltb max_total n || any_over ns

-- totals with one source more. "20: one source more; place 1,000,000; before the others; 21: a total handed in above 2^33; place 0; next
-- after 20."
unfoldable pub add_source : Totals → Text → Answer Totals
add_source t s =
    refuse_if (leb max_sources (sources t)) 20 max_sources
    (refuse_if (any_over (numbers_in t)) 21 0 (accepted (plus t (source_sheet s))))

-- totals with those of another sheet: 20 if they are of more than 1,000,000 sources together, 21 by a total of either
unfoldable pub add_sheet : Totals → Totals → Answer Totals
add_sheet t u =
    refuse_if (ltb max_sources (sources t + sources u)) 20 max_sources
    (refuse_if (any_over (numbers_in t) || any_over (numbers_in u)) 21 0 (accepted (plus t u)))

-- one source after another
unfoldable pub add_all : Totals → List Text → Answer Totals
add_all t [] = accepted t
add_all t (s ∷ ss) = and_then (add_source t s) (λ u. add_all u ss)

-- the totals of a series
unfoldable pub plant_sheet : List Text → Answer Totals
plant_sheet ss = add_all no_totals ss

-- "The mean of words per script is given as two whole numbers, words and accepted scripts."
pub record Mean : Type 0 where
  pub words : ℕ
  pub scripts : ℕ

unfoldable pub mean_of : Totals → Mean
mean_of t = record { words = t.words; scripts = t.accepted_sources }
