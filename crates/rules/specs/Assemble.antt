-- The two passes, refusals 1 to 7, the list, and the lent slices after a call, by the rules. The passes are said over a size and an
-- encoder, `.._by`; the stations' own size and words have the plain names. A call goes in stages: `checks`, `pass_at`, `encoded`, `room`. Assumes nothing.
use Rattle.std.specs.Prelude.{ℕ, suc, ◌+◌, ◌/◌, ◌%◌, Bool, true, false, ◌||◌, length, drop, leb, ltb, Option, None, Some, unwrap_or}
use mathlib.Core.List.{List, [], ◌∷◌, map, flat_map, ◌++◌}
use Rattle.rules.specs.Limits.{max_source, max_lines, address_limit}
use Rattle.rules.specs.Text.{Text, cut_at}
use Rattle.rules.specs.Line.{SourceLine, lines_of, Instruction, Task, skipped, end, org, no_org, label_only, instruction, value, space, Line, line_of, size}
use Rattle.rules.specs.Label.{Table, record_all}
use Rattle.rules.specs.Encode.{Content, literal, address, long_address, encode}
use Rattle.rules.specs.Answer.{Answer, accepted, refused, refuse_if, refuse_at, and_then}

-- what a line asks, at the line's address
pub record Put : Type 0 where
  pub address : ℕ
  pub task : Task

-- what the first pass comes to: the labels, and what the lines ask
pub record Pass : Type 0 where
  pub labels : Table
  pub puts : List Put

-- by how many bytes an instruction advances the address
abbrev pub Sizes : Type 0
Sizes = Instruction → ℕ

-- the address after a line that is read at address a; ORG: "the address becomes base plus it"
unfoldable pub address_after : Sizes → ℕ → ℕ → Task → ℕ
address_after z base a skipped = a
address_after z base a end = a
address_after z base a (org v) = base + v
address_after z base a no_org = a
address_after z base a label_only = a
address_after z base a (instruction i) = a + z i
address_after z base a (value n v) = a + n
address_after z base a (space n) = a + n

unfoldable pub is_end : Task → Bool
is_end skipped = false
is_end end = true
is_end (org v) = false
is_end no_org = false
is_end label_only = false
is_end (instruction i) = false
is_end (value n v) = false
is_end (space n) = false

-- what a line does: it ends the passes; it holds a label too many; or it leaves an address and labels
pub data Step : Type 0 where
  halt : Step
  full : Step
  next : ℕ → Table → Step

unfoldable pub leaving : ℕ → Option Table → Step
leaving a None = full
leaving a (Some t) = next a t

-- the source line l, which says r, read at address a with the labels t
unfoldable pub step_by : Sizes → ℕ → ℕ → Table → SourceLine → Line → Step
step_by z base a t l r =
    elim (is_end r.task) [ true ↦ halt | false ↦ leaving (address_after z base a r.task) (record_all l a r.names t) ]

unfoldable pub putting : ℕ → Task → Pass → Answer Pass
putting a k p = accepted (record { labels = p.labels; puts = record { address = a; task = k } ∷ p.puts })

-- the first pass, line by line refusal 6 before 5
unfoldable pub first_pass_by : Sizes → ℕ → ℕ → Table → List SourceLine → Answer Pass
first_pass_by z base a t [] = accepted (record { labels = t; puts = [] })
first_pass_by z base a t (l ∷ ls) =
    elim (step_by z base a t l (line_of l.text)) [
      | halt ↦ accepted (record { labels = t; puts = [] })
      | full ↦ refused 6 l.number
      | next a' t' ↦ elim (ltb a' address_limit) [
        | true ↦ and_then (first_pass_by z base a' t' ls) (putting a (line_of l.text).task)
        | false ↦ refused 5 l.number
      ]
    ]

-- with the stations' sizes
abbrev pub step : ℕ → ℕ → Table → SourceLine → Line → Step
step base a t l r = step_by size base a t l r

abbrev pub first_pass : ℕ → ℕ → Table → List SourceLine → Answer Pass
first_pass base a t ls = first_pass_by size base a t ls

-- a place of the list: an address, a word, and a mark, which is not 0 on a label's address (a relocation flag)
pub record Place : Type 0 where
  pub address : ℕ
  pub word : ℕ
  pub mark : ℕ

abbrev pub place : ℕ → ℕ → ℕ → Place
place a w m = record { address = a; word = w; mark = m }

-- "Label addresses in ext are taken modulo 65,536 and carry mark 1; all other words carry 0", the second "at address + 2".
-- "A 32-bit label address carries mark 2 on its high word and 3 on the low."
unfoldable pub places_at : ℕ → List Content → List Place
places_at a [] = []
places_at a (literal w ∷ cs) = place a w 0 ∷ places_at (a + 2) cs
places_at a (address x ∷ cs) = place a (x % 65536) 1 ∷ places_at (a + 2) cs
places_at a (long_address x ∷ cs) = place a (x / 65536 % 65536) 2 ∷ place (a + 2) (x % 65536) 3 ∷ places_at (a + 4) cs

-- a value is "put as high word at the address and low word at address + 2, at every size"
unfoldable pub data_contents : Task → List Content
data_contents skipped = []
data_contents end = []
data_contents (org v) = []
data_contents no_org = []
data_contents label_only = []
data_contents (instruction i) = []
data_contents (value n v) = literal (v / 65536) ∷ literal (v % 65536) ∷ []
data_contents (space n) = []

-- the words of an instruction, by the labels, at an address; none where it "yields no word"
abbrev pub Encoder : Type 0
Encoder = Table → ℕ → Instruction → Option (List Content)

abbrev pub words_by : Encoder → Table → ℕ → Instruction → List Content
words_by e t a i = unwrap_or (e t a i) []

unfoldable pub code_contents_by : Encoder → Table → ℕ → Task → List Content
code_contents_by e t a skipped = []
code_contents_by e t a end = []
code_contents_by e t a (org v) = []
code_contents_by e t a no_org = []
code_contents_by e t a label_only = []
code_contents_by e t a (instruction i) = words_by e t a i
code_contents_by e t a (value n v) = []
code_contents_by e t a (space n) = []

unfoldable pub data_places : Put → List Place
data_places p = places_at p.address (data_contents p.task)

unfoldable pub code_places_by : Encoder → Table → Put → List Place
code_places_by e t p = places_at p.address (code_contents_by e t p.address p.task)

-- "Data words come first in source order, and instruction words go in after the data words."
unfoldable pub second_pass_by : Encoder → Pass → List Place
second_pass_by e p = flat_map data_places p.puts ++ flat_map (code_places_by e p.labels) p.puts

-- with the stations' words
abbrev pub code_contents : Table → ℕ → Task → List Content
code_contents t a k = code_contents_by encode t a k

abbrev pub code_places : Table → Put → List Place
code_places t p = code_places_by encode t p

abbrev pub second_pass : Pass → List Place
second_pass p = second_pass_by encode p

-- the index of the first byte over 127, counted from i
unfoldable pub first_high : ℕ → Text → Option ℕ
first_high i [] = None
first_high i (b ∷ s) = elim (ltb 127 b) [ true ↦ Some i | false ↦ first_high (suc i) s ]

-- refusals 1 to 3, of a source alone, else what comes next
unfoldable pub checks : {A : Type 0} → Text → Answer A → Answer A
checks s a =
    refuse_if (ltb max_source (length s)) 1 (length s)
    (refuse_at (first_high 0 s) 2
    (refuse_if (ltb max_lines (length (cut_at 10 s))) 3 (length (cut_at 10 s)) a))

-- "Assembling checks 1, 2, 3, 4, then line by line 6 before 5": what the first pass over a source at a base comes to
unfoldable pub pass_at_by : Sizes → ℕ → Text → Answer Pass
pass_at_by z base s = checks s (refuse_if (leb address_limit base) 4 0 (first_pass_by z base base [] (lines_of s)))

abbrev pub pass_at : ℕ → Text → Answer Pass
pass_at base s = pass_at_by size base s

-- the list of what the first pass came to
abbrev pub encoded : Encoder → Pass → Answer (List Place)
encoded e p = accepted (second_pass_by e p)

-- the list of a source at a base
unfoldable pub assemble_by : Sizes → Encoder → ℕ → Text → Answer (List Place)
assemble_by z e base s = and_then (pass_at_by z base s) (encoded e)

abbrev pub assemble : ℕ → Text → Answer (List Place)
assemble base s = assemble_by size encode base s

-- the three lent slices
pub record Slices : Type 0 where
  pub addresses : List ℕ
  pub words : List ℕ
  pub marks : List ℕ

abbrev pub slices : List ℕ → List ℕ → List ℕ → Slices
slices xs ws ms = record { addresses = xs; words = ws; marks = ms }

-- one of the slices is shorter than n
unfoldable pub short : Slices → ℕ → Bool
short x n = ltb (length x.addresses) n || ltb (length x.words) n || ltb (length x.marks) n

-- "then 7": the count of a list that the slices have room for
unfoldable pub room : Slices → List Place → Answer ℕ
room x l = refuse_if (short x (length l)) 7 (length l) (accepted (length l))

-- the answer of a call, the count or a refusal
unfoldable pub assemble_answer : ℕ → Text → Slices → Answer ℕ
assemble_answer base s x = and_then (assemble base s) (room x)

-- numbers put over the first places of a slice
unfoldable pub over : List ℕ → List ℕ → List ℕ
over new old = new ++ drop (length new) old

unfoldable pub holding : List Place → Slices → Slices
holding l x =
    record {
      addresses = over (map (λ p. p.address) l) x.addresses;
      words = over (map (λ p. p.word) l) x.words;
      marks = over (map (λ p. p.mark) l) x.marks;
    }

-- the slices after a call: "nothing is written" by a refusal
unfoldable pub write_list : Answer (List Place) → Slices → Slices
write_list (refused n p) x = x
write_list (accepted l) x = elim (short x (length l)) [ true ↦ x | false ↦ holding l x ]

unfoldable pub assemble_slices : ℕ → Text → Slices → Slices
assemble_slices base s x = write_list (assemble base s) x
