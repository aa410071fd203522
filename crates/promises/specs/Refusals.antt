-- Refusals: which calls are refused, with which number and place, and what a call writes.
-- The eleven conditions are said from the rules' text, apart from the tests by which the definitions decide them; 7 speaks of the
-- list that the definitions give, 5 and 6 of what they read in a line (at base 0 RustLists says both of the Rust's states). Assumes nothing.
use Rattle.std.specs.Prelude.{ℕ, suc, ◌+◌, ◌*◌, ◌^◌, ◌<◌, ◌≤◌, ◌≡◌, ◌≢◌, Bool, false, ◌||◌, cond, List, [], ◌∷◌, map, length, get_or, drop, eqb, ℤ, pos, negsuc, ◌+ℤ◌, nat_abs, Some, slice_get}
use Rattle.rules.specs.Limits.{max_source, max_lines, max_labels, address_limit, last_address, distance_limit}
use Rattle.rules.specs.Text.{Text, cut_at, same}
use Rattle.rules.specs.Line.{Task, skipped, end, org, no_org, label_only, instruction, value, space, Line, line_of, size}
use Rattle.rules.specs.Answer.{accepted, refused}
use Rattle.rules.specs.Assemble.{Sizes, Place, Slices, checks, pass_at_by, assemble, assemble_answer, assemble_slices}
use Rattle.rules.specs.Relocate.{move_answer, move_slices}
use Rattle.rules.specs.Tally.{held}
use Rattle.promises.specs.Stages.{Stage, all, by_line, RefusesExactly}

-- p is the lowest index below n at which P holds
pub record Lowest (P : ℕ → Type 0) (n p : ℕ) : Type 0 where
  pub inside : p < n
  pub holds : P p
  pub lowest : (i : ℕ) → i < p → ¬ P i

-- "a source with k such bytes has k + 1 lines"
unfoldable pub line_count : Text → ℕ
line_count [] = 1
line_count (b ∷ s) = cond (eqb 10 b) (suc (line_count s)) (line_count s)

-- the line after the first j ones is l
abbrev pub IsLine : Text → ℕ → Text → Type 0
IsLine s j l = slice_get (cut_at 10 s) j ≡ Some l

-- the address after a line that is read at address a
unfoldable pub next_address : Sizes → ℕ → ℕ → Task → ℕ
next_address z base a skipped = a
next_address z base a end = a
next_address z base a (org v) = base + v
next_address z base a no_org = a
next_address z base a label_only = a
next_address z base a (instruction i) = a + z i
next_address z base a (value n v) = a + n
next_address z base a (space n) = a + n

-- the names that a line records, in order
abbrev pub names_of : Line → List Text
names_of r = map (λ n. n.text) r.names

-- names recorded one after another on top of others: the latest comes first
unfoldable pub on_top : List Text → List Text → List Text
on_top [] ns = ns
on_top (m ∷ ms) ns = on_top ms (m ∷ ns)

-- a name is among the names
unfoldable pub is_among : Text → List Text → Bool
is_among m [] = false
is_among m (n ∷ ns) = same m n || is_among m ns

-- how many different names there are
unfoldable pub distinct : List Text → ℕ
distinct [] = 0
distinct (n ∷ ns) = cond (is_among n ns) (distinct ns) (suc (distinct ns))

-- j lines are read, none of them END; the address is a, and ns are recorded. The limits are set aside here
pub data Reached (z : Sizes) (base : ℕ) (s : Text) : ℕ → ℕ → List Text → Type 0 where
  start : Reached z base s 0 base []
  further : {j a : ℕ} {ns : List Text} {l : Text} → Reached z base s j a ns → IsLine s j l → (line_of l).task ≢ end
      → Reached z base s (suc j) (next_address z base a (line_of l).task) (on_top (names_of (line_of l)) ns)

-- of names recorded on top of ns, one is "a new label when" 256 "are recorded"
pub data TooMany : List Text → List Text → Type 0 where
  now : {m : Text} {ms ns : List Text} → is_among m ns ≡ false → max_labels ≤ distinct ns → TooMany (m ∷ ms) ns
  later : {m : Text} {ms ns : List Text} → TooMany ms (m ∷ ns) → TooMany (m ∷ ms) ns

-- a slice is shorter than n
pub data Shorter (x : Slices) (n : ℕ) : Type 0 where
  addresses : length x.addresses < n → Shorter x n
  words : length x.words < n → Shorter x n
  marks : length x.marks < n → Shorter x n

-- "below 0 or above 2^30 + 1"
pub data OutOfRange : ℤ → Type 0 where
  too_low : {n : ℕ} → OutOfRange (negsuc n)
  too_high : {n : ℕ} → last_address < n → OutOfRange (pos n)

-- refusals 1 to 3: the condition of each number, at its place
pub data SourceCondition (s : Text) : ℕ → ℕ → Type 0 where
  -- "1 source over 32,768 bytes; place its length"
  source_over : max_source < length s → SourceCondition s 1 (length s)
  -- "2 a byte over 127 anywhere; place the first one's index, from 0"
  byte_over : {p : ℕ} → Lowest (λ i. 127 < get_or s i 0) (length s) p → SourceCondition s 2 p
  -- "3 over 4,096 lines; place the line count"
  lines_over : max_lines < line_count s → SourceCondition s 3 (line_count s)

-- refusals 1 to 6, with the sizes z
pub data PassCondition (z : Sizes) (base : ℕ) (s : Text) : ℕ → ℕ → Type 0 where
  of_source : {n p : ℕ} → SourceCondition s n p → PassCondition z base s n p
  -- "4 base 2^30 or more; place 0"
  base_over : address_limit ≤ base → PassCondition z base s 4 0
  -- "5 address 2^30 or more after a line; place the line, from 1"
  address_over : {j a : ℕ} {ns : List Text} {l : Text} → Reached z base s j a ns → IsLine s j l
      → address_limit ≤ next_address z base a (line_of l).task → PassCondition z base s 5 (suc j)
  -- "6 a new label when" 256 "are recorded; place the line"
  labels_over : {j a : ℕ} {ns : List Text} {l : Text} → Reached z base s j a ns → IsLine s j l
      → TooMany (names_of (line_of l)) ns → PassCondition z base s 6 (suc j)

-- refusals 1 to 7
pub data AssembleCondition (base : ℕ) (s : Text) (x : Slices) : ℕ → ℕ → Type 0 where
  of_pass : {n p : ℕ} → PassCondition size base s n p → AssembleCondition base s x n p
  -- "7 any slice shorter than the count needed; place that count"
  slice_short : {l : List Place} → assemble base s ≡ accepted l → Shorter x (length l) → AssembleCondition base s x 7 (length l)

-- "a mark over 3, a 2 not followed by a 3 and a 3 not preceded by a 2": such is the mark at index i of the first n
pub data BadMark (ms : List ℕ) (n i : ℕ) : Type 0 where
  over_3 : 3 < get_or ms i 0 → BadMark ms n i
  high_alone : get_or ms i 0 ≡ 2 → (suc i < n → get_or ms (suc i) 0 ≢ 3) → BadMark ms n i
  low_alone : get_or ms i 0 ≡ 3 → ((j : ℕ) → suc j ≡ i → get_or ms j 0 ≢ 2) → BadMark ms n i

-- refusals 8 to 11 of a move of count places by the distance d
pub data MoveCondition (x : Slices) (count : ℕ) (d : ℤ) : ℕ → ℕ → Type 0 where
  -- "8 distance outside ±(2^30 − 1); place 0"
  distance_over : distance_limit ≤ nat_abs d → MoveCondition x count d 8 0
  -- "9 count over any slice's length; place the count"
  count_over : Shorter x count → MoveCondition x count d 9 count
  -- "10 a mark .. in the first count places; place its index, from 0", "its lowest index"
  mark_wrong : {p : ℕ} → Lowest (BadMark x.marks count) count p → MoveCondition x count d 10 p
  -- "11 a moved address, in those places, below 0 or above 2^30 + 1; place its index", "its lowest index"
  address_out : {p : ℕ} → Lowest (λ i. OutOfRange (pos (get_or x.addresses i 0) +ℤ d)) count p → MoveCondition x count d 11 p

-- "Assembling checks 1, 2, 3, 4, then line by line 6 before 5, then 7."
abbrev pub checking : List Stage
checking = all 1 ∷ all 2 ∷ all 3 ∷ []

abbrev pub passing : List Stage
passing = all 1 ∷ all 2 ∷ all 3 ∷ all 4 ∷ by_line (6 ∷ 5 ∷ []) ∷ []

abbrev pub assembling : List Stage
assembling = all 1 ∷ all 2 ∷ all 3 ∷ all 4 ∷ by_line (6 ∷ 5 ∷ []) ∷ all 7 ∷ []

-- "Moving checks 8, 9, then 10 over all count places, then 11 over all of them"
abbrev pub moving : List Stage
moving = all 8 ∷ all 9 ∷ all 10 ∷ all 11 ∷ []

-- an answer is a refusal exactly by the first condition that holds, in a call's stages: of the checks, of the pass at a base with any
-- sizes, of an assembling call and of a move; no number but those of its stages has a condition
unfoldable pub ChecksRefuseExactly : Type 1
ChecksRefuseExactly = (A : Type 0) (s : Text) (a : A) → RefusesExactly checking (SourceCondition s) (checks s (accepted a))

unfoldable pub PassRefusesExactly : Type 0
PassRefusesExactly = (z : Sizes) (base : ℕ) (s : Text) → RefusesExactly passing (PassCondition z base s) (pass_at_by z base s)

unfoldable pub AssembleRefusesExactly : Type 0
AssembleRefusesExactly = (base : ℕ) (s : Text) (x : Slices) → RefusesExactly assembling (AssembleCondition base s x) (assemble_answer base s x)

unfoldable pub MoveRefusesExactly : Type 0
MoveRefusesExactly = (x : Slices) (count : ℕ) (d : ℤ) → RefusesExactly moving (MoveCondition x count d) (move_answer x count d)

-- "a refusal leaves every slice as it was"
pub record RefusalChangesNothing : Type 0 where
  pub assembling : (base : ℕ) (s : Text) (x : Slices) (n p : ℕ) → assemble_answer base s x ≡ refused n p → assemble_slices base s x ≡ x
  pub moving : (x : Slices) (count : ℕ) (d : ℤ) (n p : ℕ) → move_answer x count d ≡ refused n p → move_slices x count d ≡ x

-- "Places past the count never change."
pub record SamePast (n : ℕ) (x y : Slices) : Type 0 where
  pub addresses : drop n x.addresses ≡ drop n y.addresses
  pub words : drop n x.words ≡ drop n y.words
  pub marks : drop n x.marks ≡ drop n y.marks

-- a call accepted with the count n: no condition holds, the source's list stands in the first n places of y, the rest is that of x
pub record AssembleWrites (base : ℕ) (s : Text) (n : ℕ) (x y : Slices) : Type 0 where
  pub clear : (m q : ℕ) → ¬ AssembleCondition base s x m q
  pub list : List Place
  pub listed : assemble base s ≡ accepted list
  pub counted : n ≡ length list
  pub written : held n y ≡ list
  pub past : SamePast n y x

-- a and b differ by a multiple of m
pub record Congruent (m : ℕ) (a b : ℤ) : Type 0 where
  pub up : ℕ
  pub down : ℕ
  pub meet : a +ℤ pos (m * up) ≡ b +ℤ pos (m * down)

-- the words at i and after it as one number, the high word first
abbrev pub pair_at : List ℕ → ℕ → ℕ
pair_at ws i = 65536 * get_or ws i 0 + get_or ws (suc i) 0

-- place i of x, moved by the distance d, is that of y, in plain integers
pub record MovedAt (d : ℤ) (x y : Slices) (i : ℕ) : Type 0 where
  -- "it adds the distance to each address"
  pub address : pos (get_or y.addresses i 0) ≡ pos (get_or x.addresses i 0) +ℤ d
  -- a word that is not marked stays, and a marked one has 16 bits
  pub stays : get_or x.marks i 0 ≡ 0 → get_or y.words i 0 ≡ get_or x.words i 0
  pub reduced : get_or x.marks i 0 ≢ 0 → get_or y.words i 0 < 65536
  -- "a marked word becomes (word + distance) modulo 65,536"
  pub congruent : get_or x.marks i 0 ≡ 1 → Congruent 65536 (pos (get_or y.words i 0)) (pos (get_or x.words i 0) +ℤ d)
  -- the manual's call: "The mover adds the distance to such a pair as one number modulo 2^32"
  pub pair : get_or x.marks i 0 ≡ 2 → Congruent (2 ^ 32) (pos (pair_at y.words i)) (pos (pair_at x.words i) +ℤ d)

-- a move accepted with the count n: no condition holds, each of the first n places is moved, the rest and all marks are those of x
pub record MoveWrites (count : ℕ) (d : ℤ) (n : ℕ) (x y : Slices) : Type 0 where
  pub clear : (m q : ℕ) → ¬ MoveCondition x count d m q
  pub counted : n ≡ count
  pub moved : (i : ℕ) → i < n → MovedAt d x y i
  pub past : SamePast n y x
  pub kept : y.marks ≡ x.marks
  pub addresses : length y.addresses ≡ length x.addresses
  pub words : length y.words ≡ length x.words

-- what an accepted call writes
pub record AcceptedWrites : Type 0 where
  pub assembling : (base : ℕ) (s : Text) (x : Slices) (n : ℕ) → assemble_answer base s x ≡ accepted n → AssembleWrites base s n x (assemble_slices base s x)
  pub moving : (x : Slices) (count : ℕ) (d : ℤ) (n : ℕ) → move_answer x count d ≡ accepted n → MoveWrites count d n x (move_slices x count d)
