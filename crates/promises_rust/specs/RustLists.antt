-- The comparison with the Rust: "for all ASCII sources within .. limits every list is .. at base 0 that of the Rust `assemble`". The limits
-- are those of the source and of the Rust's own states, so that which sources are accepted does not rest on the rules. The comparison
-- here is over lines that ask for no sum; RustSums has those that do. Assumes nothing.
use Rattle.std.specs.Prelude.{ℕ, suc, ◌≤◌, ◌<◌, ◌≡◌, Bool, true, false, not, ◌&&◌, ◌||◌, cond, List, [], ◌∷◌, map, eqb, length, get_or, Option, None, Some, slice_get}
use Rattle.rules.specs.Limits.{max_source, max_lines, max_labels, address_limit}
use Rattle.rules.specs.Text.{Text, bytes}
use Rattle.rules.specs.Line.{Name, Instruction as Said, Task, skipped, end, org, no_org, label_only, instruction, value, space, Line, line_of, size}
use Rattle.rules.specs.Answer.{accepted}
use Rattle.rules.specs.Assemble.{Place, assemble}
use Rattle.promises.specs.Stages.{Stage, all, by_line, RefusesExactly}
use Rattle.promises.specs.Refusals.{SourceCondition}
use Rattle.promises_rust.specs.RustStr.{when, rust_is_some, at, get, is_empty, trim, split, split_whitespace, splitn_2, to_uppercase, starts_with, contains, add_u32, HashMap, look_up}
use Rattle.promises_rust.specs.RustAssembler.{AssemblyInstruction, State, Flow, continue, break, set_address, insert_label, push_value, handle_instruction, handle_org, body}
use Rattle.promises_rust.specs.RustAssembler as Rust

-- ---- what leaves the comparison: a line that asks for a sum in square brackets, in the words of Rust's std
-- what stands after a text's first colon, trimmed; a text without one is left as it is
unfoldable pub behind_colon : Text → Text
behind_colon s = cond (contains s (bytes ":")) (trim (at (splitn_2 58 s) 1)) s

-- a piece that starts DC or DS
unfoldable pub names_data : Text → Bool
names_data p = starts_with (to_uppercase p) (bytes "DC") || starts_with (to_uppercase p) (bytes "DS")

-- the piece after DC's: with a colon the second piece after it, else the text's second, or its third where the first is a label
unfoldable pub value_piece : Text → Option Text
value_piece s =
    cond (contains s (bytes ":")) (get (split_whitespace (behind_colon s)) 1)
    (let parts = split_whitespace s in get parts (cond (names_data (at parts 0)) 1 2))

-- a trimmed line that is skipped, the END line, or ORG
unfoldable pub stands_alone : Text → Bool
stands_alone line =
    is_empty line || starts_with line (bytes ";") || starts_with (to_uppercase line) (bytes "END") || starts_with (to_uppercase line) (bytes "ORG")

-- what a line writes as its value, where it has `DC.` after its label
unfoldable pub line_value : Text → Option Text
line_value l =
    let line = trim l in
    let rest = behind_colon line in
    when (not (stands_alone line)) (when (contains (to_uppercase rest) (bytes "DC.")) (value_piece rest))

unfoldable pub is_sum : Option Text → Bool
is_sum None = false
is_sum (Some p) = starts_with p (bytes "[")

-- a line asks for a sum: its value begins with `[`. A `[` in a label, an operand, a comment or anywhere else asks for none
unfoldable pub asks_for_a_sum : Text → Bool
asks_for_a_sum l = is_sum (line_value l)

-- the END line, after which no line is read
unfoldable pub is_end_line : Text → Bool
is_end_line l = starts_with (to_uppercase (trim l)) (bytes "END")

-- of the lines that are read one asks for a sum
unfoldable pub ask_for_sums : List Text → Bool
ask_for_sums [] = false
ask_for_sums (l ∷ ls) = asks_for_a_sum l || not (is_end_line l) && ask_for_sums ls

-- a text that holds `[` somewhere
unfoldable pub holds_bracket : Text → Bool
holds_bracket [] = false
holds_bracket (b ∷ s) = eqb b 91 || holds_bracket s

-- a text without `[` asks for none, as a line, and so do the lines of such a source
pub record NoBracketNoSum : Type 0 where
  pub line : (l : Text) → holds_bracket l ≡ false → asks_for_a_sum l ≡ false
  pub source : (s : Text) → holds_bracket s ≡ false → ask_for_sums (split 10 s) ≡ false

-- examples: `[` in a label, an operand, a suffix, a comment, the size of a DS, ORG's number, a line that is skipped or ends the reading
unfoldable pub lines_without_sums : List Text
lines_without_sums =
    bytes "X[1]: NOP" ∷ bytes "MOVE.L [X,D0" ∷ bytes "ADD.[W D0,D1" ∷ bytes "NOP ; [5]" ∷ bytes "DC.W 5 ; [5]" ∷ bytes "[5] DC.W 5" ∷ bytes "DC.W 1[2]"
    ∷ bytes "DC.W [5]: 6" ∷ bytes "DS.L [5]" ∷ bytes "ORG [5]" ∷ bytes "; DC.W [5]" ∷ bytes "END DC.W [5]" ∷ bytes "DC.W" ∷ bytes "[" ∷ []

-- and of DC's values, also where a label with `[`, a size of no account or a comment stands by
unfoldable pub lines_with_sums : List Text
lines_with_sums =
    bytes "DC.W [5]" ∷ bytes " x: dc.b [2+3] ; n" ∷ bytes "X DC.L [5" ∷ bytes "[5] DC.W [5]" ∷ bytes "A: B: DC.W [1:2]" ∷ bytes "A: X[1] DC.W [ 5 ]"
    ∷ bytes "DC.X [x]" ∷ []

pub record SumsAsked : Type 0 where
  pub no_line : map asks_for_a_sum lines_without_sums ≡ map (λ l. false) lines_without_sums
  pub each_line : map asks_for_a_sum lines_with_sums ≡ map (λ l. true) lines_with_sums

-- what the Rust's loop does with a line of which the rules read so much: its task, its labels, the line
abbrev pub inst_at : ℕ → Said → AssemblyInstruction
inst_at a i = record { address = a; mnemonic = i.mnemonic; operands = i.operands; size = size i }

unfoldable pub perform_task : Task → State → Flow
perform_task skipped s = continue s
perform_task end s = break s
perform_task (org v) s = continue (handle_org (Some v) s)
perform_task no_org s = continue (handle_org None s)
perform_task label_only s = continue s
perform_task (instruction i) s = continue (handle_instruction (inst_at s.current_address i) s)
perform_task (value n v) s = let s₂ = push_value (Some v) s in continue (set_address (add_u32 s₂.current_address n) s₂)
perform_task (space n) s = let s₂ = push_value None s in continue (set_address (add_u32 s₂.current_address n) s₂)

unfoldable pub insert_all : List Name → State → State
insert_all [] s = s
insert_all (n ∷ ns) s = insert_all ns (insert_label n.text s)

unfoldable pub perform : Line → State → Flow
perform r s = perform_task r.task (insert_all r.names s)

-- the rules read in each line what the Rust's loop does with it, in any state
unfoldable pub LinesAreTheRusts : Type 0
LinesAreTheRusts = (l : Text) → asks_for_a_sum l ≡ false → (s : State) → body l s ≡ perform (line_of l) s

-- the state in which the Rust's loop begins
abbrev pub initial : State
initial = record { labels = []; instructions = []; data_values = []; current_address = 0 }

-- the loop has gone through the first j of the lines ls, none of which broke it off, and its state is st
pub data Looped (ls : List Text) : ℕ → State → Type 0 where
  begun : Looped ls 0 initial
  further : {j : ℕ} {l : Text} {st st' : State} → Looped ls j st → slice_get ls j ≡ Some l → body l st ≡ continue st' → Looped ls (suc j) st'

-- how many keys a map has
unfoldable pub keys : HashMap → ℕ
keys [] = 0
keys (e ∷ m) = cond (rust_is_some (look_up m e.key)) (keys m) (suc (keys m))

-- a source within the limits: its bytes, its lines, and the Rust's address and labels after each of the lines ls, which are the source's
pub record WithinLimits (s : Text) (ls : List Text) : Type 0 where
  pub size : length s ≤ max_source
  pub ascii : (i : ℕ) → i < length s → get_or s i 0 < 128
  pub lines : length (split 10 s) ≤ max_lines
  pub addresses : (j : ℕ) (st : State) → Looped ls (suc j) st → st.current_address < address_limit
  pub labels : (j : ℕ) (st : State) → Looped ls (suc j) st → keys st.labels ≤ max_labels

-- a place without its mark
abbrev pub without_mark : Place → ℕ × ℕ
without_mark p = (p.address, p.word)

-- for every source that is accepted at base 0, the list, marks left out, is what the Rust makes of `split('\n')`. The Rust's sums
-- are those of `u32` and `i32`, the rules' are unbounded: no list shows one that wraps
unfoldable pub ListIsTheRusts : Type 0
ListIsTheRusts = (s : Text) → ask_for_sums (split 10 s) ≡ false → (l : List Place) → assemble 0 s ≡ accepted l → map without_mark l ≡ Rust.assemble (split 10 s)

-- and every source within the limits is accepted
unfoldable pub WithinIsAccepted : Type 0
WithinIsAccepted =
    (s : Text) → ask_for_sums (split 10 s) ≡ false → WithinLimits s (split 10 s)
    → (l : List Place) × (assemble 0 s ≡ accepted l) × (map without_mark l ≡ Rust.assemble (split 10 s))

-- and no other
unfoldable pub AcceptedIsWithin : Type 0
AcceptedIsWithin = (s : Text) → ask_for_sums (split 10 s) ≡ false → (l : List Place) → assemble 0 s ≡ accepted l → WithinLimits s (split 10 s)

-- refusals 1 to 6 at base 0 (4 can't come), 5 and 6 by the Rust's own states
pub data RustCondition (s : Text) (ls : List Text) : ℕ → ℕ → Type 0 where
  of_source : {n p : ℕ} → SourceCondition s n p → RustCondition s ls n p
  -- "5 address 2^30 or more after a line; place the line, from 1"
  address_over : {j : ℕ} {st : State} → Looped ls (suc j) st → address_limit ≤ st.current_address → RustCondition s ls 5 (suc j)
  -- "6 a new label when" 256 "are recorded; place the line": after it, there are more
  labels_over : {j : ℕ} {st : State} → Looped ls (suc j) st → max_labels < keys st.labels → RustCondition s ls 6 (suc j)

abbrev pub at_zero : List Stage
at_zero = all 1 ∷ all 2 ∷ all 3 ∷ by_line (6 ∷ 5 ∷ []) ∷ []

-- at base 0 a source is refused exactly by the first of these
unfoldable pub RefusedByTheRust : Type 0
RefusedByTheRust = (s : Text) → ask_for_sums (split 10 s) ≡ false → RefusesExactly at_zero (RustCondition s (split 10 s)) (assemble 0 s)
