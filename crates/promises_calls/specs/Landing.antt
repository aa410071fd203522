-- Where a branch's word stands in the list, by the lines alone: first two places for each line with a value, line by line, then for each
-- instruction the words that it makes, line by line. Assumes nothing.
use Rattle.std.specs.Prelude.{ℕ, zero, suc, ◌+◌, ◌*◌, ◌/◌, ◌%◌, ◌<◌, ◌≤◌, ◌≡◌, ◌≢◌, List, [], ◌∷◌, ◌++◌, length, take, ℤ, pos, Some, slice_get}
use Rattle.rules.specs.Text.{Text, cut_at}
use Rattle.rules.specs.Line.{Task, end, Instruction, instruction, value, line_of, size}
use Rattle.rules.specs.Encode.{Mnemonic, mnemonics, other_mnemonics, encode_by}
use Rattle.rules.specs.Answer.{accepted}
use Rattle.rules.specs.Assemble.{Sizes, Place, place, assemble_by, assemble}
use Rattle.rules.specs.Tally.{tallied}
use Rattle.manual.specs.Manual.{InByte}
use Rattle.requests.specs.Explain.{Reason, emitted, because, explain_by}
use Rattle.requests.specs.ManualCall.{manual_size}
use Rattle.requests.specs.ManualAssemble.{assemble_manual}
use Rattle.requests.specs.Branches.{assemble_under}
use Rattle.promises.specs.Refusals.{next_address}
use Rattle.promises.specs.ListedForms.{marked_zero}
use Rattle.promises.specs.MovedLists.{Call}
use Rattle.promises.specs.ManualWritten.{InBranch}
use Rattle.promises.specs.Branches.{Accepted}
use Rattle.promises.specs.BranchCalls.{OfTable}
use Rattle.promises.specs.Lands.{ByByte, ByWord, Aims, Eleven, Branches, Loops, LandsMoved}
use Rattle.promises_calls.specs.BranchWords.{BranchWord, BranchLine, OfEleven, InUse, OfRow}

-- ---- a line's places
-- places from the address a on, each two bytes after the one before
pub data Consecutive : ℕ → List Place → Type 0 where
  no_place : {a : ℕ} → Consecutive a []
  next_place : {a : ℕ} {p : Place} {ps : List Place} → p.address ≡ a → Consecutive (a + 2) ps → Consecutive a (p ∷ ps)

-- data: "the value, put as high word at the address and low word at address + 2, at every size"; no other line has places there
pub data DataPlaces (a : ℕ) (k : Task) : List Place → Type 0 where
  two_words : {n v : ℕ} → k ≡ value n v → DataPlaces a k (place a (v / 65536) 0 ∷ place (a + 2) (v % 65536) 0 ∷ [])
  without_value : ((n v : ℕ) → k ≢ value n v) → DataPlaces a k []

-- code: an instruction's places, of which Makes j a i c says that the line after the first j ones has c, at the address a
pub data CodePlaces (Makes : ℕ → ℕ → Instruction → List Place → Type 0) (j a : ℕ) (k : Task) : List Place → Type 0 where
  its_words : {i : Instruction} {c : List Place} → k ≡ instruction i → Makes j a i c → CodePlaces Makes j a k c
  no_instruction : ((i : Instruction) → k ≢ instruction i) → CodePlaces Makes j a k []

-- those of all lines that are read, from the line after the first j ones on, at the address a
pub data LinePlaces (z : Sizes) (base : ℕ) (Makes : ℕ → ℕ → Instruction → List Place → Type 0)
    : ℕ → ℕ → List Text → List (List Place) → List (List Place) → Type 0 where
  past_all : {j a : ℕ} → LinePlaces z base Makes j a [] [] []
  ends_here : {j a : ℕ} {l : Text} {ls : List Text} → (line_of l).task ≡ end → LinePlaces z base Makes j a (l ∷ ls) [] []
  a_line : {j a : ℕ} {l : Text} {ls : List Text} {d c : List Place} {ds cs : List (List Place)} → (line_of l).task ≢ end
      → DataPlaces a (line_of l).task d → CodePlaces Makes j a (line_of l).task c
      → LinePlaces z base Makes (suc j) (next_address z base a (line_of l).task) ls ds cs → LinePlaces z base Makes j a (l ∷ ls) (d ∷ ds) (c ∷ cs)

-- one after another
unfoldable pub together : List (List Place) → List Place
together [] = []
together (c ∷ cs) = c ++ together cs

-- ---- what instructions make
-- assembling by the rules, by the mnemonics in use: one or two words if the line's verdict is "word emitted", else none
pub data MakesBy (names : List Mnemonic) (base : ℕ) (s : Text) (j a : ℕ) (i : Instruction) : List Place → Type 0 where
  makes_words : {c : List Place} → explain_by names base s (suc j) ≡ accepted emitted → Consecutive a c → 0 < length c → length c ≤ 2
      → MakesBy names base s j a i c
  makes_none : {r : Reason} → explain_by names base s (suc j) ≡ accepted (because r) → MakesBy names base s j a i []

-- the manual's call: as many as its size has
pub data MakesSize (j a : ℕ) (i : Instruction) : List Place → Type 0 where
  makes_size : {c : List Place} → Consecutive a c → 2 * length c ≡ manual_size i → MakesSize j a i c

-- ---- the line after the first j ones
-- of the list l its places among the code are these words and no others, with mark 0 and from its address a on; and they lead to t, and stay so
-- at the same index, after all data and the code of the lines before, by whatever moves
pub record StandsInTurn (Leads : List ℕ → ℕ → ℤ → Type 0) (z : Sizes) (Makes : ℕ → ℕ → Instruction → List Place → Type 0)
    (base : ℕ) (s : Text) (j a t : ℕ) (l : List Place) : Type 0 where
  pub data_places : List (List Place)
  pub code_places : List (List Place)
  pub each_line : LinePlaces z base Makes zero base (cut_at 10 s) data_places code_places
  pub list : l ≡ together data_places ++ together code_places
  pub words : List ℕ
  pub here : slice_get code_places j ≡ Some (marked_zero a words)
  pub lands : Leads words a (pos t)
  pub stays : (ds : List ℤ) → LandsMoved Leads words (length (together data_places) + length (together (take j code_places))) a t l (tallied l (pos 0) ds)

-- of a call's list, each instruction that is asked for and leads to a recorded label
abbrev pub StandFor : Sizes → (ℕ → Text → ℕ → ℕ → Instruction → List Place → Type 0) → Call → (Instruction → Text → ℤ → Type 0)
    → (List ℕ → ℕ → ℤ → Type 0) → Type 0
StandFor z Makes call Asked Leads =
    (base : ℕ) (s : Text) (l : List Place) → call base s ≡ accepted l
    → (j a : ℕ) (i : Instruction) (o : Text) (t : ℕ) (d : ℤ) → Aims z base s j a i o t d → Asked i o d
    → StandsInTurn Leads z (Makes base s) base s j a t l

unfoldable pub BranchesStand : Type 0
BranchesStand = StandFor size (MakesBy mnemonics) assemble (Eleven InByte) ByByte

-- by whatever mnemonics are in use
unfoldable pub BranchesStandBy : Type 0
BranchesStandBy =
    (names : List Mnemonic) → StandFor size (MakesBy names) (assemble_by size (encode_by names)) (Branches names) ByByte

-- lent a table of names, by its rows
unfoldable pub BranchesStandUnder : Type 0
BranchesStandUnder =
    (t : Text) (ns : List Mnemonic) → Accepted t ns → StandFor size (MakesBy (other_mnemonics ++ ns)) (assemble_under t) (OfTable ns) ByByte

-- the manual's call, and its DBRA
unfoldable pub ManualBranchesStand : Type 0
ManualBranchesStand = StandFor manual_size (λ base s. MakesSize) assemble_manual (Eleven InBranch) ByByte

unfoldable pub LoopsStand : Type 0
LoopsStand = StandFor manual_size (λ base s. MakesSize) assemble_manual Loops ByWord

-- ---- a branch by a signed number too, and its condition
-- one word, which says the condition c and the displacement d, wherever it stands and leads
pub data OneSays (c : ℕ) (d : ℤ) : List ℕ → ℕ → ℤ → Type 0 where
  one_says : {w a : ℕ} {t : ℤ} → BranchWord c d w → OneSays c d (w ∷ []) a t

-- of a call's list, each line whose first operand gives a displacement, by a label or by a signed number, and whose mnemonic names a condition
abbrev pub SayingFor : (ℕ → Text → ℕ → ℕ → Instruction → List Place → Type 0) → Call → (ℕ → Instruction → Type 0) → Type 0
SayingFor Makes call Named =
    (base : ℕ) (s : Text) (l : List Place) → call base s ≡ accepted l
    → (j a : ℕ) (i : Instruction) (c : ℕ) (d : ℤ) → BranchLine base s j a i d → Named c i
    → (t : ℕ) → StandsInTurn (OneSays c d) size (Makes base s) base s j a t l

unfoldable pub SayingBranchesStand : Type 0
SayingBranchesStand = SayingFor (MakesBy mnemonics) assemble OfEleven

unfoldable pub SayingBranchesStandBy : Type 0
SayingBranchesStandBy = (names : List Mnemonic) → SayingFor (MakesBy names) (assemble_by size (encode_by names)) (InUse names)

unfoldable pub SayingBranchesStandUnder : Type 0
SayingBranchesStandUnder =
    (t : Text) (ns : List Mnemonic) → Accepted t ns → SayingFor (MakesBy (other_mnemonics ++ ns)) (assemble_under t) (OfRow ns)
