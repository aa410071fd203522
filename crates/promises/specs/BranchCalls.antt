-- Branch tables: the stations' call and the one that says why a line has no word, lent a table: their refusals, what they write and say, that the eleven change nothing, and that
-- moving is assembling and branches land under every accepted table. Assumes nothing.
use Rattle.std.specs.Prelude.{ℕ, ◌≡◌, ◌↔◌, List, ◌∷◌, ◌++◌, length, take, ℤ}
use Rattle.rules.specs.Text.{Text}
use Rattle.rules.specs.Line.{Instruction, size}
use Rattle.rules.specs.Encode.{branch, Mnemonic, mnemonic, branches, other_mnemonics, encode_by}
use Rattle.rules.specs.Answer.{accepted, refused}
use Rattle.rules.specs.Assemble.{Place, Slices, encoded, assemble_by, assemble, assemble_answer, assemble_slices}
use Rattle.rules.specs.Tally.{held}
use Rattle.manual.specs.Manual.{InByte}
use Rattle.requests.specs.Explain.{Verdict, explain_all, explain, explain_all_by}
use Rattle.requests.specs.Branches.{assemble_under, assemble_under_answer, assemble_under_slices, explain_all_under, explain_under}
use Rattle.promises.specs.Stages.{RefusesExactly}
use Rattle.promises.specs.Refusals.{PassCondition, passing, assembling, Shorter, SamePast}
use Rattle.promises.specs.MovedLists.{MovesAsAssembledFor, WordsDifferFor}
use Rattle.promises.specs.Nearest.{In}
use Rattle.promises.specs.Lands.{ByByte, LandFor}
use Rattle.promises.specs.Explain.{ExplainCondition, explaining, Explained}
use Rattle.promises.specs.Branches.{TableCondition, loading, Accepted}

-- the conditions of a call that is lent the table t: 16 and 17, and its own
pub data UnderCondition (t : Text) (C : ℕ → ℕ → Type 0) : ℕ → ℕ → Type 0 where
  of_table : {n p : ℕ} → TableCondition t n p → UnderCondition t C n p
  of_call : {n p : ℕ} → C n p → UnderCondition t C n p

-- ---- the stations' call
-- refusals 1 to 7, of the list under the table t
pub data ListCondition (t : Text) (base : ℕ) (s : Text) (x : Slices) : ℕ → ℕ → Type 0 where
  of_pass : {n p : ℕ} → PassCondition size base s n p → ListCondition t base s x n p
  -- "7 any slice shorter than the count needed; place that count"
  slice_short : {l : List Place} → assemble_under t base s ≡ accepted l → Shorter x (length l) → ListCondition t base s x 7 (length l)

-- "loading checks it whole before all else"
unfoldable pub AssembleUnderRefusesExactly : Type 0
AssembleUnderRefusesExactly =
    (t : Text) (base : ℕ) (s : Text) (x : Slices)
    → RefusesExactly (loading ++ assembling) (UnderCondition t (ListCondition t base s x)) (assemble_under_answer t base s x)

-- under an accepted table the list is that of the two passes, "in place of the built-in eleven names" the table's
unfoldable pub ListsUnder : Type 0
ListsUnder =
    (t : Text) (ns : List Mnemonic) → Accepted t ns → (base : ℕ) (s : Text) → assemble_under t base s ≡ assemble_by size (encode_by (other_mnemonics ++ ns)) base s

-- what a call writes: nothing if it is refused; else the list in its places, and nothing past them
pub record UnderWrites (t : Text) (base : ℕ) (s : Text) (n : ℕ) (x y : Slices) : Type 0 where
  pub clear : (m q : ℕ) → ¬ UnderCondition t (ListCondition t base s x) m q
  pub list : List Place
  pub listed : assemble_under t base s ≡ accepted list
  pub counted : n ≡ length list
  pub written : held n y ≡ list
  pub past : SamePast n y x

pub record AssembleUnderWrites : Type 0 where
  pub refusal : (t : Text) (base : ℕ) (s : Text) (x : Slices) (n p : ℕ) → assemble_under_answer t base s x ≡ refused n p → assemble_under_slices t base s x ≡ x
  pub acceptance : (t : Text) (base : ℕ) (s : Text) (x : Slices) (n : ℕ) → assemble_under_answer t base s x ≡ accepted n
      → UnderWrites t base s n x (assemble_under_slices t base s x)

-- "the moving law holds under every accepted table": all of it
pub record MovesUnder (t : Text) (ns : List Mnemonic) : Type 0 where
  pub moves_as_assembled : MovesAsAssembledFor size (encoded (encode_by (other_mnemonics ++ ns))) (assemble_under t)
  pub differ : WordsDifferFor (assemble_under t)

unfoldable pub TablesMove : Type 0
TablesMove = (t : Text) (ns : List Mnemonic) → Accepted t ns → MovesUnder t ns

-- Branches land under a table: the instruction i has the name of a row, its first operand is o, and d is "within −128 to 127"
pub record OfTable (ns : List Mnemonic) (i : Instruction) (o : Text) (d : ℤ) : Type 0 where
  pub condition : ℕ
  pub row : In (mnemonic i.mnemonic (branch condition)) ns
  pub others : List Text
  pub operands : i.operands ≡ o ∷ others
  pub near : InByte d

unfoldable pub BranchesLandUnder : Type 0
BranchesLandUnder = (t : Text) (ns : List Mnemonic) → Accepted t ns → LandFor size (encode_by (other_mnemonics ++ ns)) (assemble_under t) (OfTable ns) ByByte

-- ---- why a line has no word
-- refusals 16 and 17 come before 1 to 6 and 13
unfoldable pub ExplainUnderRefusesExactly : Type 0
ExplainUnderRefusesExactly =
    (t : Text) (base : ℕ) (s : Text) (k : ℕ)
    → RefusesExactly (loading ++ explaining) (UnderCondition t (ExplainCondition base s k)) (explain_under t base s k)

-- under an accepted table a verdict is given exactly if it is right by its names: "one of the eleven that isn't in it is an unknown mnemonic"
unfoldable pub ExplainsUnder : Type 0
ExplainsUnder =
    (t : Text) (ns : List Mnemonic) → Accepted t ns → (base : ℕ) (s : Text) (k : ℕ) (v : Verdict)
    → (explain_under t base s k ≡ accepted v) ↔ Explained (other_mnemonics ++ ns) base s k v

-- all verdicts: refused by 16, 17 and 1 to 6, else those of the lines, in order, by its names
pub record ExplainsAllUnder : Type 0 where
  pub refuses : (t : Text) (base : ℕ) (s : Text) → RefusesExactly (loading ++ passing) (UnderCondition t (PassCondition size base s)) (explain_all_under t base s)
  pub lines : (t : Text) (ns : List Mnemonic) → Accepted t ns → (base : ℕ) (s : Text) → explain_all_under t base s ≡ explain_all_by (other_mnemonics ++ ns) base s

-- ---- the eleven
-- "those eleven" with their conditions, in any order
pub record TheEleven (ns : List Mnemonic) : Type 0 where
  pub each : (n : Mnemonic) → In n branches → In n ns
  pub no_other : (n : Mnemonic) → In n ns → In n branches

-- "With those eleven" and their "conditions loaded, every answer is as without": every list, answer and slice of the stations' call, every verdict
pub record AsWithout (t : Text) : Type 0 where
  pub list : (base : ℕ) (s : Text) → assemble_under t base s ≡ assemble base s
  pub answer : (base : ℕ) (s : Text) (x : Slices) → assemble_under_answer t base s x ≡ assemble_answer base s x
  pub slices : (base : ℕ) (s : Text) (x : Slices) → assemble_under_slices t base s x ≡ assemble_slices base s x
  pub verdicts : (base : ℕ) (s : Text) → explain_all_under t base s ≡ explain_all base s
  pub verdict : (base : ℕ) (s : Text) (k : ℕ) → explain_under t base s k ≡ explain base s k

unfoldable pub ElevenAsWithout : Type 0
ElevenAsWithout = (t : Text) (ns : List Mnemonic) → Accepted t ns → TheEleven ns → AsWithout t

-- ---- a table's front
-- "bytes after that are not read": of what is lent 97 bytes are enough for every answer
pub record FrontIsEnough (t : Text) : Type 0 where
  pub list : (base : ℕ) (s : Text) → assemble_under (take 97 t) base s ≡ assemble_under t base s
  pub answer : (base : ℕ) (s : Text) (x : Slices) → assemble_under_answer (take 97 t) base s x ≡ assemble_under_answer t base s x
  pub slices : (base : ℕ) (s : Text) (x : Slices) → assemble_under_slices (take 97 t) base s x ≡ assemble_under_slices t base s x
  pub verdicts : (base : ℕ) (s : Text) → explain_all_under (take 97 t) base s ≡ explain_all_under t base s
  pub verdict : (base : ℕ) (s : Text) (k : ℕ) → explain_under (take 97 t) base s k ≡ explain_under t base s k
