-- "The line with no word": what each reason says of a line, its address and the recorded labels, from the rules' words and apart from
-- how it is decided; which verdict on a line is right; the call's refusals; and that the stations' rows and the table of forms agree. Assumes nothing.
use Rattle.std.specs.Prelude.{ℕ, suc, ◌+◌, ◌≤◌, ◌<◌, ◌≡◌, ◌↔◌, ◌≢◌, true, List, [], ◌∷◌, ◌++◌, length, take, drop, Some, slice_get}
use Rattle.rules.specs.Text.{Text, bytes, starts}
use Rattle.rules.specs.Number.{Failure, failed, signed_reading, reading16, reading8}
use Rattle.rules.specs.Line.{Instruction, Task, end, instruction, line_of, size}
use Rattle.rules.specs.Label.{Table, find}
use Rattle.rules.specs.Encode.{Content, Operation, moveq, move, movea, muls, subq, asl, dbra, cmp, jmp, branch, Mnemonic, operation_in, all_digits, encode_operation, encode_by}
use Rattle.rules.specs.Forms.{Kind, hash, dn, an, at_an, text, Operand, kind_for, Count, exactly, or_more, forms_of}
use Rattle.rules.specs.Answer.{accepted}
use Rattle.rules.specs.Assemble.{Pass, Place, Encoder, second_pass_by, pass_at}
use Rattle.requests.specs.Explain.{Reason, not_instruction, unknown_mnemonic, wrong_count, wrong_kinds, bad_number, not_recorded, out_of_reach, Verdict, emitted, because, explain_all_by, explain_by}
use Rattle.promises.specs.Stages.{Stage, all, RefusesExactly}
use Rattle.promises.specs.Refusals.{line_count, IsLine, Reached, PassCondition, passing}
use Rattle.promises.specs.Nearest.{In, RecordedAtBy}

-- the rules' order of the reasons
unfoldable pub rank : Reason → ℕ
rank not_instruction = 1
rank unknown_mnemonic = 2
rank wrong_count = 3
rank wrong_kinds = 4
rank (bad_number f) = 5
rank not_recorded = 6
rank out_of_reach = 7

-- ---- operands
-- a text after `#`
abbrev pub behind_hash : Text → Text
behind_hash s = 35 ∷ s

-- "Kinds are `#`, Dn, An, (An)": "two bytes, upper case, digit 0 to 7", the digit of n being byte 48 + n
pub data Marked : Text → Kind → Type 0 where
  as_hash : {s : Text} → Marked (behind_hash s) hash
  as_dn : {n : ℕ} → n < 8 → Marked (68 ∷ (48 + n) ∷ []) dn
  as_an : {n : ℕ} → n < 8 → Marked (65 ∷ (48 + n) ∷ []) an
  as_at_an : {n : ℕ} → n < 8 → Marked (40 ∷ 65 ∷ (48 + n) ∷ 41 ∷ []) at_an

-- "and other text"
pub data IsKind (s : Text) : Kind → Type 0 where
  marked : {k : Kind} → Marked s k → IsKind s k
  other_text : ((k : Kind) → ¬ Marked s k) → IsKind s text

-- a count that is right
pub data Counts : Count → ℕ → Type 0 where
  exact : {n : ℕ} → Counts (exactly n) n
  more : {n k : ℕ} → n ≤ k → Counts (or_more n) k

-- "a form has them if they stand so in its places"; "a branch is judged by its first operand", for its form has one place
pub data Stand : List Operand → List Text → Type 0 where
  all_stand : {ps : List Text} → Stand [] ps
  stands : {x : Operand} {xs : List Operand} {s : Text} {ps : List Text} → IsKind s (kind_for x) → Stand xs ps → Stand (x ∷ xs) (s ∷ ps)

-- JMP: "an operand starting `$` or `0x`, or of digits only, must be a 16-bit number"
pub data Numeric (s : Text) : Type 0 where
  dollar : starts (bytes "$") s ≡ true → Numeric s
  zero_x : starts (bytes "0x") s ≡ true → Numeric s
  digits : all_digits s ≡ true → Numeric s

-- branches: "an operand starting + or − is read as signed 8 bits, decimal, without a prefix"
pub data Signed (s : Text) : Type 0 where
  by_plus : starts (bytes "+") s ≡ true → Signed s
  by_minus : starts (bytes "-") s ≡ true → Signed s

-- operations whose `#` is of 8 bits signed
pub data Quick : Operation → Type 0 where
  by_moveq : Quick moveq
  by_subq : Quick subq
  by_asl : Quick asl

-- and of 16 bits
pub data Wide : Operation → Type 0 where
  by_move : Wide move
  by_muls : Wide muls
  by_cmp : Wide cmp

-- the number that is read of the operands fails: "For MOVE a number is blamed only if the pair is `#` with Dn, for MOVEA never."
pub data NumberFails : Operation → List Text → Failure → Type 0 where
  quick : {o : Operation} {s t : Text} {ps : List Text} {f : Failure} → Quick o → IsKind t dn → reading8 s ≡ failed f
      → NumberFails o (behind_hash s ∷ t ∷ ps) f
  wide : {o : Operation} {s t : Text} {ps : List Text} {f : Failure} → Wide o → IsKind t dn → reading16 s ≡ failed f
      → NumberFails o (behind_hash s ∷ t ∷ ps) f
  jump : {s : Text} {ps : List Text} {f : Failure} → Numeric s → reading16 s ≡ failed f → NumberFails jmp (s ∷ ps) f
  counting : {s t : Text} {ps : List Text} {f : Failure} → Signed t → signed_reading 10 128 t ≡ failed f → NumberFails dbra (s ∷ t ∷ ps) f
  branching : {c : ℕ} {s : Text} {ps : List Text} {f : Failure} → Signed s → signed_reading 10 128 s ≡ failed f → NumberFails (branch c) (s ∷ ps) f

-- the label that a branch or DBRA leads to
pub data Leads : Operation → List Text → Text → Type 0 where
  counting_to : {s t : Text} {ps : List Text} → ¬ Signed t → Leads dbra (s ∷ t ∷ ps) t
  branching_to : {c : ℕ} {s : Text} {ps : List Text} → ¬ Signed s → Leads (branch c) (s ∷ ps) s

-- the label that the operands name: such a one; MOVE's other text beside Dn; what follows MOVEA's `#`; JMP's that is no number
pub data Names : Operation → List Text → Text → Type 0 where
  leading : {o : Operation} {ps : List Text} {l : Text} → Leads o ps l → Names o ps l
  moved_from : {s t : Text} {ps : List Text} → IsKind s text → IsKind t dn → Names move (s ∷ t ∷ ps) s
  moved_to : {s t : Text} {ps : List Text} → IsKind s dn → IsKind t text → Names move (s ∷ t ∷ ps) t
  address_of : {l t : Text} {ps : List Text} → Names movea (behind_hash l ∷ t ∷ ps) l
  jumped_to : {s : Text} {ps : List Text} → ¬ Numeric s → Names jmp (s ∷ ps) s

-- the label's address x "minus (instruction address + 2)" is not "−128 to 127"
pub data Far (a x : ℕ) : Type 0 where
  behind : x + 128 < a + 2 → Far a x
  ahead : a + 2 + 127 < x → Far a x

-- ---- reasons, where At l x says that the label l is recorded at x
-- of the operation o with the operands ps at address a
pub data Faulty (At : Text → ℕ → Type 0) (a : ℕ) (o : Operation) (ps : List Text) : Reason → Type 0 where
  -- "wrong operand count"
  count : ¬ Counts (forms_of o).count (length ps) → Faulty At a o ps wrong_count
  -- "operand kinds that no form of the mnemonic has"
  kinds : ((f : List Operand) → In f (forms_of o).forms → ¬ Stand f ps) → Faulty At a o ps wrong_kinds
  -- "a number and what failed in it"
  numeral : {f : Failure} → NumberFails o ps f → Faulty At a o ps (bad_number f)
  -- "a label not recorded"
  unrecorded : {l : Text} → Names o ps l → ((x : ℕ) → ¬ At l x) → Faulty At a o ps not_recorded
  -- "a displacement out of range"
  far : {l : Text} {x : ℕ} → Leads o ps l → At l x → Far a x → Faulty At a o ps out_of_reach

-- of what a line asks
pub data Holds (names : List Mnemonic) (At : Text → ℕ → Type 0) (a : ℕ) (k : Task) : Reason → Type 0 where
  -- "not an instruction"
  other : ((i : Instruction) → k ≢ instruction i) → Holds names At a k not_instruction
  -- "unknown mnemonic": none in use
  unknown : {i : Instruction} → k ≡ instruction i → ((n : Mnemonic) → In n names → i.mnemonic ≢ n.name) → Holds names At a k unknown_mnemonic
  operands : {i : Instruction} {o : Operation} {r : Reason} → k ≡ instruction i → operation_in names i.mnemonic ≡ Some o
      → Faulty At a o i.operands r → Holds names At a k r

-- ---- words
-- what the first pass came to, without what the line after the first j ones asks
unfoldable pub without : ℕ → Pass → Pass
without j p = record { labels = p.labels; puts = take j p.puts ++ drop (suc j) p.puts }

-- the second pass puts words in the list for that line: from its address a on, where without it there are none
pub record PutsWords (e : Encoder) (p : Pass) (j a : ℕ) : Type 0 where
  pub before : List Place
  pub first : Place
  pub more : List Place
  pub after : List Place
  pub address : first.address ≡ a
  pub held : second_pass_by e p ≡ before ++ (first ∷ (more ++ after))
  pub absent : second_pass_by e (without j p) ≡ before ++ after

-- it puts none
abbrev pub PutsNone : Encoder → Pass → ℕ → Type 0
PutsNone e p j = second_pass_by e (without j p) ≡ second_pass_by e p

-- ---- the call
-- the last record of l has the address x
abbrev pub RecordedAt : ℕ → Text → Text → ℕ → Type 0
RecordedAt base s l x = RecordedAtBy size base s l x

-- the right verdict on the line after the first j ones, which asks k at address a: "word emitted" "exactly if it emits. Otherwise it
-- gives the first that holds"
pub data Right (names : List Mnemonic) (base : ℕ) (s : Text) (p : Pass) (j a : ℕ) (k : Task) : Verdict → Type 0 where
  words : PutsWords (encode_by names) p j a → Right names base s p j a k emitted
  reason : {r : Reason} → PutsNone (encode_by names) p j → Holds names (RecordedAt base s) a k r
      → ((q : Reason) → rank q < rank r → ¬ Holds names (RecordedAt base s) a k q) → Right names base s p j a k (because r)

-- the verdict v on the line n, from 1, of an accepted source: the line is read at an address, and v is right of it
pub record Explained (names : List Mnemonic) (base : ℕ) (s : Text) (n : ℕ) (v : Verdict) : Type 0 where
  pub pass : Pass
  pub passed : pass_at base s ≡ accepted pass
  pub index : ℕ
  pub number : n ≡ suc index
  pub address : ℕ
  pub recorded : List Text
  pub reached : Reached size base s index address recorded
  pub line : Text
  pub is : IsLine s index line
  pub right : Right names base s pass index address (line_of line).task v

-- a verdict is given exactly if it is so
unfoldable pub ExplainsExactly : Type 0
ExplainsExactly = (names : List Mnemonic) (base : ℕ) (s : Text) (n : ℕ) (v : Verdict) → (explain_by names base s n ≡ accepted v) ↔ Explained names base s n v

-- "no such line": lines count from 1
pub data NoLine (s : Text) : ℕ → Type 0 where
  below_first : NoLine s 0
  past_last : {n : ℕ} → line_count s < n → NoLine s n

-- refusals 1 to 6 and 13
pub data ExplainCondition (base : ℕ) (s : Text) (n : ℕ) : ℕ → ℕ → Type 0 where
  of_pass : {m p : ℕ} → PassCondition size base s m p → ExplainCondition base s n m p
  -- "13: no such line, or a line that is never read; place the line"
  no_line : NoLine s n → ExplainCondition base s n 13 n
  never_read : {j : ℕ} {l : Text} → IsLine s j l → (line_of l).task ≡ end → suc j < n → ExplainCondition base s n 13 n

-- "after 1 to 6"
abbrev pub explaining : List Stage
explaining = passing ++ (all 13 ∷ [])

-- the call refuses exactly by the first of them that holds
unfoldable pub ExplainRefusesExactly : Type 0
ExplainRefusesExactly =
    (names : List Mnemonic) (base : ℕ) (s : Text) (n : ℕ) → RefusesExactly explaining (ExplainCondition base s n) (explain_by names base s n)

-- the verdicts on all lines that are read: refused by 1 to 6 alone, else each line's own, in order
pub record ExplainsAll : Type 0 where
  pub refuses : (names : List Mnemonic) (base : ℕ) (s : Text) → RefusesExactly passing (PassCondition size base s) (explain_all_by names base s)
  pub each : (names : List Mnemonic) (base : ℕ) (s : Text) (vs : List Verdict) → explain_all_by names base s ≡ accepted vs
      → (j : ℕ) (v : Verdict) → (slice_get vs j ≡ Some v) ↔ (explain_by names base s (suc j) ≡ accepted v)

-- a source that is accepted at b, and so at 0, has the same verdicts there
unfoldable pub ExplainsAtEveryBase : Type 0
ExplainsAtEveryBase = (names : List Mnemonic) (b : ℕ) (s : Text) (p : Pass) → pass_at b s ≡ accepted p → explain_all_by names b s ≡ explain_all_by names 0 s

-- ---- the stations' rows and the table of forms
-- an operand stands in a form's place: by its kind, or as a recorded label where other text may stand
pub data StandsIn (ls : Table) (x : Operand) (s : Text) : Type 0 where
  by_kind : IsKind s (kind_for x) → StandsIn ls x s
  by_name : {y : ℕ} → kind_for x ≡ text → find s ls ≡ Some y → StandsIn ls x s

-- and the operands so in all places of a form
pub data AllStandIn (ls : Table) : List Operand → List Text → Type 0 where
  no_place : {ps : List Text} → AllStandIn ls [] ps
  place : {x : Operand} {xs : List Operand} {s : Text} {ps : List Text} → StandsIn ls x s → AllStandIn ls xs ps → AllStandIn ls (x ∷ xs) (s ∷ ps)

-- the operands are those of a form
pub record FitsAForm (ls : Table) (o : Operation) (ps : List Text) : Type 0 where
  pub counts : Counts (forms_of o).count (length ps)
  pub form : List Operand
  pub is : In form (forms_of o).forms
  pub stand : AllStandIn ls form ps

-- words come only for a form's kinds, or for a label that is named like another kind
unfoldable pub WordsFitForms : Type 0
WordsFitForms =
    (ls : Table) (a : ℕ) (o : Operation) (ps : List Text) (cs : List Content) → encode_operation ls a o ps ≡ Some cs → FitsAForm ls o ps
