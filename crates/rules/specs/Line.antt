-- What a line says, by the rules: the six steps of the first pass, and the size of an instruction. Assumes nothing.
use Rattle.std.specs.Prelude.{ℕ, suc, ◌+◌, Bool, true, false, not, ◌&&◌, ◌||◌, cond, List, [], ◌∷◌, map, ◌++◌, length, eqb, Option, None, Some}
use Rattle.rules.specs.Text.{Text, bytes, uppers, leading, trim, cut_at, drop_empty, pieces, joined, uncut, around, first_cut, same, starts, contains, nth, first_text, other_texts, last_text}
use Rattle.rules.specs.Number.{Reading, failed, no_digits, value_of, reading32}
use Rattle.rules.specs.Sum.{sum_reading}

-- a line of the source: its number, from 1, where it starts in the source, and its text
pub record SourceLine : Type 0 where
  pub number : ℕ
  pub start : ℕ
  pub text : Text

unfoldable pub numbered : ℕ → ℕ → List Text → List SourceLine
numbered n i [] = []
numbered n i (l ∷ ls) = record { number = n; start = i; text = l } ∷ numbered (suc n) (suc (i + length l)) ls

-- "one byte slice cut at byte 10; a source with k such bytes has k + 1 lines"
unfoldable pub lines_of : Text → List SourceLine
lines_of s = numbered 1 0 (cut_at 10 s)

-- a label as a line has it: where its text starts in the line, and the text
pub record Name : Type 0 where
  pub start : ℕ
  pub text : Text

abbrev pub name : ℕ → Text → Name
name i s = record { start = i; text = s }

-- an instruction as it is written: the mnemonic in upper case, the suffix, if any, as written, and the operands
pub record Instruction : Type 0 where
  pub mnemonic : Text
  pub suffix : Option Text
  pub operands : List Text

-- what a line asks of the passes
pub data Task : Type 0 where
  -- nothing: it is empty or a comment
  skipped : Task
  -- that no further line is read
  end : Task
  -- another address, by ORG's number; and ORG without a number
  org : ℕ → Task
  no_org : Task
  -- nothing but its label
  label_only : Task
  -- an instruction's words and size
  instruction : Instruction → Task
  -- data of a size, with a value and without one
  value : ℕ → ℕ → Task
  space : ℕ → Task

-- what a line says: the labels that it records, in order, and its task
pub record Line : Type 0 where
  pub names : List Name
  pub task : Task

abbrev pub line : List Name → Task → Line
line ns k = record { names = ns; task = k }

-- ORG's piece as it reads; "no piece at all" has no digits
unfoldable pub reading_in : Option Text → Reading ℕ
reading_in None = failed no_digits
reading_in (Some p) = reading32 p

-- its number, where it is read
unfoldable pub number_in : Option Text → Option ℕ
number_in o = value_of (reading_in o)

-- DC's value as it reads: "A DC value may be a sum in square brackets", else it is a number
unfoldable pub value_reading : Text → Reading ℕ
value_reading s = cond (starts (bytes "[") s) (sum_reading s) (reading32 s)

-- DC's piece as it reads
unfoldable pub value_reading_in : Option Text → Reading ℕ
value_reading_in None = failed no_digits
value_reading_in (Some p) = value_reading p

-- step 6: "The other pieces, joined by one space, cut at commas, trimmed, empties removed, are the operands."
unfoldable pub operands_of : Text → List Text
operands_of s = drop_empty (map trim (cut_at 44 (joined (other_texts (pieces s)))))

-- step 6: "The first piece is cut at dots"
unfoldable pub instruction_of : Text → Instruction
instruction_of s =
    let parts = cut_at 46 (first_text (pieces s)) in
    record { mnemonic = uppers (first_text parts); suffix = nth 1 parts; operands = operands_of s }

-- step 5: "Size by what the line contains", u in upper case
unfoldable pub data_size : Text → ℕ
data_size u =
    cond (contains (bytes "DC.L") u || contains (bytes "DS.L") u) 4
    (cond (contains (bytes "DC.W") u || contains (bytes "DS.W") u) 2
    (cond (contains (bytes "DC.B") u || contains (bytes "DS.B") u) 1 2))

-- step 5: "With `DC.` in the line, the directive's second piece, if a number, is the value"; or if a sum
unfoldable pub data_value : Text → Text → Option ℕ
data_value u d = cond (contains (bytes "DC.") u) (value_of (value_reading_in (nth 1 (pieces d)))) None

-- step 5: data of a size, with its value if it has one
unfoldable pub sized : ℕ → Option ℕ → Task
sized n None = space n
sized n (Some v) = value n v

-- step 5: the task of the line s with its directive d
unfoldable pub data_task : Text → Text → Task
data_task s d = sized (data_size (uppers s)) (data_value (uppers s) d)

-- step 5: "starting DC or DS (upper-cased)"
unfoldable pub is_directive : Text → Bool
is_directive p = starts (bytes "DC") (uppers p) || starts (bytes "DS") (uppers p)

-- step 5 without a colon: "with two or more pieces and a first piece not starting DC or DS,
-- that piece is the label and the others the directive"
unfoldable pub data_pieces : List Name → ℕ → Text → List Text → Line
data_pieces ns i s [] = line ns (data_task s s)
data_pieces ns i s (p ∷ []) = line ns (data_task s s)
data_pieces ns i s (p ∷ q ∷ ps) =
    cond (is_directive p) (line ns (data_task s s)) (line (ns ++ (name i p ∷ [])) (data_task s (joined (q ∷ ps))))

-- step 5: "A nonempty label is recorded."
unfoldable pub nonempty : ℕ → Text → List Name
nonempty i [] = []
nonempty i (b ∷ s) = name i (b ∷ s) ∷ []

-- step 5, on the text s that starts at i: "With a colon, label and directive are the trimmed texts around the first one."
unfoldable pub data_line : List Name → ℕ → Text → Line
data_line ns i s = elim (first_cut 58 s) [ uncut ↦ data_pieces ns i s (pieces s) | around l d ↦ line (ns ++ nonempty i (trim l)) (data_task s (trim d)) ]

-- step 5: "Upper-cased, contains `DC.` or `DS.`: data."
unfoldable pub is_data : Text → Bool
is_data s = contains (bytes "DC.") (uppers s) || contains (bytes "DS.") (uppers s)

-- steps 5 and 6, after the labels of step 4
unfoldable pub rest_line : List Name → ℕ → Text → Line
rest_line ns i s = elim (is_data s) [ true ↦ data_line ns i s | false ↦ line ns (instruction (instruction_of s)) ]

-- step 4: "the trimmed rest goes on, or the line is done if empty"
unfoldable pub after_label : Name → ℕ → Text → Line
after_label n i [] = line (n ∷ []) label_only
after_label n i (b ∷ s) = rest_line (n ∷ []) i (b ∷ s)

-- step 4: "A colon: the trimmed text before the first one is recorded as a label (it may be empty)"
unfoldable pub label_line : ℕ → Text → Line
label_line i s =
    elim (first_cut 58 s) [
      | uncut ↦ rest_line [] i s
      | around l r ↦ after_label (name i (trim l)) (i + length l + 1 + leading r) (trim r)
    ]

-- step 3: "if the second blank-separated piece is a number"
unfoldable pub org_task : Option ℕ → Task
org_task None = no_org
org_task (Some v) = org v

-- steps 1 to 3 on the trimmed line, which starts at i
unfoldable pub trimmed_line : ℕ → Text → Line
trimmed_line i [] = line [] skipped
trimmed_line i (b ∷ s) =
    let u = uppers (b ∷ s) in
    elim (eqb b 59) [
      | true ↦ line [] skipped
      | false ↦ elim (starts (bytes "END") u) [
        | true ↦ line [] end
        | false ↦ elim (starts (bytes "ORG") u) [
          | true ↦ line [] (org_task (number_in (nth 1 (pieces (b ∷ s)))))
          | false ↦ label_line i (b ∷ s)
        ]
      ]
    ]

unfoldable pub line_of : Text → Line
line_of s = trimmed_line (leading s) (trim s)

-- sizes: the suffix is exactly `L`
unfoldable pub is_l : Option Text → Bool
is_l None = false
is_l (Some p) = same p (bytes "L")

-- sizes: "starting D, A or ("
unfoldable pub is_plain : Text → Bool
is_plain s = starts (bytes "D") s || starts (bytes "A") s || starts (bytes "(") s

-- sizes: the cases of 4 bytes, by mnemonic, suffix, first and last operand
unfoldable pub is_long : Text → Option Text → Text → Text → Bool
is_long m f s t =
    (same m (bytes "MOVE") || same m (bytes "MOVEA")) && is_l f && not (is_plain s)
    || (same m (bytes "MOVE") || same m (bytes "MOVEA")) && is_l f && not (is_plain t)
    || same m (bytes "CMP") && is_l f && starts (bytes "#") s
    || same m (bytes "MULS") && starts (bytes "#") s

-- "An instruction takes 2 bytes, except 4 in these cases, each with two or more operands"
unfoldable pub instruction_size : Text → Option Text → List Text → ℕ
instruction_size m f [] = 2
instruction_size m f (s ∷ []) = 2
instruction_size m f (s ∷ t ∷ ps) = cond (is_long m f s (last_text t ps)) 4 2

unfoldable pub size : Instruction → ℕ
size i = instruction_size i.mnemonic i.suffix i.operands
