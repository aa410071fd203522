-- The second pass: what its functions need and give. Assumes nothing.
use Rattle.std.specs.Prelude.{ℕ, ◌+◌, ◌<◌, ◌≤◌, List, length, Option}
use Rattle.std.specs.Borrow.{Bor}
use Rattle.std.specs.Option.{option_copied}
use Rattle.rules.specs.Limits.{max_source, address_limit}
use Rattle.rules.specs.Text.{Text}
use Rattle.rules.specs.Line.{size}
use Rattle.rules.specs.Encode.{Mnemonic, encode_by}
use Rattle.rules.specs.Assemble.{Sizes, Put, Slices, Encoder, code_places_by, second_pass_by}
use Rattle.requests.specs.ManualCall.{manual_size, manual_encode}
use Rattle.label.specs.Labelled.{Labelled}
use Rattle.line.specs.Line.{task_at, TaskIn}
use Rattle.line.specs.declared.Task.{Task}
use Rattle.branches.specs.Branch.{names_in}
use Rattle.first.specs.Pass.{pass_in, HoldsBy}
use Rattle.first.specs.declared.Pass.{Pass}
use Rattle.encode.specs.Near.{Near}
use Rattle.emit.specs.Places.{Room}
use Rattle.emit.specs.Codes.{CodeHeld, CodesHeld}
use Rattle.emit.specs.declared.Encoding.{Encoding}
use Rattle.emit.specs.declared.Encoding.TheVariants.{Named, Kept}
use Rattle.emit.specs.declared.Turn.{Turn}

-- the mnemonics of the names in use
abbrev pub names_of : Option (Bor Text) → List Mnemonic
names_of names = names_in (option_copied names)

-- whose words and sizes they are
abbrev pub encoder_of : Encoding → Encoder
encoder_of (Named names) = encode_by (names_of names)
encoder_of (Kept cells) = manual_encode

abbrev pub sizes_of : Encoding → Sizes
sizes_of (Named names) = size
sizes_of (Kept cells) = manual_size

-- ---- one line
-- what a task asks at an address
abbrev pub put_of : Text → ℕ → Task → Put
put_of source a task = record { address = a; task = task_at source task }

-- an instruction's text can be encoded
pub record CodeNeeds (labels : Labelled) (a : ℕ) (task : Task) : Type 0 where
  pub near : Near labels.table a
  pub short : length labels.source ≤ max_source
  pub within : TaskIn labels.source task

-- of kept codes, the one of line k
abbrev pub HeldLine : Encoding → ℕ → Put → Labelled → Type 0
HeldLine (Named names) k u labels = Unit
HeldLine (Kept cells) k u labels = CodeHeld cells.now k u labels.table

pub record PutInstructionNeeds (encoding : Encoding) (labels : Labelled) (k : ℕ) (turn : Turn) (task : Task) (x : Slices) : Type 0 where
  pub code : CodeNeeds labels turn.address task
  pub below : turn.address < address_limit
  pub room : Room (turn.codes + length (code_places_by (encoder_of encoding) labels.table (put_of labels.source turn.address task))) x
  pub kept : HeldLine encoding k (put_of labels.source turn.address task) labels

-- ---- all lines
-- of kept codes, those of all lines
abbrev pub HeldLines : Encoding → Labelled → List ℕ → Pass → Type 0
HeldLines (Named names) labels cells pass = Unit
HeldLines (Kept kept) labels cells pass = CodesHeld labels cells kept.now pass

-- the labels and the cells hold a pass, and its list fits into the slices
pub record EmitWordsNeeds (encoding : Encoding) (labels : Labelled) (cells : List ℕ) (pass : Pass) (x : Slices) : Type 0 where
  pub holds : HoldsBy (sizes_of encoding) labels cells pass
  pub room : Room (length (second_pass_by (encoder_of encoding) (pass_in labels cells pass))) x
  pub kept : HeldLines encoding labels cells pass
