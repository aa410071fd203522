-- Which sizes and encoders move: what a size and an encoder owe for that, the stations' or another, and that the stations' have it. Assumes nothing.
use Rattle.std.specs.Prelude.{ℕ, ◌+◌, ◌*◌, ◌≤◌, ◌≡◌, List, [], ◌∷◌, map, length}
use Rattle.rules.specs.Line.{Instruction, size}
use Rattle.rules.specs.Label.{Label, Table}
use Rattle.rules.specs.Encode.{Content, literal, address, long_address, Mnemonic, encode_by}
use Rattle.rules.specs.Assemble.{Put, Pass, Sizes, Encoder, places_at, words_by}

-- labels d higher
unfoldable pub shift_label : ℕ → Label → Label
shift_label d l = record { name = l.name; start = l.start; address = d + l.address; line = l.line }

abbrev pub shift_table : ℕ → Table → Table
shift_table d t = map (shift_label d) t

-- what a pass comes to, d higher: its labels, and the addresses of its lines
unfoldable pub shift_put : ℕ → Put → Put
shift_put d p = record { address = d + p.address; task = p.task }

unfoldable pub shift_pass : ℕ → Pass → Pass
shift_pass d p = record { labels = shift_table d p.labels; puts = map (shift_put d) p.puts }

-- contents as they are, but for label addresses, which are d higher
unfoldable pub shift_content : ℕ → Content → Content
shift_content d (literal w) = literal w
shift_content d (address x) = address (d + x)
shift_content d (long_address x) = long_address (d + x)

abbrev pub shift_contents : ℕ → List Content → List Content
shift_contents d cs = map (shift_content d) cs

-- a size and an encoder are lawful, with at most so many places a line, if
pub record Lawful (z : Sizes) (e : Encoder) (most : ℕ) : Type 0 where
  -- an instruction's words at addresses d higher are the same but for label addresses, which are d higher
  pub shifts : (d : ℕ) (t : Table) (a : ℕ) (i : Instruction) → words_by e (shift_table d t) (d + a) i ≡ shift_contents d (words_by e t a i)
  -- they take at most so many places, and two may be data
  pub few : (t : Table) (a : ℕ) (i : Instruction) → length (places_at a (words_by e t a i)) ≤ most
  pub two : 2 ≤ most
  -- and they end at most 4 bytes after what it takes, so that none stands above 2^30 + 1
  pub ends : (t : Table) (a : ℕ) (i : Instruction) → 2 * length (places_at a (words_by e t a i)) ≤ z i + 4

-- the stations' size and words are lawful, with two places a line, whatever the mnemonics in use
unfoldable pub RulesAreLawful : Type 0
RulesAreLawful = (names : List Mnemonic) → Lawful size (encode_by names) 2

-- no label's address among the contents has 32 bits
unfoldable pub Short : List Content → Type 0
Short [] = Unit
Short (literal w ∷ cs) = Short cs
Short (address x ∷ cs) = Short cs
Short (long_address x ∷ cs) = ⊥

-- nor has any of an encoder's
abbrev pub ShortAddresses : Encoder → Type 0
ShortAddresses e = (t : Table) (a : ℕ) (i : Instruction) → Short (words_by e t a i)

-- the stations' words hold none
unfoldable pub RulesAreShort : Type 0
RulesAreShort = (names : List Mnemonic) → ShortAddresses (encode_by names)
