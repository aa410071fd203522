-- The names of files on standard input: a script is added for each, whatever the chunks. Assumes nothing.
use Rattle.std.specs.Prelude.{ℕ, ◌≡◌, false, List, [], ◌++◌, length, ltb, take}
use Rattle.rules.specs.Text.{Text}
use Rattle.station.specs.declared.input.Input.{Input}
use Rattle.sheettext.specs.Steps.{Outcome}
use Rattle.sheettext.specs.Names.{taken_of, name_after, held_on}
use Rattle.sheettext.specs.Files.{FileAdded, Adding, NamesAdded}

pub record NamesAreAdded : Type 0 where
  -- before the first read
  pub none : (o : Outcome) (name : List ℕ) → length name ≡ 4097 → Adding o [] name 0 o
  -- after each part of a chunk s that is taken, whose script is added where byte 10 ended a name
  pub part : (o p q : Outcome) (t s : Text) (name : List ℕ) (held : ℕ) → Adding o t name held p
      → FileAdded (take (taken_of held s).held (name_after held s name)) (taken_of held s).whole false p q
      → Adding o (t ++ take (taken_of held s).used s) (name_after held s name) (held_on (taken_of held s)) q
  -- and at the end, where that of the last name is added if any byte of it is held
  pub over : (o p q : Outcome) (t : Text) (name : List ℕ) (held : ℕ) (i : Input) → (i.failed ≡ false → i.total ≡ length t) → i.more ≡ false
      → Adding o t name held p → FileAdded (take held name) (ltb 0 held) false p q → NamesAdded o q i
