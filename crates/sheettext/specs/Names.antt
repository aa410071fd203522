-- The names of files, one a line, taken out of chunks: whatever the chunks, those that are given on are the lines of what was read. Assumes nothing.
use Rattle.std.specs.Prelude.{ℕ, ◌+◌, ◌≤◌, min, ◌≡◌, true, false, cond, List, [], ◌∷◌, ◌++◌, map, eqb, ltb, length, take}
use Rattle.rules.specs.Text.{Text, cut_at}
use Rattle.text.specs.Pieces.{until}
use Rattle.station.specs.Reads.{kept}
use Rattle.sheettext.specs.declared.names.Taken.{Taken}

-- the lines are parted by byte 10; the last one, which none ends, is a name if it has a byte
unfoldable pub names_of : List Text → List Text
names_of [] = []
names_of ([] ∷ []) = []
names_of ((b ∷ l) ∷ []) = (b ∷ l) ∷ []
names_of (l ∷ m ∷ ls) = l ∷ names_of (m ∷ ls)

unfoldable pub names_in : Text → List Text
names_in t = names_of (cut_at 10 t)

-- as much of a name as is kept
unfoldable pub name_kept : Text → Text
name_kept l = take 4097 l

-- ---- what is taken from the front of a chunk, where so many bytes of a name are held
abbrev pub line_length : Text → ℕ
line_length s = until (eqb 10) s

unfoldable pub taken_of : ℕ → Text → Taken
taken_of held s = record { used = min (length s) (line_length s + 1); held = min 4097 (held + line_length s); whole = ltb (line_length s) (length s) }

unfoldable pub name_after : ℕ → Text → List ℕ → List ℕ
name_after held s name = kept held (take (line_length s) s) name

unfoldable pub held_on : Taken → ℕ
held_on r = cond r.whole 0 r.held

-- ---- t was read: the names of the lines that byte 10 ended are given on, and of the last line the front is held
pub record NamesRead (t : Text) (given : List Text) (name : List ℕ) (held : ℕ) : Type 0 where
  pub lines : List Text
  pub last : Text
  pub cut : cut_at 10 t ≡ lines ++ (last ∷ [])
  pub names : given ≡ map name_kept lines
  pub room : length name ≡ 4097
  pub count : held ≡ min 4097 (length last)
  pub front : take held name ≡ name_kept last

-- so it is before the first read and after each part of a chunk; at the end what is held is the last name, unless nothing is
pub record NamesReadOn : Type 0 where
  pub none : (name : List ℕ) → length name ≡ 4097 → NamesRead [] [] name 0
  pub part : (t s : Text) (given : List Text) (name : List ℕ) (held : ℕ) → NamesRead t given name held → (taken_of held s).whole ≡ false
      → NamesRead (t ++ take (taken_of held s).used s) given (name_after held s name) (taken_of held s).held
  pub whole : (t s : Text) (given : List Text) (name : List ℕ) (held : ℕ) → NamesRead t given name held → (taken_of held s).whole ≡ true
      → NamesRead (t ++ take (taken_of held s).used s) (given ++ (take (taken_of held s).held (name_after held s name) ∷ [])) (name_after held s name) 0
  pub over : (t : Text) (given : List Text) (name : List ℕ) (held : ℕ) → NamesRead t given name held
      → map name_kept (names_in t) ≡ given ++ cond (ltb 0 held) (take held name ∷ []) []
  -- a path has at most 4,095 bytes: what is kept of a longer line is none
  pub no_other : (l : Text) → length (name_kept l) ≤ 4095 → name_kept l ≡ l
