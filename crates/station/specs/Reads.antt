-- Where a program stands that reads its input chunk by chunk, and what it keeps of the input. Assumes nothing.
use Rattle.std.specs.Prelude.{ℕ, ◌+◌, ◌-◌, ◌^◌, ◌<◌, ◌≡◌, true, false, cond, List, [], ◌++◌, Option, None, Some, eqb, ltb, length, take}
use Rattle.std.specs.Io.KnownBytes.{Consumes, IsAtEnd}
use Rattle.rules.specs.Text.{Text}
use Rattle.text.specs.Spans.{over_from}
use Rattle.station.specs.declared.input.Input.{Input}

abbrev pub at_start : Input
at_start = record { total = 0; more = true; failed = false }

-- so many bytes are read, and no more will be: a read failed
abbrev pub failed_at : ℕ → Input
failed_at n = record { total = n; more = false; failed = true }

-- after a read that gave so many bytes, 0 at the end, or that failed
unfoldable pub after_read : Option ℕ → Input → Input
after_read None i = failed_at i.total
after_read (Some n) i =
    cond (eqb n 0) (record { total = i.total; more = false; failed = i.failed })
    (cond (ltb (i.total + n) (2 ^ 64)) (record { total = i.total + n; more = true; failed = i.failed }) (failed_at i.total))

-- a bound on what may still be read
unfoldable pub left : Input → ℕ
left i = cond i.more (2 ^ 64 - i.total) 0

-- a chunk put after the first n bytes, as far as there is room
unfoldable pub kept : ℕ → Text → List ℕ → List ℕ
kept n chunk buffer = over_from n (take (length buffer - n) chunk) buffer

-- t was read, and the buffer keeps as much of it as there is room for
pub record Reads (t : Text) (buffer : List ℕ) (i : Input) : Type 0 where
  pub total : i.total ≡ length t
  pub front : take (length buffer) t ≡ take i.total buffer

-- so it is before the first read, and after each that was kept
pub record ReadsOn : Type 0 where
  pub none : (buffer : List ℕ) → Reads [] buffer at_start
  pub more : (t chunk : Text) (buffer : List ℕ) (i : Input) → length t + length chunk < 2 ^ 64 → Reads t buffer i
      → Reads (t ++ chunk) (kept i.total chunk buffer) (after_read (Some (length chunk)) i)

-- old, the bytes that a reader gives, where they are known, and x, the buffer before the first read; i, where it stands, new, the bytes that are
-- left, and y, the buffer: some text was read, and its front is put over that of x. A read that failed loses nothing: the text is still all that the
-- reader gave, and it is counted and its front kept, unless it has more bytes than a usize counts.
pub record ReadFrom (old : Option (List ℕ)) (x : List ℕ) (new : Option (List ℕ)) (y : List ℕ) (i : Input) : Type 0 where
  pub text : Text
  pub consumed : Consumes old new text
  pub at_end : i.failed ≡ false → i.more ≡ false → IsAtEnd new
  pub reads : i.failed ≡ false → Reads text y i
  pub after : i.failed ≡ false → y ≡ kept 0 text x
  pub none_lost : length text < 2 ^ 64 → Reads text y i
  pub front_kept : length text < 2 ^ 64 → y ≡ kept 0 text x

-- and no more will be read
pub record ReadWhole (old : Option (List ℕ)) (x : List ℕ) (new : Option (List ℕ)) (y : List ℕ) (i : Input) : Type 0 where
  pub part : ReadFrom old x new y i
  pub over : i.more ≡ false
