-- What a host does for a call, as facts that its calls alone give. Assumes nothing.
use Rattle.std.specs.Borrow.{Bor}
use Rattle.std.specs.Prelude.{ℕ, ◌≡◌, ◌≤◌, List, length, take, Option, None, Some, option_map, Result, Ok, Err, ⊤, codes}
use Rattle.std.specs.Global.{Vec}
use Rattle.rules.specs.Text.{Text}
use Rattle.cli_run.specs.Items.{Found, read, unread}
use Rattle.cli_io.specs.declared.host.HostError.{HostError}

-- a text was written whole, or was not, and the system's words
pub data Written : Type 0 where
  written : Written
  unwritten : Text → Written

-- Each is a fact of two states of the host, before and after. A file's name is None for standard input, or for standard output.
--   reads: the file was read to its end, or was not read
--   opens, takes: the file was opened, and its next bytes were read: none at its end
--   writes: a text was written, to standard output or as the whole of a file, or was not
--   reports: a text was written to standard error, as far as that takes it
pub record World (H : Type 0) : Type 1 where
  pub reads : H → H → Option Text → Found → Type 0
  pub opens : H → H → Option Text → Type 0
  pub takes : H → H → Option Text → Text → Type 0
  pub writes : H → H → Option Text → Text → Written → Type 0
  pub reports : H → H → Text → Type 0

-- ---- names that are lent

abbrev pub name_of : Option (Bor Text) → Option Text
name_of n = option_map (λ s. s.now) n

-- how standard input and standard output are called
abbrev pub input_name : Option Text → Text
input_name None = codes "standard input"
input_name (Some n) = n

abbrev pub output_name : Option Text → Text
output_name None = codes "standard output"
output_name (Some n) = n

-- ---- what the methods answer

-- P is so of the system's words, if there was memory for them
abbrev pub Worded : Option (Vec ℕ) → (Text → Type 0) → Type 0
Worded None P = (reason : Text) × P reason
Worded (Some v) P = P v.items

-- the words are these, if there was memory for them
abbrev pub IsReason : Option (Vec ℕ) → Text → Type 0
IsReason words reason = Worded words (λ t. t ≡ reason)

-- all of a file of n bytes was read, and its front is kept
pub record WasRead (reads : Found → Type 0) (front : List ℕ) (n : ℕ) : Type 0 where
  pub text : Text
  pub fact : reads (read text)
  pub total : n ≡ length text
  pub front_of : take (length front) text ≡ take n front

-- a file was not opened, or not read on
abbrev pub FailsToRead : (Found → Type 0) → HostError → Type 0
FailsToRead reads e = Worded e.reason (λ reason. reads (unread e.what reason))

abbrev pub ReadsFront : (Found → Type 0) → List ℕ → Result ℕ HostError → Type 0
ReadsFront reads front (Ok n) = WasRead reads front n
ReadsFront reads front (Err e) = FailsToRead reads e

-- the next n bytes of a file stand in front; it ends where there are none
abbrev pub Takes : (Text → Type 0) → List ℕ → ℕ → Type 0
Takes takes chunk n = (n ≤ length chunk) × takes (take n chunk)

abbrev pub Writes : (Written → Type 0) → Result ⊤ HostError → Type 0
Writes writes (Ok u) = writes written
Writes writes (Err e) = Worded e.reason (λ reason. writes (unwritten reason))
