-- A call of the command on an example, in memory. Assumes nothing.
use Rattle.std.specs.Prelude.{◌≡◌, List, [], ◌++◌, map, drop, Option, Some, true}
use Rattle.rules.specs.Text.{Text, cut_at}
use Rattle.commandline.specs.Words.{words_behind}
use Rattle.outcome.specs.Outcome.{Left}
use Rattle.outcome.specs.declared.Outcome.{Outcome}
use Rattle.wholefile.specs.Slots.{shelf}
use Rattle.wholefile.specs.declared.memory.Memory.{Memory}
use Rattle.work.specs.Ran.{Runs}
use Rattle.pages.specs.declared.calling.Printed.{Printed}
use Rattle.pages.specs.Page.{Sample}
use Rattle.pages.specs.Texts.{input_text}
use Rattle.pages.specs.Files.{Named, file, readable}

-- the words of an example, the command's name first
abbrev pub words : Sample → List Text
words e = cut_at 32 (drop 6 e.line)

-- what stands on standard output in memory
abbrev pub printed : Printed → Option Text
printed p = Some p.text.items

-- the command ran, of words, the command's name first, of files and standard input; first and last, standard output before and after, before and
-- after, the disk, old and said, standard error before and after
pub record Ran (ws : List Text) (fs : List Named) (input : Text) (first last : Printed) (before after : Memory) (old said : Text) (o : Outcome) : Type 0 where
  pub runs : Runs (words_behind ws) (readable fs input) before after (λ d n. d.is_settled ≡ true) (λ d n. d.is_stuck ≡ true) (λ d. Some (shelf d)) (λ s r. Left (printed first) (printed last) s r) (last ≡ first) (Some old) (Some said) o

-- of an example the command prints out and says said
pub record Comes (e : Sample) (out said : Text) : Type 0 where
  pub first : Printed
  pub last : Printed
  pub before : Memory
  pub after : Memory
  pub outcome : Outcome
  pub empty : first.text.items ≡ []
  pub whole : last.text.items ≡ out
  pub ran : Ran (words e) (map file e.files) (input_text e) first last before after [] said outcome

-- what an example comes to: what is printed, and after it what is said
pub record Gives (e : Sample) (got : Text) : Type 0 where
  pub out : Text
  pub said : Text
  pub both : got ≡ out ++ said
  pub comes : Comes e out said
