-- What each command comes to. Assumes nothing.
use Rattle.std.specs.Prelude.{◌≡◌, ℕ, true, List, [], map, Option, Result, ⊤}
use Rattle.std.specs.declared.io.Error.{Error}
use Rattle.rules.specs.Text.{Text}
use Rattle.commandline.specs.declared.Asked.{Asked}
use Rattle.commandline.specs.declared.Command.{Command}
use Rattle.commandline.specs.declared.Command.TheVariants as command
use Rattle.outcome.specs.declared.Outcome.{Outcome}
use Rattle.outcome.specs.declared.making.Joining.{Joining}
use Rattle.make_sheet.specs.Reading.{Telling}
use Rattle.make_sheet.specs.Served.{Ends}
use Rattle.work.specs.Calls.{file_of, Joins, One, Each}
use Rattle.work.specs.Labels.{telling_labels, telling_nearest}
use Rattle.work.specs.Lines.{explaining, printing, JoinsBy}
use Rattle.work.specs.Lists.{assembling, assembling_manual, moving, tidying, checking, is_good}
use Rattle.work.specs.Runs.{running}

-- h, what the files hold; a, what is asked; output, how the output is named; puts, what is owed of a text that is put and of the answer; same, that
-- nothing is put; old and new, what standard error has taken. Of a script 32,768 bytes are kept, of a list 196,609
abbrev pub Performs : Command → (Option Text → Option (List ℕ)) → Asked → Text → (Text → Result ⊤ Error → Type 0) → Type 0 → Option (List ℕ) → Option (List ℕ) → Outcome → Type 0
Performs command.Assemble h a output puts same old new o = One (assembling a) 32768 h a output puts same old new o
Performs command.Manual h a output puts same old new o = One (assembling_manual a) 32768 h a output puts same old new o
Performs command.Move h a output puts same old new o = One (moving a) 196609 h a output puts same old new o
Performs command.Symbols h a output puts same old new o = One (telling_labels a) 32768 h a output puts same old new o
Performs command.Nearest h a output puts same old new o = One (telling_nearest a) 32768 h a output puts same old new o
Performs command.Tidy h a output puts same old new o = One tidying 32768 h a output puts same old new o
Performs command.Run h a output puts same old new o = One (running a) 196609 h a output puts same old new o
Performs command.Sheet h a output puts same old new o = Ends h (λ n p. Telling old new n p) (map (λ s. s.now) a.sheets.items) (file_of a) a.json output puts same o
Performs command.Check h a output puts same old new o = (j : Joining) × Joins j [] [] [] × Each (checking a) (is_good a) 32768 j h a output puts same old new o
Performs command.Why h a output puts same old new o = (j : Joining) × JoinsBy a.json j × Each (explaining a) (λ t s. true) 32768 j h a output puts same old new o
Performs command.List h a output puts same old new o = (j : Joining) × Joins j [] [] [] × Each (printing a) (λ t s. true) 32768 j h a output puts same old new o
