-- What the writers of a tidy copy hand to each other: a name, the colon of data, how a line is copied, what it adds. Assumes nothing.
use Rattle.std.specs.Prelude.{ℕ, zero, suc, cond, [], ◌∷◌, ◌++◌, Option, None, Some}
use Rattle.rules.specs.Text.{Text, trim}
use Rattle.rules.specs.Line.{Task, skipped, end, org, no_org, label_only, instruction, value, space, is_data}
use Rattle.text.specs.Find.{index_of}
use Rattle.requests.specs.Tidy.{squeezed, around_colon, tidy_rest}
use Rattle.tidied.specs.declared.Way.{Way}
use Rattle.tidied.specs.declared.Way.TheVariants.{Squeezed, Parted}

-- a name without outer blanks, and the colon after it
abbrev pub named : Text → Text
named l = trim l ++ (58 ∷ [])

-- where the colon stands that is treated in what follows the first one
unfoldable pub second_colon : Text → Option ℕ
second_colon s = cond (is_data s) (index_of 58 s) None

-- how a line of a task is copied, if it is: one that reaches step 4 by its colons
unfoldable pub way_of : Task → Option Way
way_of skipped = None
way_of end = Some Squeezed
way_of (org v) = Some Squeezed
way_of no_org = Some Squeezed
way_of label_only = Some Parted
way_of (instruction i) = Some Parted
way_of (value n v) = Some Parted
way_of (space n) = Some Parted

-- the byte 10 after n bytes: none where nothing is written yet
abbrev pub line_break : ℕ → Text
line_break zero = []
line_break (suc n) = 10 ∷ []

-- the copy of a line, by its text without outer blanks
abbrev pub copy_text : Way → Text → Text
copy_text Squeezed s = squeezed s
copy_text Parted s = around_colon tidy_rest s

-- what a line adds after n bytes
abbrev pub addition : Option Way → ℕ → Text → Text
addition None n s = []
addition (Some w) n s = line_break n ++ copy_text w s
