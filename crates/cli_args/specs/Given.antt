-- The words of a command as options and operands, one after another. Assumes nothing.
use Rattle.std.specs.Prelude.{ℕ, ◌+◌, Bool, true, false, ◌&&◌, ◌||◌, not, cond, eqb, ltb, List, [], ◌∷◌, ◌++◌, length, take, get_or, Option, None, Some, bytes_eq, codes}
use Rattle.std.specs.List.{position_or_len, count_by}
use Rattle.rules.specs.Text.{Text, after}
use Rattle.cli_args.specs.Table.{option_name, takes_option, takes_several, takes_address, is_run, is_move, has_values}
use Rattle.cli_args.specs.declared.Command.{Command}
use Rattle.cli_args.specs.declared.Setting.{Setting}
use Rattle.cli_args.specs.declared.Setting.TheVariants as setting
use Rattle.cli_args.specs.declared.table.TheConstants.{SETTINGS}

-- an option without a value, with one, -w with its three, or an operand
pub data Given : Type 0 where
  flag : Setting → Given
  value : Setting → Text → Given
  tries : Text → Text → Text → Given
  operand : Text → Given

-- what the next word is: an option, -- or an operand; an operand, after --; or a value of an option, whatever it is
pub data Mode : Type 0 where
  ready : Mode
  plain : Mode
  value_of : Setting → Mode
  first : Mode
  second : Text → Mode
  third : Text → Text → Mode

-- what is wrong with the words of a command
pub data Complaint : Type 0 where
  no_option : Text → Complaint
  too_many : Text → Complaint
  takes : Setting → Complaint
  no_number : Text → Complaint
  missing : Complaint

-- with --help and --version nothing else is looked at
pub data Stop : Type 0 where
  help : Stop
  version : Stop
  wrong : Complaint → Stop

pub data Step : Type 0 where
  goes : List Given → Mode → Step
  stops : Stop → Step

-- ---- a word that is an option

-- a letter, or a name of several
abbrev pub is_long : Setting → Bool
is_long setting.Output = false
is_long setting.Tries = false
is_long setting.Sheet = false
is_long _ = true

-- what follows an option's name: nothing, or its value, which follows = or, behind a letter, need not
abbrev pub attached : Bool → Text → Option (Option Text)
attached long [] = Some None
attached long (b ∷ v) = cond (eqb b 61) (Some (Some v)) (cond long None (Some (Some (b ∷ v))))

abbrev pub attached_to : Bool → Option Text → Option (Option Text)
attached_to long None = None
attached_to long (Some rest) = attached long rest

abbrev pub given_as : Setting → Text → Option (Option Text)
given_as s w = attached_to (is_long s) (after (option_name s) w)

abbrev pub taken_as : Command → Setting → Text → Option (Option Text)
taken_as c s w = cond (takes_option c s) (given_as s w) None

-- an option of the command, and the value that is attached to it
pub record Found : Type 0 where
  pub of : Setting
  pub with : Option Text

abbrev pub found_as : Setting → Option (Option Text) → Option Found → Option Found
found_as s None o = o
found_as s (Some v) o = Some (record { of = s; with = v })

unfoldable pub found_in : Command → Text → List Setting → Option Found
found_in c w [] = None
found_in c w (s ∷ ss) = found_as s (taken_as c s w) (found_in c w ss)

-- a dash, and more
unfoldable pub is_dashed : Text → Bool
is_dashed w = eqb (get_or w 0 0) 45 && ltb 1 (length w)

-- how many bytes a character has that begins so
unfoldable pub char_bytes : ℕ → ℕ
char_bytes b = cond (ltb b 128) 1 (cond (ltb b 224) 2 (cond (ltb b 240) 3 4))

-- the option that a word names: a dash and a character, or all in front of =
unfoldable pub named_option : Text → Text
named_option w = cond (eqb (get_or w 1 0) 45) (take (position_or_len (λ b. eqb b 61) w) w) (take (1 + char_bytes (get_or w 1 0)) w)

-- ---- a word

abbrev pub is_operand : Given → Bool
is_operand (operand w) = true
is_operand (flag s) = false
is_operand (value s v) = false
is_operand (tries a b d) = false

abbrev pub operand_count : List Given → ℕ
operand_count gs = count_by is_operand gs

-- the numbers before FILE
abbrev pub number_count : Command → ℕ
number_count c = cond (is_run c) 2 (cond (takes_address c || is_move c) 1 0)

-- an operand: a number, FILE, or one too many
abbrev pub operand_step : Command → List Given → Mode → Text → Step
operand_step c gs m w =
    cond (takes_several c || not (ltb (number_count c) (operand_count gs))) (goes (gs ++ operand w ∷ []) m) (stops (wrong (too_many w)))

abbrev flag_step : List Given → Setting → Step
flag_step gs setting.Help = stops help
flag_step gs setting.Version = stops version
flag_step gs s = goes (gs ++ flag s ∷ []) ready

abbrev value_step : List Given → Setting → Text → Step
value_step gs setting.Tries v = stops (wrong (takes setting.Tries))
value_step gs s v = cond (has_values s) (goes (gs ++ value s v ∷ []) ready) (stops (wrong (takes s)))

abbrev wants : Setting → Mode
wants setting.Tries = first
wants s = value_of s

-- an option of the command
abbrev pub setting_step : List Given → Setting → Option Text → Step
setting_step gs s (Some v) = value_step gs s v
setting_step gs s None = cond (has_values s) (goes gs (wants s)) (flag_step gs s)

-- no option of the command: DISTANCE may begin with a dash
abbrev pub unknown_step : Command → List Given → Text → Step
unknown_step c gs w = cond (is_move c && eqb (operand_count gs) 0) (operand_step c gs ready w) (stops (wrong (no_option (named_option w))))

abbrev pub option_step : Command → List Given → Text → Option Found → Step
option_step c gs w None = unknown_step c gs w
option_step c gs w (Some f) = setting_step gs f.of f.with

abbrev pub ready_step : Command → List Given → Text → Step
ready_step c gs w =
    cond (bytes_eq w (codes "--")) (goes gs plain) (cond (is_dashed w) (option_step c gs w (found_in c w SETTINGS)) (operand_step c gs ready w))

abbrev pub step : Command → List Given → Mode → Text → Step
step c gs ready w = ready_step c gs w
step c gs plain w = operand_step c gs plain w
step c gs (value_of s) w = goes (gs ++ value s w ∷ []) ready
step c gs first w = goes gs (second w)
step c gs (second a) w = goes gs (third a w)
step c gs (third a b) w = goes (gs ++ tries a b w ∷ []) ready

-- ---- all words

-- an option whose values are not all there
abbrev pub end_of : List Given → Mode → Step
end_of gs ready = goes gs ready
end_of gs plain = goes gs plain
end_of gs (value_of s) = stops (wrong (takes s))
end_of gs first = stops (wrong (takes setting.Tries))
end_of gs (second a) = stops (wrong (takes setting.Tries))
end_of gs (third a b) = stops (wrong (takes setting.Tries))

abbrev pub on_step : Step → (List Given → Mode → Step) → Step
on_step (goes gs m) k = k gs m
on_step (stops s) k = stops s

unfoldable pub steps : Command → List Given → Mode → List Text → Step
steps c gs m [] = end_of gs m
steps c gs m (w ∷ ws) = on_step (step c gs m w) (λ hs n. steps c hs n ws)

-- the words after the command's name
abbrev pub given_in : Command → List Text → Step
given_in c ws = steps c [] ready ws
