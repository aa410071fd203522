-- What is promised of the words beside the definition of what they ask for. Assumes nothing.
use Rattle.std.specs.Prelude.{◌≡◌, ◌⊎◌, ◌<◌, true, false, List, [], ◌∷◌, ◌++◌, length, map, Option, None, Some, codes}
use Rattle.rules.specs.Text.{Text}
use Rattle.cli_error.specs.Fault.{misused}
use Rattle.cli_error.specs.Refusals.{refusals_text}
use Rattle.cli_run.specs.From.{From, standard, file, again}
use Rattle.cli_args.specs.Table.{command_name, option_name, named_command, takes_option, takes_several, is_move}
use Rattle.cli_args.specs.Help.{help_text, command_help_text}
use Rattle.cli_args.specs.declared.help.TheConstants.{VERSION}
use Rattle.cli_args.specs.declared.table.TheConstants.{SETTINGS}
use Rattle.cli_args.specs.declared.Command.{Command}
use Rattle.cli_args.specs.declared.Setting.{Setting}
use Rattle.cli_args.specs.declared.Setting.TheVariants as setting
use Rattle.cli_args.specs.Given.{Given, flag, value, tries, operand, Mode, Complaint, no_option, too_many, takes, no_number, missing, goes, is_long, is_dashed, found_in, named_option, number_count, given_in}
use Rattle.cli_args.specs.Asked.{Work, assemble, manual, move, symbols, nearest, why, tidy, run, sheet, list, check, Call, calls, prints, fails, operands_of, option_list, shown, complaint_text, asked_of}

-- w is one of these words
abbrev pub Among : Text → List Text → Type 0
Among w [] = ⊥
Among w (x ∷ xs) = (w ≡ x) ⊎ Among w xs

-- ---- every word is read

-- an option and its value in one word: the value follows = or, behind a letter, the letter
abbrev pub IsAttached : Setting → Text → Text → Type 0
IsAttached s v w = (w ≡ option_name s ++ (codes "=" ++ v)) ⊎ ((is_long s ≡ false) × (w ≡ option_name s ++ v))

-- before -- an operand does not begin with a dash; but DISTANCE may
abbrev pub IsOperand : Command → Text → Type 0
IsOperand c w = (is_dashed w ≡ false) ⊎ (is_move c ≡ true)

-- the words of options and operands, one after another, and no other word
pub data Spelled (c : Command) : List Given → List Text → Type 0 where
  no_more : Spelled c [] []
  after_dashes : (w : Text) (gs : List Given) (ws : List Text) → w ≡ codes "--" → gs ≡ map operand ws → Spelled c gs (w ∷ ws)
  as_flag : (s : Setting) (w : Text) (gs : List Given) (ws : List Text) → w ≡ option_name s → Spelled c gs ws → Spelled c (flag s ∷ gs) (w ∷ ws)
  as_attached : (s : Setting) (v w : Text) (gs : List Given) (ws : List Text) → IsAttached s v w → Spelled c gs ws
      → Spelled c (value s v ∷ gs) (w ∷ ws)
  as_value : (s : Setting) (v w : Text) (gs : List Given) (ws : List Text) → w ≡ option_name s → Spelled c gs ws
      → Spelled c (value s v ∷ gs) (w ∷ v ∷ ws)
  as_tries : (a b d w : Text) (gs : List Given) (ws : List Text) → w ≡ option_name setting.Tries → Spelled c gs ws
      → Spelled c (tries a b d ∷ gs) (w ∷ a ∷ b ∷ d ∷ ws)
  as_operand : (w : Text) (gs : List Given) (ws : List Text) → IsOperand c w → Spelled c gs ws → Spelled c (operand w ∷ gs) (w ∷ ws)

unfoldable pub EveryWordIsRead : Type 0
EveryWordIsRead = (c : Command) (ws : List Text) (gs : List Given) (m : Mode) → given_in c ws ≡ goes gs m → Spelled c gs ws

-- ---- help is printed only if it is requested
abbrev pub IsHelp : Text → Type 0
IsHelp t = (t ≡ help_text refusals_text) ⊎ ((c : Command) × (t ≡ command_help_text c))

unfoldable pub HelpIsRequested : Type 0
HelpIsRequested =
    (ws : List Text) (t : Text) → asked_of ws ≡ prints t
    → (Among (codes "--help") ws × IsHelp t) ⊎ (Among (codes "--version") ws × (t ≡ VERSION.now))

-- ---- a usage error names its word, or its option

-- w, the word that is wrong
abbrev pub IsBlamed : Command → Text → Complaint → Type 0
IsBlamed c w (no_option n) = (is_dashed w ≡ true) × (found_in c w SETTINGS ≡ None) × (n ≡ named_option w)
IsBlamed c w (too_many v) = (takes_several c ≡ false) × (v ≡ w)
IsBlamed c w (takes s) = (takes_option c s ≡ true) × (t : Text) × (w ≡ option_name s ++ t)
IsBlamed c w (no_number v) = v ≡ w
IsBlamed c w missing = ⊥

abbrev pub Blames : Command → List Text → Complaint → Type 0
Blames c ws e = (w : Text) × Among w ws × IsBlamed c w e

-- fewer operands than there are numbers before FILE
abbrev pub LacksNumber : Command → List Text → Type 0
LacksNumber c ws = (gs : List Given) × (m : Mode) × (given_in c ws ≡ goes gs m) × (length (operands_of gs) < number_count c)

abbrev pub IsComplaint : Command → List Text → Complaint → Type 0
IsComplaint c ws (no_option n) = Blames c ws (no_option n)
IsComplaint c ws (too_many v) = Blames c ws (too_many v)
IsComplaint c ws (takes s) = Blames c ws (takes s)
IsComplaint c ws (no_number v) = Blames c ws (no_number v)
IsComplaint c ws missing = LacksNumber c ws

module _ (ws : List Text) (c : Option Text) (m : Text) where
  abbrev pub HasNoWord : Type 0
  HasNoWord = (ws ≡ []) × (c ≡ None) × (m ≡ codes "no command")

  abbrev pub NamesNoCommand : Type 0
  NamesNoCommand =
      (w : Text) × (xs : List Text) × (ws ≡ w ∷ xs) × (named_command w ≡ None) × (c ≡ None) × (m ≡ codes "no command " ++ shown w)

  abbrev pub MisusesCommand : Type 0
  MisusesCommand =
      (k : Command) × (xs : List Text) × (e : Complaint) × (ws ≡ command_name k ∷ xs) × IsComplaint k xs e
      × (c ≡ Some (command_name k)) × (m ≡ shown (complaint_text k e))

unfoldable pub MisuseIsNamed : Type 0
MisuseIsNamed =
    (ws : List Text) (c : Option Text) (m : Text) → asked_of ws ≡ fails (misused c m)
    → HasNoWord ws c m ⊎ (NamesNoCommand ws c m ⊎ MisusesCommand ws c m)

-- ---- a file that is opened, read or written is one that a word names

-- these words begin with v
abbrev pub Begins : Text → List Text → Type 0
Begins v [] = ⊥
Begins v (x ∷ xs) = x ≡ v

-- v follows the word a
abbrev pub Follows : Text → Text → List Text → Type 0
Follows a v [] = ⊥
Follows a v (x ∷ xs) = ((x ≡ a) × Begins v xs) ⊎ Follows a v xs

-- v is given as a value of an option
abbrev pub IsValueOf : Setting → Text → List Text → Type 0
IsValueOf s v ws = ((w : Text) × Among w ws × IsAttached s v w) ⊎ Follows (option_name s) v ws

abbrev pub branches_of : Work → Option Text
branches_of (assemble j b t f) = t
branches_of (manual b f) = None
branches_of (move d f) = None
branches_of (symbols j b f) = None
branches_of (nearest j b a f) = None
branches_of (why j b t l xs) = t
branches_of (tidy f) = None
branches_of (run j r f) = None
branches_of (sheet j ts f) = None
branches_of (list b t xs) = t
branches_of (check b t xs) = t

abbrev pub sheets_of : Work → List Text
sheets_of (assemble j b t f) = []
sheets_of (manual b f) = []
sheets_of (move d f) = []
sheets_of (symbols j b f) = []
sheets_of (nearest j b a f) = []
sheets_of (why j b t l xs) = []
sheets_of (tidy f) = []
sheets_of (run j r f) = []
sheets_of (sheet j ts f) = ts
sheets_of (list b t xs) = []
sheets_of (check b t xs) = []

unfoldable pub names_of : List From → List Text
names_of [] = []
names_of (standard ∷ xs) = names_of xs
names_of (file n ∷ xs) = n ∷ names_of xs
names_of (again ∷ xs) = names_of xs

abbrev pub files_of : Work → List Text
files_of (assemble j b t f) = option_list f
files_of (manual b f) = option_list f
files_of (move d f) = option_list f
files_of (symbols j b f) = option_list f
files_of (nearest j b a f) = option_list f
files_of (why j b t l xs) = names_of xs
files_of (tidy f) = option_list f
files_of (run j r f) = option_list f
files_of (sheet j ts f) = option_list f
files_of (list b t xs) = names_of xs
files_of (check b t xs) = names_of xs

pub record IsNamed (ws : List Text) (x : Call) : Type 0 where
  pub output : (n : Text) → x.output ≡ Some n → IsValueOf setting.Output n ws
  pub branches : (n : Text) → branches_of x.work ≡ Some n → IsValueOf setting.Branches n ws
  pub sheets : (n : Text) → Among n (sheets_of x.work) → IsValueOf setting.Sheet n ws
  pub files : (n : Text) → Among n (files_of x.work) → Among n ws

unfoldable pub FilesAreNamed : Type 0
FilesAreNamed = (ws : List Text) (x : Call) → asked_of ws ≡ calls x → IsNamed ws x
