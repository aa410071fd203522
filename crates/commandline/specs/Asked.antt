-- What is asked, from what clap found, and what is wrong there. Assumes nothing.
use Rattle.std.specs.Prelude.{◌≡◌, ℕ, ◌-◌, ◌^◌, ℤ, Bool, true, false, leb, List, [], ◌∷◌, map, Option, None, Some, option_map, Result, Ok, Err, ⊤, codes, string_bytes, bytes_eq, pos}
use Rattle.clap.specs.Matches.{first_value, matched_of, raw_values, one_text}
use Rattle.clap.specs.declared.parser.matches.Found.{Found}
use Rattle.rules.specs.Text.{Text}
use Rattle.commandline.specs.Number.{address, decimal, distance}
use Rattle.commandline.specs.Table.{option_id, takes_address, is_run, is_move}
use Rattle.commandline.specs.declared.Asked.{Asked}
use Rattle.commandline.specs.declared.Command.{Command}
use Rattle.commandline.specs.declared.Setting.{Setting}
use Rattle.commandline.specs.declared.Setting.TheVariants as setting
use Rattle.commandline.specs.declared.Tries.{Tries}
use Rattle.commandline.specs.declared.Wrong.{Wrong}
use Rattle.commandline.specs.declared.Wrong.TheVariants.{NoCommand, UnknownCommand, UnknownOption, TooMany, Takes, NoNumber, Missing, Unclear, OutOfMemory}

-- ---- the options that have numbers
-- an address, 0 where it is not given
abbrev pub address_answer : Command → Setting → Option Text → Result ℕ Wrong
address_answer c s None = Ok 0
address_answer c s (Some w) = elim (address w) [ None ↦ Err (Takes c s) | Some n ↦ Ok n ]

-- a line
abbrev pub line_answer : Command → Option Text → Result (Option ℕ) Wrong
line_answer c None = Ok None
line_answer c (Some w) = elim (decimal (2 ^ 32 - 1) w) [ None ↦ Err (Takes c setting.Line) | Some n ↦ Ok (Some n) ]

-- an address and two numbers of 16 bits, the second not below the first
abbrev pub tries_of : ℕ → ℕ → ℕ → Option Tries
tries_of a from to = elim (leb from to) [ true ↦ Some (record { address = a; from = from; to = to }) | false ↦ None ]

abbrev pub tries_read : Text → Text → Text → Option Tries
tries_read a from to =
    elim (address a) [
      | None ↦ None
      | Some n ↦ elim (decimal (2 ^ 16 - 1) from) [ None ↦ None | Some f ↦ elim (decimal (2 ^ 16 - 1) to) [ None ↦ None | Some t ↦ tries_of n f t ] ]
    ]

abbrev pub tries_in : List Text → Option Tries
tries_in (a ∷ from ∷ to ∷ []) = tries_read a from to
tries_in _ = None

abbrev pub tries_answer : Command → Option (List Text) → Result (Option Tries) Wrong
tries_answer c None = Ok None
tries_answer c (Some ws) = elim (tries_in ws) [ None ↦ Err (Takes c setting.Tries) | Some t ↦ Ok (Some t) ]

-- ---- the numbers before FILE
-- the word is said to be no number; or there was no memory to say so
abbrev pub IsNoNumber : Command → Text → Wrong → Type 0
IsNoNumber c w NoCommand = ⊥
IsNoNumber c w (UnknownCommand s) = ⊥
IsNoNumber c w (UnknownOption d s) = ⊥
IsNoNumber c w (TooMany d s) = ⊥
IsNoNumber c w (Takes d s) = ⊥
IsNoNumber c w (NoNumber d s) = (d ≡ c) × (string_bytes s ≡ w)
IsNoNumber c w (Missing d) = ⊥
IsNoNumber c w (Unclear d) = ⊥
IsNoNumber c w OutOfMemory = ⊤

module _ {A : Type 0} where
  abbrev pub FailsWith : (Wrong → Type 0) → Result A Wrong → Type 0
  FailsWith P (Ok n) = ⊥
  FailsWith P (Err e) = P e

  -- the number of a word that has to be there
  abbrev pub NumberAnswer : Command → (Text → Option A) → Option Text → Result A Wrong → Type 0
  NumberAnswer c number None r = r ≡ Err (Missing c)
  NumberAnswer c number (Some w) r = elim (number w) [ None ↦ FailsWith (IsNoNumber c w) r | Some n ↦ r ≡ Ok n ]

-- the number where the command has one there, else 0
abbrev pub AddressAnswer : Command → Option Text → Result ℕ Wrong → Type 0
AddressAnswer c w r = elim (takes_address c) [ true ↦ NumberAnswer c address w r | false ↦ r ≡ Ok 0 ]

-- LIMIT of a run, and DISTANCE of a move
abbrev pub LimitAnswer : Command → Option Text → Result ℕ Wrong → Type 0
LimitAnswer c w r = elim (is_run c) [ true ↦ NumberAnswer c (λ t. decimal (2 ^ 64 - 1) t) w r | false ↦ r ≡ Ok 0 ]

abbrev pub DistanceAnswer : Command → Option Text → Result ℤ Wrong → Type 0
DistanceAnswer c w r = elim (is_move c) [ true ↦ NumberAnswer c distance w r | false ↦ r ≡ Ok (pos 0) ]

-- ---- what is found
-- the address of an option
abbrev pub address_found : Command → Found → Setting → Result ℕ Wrong
address_found c f s = address_answer c s (first_value f (option_id s))

abbrev pub registers : List Setting
registers = setting.A0 ∷ setting.A1 ∷ setting.A2 ∷ setting.A3 ∷ setting.A4 ∷ setting.A5 ∷ setting.A6 ∷ setting.A7 ∷ []

-- the values of an argument, of all its uses
abbrev pub values_found : Found → Text → Option (List Text)
values_found f id = option_map raw_values (matched_of f id)

-- the same, none where it is not given
abbrev pub all_values : Option (List Text) → List Text
all_values None = []
all_values (Some ws) = ws

-- a file that is written: `-` is standard output, as none is
abbrev pub named_file : Option Text → Option Text
named_file None = None
named_file (Some w) = elim (bytes_eq w (codes "-")) [ true ↦ None | false ↦ Some w ]

-- a flag, by the text that clap keeps of it
abbrev pub FlagIs : Option Text → Bool → Type 0
FlagIs w b = (w ≡ None → b ≡ false) × (w ≡ Some (codes "true") → b ≡ true) × (w ≡ Some (codes "false") → b ≡ false)

-- what is asked is what was found, with each number read as it has to be
pub record Shows (c : Command) (f : Found) (a : Asked) : Type 0 where
  pub of_command : a.command ≡ c
  pub of_files : map (λ s. s.now) a.files.items ≡ all_values (values_found f (codes "FILE"))
  pub of_output : option_map (λ s. s.now) a.output ≡ named_file (first_value f (codes "output"))
  pub of_branches : option_map (λ s. s.now) a.branches ≡ first_value f (codes "branches")
  pub of_base : Ok a.base ≡ address_found c f setting.Base
  pub of_line : Ok a.line ≡ line_answer c (first_value f (codes "line"))
  pub of_registers : map (λ n. Ok n) a.a ≡ map (address_found c f) registers
  pub of_tries : Ok a.tries ≡ tries_answer c (values_found f (codes "tries"))
  pub of_sheets : map (λ s. s.now) a.sheets.items ≡ all_values (values_found f (codes "sheet"))
  pub of_address : AddressAnswer c (first_value f (codes "ADDRESS")) (Ok a.address)
  pub of_limit : LimitAnswer c (first_value f (codes "LIMIT")) (Ok a.limit)
  pub of_distance : DistanceAnswer c (first_value f (codes "DISTANCE")) (Ok a.distance)
  pub of_json : FlagIs (one_text f (codes "json")) a.json

-- the options that have an address
abbrev pub has_address : Setting → Bool
has_address setting.Output = false
has_address setting.Base = true
has_address setting.Branches = false
has_address setting.Line = false
has_address setting.A0 = true
has_address setting.A1 = true
has_address setting.A2 = true
has_address setting.A3 = true
has_address setting.A4 = true
has_address setting.A5 = true
has_address setting.A6 = true
has_address setting.A7 = true
has_address setting.Tries = false
has_address setting.Sheet = false
has_address setting.Json = false
has_address setting.Help = false
has_address setting.Version = false

-- what is said is wrong with one of the numbers that were found; or there was no memory
pub data IsWrong (c : Command) (f : Found) (w : Wrong) : Type 0 where
  at_option : (s : Setting) → has_address s ≡ true → Err w ≡ address_found c f s → IsWrong c f w
  at_line : Err w ≡ line_answer c (first_value f (codes "line")) → IsWrong c f w
  at_tries : Err w ≡ tries_answer c (values_found f (codes "tries")) → IsWrong c f w
  at_address : AddressAnswer c (first_value f (codes "ADDRESS")) (Err w) → IsWrong c f w
  at_limit : LimitAnswer c (first_value f (codes "LIMIT")) (Err w) → IsWrong c f w
  at_distance : DistanceAnswer c (first_value f (codes "DISTANCE")) (Err w) → IsWrong c f w
  no_memory : w ≡ OutOfMemory → IsWrong c f w
