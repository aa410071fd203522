-- The texts of --help. Assumes nothing.
use Rattle.std.specs.Prelude.{ℕ, zero, suc, ◌-◌, Bool, true, false, not, ◌&&◌, List, [], ◌∷◌, ◌++◌, length, codes}
use Rattle.rules.specs.Text.{Text}
use Rattle.cli_args.specs.Table.{command_name, command_summary, command_input, values_in_usage, files_in_usage, several_text, takes_option, option_name, option_values, option_help, is_later_register, is_in_usage, has_values}
use Rattle.cli_args.specs.declared.Command.{Command}
use Rattle.cli_args.specs.declared.Setting.{Setting}
use Rattle.cli_args.specs.declared.help.TheConstants.{FRONT, BEHIND, END}
use Rattle.cli_args.specs.declared.table.TheConstants.{COMMANDS, SETTINGS}

unfoldable pub spaces : ℕ → Text
spaces zero = []
spaces (suc n) = 32 ∷ spaces n

-- the texts of these, one after the other
unfoldable pub lines_of : {A : Type 0} → (A → Text) → List A → Text
lines_of f [] = []
lines_of f (x ∷ xs) = f x ++ lines_of f xs

abbrev pub padded : Text → ℕ → Text
padded t width = t ++ spaces (width - length t)

-- a command and what it prints
abbrev pub command_line : Command → Text
command_line c = (codes "  " ++ padded (command_name c) 8 ++ codes "  ") ++ command_summary c ++ codes "\n"

abbrev pub help_text : Text → Text
help_text refusals = (FRONT.now ++ lines_of command_line COMMANDS ++ BEHIND.now) ++ refusals

-- --a1 to --a7 stand with --a0
abbrev pub is_told : Command → Setting → Bool
is_told c s = takes_option c s && not (is_later_register s)

-- an option with what is said of it
abbrev pub setting_line : Command → Setting → Text
setting_line c s = elim (is_told c s) [ true ↦ padded ((codes "  " ++ option_name s ++ codes " ") ++ option_values s) 22 ++ option_help s ++ codes "\n" | false ↦ [] ]

-- an option in the usage, where --help and --version are not told
abbrev pub option_text : Command → Setting → Text
option_text c s =
    elim (is_told c s && is_in_usage s) [
      | true ↦ elim (has_values s) [ true ↦ (codes " [" ++ option_name s ++ codes " ") ++ option_values s ++ codes "]" | false ↦ codes " [" ++ option_name s ++ codes "]" ]
      | false ↦ []
    ]

abbrev pub usage_text : Command → Text
usage_text c = (codes "usage: lagvettu " ++ command_name c ++ values_in_usage c) ++ lines_of (option_text c) SETTINGS ++ files_in_usage c

abbrev pub command_help_text : Command → Text
command_help_text c =
    (((usage_text c ++ codes "\n\nPrints " ++ command_summary c) ++ codes ".\nFILE has " ++ command_input c)
    ++ several_text c ++ lines_of (setting_line c) SETTINGS) ++ END.now
