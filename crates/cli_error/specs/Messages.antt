-- What the command says on standard error, and the rows of `check`. Assumes nothing.
use Rattle.std.specs.Prelude.{ℕ, [], ◌++◌, Option, None, Some}
use Rattle.rules.specs.Text.{Text, bytes}
use Rattle.listing.specs.Listing.{decimal}
use Rattle.cli_error.specs.declared.What.{What}
use Rattle.cli_error.specs.declared.What.TheVariants.{Open, Read, Write}
use Rattle.cli_error.specs.Refusals.{counted, counted_text, words}
use Rattle.cli_error.specs.Shown.{shown_text}
use Rattle.cli_error.specs.declared.words.Counts.{Counts}

-- every line begins with the command's name
abbrev pub said : Text
said = bytes "lagvettu: "

-- where a refusal speaks of: nothing where its place is always 0
abbrev pub place_text : Option Counts → ℕ → Text
place_text None p = []
place_text (Some c) p = counted_text c ++ decimal p

-- a refusal of the text that is named so: "bezel.s: refused 5 at line 12: address 2^30 or more after this line", and byte 10
unfoldable pub refused_row : Text → ℕ → ℕ → Text
refused_row name n p = (((((name ++ bytes ": refused ") ++ decimal n) ++ place_text (counted n) p) ++ bytes ": ") ++ words n) ++ bytes "\n"

-- and under it the line of the text s of which it speaks
unfoldable pub refused_text : Text → ℕ → ℕ → Text → Text
refused_text name n p s = (said ++ refused_row name n p) ++ shown_text n p s

-- a text that is no list's, or no sheet's, and its first wrong line
unfoldable pub not_a_list_text : Text → ℕ → Text
not_a_list_text name line = (((said ++ name) ++ bytes ": not a list: line ") ++ decimal line) ++ bytes "\n"

unfoldable pub not_a_sheet_text : Text → ℕ → Text
not_a_sheet_text name line = (((said ++ name) ++ bytes ": not a sheet: line ") ++ decimal line) ++ bytes "\n"

-- what failed of a file, and why
abbrev pub verb : What → Text
verb Open = bytes "open "
verb Read = bytes "read "
verb Write = bytes "write "

unfoldable pub failed_text : What → Text → Text → Text
failed_text what name reason = ((((bytes "lagvettu: cannot " ++ verb what) ++ name) ++ bytes ": ") ++ reason) ++ bytes "\n"

-- a usage error: the command whose use is wrong, what is wrong, and where the right use is
unfoldable pub wrong_use_text : Text → Text → Text
wrong_use_text command wrong =
    (((((said ++ command) ++ bytes ": ") ++ wrong) ++ bytes "\nlagvettu: see lagvettu ") ++ command) ++ bytes " --help\n"

-- one that is of no command
unfoldable pub usage_text : Text → Text
usage_text wrong = (said ++ wrong) ++ bytes "; see lagvettu --help\n"

abbrev pub no_memory_text : Text
no_memory_text = bytes "lagvettu: out of memory\n"

-- ---- the rows of `check`
unfoldable pub accepted_row : Text → Text
accepted_row name = name ++ bytes ": accepted\n"
