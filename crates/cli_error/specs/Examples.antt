-- What is said, byte for byte. Assumes nothing.
use Rattle.std.specs.Prelude.{◌≡◌}
use Rattle.rules.specs.Text.{Text, bytes}
use Rattle.cli_error.specs.declared.What.TheVariants.{Open}
use Rattle.cli_error.specs.Refusals.{refusal_row}
use Rattle.cli_error.specs.Reason.{reason_of}
use Rattle.cli_error.specs.Messages.{refused_row, refused_text, not_a_list_text, not_a_sheet_text, failed_text, wrong_use_text, usage_text, accepted_row}

abbrev bezel : Text
bezel = bytes "START:\n ORG $40000000\n\tMOVE.W\n"

pub record Examples : Type 0 where
  pub refused : refused_row (bytes "bezel.s") 5 12 ≡ bytes "bezel.s: refused 5 at line 12: address 2^30 or more after this line\n"
  pub placeless : refused_row (bytes "bezel.s") 4 0 ≡ bytes "bezel.s: refused 4: base 2^30 or more\n"
  pub line : refused_text (bytes "bezel.s") 5 2 bezel
      ≡ bytes "lagvettu: bezel.s: refused 5 at line 2: address 2^30 or more after this line\nlagvettu:    2   ORG $40000000\n"
  pub offset : refused_text (bytes "-") 2 22 bezel ≡ bytes "lagvettu: -: refused 2 at offset 22: a byte over 127\nlagvettu:    3  ?MOVE.W\n"
  pub index : refused_text (bytes "l") 19 1 (bytes "00001000 4E71 0\n00001003 4E71 0\n")
      ≡ bytes "lagvettu: l: refused 19 at index 1: a list address that is odd or above 16,382\nlagvettu:    2  00001003 4E71 0\n"
  pub no_line : refused_text (bytes "s") 13 9 bezel ≡ bytes "lagvettu: s: refused 13 at line 9: no such line, or one that is never read\n"
  pub length : refused_text (bytes "s") 1 32769 bezel ≡ bytes "lagvettu: s: refused 1 at length 32769: a source over 32,768 bytes\n"
  pub table : refused_text (bytes "t") 16 5 bezel
      ≡ bytes "lagvettu: t: refused 16 at offset 5: a cut, missing or unknown command, a 17th row or a condition over 15\n"
  pub list : not_a_list_text (bytes "standard input") 3 ≡ bytes "lagvettu: standard input: not a list: line 3\n"
  pub sheet : not_a_sheet_text (bytes "last-year.sheet") 3 ≡ bytes "lagvettu: last-year.sheet: not a sheet: line 3\n"
  pub failed : failed_text Open (bytes "none.s") (reason_of (bytes "No such file or directory (os error 2)"))
      ≡ bytes "lagvettu: cannot open none.s: No such file or directory\n"
  pub wrong_use : wrong_use_text (bytes "list") (bytes "no option -x") ≡ bytes "lagvettu: list: no option -x\nlagvettu: see lagvettu list --help\n"
  pub command : usage_text (bytes "no command lst") ≡ bytes "lagvettu: no command lst; see lagvettu --help\n"
  pub accepted : accepted_row (bytes "a.s") ≡ bytes "a.s: accepted\n"
  pub help : refusal_row 10 ≡ bytes "  10  a mark over 3, or a 2 and a 3 that are not together\n"
