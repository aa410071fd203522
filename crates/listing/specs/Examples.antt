-- Texts byte for byte: the station example's listing, lines of refusals, and texts that are not read. Assumes nothing.
use Rattle.std.specs.Prelude.{◌≡◌, Ok, List, [], ◌∷◌}
use Rattle.rules.specs.Text.{Text, bytes}
use Rattle.rules.specs.Assemble.{Place, place}
use Rattle.listing.specs.Listing.{list_text, refused_text}
use Rattle.listing.specs.Reading.{bad, read_list}

-- P1's list and its listing
abbrev station_list : List Place
station_list =
    place 0x1000 0x0000 0 ∷ place 0x1002 0x1040 0 ∷ place 0x1004 0x7203 0 ∷ place 0x1006 0x2478 0 ∷ place 0x1008 0x1000 1
    ∷ place 0x100A 0x0C82 0 ∷ place 0x100C 0x1040 0 ∷ place 0x100E 0x66F4 0 ∷ place 0x1010 0x4E71 0 ∷ []

abbrev station_text : Text
station_text =
    bytes "00001000 0000 0\n00001002 1040 0\n00001004 7203 0\n00001006 2478 0\n00001008 1000 1\n0000100A 0C82 0\n0000100C 1040 0\n0000100E 66F4 0\n00001010 4E71 0\n"

pub record Examples : Type 0 where
  pub station : list_text station_list ≡ station_text
  pub empty : list_text [] ≡ []
  pub highest : list_text (place 0xFFFFFFFF 0xABCD 9 ∷ []) ≡ bytes "FFFFFFFF ABCD 9\n"
  pub pair : list_text (place 0x2002 0x0001 2 ∷ place 0x2004 0x8000 3 ∷ []) ≡ bytes "00002002 0001 2\n00002004 8000 3\n"
  pub no_digit : list_text (place 0 0 10 ∷ []) ≡ bytes "00000000 0000 ?\n"
  pub refused : refused_text 2 0 ≡ bytes "refused 2 0\n"
  pub refused_far : refused_text 11 32769 ≡ bytes "refused 11 32769\n"
  pub read : read_list 9 station_text ≡ Ok 9
  pub read_pair : read_list 2 (bytes "00002002 0001 2\n00002004 8000 3\n") ≡ Ok 2
  pub one_too_many : read_list 8 station_text ≡ bad 9
  pub nothing : read_list 0 [] ≡ Ok 0
  pub lower_case : read_list 9 (bytes "0000100a 0C82 0\n") ≡ bad 1
  pub seven_digits : read_list 9 (bytes "00001000 0000 0\n0001002 1040 0\n") ≡ bad 2
  pub no_end : read_list 9 (bytes "00001000 0000 0") ≡ bad 1
  pub blank_line : read_list 9 (bytes "00001000 0000 0\n\n") ≡ bad 2
