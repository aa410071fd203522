-- What `movelist` prints, byte for byte: the bezel's list moved by 8,192, a pair, refusals, and texts that are no lists. Assumes nothing.
use Rattle.std.specs.Prelude.{◌≡◌, [], ◌++◌, pos, negsuc}
use Rattle.rules.specs.Text.{Text, bytes}
use Rattle.station.specs.Station.{moved_text}

-- the lists of P1 and P2
abbrev p1 : Text
p1 =
    bytes "00001000 0000 0\n00001002 1040 0\n00001004 7203 0\n00001006 2478 0\n00001008 1000 1\n0000100A 0C82 0\n0000100C 1040 0\n0000100E 66F4 0\n00001010 4E71 0\n"

abbrev p2 : Text
p2 =
    bytes "00003000 0000 0\n00003002 1040 0\n00003004 7203 0\n00003006 2478 0\n00003008 3000 1\n0000300A 0C82 0\n0000300C 1040 0\n0000300E 66F4 0\n00003010 4E71 0\n"

pub record Examples : Type 0 where
  pub there : moved_text (pos 0x2000) p1 ≡ p2
  pub back : moved_text (negsuc 0x1FFF) p2 ≡ p1
  pub empty : moved_text (pos 5) [] ≡ []
  pub far : moved_text (pos 0x40000000) p1 ≡ bytes "refused 8 0\n"
  pub pair : moved_text (pos 0x9000) (bytes "00001000 4EF9 0\n00001002 0001 2\n00001004 8000 3\n") ≡ bytes "0000A000 4EF9 0\n0000A002 0002 2\n0000A004 1000 3\n"
  pub mark : moved_text (pos 5) (p1 ++ bytes "00001012 4E71 4\n") ≡ bytes "refused 10 9\n"
  pub no_low : moved_text (pos 5) (p1 ++ bytes "00001012 4E71 2\n") ≡ bytes "refused 10 9\n"
  pub below : moved_text (negsuc 0x1000) p1 ≡ bytes "refused 11 0\n"
  pub above : moved_text (pos 0x3FFFEFF2) p1 ≡ bytes "refused 11 8\n"
  pub no_end : moved_text (pos 5) (p1 ++ bytes "00001012 4E71 0") ≡ bytes "not a list: line 10\n"
  pub lower_case : moved_text (pos 5) (bytes "0000100a 0C82 0\n") ≡ bytes "not a list: line 1\n"
