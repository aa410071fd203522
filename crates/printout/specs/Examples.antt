-- Printouts byte for byte: the bezel's script; lines without words, and after END; an empty source; under a branch table; refusals. Assumes nothing.
use Rattle.std.specs.Prelude.{◌≡◌, [], ◌∷◌, ◌++◌}
use Rattle.rules.specs.Text.{Text, bytes}
use Rattle.printout.specs.Printout.{printout_text, printout_under}

abbrev script : Text
script = bytes "ORG $1000\nLIM: DC.L 4160\nGO: MOVEQ #3,D1\nMOVE.L LIM,D2\nCMP.L #4160,D2\nBNE GO\nNOP\nEND"

abbrev listing : Text
listing =
    bytes "   1  00000000             ORG $1000  <- not an instruction\n"
    ++ bytes "   2  00001000  0000 1040  LIM: DC.L 4160\n"
    ++ bytes "   3  00001004  7203       GO: MOVEQ #3,D1\n"
    ++ bytes "   4  00001006  2478 1000* MOVE.L LIM,D2\n"
    ++ bytes "   5  0000100A  0C82 1040  CMP.L #4160,D2\n"
    ++ bytes "   6  0000100E  66F4       BNE GO\n"
    ++ bytes "   7  00001010  4E71       NOP\n"
    ++ bytes "   8  00001012             END  <- not an instruction\n"
    ++ bytes "\nLIM 00001000 2\nGO 00001004 3\n"

abbrev silent : Text
silent = bytes " dc.w 3O0\nBRA X\nORG\nMOVEQ #300,D0\nendless\nNOP\n"

abbrev reasons : Text
reasons =
    bytes "   1  00000020              dc.w 3O0  <- number: bad digit\n"
    ++ bytes "   2  00000022             BRA X  <- label not recorded\n"
    ++ bytes "   3  00000024             ORG  <- number: no digits\n"
    ++ bytes "   4  00000024             MOVEQ #300,D0  <- number: out of range\n"
    ++ bytes "   5  00000026             endless  <- not an instruction\n"
    ++ bytes "   6  not read             NOP\n"
    ++ bytes "   7  not read             \n"

-- `BHS` with condition 4
abbrev table : Text
table = 1 ∷ 66 ∷ 72 ∷ 83 ∷ 32 ∷ 4 ∷ 0 ∷ []

pub record Examples : Type 0 where
  pub p1 : printout_text 0 script ≡ listing
  pub without_words : printout_text 32 silent ≡ reasons
  pub empty : printout_text 0 [] ≡ bytes "   1  00000000               <- not an instruction\n"
  pub tabled : printout_under table 0 (bytes "A: BHS A\nBRA A") ≡ bytes "   1  00000000  64FE       A: BHS A\n   2  00000002             BRA A  <- unknown mnemonic\n\nA 00000000 1\n"
  pub too_high : printout_text 0 (bytes "NOP\nORG $40000000") ≡ bytes "refused 5 2\n"
  pub no_table : printout_under [] 0 (bytes "NOP") ≡ bytes "refused 16 0\n"
