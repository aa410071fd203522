-- What the code has of these. Assumes nothing.
use Rattle.std.specs.Prelude.{◌≡◌, List, map, option_map, Result, Ok, Err, ⊤}
use Rattle.std.specs.Global.{Vec}
use Rattle.cli_args.specs.Given as Of
use Rattle.cli_args.specs.Given.{Step, goes, stops}
use Rattle.cli_args.specs.declared.lexing.Given.{Given}
use Rattle.cli_args.specs.declared.lexing.Given.TheVariants as G
use Rattle.cli_args.specs.declared.lexing.Found.{Found}
use Rattle.cli_args.specs.declared.lexing.Mode.{Mode}
use Rattle.cli_args.specs.declared.lexing.Mode.TheVariants as M
use Rattle.cli_args.specs.declared.lexing.Wrong.{Wrong}
use Rattle.cli_args.specs.declared.lexing.Wrong.TheVariants as W
use Rattle.cli_args.specs.declared.lexing.Stop.{Stop}
use Rattle.cli_args.specs.declared.lexing.Stop.TheVariants as S

abbrev pub found_of : Found → Of.Found
found_of f = record { of = f.of; with = option_map (λ s. s.now) f.with }

abbrev pub given_of : Given → Of.Given
given_of (G.Flag s) = Of.flag s
given_of (G.Value s v) = Of.value s v.now
given_of (G.Tries a b c) = Of.tries a.now b.now c.now
given_of (G.Operand w) = Of.operand w.now

abbrev pub givens_of : List Given → List Of.Given
givens_of gs = map given_of gs

abbrev pub mode_of : Mode → Of.Mode
mode_of M.Ready = Of.ready
mode_of M.Plain = Of.plain
mode_of (M.ValueOf s) = Of.value_of s
mode_of M.First = Of.first
mode_of (M.Second a) = Of.second a.now
mode_of (M.Third a b) = Of.third a.now b.now

abbrev pub complaint_of : Wrong → Of.Complaint
complaint_of (W.NoOption w) = Of.no_option w.now
complaint_of (W.TooMany w) = Of.too_many w.now
complaint_of (W.Takes s) = Of.takes s
complaint_of (W.NoNumber w) = Of.no_number w.now
complaint_of W.Missing = Of.missing

-- the code's end of the reading; at NoMemory nothing is promised
abbrev pub IsStop : Step → Stop → Type 0
IsStop x S.Help = x ≡ stops Of.help
IsStop x S.Version = x ≡ stops Of.version
IsStop x (S.Wrong w) = x ≡ stops (Of.wrong (complaint_of w))
IsStop x S.NoMemory = ⊤

-- gs, what is given then
abbrev pub IsStep : Step → List Given → Result Mode Stop → Type 0
IsStep x gs (Ok m) = x ≡ goes (givens_of gs) (mode_of m)
IsStep x gs (Err e) = IsStop x e

-- all words were read
abbrev pub IsGiven : Step → Result (Vec Given) Stop → Type 0
IsGiven x (Ok gs) = (m : Of.Mode) × (x ≡ goes (givens_of gs.items) m)
IsGiven x (Err e) = IsStop x e
