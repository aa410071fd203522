-- The verdicts on the lines of scripts as a value: `{"files":[{"file":"x.s","lines":[{"line":1,"verdict":"not an instruction"}]}]}`.
-- Assumes nothing.
use Rattle.std.specs.Prelude.{ℕ, suc, List, [], ◌∷◌, map, codes}
use Rattle.rules.specs.Text.{Text}
use Rattle.requests.specs.Explain.{Verdict}
use Rattle.whytext.specs.WhyLine.{phrase}
use Rattle.serde_json.specs.Data.{Data, object, array, string, member, no_members}
use Rattle.serde_json.specs.View.{items_of}
use Rattle.jsontext.specs.Line.{whole}

unfoldable pub verdict_data : ℕ → Verdict → Data
verdict_data line v = object (member (codes "line") (whole line) (member (codes "verdict") (string (phrase v)) no_members))

-- verdicts on the lines from one on
unfoldable pub lines_data : ℕ → List Verdict → List Data
lines_data line [] = []
lines_data line (v ∷ vs) = verdict_data line v ∷ lines_data (suc line) vs

-- a script's name, and the verdicts on its lines from one on
pub record Explained : Type 0 where
  pub name : Text
  pub first : ℕ
  pub verdicts : List Verdict

abbrev pub explained : Text → ℕ → List Verdict → Explained
explained name first verdicts = record { name = name; first = first; verdicts = verdicts }

unfoldable pub file_data : Explained → Data
file_data f = object (member (codes "file") (string f.name) (member (codes "lines") (array (items_of (lines_data f.first f.verdicts))) no_members))

abbrev pub files_data : List Explained → Data
files_data fs = object (member (codes "files") (array (items_of (map file_data fs))) no_members)
