-- The values have no float and nest little. Assumes nothing.
use Rattle.std.proofs.Common.{ℕ, suc, ◌≡◌, ◌≤◌, false, List, [], ◌∷◌, map, Option, None, Some, refl, arith}
use Rattle.rules.specs.Text.{Text}
use Rattle.rules.specs.Assemble.{Place}
use Rattle.rules.specs.Label.{Label}
use Rattle.requests.specs.Sheet.{Totals}
use Rattle.requests.specs.Explain.{Verdict}
use Rattle.serde_json.specs.Data.{Data, items_depth}
use Rattle.serde_json.specs.Written.{has_float, items_have_float, members_have_float}
use Rattle.serde_json.specs.View.{items_of}
use Rattle.jsontext.specs.Line.{whole, IsPlain}
use Rattle.jsontext.specs.Places.{place_data, list_data}
use Rattle.jsontext.specs.Labels.{label_data, labels_data, near_data}
use Rattle.jsontext.specs.Lines.{verdict_data, lines_data, Explained, file_data, files_data}
use Rattle.jsontext.specs.Runs.{Tried, flags_data, value_member, run_data}
use Rattle.jsontext.specs.Totals.{totals_data}

-- ---- words
places_whole : (ps : List Place) → items_have_float (items_of (map place_data ps)) ≡ false
unfolding place_data
places_whole [] = refl
places_whole (p ∷ ps) = places_whole ps

places_depth : (ps : List Place) → items_depth (items_of (map place_data ps)) ≤ 1
unfolding place_data
places_depth [] = omega arith
places_depth (p ∷ ps) = omega (arith, places_depth ps)

pub list_plain : (ps : List Place) (d : Data) → d ≡ list_data ps → IsPlain d
list_plain ps d e = rw e (record { whole_numbers = rw (places_whole ps) refl; shallow = omega (arith, places_depth ps) })

-- ---- labels
labels_whole : (ls : List Label) → items_have_float (items_of (map label_data ls)) ≡ false
unfolding label_data
labels_whole [] = refl
labels_whole (l ∷ ls) = labels_whole ls

labels_depth : (ls : List Label) → items_depth (items_of (map label_data ls)) ≤ 1
unfolding label_data
labels_depth [] = omega arith
labels_depth (l ∷ ls) = omega (arith, labels_depth ls)

pub labels_plain : (ls : List Label) (d : Data) → d ≡ labels_data ls → IsPlain d
labels_plain ls d e = rw e (record { whole_numbers = rw (labels_whole ls) refl; shallow = omega (arith, labels_depth ls) })

pub near_plain : (name : Text) (distance : ℕ) (d : Data) → d ≡ near_data name distance → IsPlain d
near_plain name distance d e = rw e (record { whole_numbers = refl; shallow = omega arith })

-- ---- verdicts
lines_whole : (line : ℕ) (vs : List Verdict) → items_have_float (items_of (lines_data line vs)) ≡ false
unfolding lines_data verdict_data
lines_whole line [] = refl
lines_whole line (v ∷ vs) = lines_whole (suc line) vs

lines_depth : (line : ℕ) (vs : List Verdict) → items_depth (items_of (lines_data line vs)) ≤ 1
unfolding lines_data verdict_data
lines_depth line [] = omega arith
lines_depth line (v ∷ vs) = omega (arith, lines_depth (suc line) vs)

files_whole : (fs : List Explained) → items_have_float (items_of (map file_data fs)) ≡ false
unfolding file_data
files_whole [] = refl
files_whole (f ∷ fs) = rw (lines_whole f.first f.verdicts) (files_whole fs)

files_depth : (fs : List Explained) → items_depth (items_of (map file_data fs)) ≤ 3
unfolding file_data
files_depth [] = omega arith
files_depth (f ∷ fs) = omega (arith, lines_depth f.first f.verdicts, files_depth fs)

pub files_plain : (fs : List Explained) (d : Data) → d ≡ files_data fs → IsPlain d
files_plain fs d e = rw e (record { whole_numbers = rw (files_whole fs) refl; shallow = omega (arith, files_depth fs) })

-- ---- a run
numbers_whole : (ns : List ℕ) → items_have_float (items_of (map whole ns)) ≡ false
numbers_whole [] = refl
numbers_whole (n ∷ ns) = numbers_whole ns

pub run_whole : (t : Tried) (d : Data) → d ≡ run_data t → has_float d ≡ false
unfolding run_data flags_data
run_whole t d e = rw (e, numbers_whole t.run.state.d) (value_whole t.value)
  where
    value_whole : (o : Option ℕ) → members_have_float (value_member o) ≡ false
    value_whole None = refl
    value_whole (Some v) = refl

-- ---- totals
pub totals_plain : (t : Totals) (d : Data) → d ≡ totals_data t → IsPlain d
unfolding totals_data
totals_plain t d e = rw e (record { whole_numbers = refl; shallow = omega arith })
