-- An entry of the JSON has no float. Assumes nothing.
use Rattle.std.proofs.Common.{◌≡◌, Bool, true, false, ◌||◌, [], ◌∷◌, refl, sym}
use mathlib.Core.Bool.{false≢true}
use Rattle.serde_json.specs.Data.{Data}
use Rattle.serde_json.specs.Written.{has_float}
use Rattle.jsontext.specs.Lines.{Explained, file_data, files_data}
use Rattle.jsontext.proofs.Plain.{files_plain}

pub entry_whole : (f : Explained) (d : Data) → d ≡ file_data f → has_float d ≡ false
entry_whole f d e = rw e (go (has_float (file_data f)) (files_plain (f ∷ []) (files_data (f ∷ [])) refl).whole_numbers)
  where
    go : (b : Bool) → ((b || false) || false) ≡ false → b ≡ false
    go true h = absurd (false≢true (sym h))
    go false h = refl
