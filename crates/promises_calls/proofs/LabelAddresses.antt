-- Labels lie below 2^30, and so the manual's forms hold of every accepted source. Assumes nothing.
use Prim.Native.Nat.{ℕ, suc, ◌^◌, ◌≤◌, ◌<◌}
use mathlib.Core.Path.{◌≡◌, refl}
use mathlib.Core.List.{List}
use native.Mathlib.Omega.{arith}
use Rattle.rules.specs.Limits.{address_limit}
use Rattle.rules.specs.Text.{Text}
use Rattle.rules.specs.Line.{line_of}
use Rattle.rules.specs.Answer.{accepted}
use Rattle.rules.specs.Assemble.{Sizes, Pass, pass_at_by}
use Rattle.requests.specs.ManualCall.{manual_size}
use Rattle.promises.specs.Refusals.{next_address, Reached, start, further, PassCondition, base_over, address_over, passing}
use Rattle.promises.specs.Nearest.{RecordsBy, records, RecordedAtBy, recorded_at, FoundIsLast}
use Rattle.promises.specs.ManualWritten.{Addresses32, NoFormLeftOut, WordsAreTheManuals, FieldsHoldHere}
use Rattle.promises.proofs.Compared.{Compared, less, more, equal, compared}
use Rattle.promises.proofs.Stages.{apart, are_apart, none_holds}
use Rattle.promises.proofs.RefusalsAssemble.{pass_known, pass_answered}
use Rattle.promises.proofs.Records.{found_is_last}
use Rattle.promises.proofs.ManualWords.{no_form_left_out, words_are_the_manuals, fields_hold_here}
use Rattle.promises_calls.specs.LabelAddresses.{LabelsAreLow, SourcesHaveForms}

module _ (z : Sizes) (base : ℕ) (s : Text) (p : Pass) (e : pass_at_by z base s ≡ accepted p) where
  clear_by : (m q : ℕ) → ¬ PassCondition z base s m q
  unfolding apart
  clear_by = none_holds (PassCondition z base s) passing (are_apart passing refl) (pass_known z base s) p (pass_at_by z base s) e (pass_answered z base s)

  under : (x m q : ℕ) → (address_limit ≤ x → PassCondition z base s m q) → x < address_limit
  under x m q h = go (compared x address_limit)
    where
      go : Compared x address_limit → x < address_limit
      go (less u) = u
      go (more u) = absurd (clear_by m q (h (omega arith)))
      go (equal u) = absurd (clear_by m q (h (omega arith)))

  reached_low : {j a : ℕ} {ns : List Text} → Reached z base s j a ns → a < address_limit
  reached_low start = under base 4 0 base_over
  reached_low (further {j} {a} {l = l} r i f) = under (next_address z base a (line_of l).task) 5 (suc j) (address_over r i)

  low : {n : Text} {i k x : ℕ} → RecordsBy z base s n i k x → x < address_limit
  low (records r i m) = reached_low r

  addresses : Addresses32 p.labels
  unfolding FoundIsLast
  addresses l x f = go ((found_is_last z base s p e l x).0 f)
    where
      go : RecordedAtBy z base s l x → x < 2 ^ 32
      go (recorded_at h) = omega (arith, low h.made)

pub labels_are_low : LabelsAreLow
unfolding LabelsAreLow
labels_are_low z base s p e n i k x r = low z base s p e r

pub sources_have_forms : SourcesHaveForms
unfolding SourcesHaveForms NoFormLeftOut WordsAreTheManuals FieldsHoldHere
sources_have_forms base s p e =
    let below = addresses manual_size base s p e in
    record {
      encoded = λ a i ins ms w. no_form_left_out p.labels a i ins ms below w;
      written = λ a i cs w. words_are_the_manuals p.labels a i cs below w;
      fields = λ a i ins ms w. fields_hold_here p.labels a i.mnemonic i.suffix i.operands ins ms below w;
    }
