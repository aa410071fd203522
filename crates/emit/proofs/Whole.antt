-- What a held pass comes to, as the cells tell it: the words of its first lines, how many there are in all, and the address after a line. Assumes nothing.
use mathlib.Core.Path.{◌≡◌}
use mathlib.Core.List.{List}
use Prim.Native.Nat.{ℕ, suc, ◌+◌, ◌*◌, ◌^◌, ◌≤◌, ◌<◌}
use native.Mathlib.Omega.{arith}
use lib.ListN.{length}
use Rattle.rules.specs.Assemble.{Sizes, Place, Encoder, data_places, code_places_by, second_pass_by}
use Rattle.label.specs.Labelled.{Labelled}
use Rattle.cells.specs.Cells.{after_by, kept_at}
use Rattle.cells.specs.Puts.{address_at, put_at}
use Rattle.cells.proofs.Puts.{puts_length}
use Rattle.cells.proofs.Tasks.{after_kept}
use Rattle.first.specs.Pass.{pass_in, HoldsBy}
use Rattle.first.specs.declared.Pass.{Pass}
use Rattle.first.proofs.Callers.{bounded}
use Rattle.emit.proofs.Lines.{words_to, length_more, words_within}
use Rattle.emit.proofs.Callers.{Few, second_length, second_few}

-- the data words of the first k lines, and their instruction words
abbrev pub values_to : Labelled → List ℕ → Pass → ℕ → List Place
values_to labels cells pass k = words_to data_places labels.source pass.base cells k

abbrev pub codes_to : Encoder → Labelled → List ℕ → Pass → ℕ → List Place
codes_to e labels cells pass k = words_to (code_places_by e labels.table) labels.source pass.base cells k

module _ {z : Sizes} {e : Encoder} (f : Few e) {labels : Labelled} {cells : List ℕ} {pass : Pass} (h : HoldsBy z labels cells pass) where
  pub all_values : pass.values ≡ length (values_to labels cells pass pass.lines)
  all_values = h.values

  pub all_words : length (second_pass_by e (pass_in labels cells pass)) ≡ length (values_to labels cells pass pass.lines) + length (codes_to e labels cells pass pass.lines)
  all_words = second_length e (pass_in labels cells pass)

  -- two cells a line, and at most three words
  pub all_few : length (second_pass_by e (pass_in labels cells pass)) ≤ 2 * length cells
  all_few = omega (arith, second_few f (pass_in labels cells pass), puts_length labels.source pass.base cells pass.lines, h.lines.room)

  -- ---- one line
  module _ (k : ℕ) (more : k < pass.lines) where
    pub values_fit : length (values_to labels cells pass k) + length (data_places (put_at labels.source pass.base cells k)) ≤ pass.values
    values_fit =
        omega (
          arith,
          length_more data_places labels.source pass.base cells k,
          words_within data_places labels.source pass.base cells (suc k) pass.lines (omega arith),
          all_values,
        )

    pub codes_fit : pass.values + (length (codes_to e labels cells pass k) + length (code_places_by e labels.table (put_at labels.source pass.base cells k)))
        ≤ length (second_pass_by e (pass_in labels cells pass))
    codes_fit =
        omega (
          arith,
          length_more (code_places_by e labels.table) labels.source pass.base cells k,
          words_within (code_places_by e labels.table) labels.source pass.base cells (suc k) pass.lines (omega arith),
          all_values,
          all_words,
        )

    pub after_low : after_by pass.base (address_at pass.base cells k) (kept_at cells k) < 2 ^ 32
    after_low =
        let b = (bounded h).puts k more in
        rw (after_kept z labels.source pass.base (address_at pass.base cells k) (kept_at cells k) (h.lines.line k more).sized) (omega (arith, b.after))
