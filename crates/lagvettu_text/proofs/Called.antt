-- What reading a list or a sheet answers, as C gets it. Assumes nothing.
use Prim.Native.Nat.{ℕ, ◌≤◌, min}
use mathlib.Core.Path.{◌≡◌, refl, sym, ap, ◌∙◌}
use mathlib.Core.List.{List}
use native.Mathlib.Omega.{arith}
use lib.ListN.{length, take}
use lib.Seq.{length-take-le}
use Rattle.rules.specs.Text.{Text}
use Rattle.rules.specs.Assemble.{Slices, holding, over}
use Rattle.std.specs.Prelude.{Result, Ok, Err}
use Rattle.listing.specs.Reading.{read_list, places_in, room_in}
use Rattle.listing.specs.declared.reading.BadLine.{BadLine}
use Rattle.requests.specs.Sheet.{numbers_in}
use Rattle.station.proofs.Kept.{take_lesser}
use Rattle.sheet.specs.Totals.{said}
use Rattle.sheet.specs.declared.Totals.{Totals}
use Rattle.sheettext.specs.Back.{is_sheet, wrong, sheet_in, read_of}
use Rattle.lagvettu_text.specs.Called.{ReadsList, ReadsSheet}

module _ {t : Text} {x y : Slices} where
  pub reads_list : (n : ℕ) → Ok n ≡ read_list (room_in x) t → y ≡ holding (places_in n t) x → ReadsList t x y 0 n
  reads_list n e f = record { answer = rw (← e); number = rw (← e); after = rw (← e) f }

  pub reads_no_list : (b : BadLine) → Err b ≡ read_list (room_in x) t → y ≡ x → ReadsList t x y 1 b.number
  unfolding holding over
  reads_no_list b e f = record { answer = rw (← e); number = rw (← e); after = rw (← e) f }

-- ---- a sheet, by the first 32,768 bytes of a text
module _ (t : Text) {n : ℕ} (e : n ≡ min (length t) 32768) where
  pub front_long : n ≡ length (take n t)
  front_long = sym (length-take-le n t (omega arith))

  pub front_short : length (take n t) ≤ 32768
  front_short = rw (length-take-le n t (omega arith)) (omega arith)

  module _ (r : Result Totals BadLine) (f : read_of r ≡ sheet_in (take n t)) (ns : List ℕ) where
    is : sheet_in (take 32768 t) ≡ read_of r
    is = ap sheet_in (sym (take_lesser n 32768 t e)) ∙ sym f

    pub reads_sheet : (u : Totals) → r ≡ Ok u → {ms : List ℕ} → ms ≡ numbers_in (said u) → ReadsSheet (sheet_in (take 32768 t)) ns 0 0 ms
    reads_sheet u g {ms} h =
        let i : sheet_in (take 32768 t) ≡ is_sheet (said u) = is ∙ ap read_of g in
        rw i (refl, refl, h)

    pub reads_none : (b : BadLine) → r ≡ Err b → ReadsSheet (sheet_in (take 32768 t)) ns 1 b.number ns
    reads_none b g =
        let i : sheet_in (take 32768 t) ≡ wrong b.number = is ∙ ap read_of g in
        rw i (refl, refl, refl)
