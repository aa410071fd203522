-- Lines that ask for a sum, and the Rust, which reads none: where the sum has a value the line reads as the line with that number in the
-- sum's place; where it has none the Rust reads the line as it is read here. Assumes nothing.
use Rattle.std.specs.Prelude.{ℕ, zero, suc, ◌≡◌, Bool, true, false, cond, List, [], ◌∷◌, ◌++◌, map, Some}
use Rattle.rules.specs.Text.{Text, bytes}
use Rattle.rules.specs.Number.{Failure, read, failed}
use Rattle.rules.specs.Line.{line_of}
use Rattle.rules.specs.Answer.{accepted}
use Rattle.rules.specs.Assemble.{Place, assemble}
use Rattle.promises.specs.Stages.{RefusesExactly}
use Rattle.promises.specs.Sums.{MeansSum}
use Rattle.promises_rust.specs.RustStr.{at, all, is_whitespace, split, split_whitespace, splitn_2, starts_with, contains, is_ascii_digit, digits}
use Rattle.promises_rust.specs.RustAssembler.{State, body}
use Rattle.promises_rust.specs.RustAssembler as Rust
use Rattle.promises_rust.specs.RustLists.{names_data, line_value, asks_for_a_sum, perform, WithinLimits, RustCondition, at_zero, without_mark}

-- ---- a line with another value
-- what is left of a text from its first blank on
unfoldable pub from_blank : Text → Text
from_blank [] = []
from_blank (c ∷ s) = elim (is_whitespace c) [ true ↦ c ∷ s | false ↦ from_blank s ]

-- the text with n in the place of its k-th piece, from 0, and all else as it is; read from inside a piece that stays, or from between pieces
unfoldable pub put_piece : Bool → ℕ → Text → Text → Text
put_piece inside k n [] = []
put_piece inside k n (c ∷ s) =
    elim (is_whitespace c) [
      | true ↦ c ∷ put_piece false k n s
      | false ↦ elim inside [
        | true ↦ c ∷ put_piece true k n s
        | false ↦ elim k [ zero ↦ n ++ from_blank s | suc j ↦ c ∷ put_piece true j n s ]
      ]
    ]

-- a text of data with n in its value's place: the second piece after the colon; without a colon the second, or the third after a label
unfoldable pub put_data_value : Text → Text → Text
put_data_value n s =
    let parts = splitn_2 58 s in
    cond (contains s (bytes ":")) (at parts 0 ++ (bytes ":" ++ put_piece false 1 n (at parts 1)))
    (put_piece false (cond (names_data (at (split_whitespace s) 0)) 1 2) n s)

-- a line with n in its value's place
unfoldable pub put_value : Text → Text → Text
put_value n l =
    let parts = splitn_2 58 l in
    cond (contains l (bytes ":")) (at parts 0 ++ (bytes ":" ++ put_data_value n (at parts 1))) (put_data_value n l)

-- ---- a line whose sum is worth v reads, in its labels, its task and its size, as the line with any decimal digits worth v in the sum's
-- place; that line's value is those digits, and the Rust's loop does with it what is read in the line with the sum
pub record SameAsItsNumber (l n : Text) : Type 0 where
  pub value : line_value (put_value n l) ≡ Some n
  pub reads : line_of l ≡ line_of (put_value n l)
  pub loop : (s : State) → body (put_value n l) s ≡ perform (line_of l) s

unfoldable pub SumsReadAsTheirNumbers : Type 0
SumsReadAsTheirNumbers =
    (l t n : Text) (v : ℕ) → line_value l ≡ Some t → starts_with t (bytes "[") ≡ true → MeansSum t (read v) → all is_ascii_digit n ≡ true
    → digits 10 n ≡ Some v → SameAsItsNumber l n

-- a line whose sum has no value stays in the comparison as it is: the same labels, the same size, no value
unfoldable pub FailedSumsAreTheRusts : Type 0
FailedSumsAreTheRusts =
    (l t : Text) (x : Failure) → line_value l ≡ Some t → starts_with t (bytes "[") ≡ true → MeansSum t (failed x) → (s : State)
    → body l s ≡ perform (line_of l) s

-- ---- whole sources with sums
-- a line, and what the Rust is given for it: the line itself where it asks for no sum, or for one that has no value; else the line with
-- decimal digits in the sum's place, worth what the sum is worth
pub data Given : Text → Text → Type 0 where
  without_sum : {l : Text} → asks_for_a_sum l ≡ false → Given l l
  sum_fails : {l t : Text} {x : Failure} → line_value l ≡ Some t → starts_with t (bytes "[") ≡ true → MeansSum t (failed x) → Given l l
  sum_worth :
      {l m t : Text} {v : ℕ} → line_value l ≡ Some t → starts_with t (bytes "[") ≡ true → MeansSum t (read v) → (n : Text)
      → all is_ascii_digit n ≡ true → digits 10 n ≡ Some v → m ≡ put_value n l → Given l m

pub data AllGiven : List Text → List Text → Type 0 where
  no_line : AllGiven [] []
  a_line : {l m : Text} {ls ms : List Text} → Given l m → AllGiven ls ms → AllGiven (l ∷ ls) (m ∷ ms)

-- a source against what the Rust makes of the lines ls: the list, which sources are accepted, and the refusals
pub record ComparedWith (s : Text) (ls : List Text) : Type 0 where
  pub list : (l : List Place) → assemble 0 s ≡ accepted l → map without_mark l ≡ Rust.assemble ls
  pub within : WithinLimits s ls → (l : List Place) × (assemble 0 s ≡ accepted l)
  pub no_other : (l : List Place) → assemble 0 s ≡ accepted l → WithinLimits s ls
  pub refuses : RefusesExactly at_zero (RustCondition s ls) (assemble 0 s)

-- every source stays in the comparison, with each sum's number in the sum's place
unfoldable pub SourcesWithSumsAreTheRusts : Type 0
SourcesWithSumsAreTheRusts = (s : Text) (ls : List Text) → AllGiven (split 10 s) ls → ComparedWith s ls

-- and for every source there are such lines
unfoldable pub EverySourceIsGiven : Type 0
EverySourceIsGiven = (s : Text) → (ls : List Text) × AllGiven (split 10 s) ls
