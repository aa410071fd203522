-- What `bench` prints, byte for byte, where it runs nothing: refusals, and texts that are no lists; and which arguments it takes. What it
-- prints for runs stands in crates/bench/stdout, by Unicorn. Assumes nothing.
use Rattle.std.specs.Prelude.{◌≡◌, Bool, true, false, None, Some}
use mathlib.Core.List.{List, [], ◌∷◌, foldl}
use Rattle.rules.specs.Text.{Text, bytes}
use Rattle.benchtext.specs.Arguments.{no_argument, with_argument, whole}
use Rattle.benchtext.specs.BenchText.{bench_text}

-- `bench 0 9` and `bench -w 2 5 7 0 9`
abbrev once : List Text
once = bytes "0" ∷ bytes "9" ∷ []

abbrev tried : List Text
tried = bytes "-w" ∷ bytes "2" ∷ bytes "5" ∷ bytes "7" ∷ once

abbrev takes : List Text → Bool
takes arguments = elim (whole (foldl with_argument (Some no_argument) arguments)) [ None ↦ false | Some g ↦ true ]

pub record Examples : Type 0 where
  -- "19: a list address that is odd or above 16,382; place the lowest such index"
  pub odd : bench_text once (bytes "00000000 4E71 0\n00000001 4E71 0\n00004000 4E71 0\n") ≡ bytes "refused 19 1\n"
  pub above : bench_text once (bytes "00004000 4E71 0\n") ≡ bytes "refused 19 0\n"
  pub one_line : bench_text tried (bytes "00003FFF 4E71 0\n") ≡ bytes "refused 19 0\n"
  pub no_list : bench_text tried (bytes "00000000 4E71 0\n0000 4E71 0\n") ≡ bytes "not a list: line 2\n"
  pub no_end : bench_text once (bytes "00000000 4E71 0") ≡ bytes "not a list: line 1\n"
  -- arguments
  pub all : takes (bytes "$1000" ∷ bytes "18446744073709551615" ∷ bytes "0x10" ∷ bytes "FFFFFFFF" ∷ bytes "2" ∷ bytes "3" ∷ bytes "4" ∷ bytes "5" ∷ bytes "6" ∷ bytes "7" ∷ []) ≡ true
  pub values : takes tried ≡ true
  pub none : takes [] ≡ false
  pub no_limit : takes (bytes "0" ∷ []) ≡ false
  pub too_long : takes (bytes "0" ∷ bytes "18446744073709551616" ∷ []) ≡ false
  pub hexadecimal_limit : takes (bytes "0" ∷ bytes "A" ∷ []) ≡ false
  pub nine_registers : takes (bytes "0" ∷ bytes "9" ∷ bytes "0" ∷ bytes "1" ∷ bytes "2" ∷ bytes "3" ∷ bytes "4" ∷ bytes "5" ∷ bytes "6" ∷ bytes "7" ∷ bytes "8" ∷ []) ≡ false
  pub downwards : takes (bytes "-w" ∷ bytes "2" ∷ bytes "7" ∷ bytes "5" ∷ once) ≡ false
  pub seventeen_bits : takes (bytes "-w" ∷ bytes "2" ∷ bytes "5" ∷ bytes "65536" ∷ once) ≡ false
  pub no_start : takes (bytes "-w" ∷ bytes "2" ∷ bytes "5" ∷ bytes "7" ∷ bytes "0" ∷ []) ≡ false
  pub late_option : takes (bytes "0" ∷ bytes "9" ∷ bytes "-w" ∷ []) ≡ false
