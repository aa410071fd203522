-- A value tried in a list that is lent: a refusal is that of the list as it was, and leaves it. Assumes nothing.
use Prim.Native.Nat.{ℕ}
use mathlib.Core.Path.{◌≡◌}
use mathlib.Core.List.{List}
use Rattle.rules.specs.Answer.{accepted, refused}
use Rattle.listing.specs.Listing.{refused_text}
use Rattle.machine.specs.Bench.{short_list, bench_answer, bench_of}
use Rattle.stepper.proofs.Checks.{stops}
use Rattle.benchtext.specs.BenchText.{tried_text, run_line, with_value, words_tried}
use Rattle.benchtext.proofs.Rows.{value_long}

module _ (n p v : ℕ) (xs ws : List ℕ) where
  pub words_put : (m : ℕ) → accepted m ≡ bench_answer n xs ws n → {ys : List ℕ} → ys ≡ with_value n p v xs ws → ys ≡ words_tried n p v xs ws
  unfolding words_tried
  words_put m e f = rw (← e) f

  module _ (k q : ℕ) (e : refused k q ≡ bench_answer n xs ws n) where
    pub words_stay : ws ≡ words_tried n p v xs ws
    unfolding words_tried
    words_stay = rw (← e)

    same_refusal : refused k q ≡ bench_answer n xs (with_value n p v xs ws) n
    unfolding bench_answer short_list
    same_refusal = rw (value_long n p v xs ws) e

    pub line_refused : (a : List ℕ) (pc limit : ℕ) → refused_text k q ≡ tried_text v (bench_of n xs (with_value n p v xs ws) a pc limit)
    unfolding run_line
    line_refused a pc limit = rw (stops n xs (with_value n p v xs ws) a pc limit k q same_refusal)
