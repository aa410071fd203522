-- The calls under a branch table, by what loading it answered. Assumes nothing.
use Rattle.std.specs.Prelude.{Some}
use Prim.Native.Nat.{ℕ}
use mathlib.Core.Path.{◌≡◌}
use mathlib.Core.List.{List}
use Rattle.rules.specs.Text.{Text}
use Rattle.rules.specs.Answer.{accepted, refused, and_then}
use Rattle.requests.specs.Explain.{explain_all_by, explain_by}
use Rattle.requests.specs.Branches.{checked, loaded, under, explain_all_under, explain_under}
use Rattle.branches.specs.Branch.{names_in}
use Rattle.explain.specs.Verdict.{explained_of, count_of, written_as}
use Rattle.explain.specs.declared.Verdict.{Verdict}

module _ (t : Text) (base : ℕ) (s : Text) where
  module _ {n p : ℕ} (e : refused n p ≡ checked t) where
    pub line_unloaded : (line : ℕ) → refused n p ≡ explained_of (explain_under t base s line)
    unfolding under loaded and_then
    line_unloaded line = rw (← e)

    pub all_unloaded : refused n p ≡ count_of (explain_all_under t base s)
    unfolding under loaded and_then
    all_unloaded = rw (← e)

    pub all_kept : {V : Type 0} (sign : Verdict → V) (old : List V) → old ≡ written_as sign (explain_all_under t base s) old
    unfolding under loaded and_then
    all_kept sign old = rw (← e)

  module _ {n : ℕ} (e : accepted n ≡ checked t) where
    pub line_loaded : (line : ℕ) → explained_of (explain_by (names_in (Some t)) base s line) ≡ explained_of (explain_under t base s line)
    unfolding under loaded and_then names_in
    line_loaded line = rw (← e)

    pub all_loaded : explain_all_by (names_in (Some t)) base s ≡ explain_all_under t base s
    unfolding under loaded and_then names_in
    all_loaded = rw (← e)
