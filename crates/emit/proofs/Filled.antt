-- The slices with data words from the front and instruction words after them: more of both, and all. Assumes nothing.
use mathlib.Core.Path.{◌≡◌, refl, sym, ap, ◌∙◌}
use mathlib.Core.List.{List, [], ◌++◌}
use Prim.Native.Nat.{ℕ, ◌+◌, ◌≤◌}
use native.Mathlib.Nat.{zero-add}
use lib.ListN.{length}
use Rattle.rules.specs.Assemble.{Place, Slices, holding}
use Rattle.emit.specs.Places.{put_from, Room}
use Rattle.emit.proofs.Slices.{put_append, put_swap, put_holding}

abbrev pub filled : ℕ → List Place → List Place → Slices → Slices
filled v ds cs x = put_from v cs (put_from 0 ds x)

pub filled_none : (v : ℕ) (x : Slices) → x ≡ filled v [] [] x
unfolding put_from
filled_none v x = refl

module _ (x : Slices) where
  -- a line's data words d, then its instruction words c
  pub filled_more : (v : ℕ) (ds d cs c : List Place) → length ds + length d ≤ v
      → put_from (v + length cs) c (put_from (length ds) d (filled v ds cs x)) ≡ filled v (ds ++ d) (cs ++ c) x
  filled_more v ds d cs c h =
      ap (put_from (v + length cs) c) (put_swap d cs (length ds) v (put_from 0 ds x) h ∙ ap (put_from v cs) (sym more))
      ∙ sym (put_append cs c v (put_from 0 (ds ++ d) x))
    where
      more : put_from 0 (ds ++ d) x ≡ put_from (length ds) d (put_from 0 ds x)
      more = rw (zero-add (length ds)) at (put_append ds d 0 x)

  pub filled_all : (v : ℕ) (ds cs : List Place) → v ≡ length ds → Room (length (ds ++ cs)) x → filled v ds cs x ≡ holding (ds ++ cs) x
  filled_all v ds cs e r = rw e (rw (zero-add (length ds)) at (sym (put_append ds cs 0 x)) ∙ put_holding (ds ++ cs) x r)
