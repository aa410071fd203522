-- The words of the first lines, as the cells tell them: one line more, and no more than those of all. Assumes nothing.
use mathlib.Core.Path.{◌≡◌, ap, sym, ◌∙◌}
use mathlib.Core.List.{List, [], ◌∷◌, ◌++◌, flat_map, append-nil, append_assoc}
use Prim.Native.Nat.{ℕ, zero, suc, ◌+◌, ◌-◌, ◌≤◌}
use native.Mathlib.Nat.{zero-add, suc-add, le_refl}
use native.Mathlib.Omega.{arith}
use lib.ListN.{length, length-append}
use Rattle.rules.specs.Text.{Text}
use Rattle.rules.specs.Assemble.{Put, Place}
use Rattle.cells.specs.Puts.{put_at, puts_of}

module _ (g : Put → List Place) where
  flat_last : (ps : List Put) (p : Put) → flat_map g (ps ++ (p ∷ [])) ≡ flat_map g ps ++ g p
  unfolding flat_map
  flat_last [] p = append-nil (g p)
  flat_last (q ∷ ps) p = ap (λ r. g q ++ r) (flat_last ps p) ∙ sym (append_assoc (g q) (flat_map g ps) (g p))

  module _ (source : Text) (base : ℕ) (cells : List ℕ) where
    -- the words of the first k lines
    abbrev pub words_to : ℕ → List Place
    words_to k = flat_map g (puts_of source base cells k)

    pub words_more : (k : ℕ) → words_to (suc k) ≡ words_to k ++ g (put_at source base cells k)
    unfolding puts_of
    words_more k = flat_last (puts_of source base cells k) (put_at source base cells k)

    pub length_more : (k : ℕ) → length (words_to (suc k)) ≡ length (words_to k) + length (g (put_at source base cells k))
    length_more k = ap length (words_more k) ∙ length-append (words_to k) (g (put_at source base cells k))

    within_by : (d k : ℕ) → length (words_to k) ≤ length (words_to (d + k))
    within_by zero k = rw (zero-add k) (le_refl (length (words_to k)))
    within_by (suc d) k = rw (suc-add d k) (omega (arith, within_by d k, length_more (d + k)))

    -- the first lines have no more words than all
    pub words_within : (k n : ℕ) → k ≤ n → length (words_to k) ≤ length (words_to n)
    words_within k n h = let e : (n - k) + k ≡ n = omega arith in rw e at (within_by (n - k) k)
