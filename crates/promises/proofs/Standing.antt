-- Where the lines of a source stand in it. Assumes nothing.
use Rattle.std.specs.Prelude.{Some, slice_get}
use Prim.Native.Nat.{ℕ, zero, suc, ◌+◌}
use mathlib.Core.Path.{◌≡◌, refl}
use mathlib.Core.Bool.{Bool, true, false}
use mathlib.Core.List.{List, [], ◌∷◌}
use native.Mathlib.Omega.{arith}
use lib.ListN.{length}
use Rattle.rules.specs.Text.{Text, on_first, cut_where}
use Rattle.rules.proofs.Standing.{At, at_start, at_all, at_cons, at_more}
use Rattle.promises.specs.Nearest.{start_after}
use Rattle.promises.proofs.Compared.{clash}

-- the texts of a cut at each byte that passes a test, after the first j
pub texts_at : (f : ℕ → Bool) (s : Text) (j : ℕ) (l : Text) → slice_get (cut_where f s) j ≡ Some l → At l (start_after j (cut_where f s)) s
unfolding cut_where on_first start_after
texts_at f [] zero l e = let u : [] ≡ l = cc in rw (← u) (at_all [])
texts_at f [] (suc j) l e = clash cc
texts_at f (b ∷ s) j l e = go (f b) refl (texts_at f s) j e
  where
    -- after a byte that does not pass
    on : (c : List Text) → ((j : ℕ) (l : Text) → slice_get c j ≡ Some l → At l (start_after j c) s) → (j : ℕ) → slice_get (on_first b c) j ≡ Some l
        → At l (start_after j (on_first b c)) (b ∷ s)
    on [] h zero k = let u : b ∷ [] ≡ l = cc in rw (← u) (at_start (b ∷ []) s)
    on [] h (suc i) k = clash cc
    on (q ∷ qs) h zero k = let u : b ∷ q ≡ l = cc in rw (← u) (at_more b (h zero q refl))
    on (q ∷ qs) h (suc i) k = let v : suc (suc (length q) + start_after i qs) ≡ suc (suc (length q + start_after i qs)) = omega arith in rw v (at_cons b (h (suc i) l k))

    at_cut : (j : ℕ) → slice_get ([] ∷ cut_where f s) j ≡ Some l → ((j : ℕ) (l : Text) → slice_get (cut_where f s) j ≡ Some l → At l (start_after j (cut_where f s)) s)
        → At l (start_after j ([] ∷ cut_where f s)) (b ∷ s)
    at_cut zero k h = let u : [] ≡ l = cc in rw (← u) (at_start [] (b ∷ s))
    at_cut (suc i) k h = let v : suc (0 + start_after i (cut_where f s)) ≡ suc (start_after i (cut_where f s)) = omega arith in rw v (at_cons b (h i l k))

    go : (y : Bool) → f b ≡ y → ((j : ℕ) (l : Text) → slice_get (cut_where f s) j ≡ Some l → At l (start_after j (cut_where f s)) s)
        → (j : ℕ) → slice_get (cut_where f (b ∷ s)) j ≡ Some l → At l (start_after j (cut_where f (b ∷ s))) (b ∷ s)
    go true g h j k = rw (g, cut_where) (at_cut j (rw (g, cut_where) at k) h)
    go false g h j k = rw (g, cut_where) (on (cut_where f s) h j (rw (g, cut_where) at k))
