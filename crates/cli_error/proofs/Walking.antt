-- The walk to a text's k-th line, from line to line. Assumes nothing.
use Rattle.std.proofs.Common.{◌≡◌, ℕ, suc, ◌+◌, ◌-◌, ◌<◌, ◌≤◌, Bool, true, false, eqb, [], ◌∷◌, length, take, drop, refl, ap, ◌∙◌, arith, None, Some}
use lib.ListN.{length-drop, drop_of_length-le}
use lib.Seq.{drop-drop}
use borrow.Author.Tests.{eqb-false}
use Rattle.rules.specs.Text.{Text, cut_at, cut_where, other_texts, nth}
use Rattle.text.specs.Pieces.{until}
use Rattle.text.proofs.Until.{until_le, until_rest, until_later, cut_first, cut_here}

abbrev ends : ℕ → Bool
ends = eqb 10

-- the others of a cut, after a byte at which it is cut
others_after : (t : Text) → 0 < length t → until ends t ≡ 0 → other_texts (cut_where ends t) ≡ cut_where ends (drop 1 t)
unfolding other_texts
others_after [] h e = absurd (omega arith)
others_after (b ∷ t) h e = go (ends b) refl
  where
    go : (y : Bool) → ends b ≡ y → other_texts (cut_where ends (b ∷ t)) ≡ cut_where ends t
    go true p = rw (cut_here ends b t p)
    go false p = absurd (omega (arith, until_later ends b t p))

others_at : (t : Text) → until ends t < length t → other_texts (cut_where ends (drop (until ends t) t)) ≡ cut_where ends (drop (until ends t + 1) t)
others_at t h =
    others_after (drop (until ends t) t) (omega (arith, length-drop (until ends t) t)) (until_rest ends t)
    ∙ ap (cut_where ends) (drop-drop 1 (until ends t) t)

others_none : (t : Text) → length t ≤ until ends t → other_texts (cut_where ends (drop (until ends t) t)) ≡ []
unfolding cut_where other_texts
others_none t h = rw (drop_of_length-le t h)

-- n lines are left after, and `at` is where the next one starts
pub record Walk (s : Text) (k n at : ℕ) : Type 0 where
  pub within : at ≤ length s
  pub far : n ≤ at
  pub same : nth (k - n) (cut_at 10 (drop at s)) ≡ nth k (cut_at 10 s)

pub walk_start : (s : Text) (k : ℕ) → Walk s k 0 0
walk_start s k = let z : k - 0 ≡ k = omega arith in record { within = omega arith; far = omega arith; same = rw z }

module _ {s : Text} {k n at end : ℕ} (w : Walk s k n at) (e : end ≡ at + until (eqb 10) (drop at s)) where
  pub walk_within : end ≤ length s
  walk_within = omega (arith, w.within, until_le ends (drop at s), length-drop at s)

  -- the line's text, and the others
  cut_is : cut_at 10 (drop at s) ≡ take (until ends (drop at s)) (drop at s) ∷ other_texts (cut_where ends (drop (until ends (drop at s)) (drop at s)))
  unfolding cut_at
  cut_is = cut_first ends (drop at s)

  nth_next : (m : ℕ) → k - n ≡ suc m → nth m (other_texts (cut_where ends (drop (until ends (drop at s)) (drop at s)))) ≡ nth k (cut_at 10 s)
  unfolding nth
  nth_next m f = rw (f, cut_is, nth) at w.same

  pub walk_more : n < k → eqb end (length s) ≡ false → Walk s k (n + 1) (end + 1)
  unfolding cut_at
  walk_more h d =
      let apart = eqb-false end (length s) d in
      let q : until ends (drop at s) < length (drop at s) = omega (arith, e, walk_within, length-drop at s) in
      let f : k - n ≡ suc (k - (n + 1)) = omega arith in
      let g : at + (until ends (drop at s) + 1) ≡ end + 1 = omega (arith, e) in
      record {
        within = omega (arith, walk_within);
        far = omega (arith, w.far, e);
        same = rw (others_at (drop at s) q, drop-drop (until ends (drop at s) + 1) at s, g) at (nth_next (k - (n + 1)) f);
      }

  pub walk_none : n < k → end ≡ length s → None ≡ nth k (cut_at 10 s)
  unfolding nth
  walk_none h z =
      let f : k - n ≡ suc (k - n - 1) = omega arith in
      rw (others_none (drop at s) (omega (arith, z, length-drop at s)), nth) at (nth_next (k - n - 1) f)

  pub walk_found : k ≤ n → Some (take (end - at) (drop at s)) ≡ nth k (cut_at 10 s)
  unfolding nth
  walk_found h =
      let z : k - n ≡ 0 = omega arith in
      let r : end - at ≡ until ends (drop at s) = omega (arith, e) in
      rw r (rw (z, cut_is, nth) at w.same)
