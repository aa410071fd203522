-- The number in an answer is that of the first wrong line. Assumes nothing.
use Prim.Native.Nat.{ℕ, zero, suc, ◌+◌, ◌*◌, ◌<◌}
use mathlib.Core.Path.{◌≡◌, refl, sym, ap, ◌∙◌}
use mathlib.Core.Logic.{◌⊎◌, inl, inr, ⊎_elim}
use mathlib.Core.Bool.{Bool, true, false, false≢true}
use mathlib.Core.List.{[], ◌∷◌, ◌++◌, append_assoc, flat_map}
use native.Mathlib.Omega.{arith}
use lib.ListN.{length, drop, length-drop}
use lib.Seq.{drop-drop}
use Rattle.std.specs.Prelude.{Result, Ok, Err}
use Rattle.rules.specs.Text.{Text}
use Rattle.listing.specs.declared.reading.BadLine.{BadLine}
use Rattle.rules.specs.Assemble.{Place}
use Rattle.listing.specs.Listing.{place_text, list_text}
use Rattle.listing.specs.Reading.{bad, is_line, read_lines, places_in}
use Rattle.listing.specs.RoundTrip.{Printable, AllPrintable, BadIsFirstWrong}
use Rattle.listing.proofs.RoundTrip.{line_there, line_split, printable}

-- m lines were read before, and k more
record Stopped (room m n : ℕ) (t : Text) : Type 0 where
  k : ℕ
  number : n ≡ suc (m + k)
  text : list_text (places_in k t) ++ drop (16 * k) t ≡ t
  fit : AllPrintable (places_in k t)
  there : 16 * k < length t
  why : (k ≡ room) ⊎ ((p : Place) (s : Text) → Printable p → drop (16 * k) t ≡ place_text p ++ s → ⊥)

number_in : ℕ → Result ℕ BadLine → ℕ
number_in k (Ok n) = k
number_in k (Err e) = e.number

stopped_here : (room m n : ℕ) (t : Text) → bad (suc m) ≡ bad n → 0 < length t → (0 ≡ room) ⊎ (is_line t ≡ false) → Stopped room m n t
unfolding places_in list_text flat_map AllPrintable number_in
stopped_here room m n t e h w =
    let q : suc m ≡ n = ap (number_in 0) e in
    record {
      k = 0;
      number = omega arith;
      text = refl;
      fit = tt;
      there = h;
      why = ⊎_elim (λ z. inl z) (λ f. inr (λ p s g u. false≢true (sym f ∙ ap is_line u ∙ line_there p s g))) w;
    }

stopped_later : (room m n : ℕ) (t : Text) → is_line t ≡ true → Stopped room (suc m) n (drop 16 t) → Stopped (suc room) m n t
unfolding places_in list_text flat_map AllPrintable
stopped_later room m n t e r =
    let next : 16 * suc r.k ≡ 16 + 16 * r.k = omega arith in
    let behind : drop (16 * r.k) (drop 16 t) ≡ drop (16 * suc r.k) t = drop-drop (16 * r.k) 16 t ∙ ap (λ (i : ℕ). drop i t) (sym next) in
    record {
      k = suc r.k;
      number = omega (arith, r.number);
      text = rw (← behind, append_assoc, r.text) (line_split t e);
      fit = (printable t, r.fit);
      there = omega (arith, r.there, length-drop 16 t);
      why = ⊎_elim (λ z. inl (ap suc z)) (λ f. inr (λ p s g u. f p s g (behind ∙ u))) r.why;
    }

stopped : (room m n : ℕ) (t : Text) → read_lines room m t ≡ bad n → Stopped room m n t
unfolding read_lines
stopped zero m n [] e = let z : ◌≡◌ {A = ℕ} 0 1 = cc in absurd (omega arith)
stopped zero m n (b ∷ s) e = stopped_here zero m n (b ∷ s) e (omega arith) (inl refl)
stopped (suc room) m n [] e = let z : ◌≡◌ {A = ℕ} 0 1 = cc in absurd (omega arith)
stopped (suc room) m n (b ∷ s) e = go (is_line (b ∷ s)) refl (λ q. stopped room (suc m) n (drop 16 (b ∷ s)) q)
  where
    go : (y : Bool) → is_line (b ∷ s) ≡ y → (read_lines room (suc m) (drop 16 (b ∷ s)) ≡ bad n → Stopped room (suc m) n (drop 16 (b ∷ s))) → Stopped (suc room) m n (b ∷ s)
    go true q ih = stopped_later room m n (b ∷ s) q (ih (rw (q, read_lines) at e))
    go false q ih = stopped_here (suc room) m n (b ∷ s) (rw (q, read_lines) at e) (omega arith) (inr q)

pub bad_is_first_wrong : BadIsFirstWrong
unfolding BadIsFirstWrong
bad_is_first_wrong t room n e =
    let r = stopped room 0 n t e in
    record { before = r.k; number = omega (arith, r.number); text = r.text; fit = r.fit; there = r.there; why = r.why }
