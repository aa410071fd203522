-- Laws of a line's text, from what is told of the line: its first colon, and that it has DC. or DS. only if the line has. Assumes nothing.
use Rattle.std.specs.Prelude.{None, Some}
use mathlib.Core.Path.{◌≡◌, refl, ap, ◌∙◌}
use mathlib.Core.Bool.{Bool, true, false, ◌||◌, false≢true}
use mathlib.Core.List.{[], ◌∷◌}
use Prim.Native.Nat.{ℕ, zero, suc, ◌-◌, ◌≤◌, ◌<◌}
use native.Mathlib.Omega.{arith}
use lib.Dec.{eqb}
use lib.ListN.{length, take}
use Rattle.rules.specs.Text.{Text, bytes}
use Rattle.rules.specs.Line.{is_data}
use Rattle.text.specs.Find.{index_of}
use Rattle.text.specs.Pieces.{until}
use Rattle.text.specs.Spans.{part}
use Rattle.text.proofs.Compare.{eqb_sym}
use Rattle.text.proofs.Until.{until_here, until_later}
use Rattle.text.proofs.Find.{index_here, index_later}
use Rattle.text.proofs.Spans.{part_part, contains_part}

-- ---- a byte's index in the front of a text, by the bytes before it
pub index_front : (c n : ℕ) (t : Text) → until (eqb c) t < n → n ≤ length t → index_of c (take n t) ≡ Some (until (eqb c) t)
index_front c zero t h l = absurd (omega arith)
index_front c (suc n) [] h l = absurd (omega arith)
index_front c (suc n) (b ∷ s) h l = go (eqb c b) refl (index_front c n s)
  where
    go : (y : Bool) → eqb c b ≡ y → (until (eqb c) s < n → n ≤ length s → index_of c (take n s) ≡ Some (until (eqb c) s)) → index_of c (b ∷ take n s) ≡ Some (until (eqb c) (b ∷ s))
    go true e ih = rw (index_here c b (take n s) (eqb_sym b c ∙ e), until_here (eqb c) b s e)
    go false e ih =
        rw (index_later c b (take n s) (eqb_sym b c ∙ e), until_later (eqb c) b s e, ih (omega (arith, until_later (eqb c) b s e)) (omega arith)) (ap Some (omega arith))

pub index_past : (c n : ℕ) (t : Text) → n ≤ until (eqb c) t → index_of c (take n t) ≡ None
unfolding index_of
index_past c zero t h = refl
index_past c (suc n) [] h = refl
index_past c (suc n) (b ∷ s) h = go (eqb c b) refl (index_past c n s)
  where
    go : (y : Bool) → eqb c b ≡ y → (n ≤ until (eqb c) s → index_of c (take n s) ≡ None) → index_of c (b ∷ take n s) ≡ None
    go true e ih = absurd (omega (arith, until_here (eqb c) b s e))
    go false e ih = rw (index_later c b (take n s) (eqb_sym b c ∙ e), ih (omega (arith, until_later (eqb c) b s e)))

-- ---- DC. or DS. in a part inside another
either : (x y u v : Bool) → (x ≡ true → u ≡ true) → (y ≡ true → v ≡ true) → (x || y) ≡ true → (u || v) ≡ true
either x y true v c s h = refl
either true y false v c s h = absurd (false≢true (c refl))
either false y false v c s h = s h

data_whole : (t : Text) (a e : ℕ) → is_data (part t a e) ≡ true → is_data t ≡ true
unfolding is_data
data_whole t a e h = either _ _ _ _ (contains_part (bytes "DC.") t a e) (contains_part (bytes "DS.") t a e) h

pub data_part : (t : Text) (a e b f : ℕ) → a ≤ b → f ≤ e → is_data (part t b f) ≡ true → is_data (part t a e) ≡ true
data_part t a e b f h l d = data_whole (part t a e) (b - a) (f - a) (rw (part_part t a e b f h l) d)
