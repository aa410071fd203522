-- Laws of pieces: those of a text that a blank or its end ends, and of pieces joined by spaces. Assumes nothing.
use Prim.Native.Nat.{ℕ}
use mathlib.Core.Path.{◌≡◌, refl, sym, ap, ◌∙◌}
use mathlib.Core.Bool.{true}
use mathlib.Core.List.{List, [], ◌∷◌, ◌++◌}
use Rattle.rules.specs.Text.{Text, blank, on_first, cut_where, drop_empty, pieces, join_more, joined}
use Rattle.promises_rust.proofs.RustText.{Solid, nil, cons, AllSolid, AllFull}

-- a text that begins with a blank, or is empty
pub data Open : Text → Type 0 where
  at_end : Open []
  at_blank : {b : ℕ} {s : Text} → blank b ≡ true → Open (b ∷ s)

-- its first cut is empty
record Parted (y : Text) : Type 0 where
  others : List Text
  cuts : cut_where blank y ≡ [] ∷ others

parted : {y : Text} → Open y → Parted y
unfolding cut_where
parted at_end = record { others = []; cuts = refl }
parted (at_blank {b} {s} e) = record { others = cut_where blank s; cuts = rw (cut_where, e) }

cut_solid : {p : Text} → Solid p → (y : Text) (qs : List Text) → cut_where blank y ≡ [] ∷ qs → cut_where blank (p ++ y) ≡ p ∷ qs
unfolding cut_where on_first
cut_solid nil y qs e = e
cut_solid (cons {b} {s} f r) y qs e = rw (cut_where, f, cut_solid r y qs e)

-- a piece in front
pub pieces_solid : {b : ℕ} {p : Text} → Solid (b ∷ p) → {y : Text} → Open y → pieces ((b ∷ p) ++ y) ≡ (b ∷ p) ∷ pieces y
unfolding pieces drop_empty
pieces_solid {b} {p} r {y} o =
    let k = parted o in
    let rest : pieces y ≡ drop_empty k.others = ap drop_empty k.cuts in
    ap drop_empty (cut_solid r y k.others k.cuts) ∙ ap (λ (qs : List Text). (b ∷ p) ∷ qs) (sym rest)

more_open : (ps : List Text) → Open (join_more ps)
unfolding join_more blank
more_open [] = at_end
more_open (p ∷ ps) = at_blank refl

pieces_more : {ps : List Text} → AllFull ps → AllSolid ps → pieces (join_more ps) ≡ ps
unfolding join_more pieces cut_where drop_empty on_first blank
pieces_more nil nil = refl
pieces_more (cons {b = b} {p = p} {ps = ps} f) (cons r rs) =
    pieces_solid r (more_open ps) ∙ ap (λ (qs : List Text). (b ∷ p) ∷ qs) (pieces_more f rs)

-- pieces joined are the same pieces again
pub pieces_joined : {ps : List Text} → AllFull ps → AllSolid ps → pieces (joined ps) ≡ ps
unfolding joined pieces cut_where drop_empty on_first
pieces_joined nil nil = refl
pieces_joined (cons {b = b} {p = p} {ps = ps} f) (cons r rs) =
    pieces_solid r (more_open ps) ∙ ap (λ (qs : List Text). (b ∷ p) ∷ qs) (pieces_more f rs)
