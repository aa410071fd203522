-- A text that starts d bytes later says the same, its labels d bytes later. Assumes nothing.
use mathlib.Core.Path.{◌≡◌, refl, sym, ap, ◌∙◌}
use mathlib.Core.Bool.{Bool, true, false, cond}
use mathlib.Core.List.{List, [], ◌∷◌, map, ◌++◌, map-append}
use Prim.Native.Nat.{ℕ, ◌+◌}
use native.Mathlib.Omega.{arith}
use lib.ListN.{length}
use Rattle.rules.specs.Text.{Text, leading, trim, pieces, joined, Cut, uncut, around, first_cut}
use Rattle.rules.specs.Line.{Name, name, line, data_task, is_directive, data_pieces, nonempty, is_data, data_line, rest_line, after_label, label_line}
use Rattle.line.specs.Line.{name_from, from}
use Rattle.line.proofs.Clauses.{data_pieces_lem, data_colon, rest_data, rest_instruction, label_none, label_some}

module _ (d : ℕ) where
  abbrev later : List Name → List Name
  later ns = map (name_from d) ns

  nonempty_later : (i : ℕ) (t : Text) → later (nonempty i t) ≡ nonempty (d + i) t
  unfolding nonempty
  nonempty_later i [] = refl
  nonempty_later i (b ∷ t) = refl

  pieces_later : (ns : List Name) (i : ℕ) (t : Text) (ps : List Text) → from d (data_pieces ns i t ps) ≡ data_pieces (later ns) (d + i) t ps
  unfolding data_pieces
  pieces_later ns i t [] = refl
  pieces_later ns i t (p ∷ []) = refl
  pieces_later ns i t (p ∷ q ∷ ps) = go (is_directive p)
    where
      go : (y : Bool) → from d (cond y (line ns (data_task t t)) (line (ns ++ (name i p ∷ [])) (data_task t (joined (q ∷ ps)))))
          ≡ cond y (line (later ns) (data_task t t)) (line (later ns ++ (name (d + i) p ∷ [])) (data_task t (joined (q ∷ ps))))
      go true = refl
      go false = rw (map-append (name_from d) ns (name i p ∷ []))

  data_later : (ns : List Name) (i : ℕ) (t : Text) → from d (data_line ns i t) ≡ data_line (later ns) (d + i) t
  data_later ns i t = go (first_cut 58 t) refl
    where
      go : (c : Cut) → first_cut 58 t ≡ c → from d (data_line ns i t) ≡ data_line (later ns) (d + i) t
      go uncut e = ap (from d) (data_pieces_lem ns i t e) ∙ pieces_later ns i t (pieces t) ∙ sym (data_pieces_lem (later ns) (d + i) t e)
      go (around l r) e =
          ap (from d) (data_colon ns i t e) ∙ rw (map-append (name_from d) ns (nonempty i (trim l)), nonempty_later i (trim l)) (sym (data_colon (later ns) (d + i) t e))

  rest_later : (ns : List Name) (i : ℕ) (t : Text) → from d (rest_line ns i t) ≡ rest_line (later ns) (d + i) t
  rest_later ns i t = go (is_data t) refl
    where
      go : (y : Bool) → is_data t ≡ y → from d (rest_line ns i t) ≡ rest_line (later ns) (d + i) t
      go true e = ap (from d) (rest_data ns i t e) ∙ data_later ns i t ∙ sym (rest_data (later ns) (d + i) t e)
      go false e = ap (from d) (rest_instruction ns i t e) ∙ sym (rest_instruction (later ns) (d + i) t e)

  after_later : (n : Name) (i : ℕ) (t : Text) → from d (after_label n i t) ≡ after_label (name_from d n) (d + i) t
  unfolding after_label
  after_later n i [] = refl
  after_later n i (b ∷ t) = rest_later (n ∷ []) i (b ∷ t)

  pub label_later : (i : ℕ) (t : Text) → from d (label_line i t) ≡ label_line (d + i) t
  label_later i t = go (first_cut 58 t) refl
    where
      go : (c : Cut) → first_cut 58 t ≡ c → from d (label_line i t) ≡ label_line (d + i) t
      go uncut e = ap (from d) (label_none i t e) ∙ rest_later [] i t ∙ sym (label_none (d + i) t e)
      go (around l r) e =
          let m : d + (i + length l + 1 + leading r) ≡ d + i + length l + 1 + leading r = omega arith in
          ap (from d) (label_some i t e) ∙ after_later (name i (trim l)) (i + length l + 1 + leading r) (trim r) ∙ rw m (sym (label_some (d + i) t e))
