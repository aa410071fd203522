-- A list's text with room for as many lines as it can have. Assumes nothing.
use Rattle.std.proofs.Common.{◌≡◌, ◌<◌, ◌≤◌, ◌+◌, ◌*◌, ◌/◌, ℕ, zero, suc, Bool, true, false, [], ◌∷◌, length, drop, length-drop, arith, refl, sym, ◌∙◌}
use Rattle.rules.specs.Text.{Text}
use Rattle.listing.specs.Reading.{is_line, read_lines, read_list}
use Rattle.listing.proofs.Lines.{read_line, read_bad, no_line}

same_lines : (room more n : ℕ) (t : Text) → length t < 16 * (room + 1) → room ≤ more → read_lines room n t ≡ read_lines more n t
unfolding read_lines
same_lines room zero n t h k = let z : room ≡ 0 = omega arith in rw z
same_lines zero (suc more) n [] h k = refl
same_lines zero (suc more) n (b ∷ s) h k =
    let e : is_line (b ∷ s) ≡ false = no_line (b ∷ s) (omega arith) in
    read_bad zero n (b ∷ s) (omega arith) e ∙ sym (read_bad (suc more) n (b ∷ s) (omega arith) e)
same_lines (suc room) (suc more) n [] h k = refl
same_lines (suc room) (suc more) n (b ∷ s) h k = go (is_line (b ∷ s)) refl (same_lines room more (suc n) (drop 16 (b ∷ s)) (omega (arith, length-drop 16 (b ∷ s))) (omega arith))
  where
    go : (y : Bool) → is_line (b ∷ s) ≡ y → read_lines room (suc n) (drop 16 (b ∷ s)) ≡ read_lines more (suc n) (drop 16 (b ∷ s))
        → read_lines (suc room) n (b ∷ s) ≡ read_lines (suc more) n (b ∷ s)
    go true e ih = read_line room n (b ∷ s) (omega arith) e ∙ ih ∙ sym (read_line more n (b ∷ s) (omega arith) e)
    go false e ih = read_bad (suc room) n (b ∷ s) (omega arith) e ∙ sym (read_bad (suc more) n (b ∷ s) (omega arith) e)

pub same_list : (room : ℕ) (t : Text) → room ≡ length t / 16 → room ≤ 12288 → read_list room t ≡ read_list 12288 t
same_list room t e h = same_lines room 12288 0 t (omega arith) h
