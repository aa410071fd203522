-- A text that is put into the rest of a slice, which was lent. Assumes nothing.
use mathlib.Core.Path.{◌≡◌, ◌∙◌}
use mathlib.Core.List.{append-nil}
use Prim.Native.Nat.{ℕ, ◌+◌, ◌-◌, ◌≤◌}
use native.Mathlib.Nat.{le_refl}
use lib.ListN.{length, take, drop, length-drop, drop_of_length-le}
use lib.Seq.{drop-drop, take_all}
use borrow.Rule.Slice.PartMut.{put_mid}
use Rattle.rules.specs.Text.{Text}
use Rattle.rules.specs.Assemble.{over}
use Rattle.text.specs.Spans.{over_from}
use Rattle.listing.specs.declared.writer.Writer.{Writer}
use Rattle.listing.specs.Writer.{Adds}
use Rattle.listing.proofs.Adding.{adds_put}

-- it was lent from n on, and came back as last, with the text at its front
lent_put : (t : Text) (n : ℕ) (old last : Text) → last ≡ over t (take (length old - n) (drop n old)) → put_mid n (length old - n) old last ≡ over_from n t old
unfolding over over_from
lent_put t n old last f =
    let short : length (drop n old) ≤ length old - n = rw (length-drop n old) (le_refl (length old - n)) in
    rw (f, take_all (length old - n) (drop n old) short, drop_of_length-le (drop n old) {i = length old - n} short, append-nil, drop-drop (length t) n old)

pub adds_lent : (t : Text) {w v : Writer} {m : ℕ} {last : Text} → w.len + length t ≤ length w.out.now → m ≡ length t → last ≡ over t (take (length w.out.now - w.len) (drop w.len w.out.now))
    → v.out.ghost_name ≡ w.out.ghost_name → v.len ≡ w.len + m → v.out.now ≡ put_mid w.len (length w.out.now - w.len) w.out.now last → Adds t w v
adds_lent t {w} h e f g k p = adds_put h g (k ∙ rw e) (p ∙ lent_put t w.len w.out.now _ f)
