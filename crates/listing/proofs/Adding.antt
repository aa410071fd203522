-- A text written part after part into a lent slice. Assumes nothing.
use Prim.Native.Nat.{ℕ, ◌+◌, ◌≤◌}
use mathlib.Core.Path.{◌≡◌, refl, sym, ap, ◌∙◌, subst}
use mathlib.Core.List.{List, [], ◌++◌}
use native.Mathlib.Omega.{arith}
use lib.ListN.{length, length-append}
use Rattle.std.specs.Borrow.{MutBor}
use Rattle.rules.specs.Text.{Text}
use Rattle.rules.specs.Assemble.{over}
use Rattle.text.specs.Spans.{over_from}
use Rattle.text.proofs.Over.{put_both, put_nil, put_over, length_put}
use Rattle.listing.specs.declared.writer.Writer.{Writer}
use Rattle.listing.specs.Writer.{Begins, Adds}

-- a call that puts t where the writer stands
pub adds_put : {t : Text} {w v : Writer} → w.len + length t ≤ length w.out.now → v.out.ghost_name ≡ w.out.ghost_name → v.len ≡ w.len + length t
    → v.out.now ≡ over_from w.len t w.out.now → Adds t w v
adds_put {t} {w} {v} h g e f =
    let r : length v.out.now ≡ length w.out.now = ap length f ∙ length_put w.len t w.out.now h in
    record { same_reference = g; len = e; room = r; within = omega arith; after = f }

-- nothing is written
pub adds_none : (w : Writer) → w.len ≤ length w.out.now → Adds [] w w
adds_none w h = record { same_reference = refl; len = omega arith; room = refl; within = h; after = sym (put_nil w.len w.out.now) }

-- the same text, said otherwise
pub adds_as : {s t : Text} {w v : Writer} → Adds s w v → s ≡ t → Adds t w v
adds_as {s} {t} {w} {v} a e = subst (λ (x : Text). Adds x w v) e a

-- a text, and another after it
pub adds_both : {s t : Text} {w v u : Writer} → Adds s w v → Adds t v u → Adds (s ++ t) w u
adds_both {s} {t} {w} {v} {u} a b =
    record {
      same_reference = b.same_reference ∙ a.same_reference;
      len = b.len ∙ rw (length-append s t) (omega (arith, a.len));
      room = b.room ∙ a.room;
      within = b.within;
      after = b.after ∙ ap (over_from v.len t) a.after ∙ sym (put_both w.len v.len s w.out.now a.len (omega (arith, a.len, a.room, a.within)) t);
    }

-- all that is written into a slice: it stands at the front
pub adds_all : {x : MutBor (List ℕ)} {s : Text} {w v : Writer} → Begins x w → Adds s w v → (v.len ≡ length s) × (v.out.now ≡ over s x.now)
adds_all {x} {s} b a =
    (omega (arith, a.len, b.len), a.after ∙ rw (b.len, b.now) (put_over s x.now))
