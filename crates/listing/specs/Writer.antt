-- What stands in a lent slice, of which a writer has filled the front. Assumes nothing.
use Rattle.std.specs.Prelude.{ℕ, ◌+◌, ◌≤◌, ◌≡◌, List, length}
use Rattle.std.specs.Borrow.{MutBor}
use Rattle.rules.specs.Text.{Text}
use Rattle.text.specs.Spans.{over_from}
use Rattle.listing.specs.declared.writer.Writer.{Writer}

-- a writer that has written nothing into the slice x
pub record Begins (x : MutBor (List ℕ)) (w : Writer) : Type 0 where
  pub same_reference : w.out.ghost_name ≡ x.ghost_name
  pub len : w.len ≡ 0
  pub now : w.out.now ≡ x.now

-- v is what the writer w becomes when it writes t: nothing else of the slice changes
pub record Adds (t : Text) (w v : Writer) : Type 0 where
  pub same_reference : v.out.ghost_name ≡ w.out.ghost_name
  pub len : v.len ≡ w.len + length t
  pub room : length v.out.now ≡ length w.out.now
  pub within : v.len ≤ length v.out.now
  pub after : v.out.now ≡ over_from w.len t w.out.now
