-- A source that refusals 1 to 3 let pass. Assumes nothing.
use Rattle.std.specs.Prelude.{◌≡◌, ◌≤◌, length, None}
use Rattle.rules.specs.Limits.{max_source, max_lines}
use Rattle.rules.specs.Text.{Text, cut_at}
use Rattle.rules.specs.Assemble.{first_high}

pub record Clear (s : Text) : Type 0 where
  pub short : length s ≤ max_source
  pub ascii : first_high 0 s ≡ None
  pub few : length (cut_at 10 s) ≤ max_lines
