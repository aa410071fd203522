-- Words are those that are known, and where there are none any will do. Assumes nothing.
use Rattle.std.proofs.Common.{◌≡◌, refl, List, []}
use Rattle.std.specs.Prelude.{Option, None, Some, IfSome}
use Rattle.rules.specs.Text.{Text}
use Rattle.commandline.specs.Words.{words_behind}

pub any : (known : Option (List Text)) (P : List Text → Type 0) → ((ws : List Text) → P ws) → (ws : List Text) × IfSome known (λ k. ws ≡ words_behind k) × P ws
any None P p = ([], tt, p [])
any (Some k) P p = (words_behind k, refl, p (words_behind k))
