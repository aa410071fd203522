-- A stop is said of the file that is named, whichever it is. Assumes nothing.
use Rattle.std.proofs.Common.{◌≡◌, refl, Bool, true, false, cond}
use Rattle.std.specs.Prelude.{[]}
use Rattle.rules.specs.Text.{Text}
use Rattle.diagnostic.specs.Said.{stopped_text}
use Rattle.outcome.specs.declared.Stop.{Stop}
use Rattle.serving.specs.Said.{of_table, said_of}

either : (b : Bool) (s : Text) → s ≡ cond b s s
either true s = refl
either false s = refl

pub stop_said : (name : Text) (e : Stop) → stopped_text name e [] ≡ said_of (record { table = name; input = name; output = name }) [] e
stop_said name e = either (of_table e) (stopped_text name e [])
