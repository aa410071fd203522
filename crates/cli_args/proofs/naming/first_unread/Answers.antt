-- The first of the names that are read.
use Rattle.std.proofs.Common.{map}
use Rattle.std.specs.Prelude.{option_map}
use Rattle.cli_args.specs.Asked.{is_broken, option_list}
use Rattle.cli_args.proofs.Gathered.{in_first}
use Rattle.cli_args.proofs.naming.first_unread.Goals as goal

pub returns-in-Some : goal.returns-in-Some
returns-in-Some c =
    in_first is_broken (option_list (option_map (λ s. s.now) c.args.branches)) (map (λ s. s.now) c.args.sheets.now) (map (λ s. s.now) c.args.files.now) _
    c.in-Some.ensures
