-- FILE.
use Rattle.std.proofs.Common.{map}
use Rattle.cli_args.specs.Lexed.{givens_of}
use Rattle.cli_args.proofs.Works.{tidy_is}
use Rattle.cli_args.proofs.asking.tidy_args.Goals as goal

pub returns : goal.returns
returns c = tidy_is (givens_of c.args.givens.now) (map (λ s. s.now) c.args.operands.now) c.requires _ c.file_at.ensures
