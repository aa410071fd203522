-- The sheets, and FILE.
use Rattle.std.proofs.Common.{map}
use Rattle.cli_args.specs.Lexed.{givens_of}
use Rattle.cli_args.proofs.Works.{sheet_is}
use Rattle.cli_args.proofs.asking.sheet_args.Goals as goal

pub returns : goal.returns
returns c =
    sheet_is (givens_of c.args.givens.now) (map (λ s. s.now) c.args.operands.now) c.requires.operands _ _ _ c.has_json.ensures c.requires.sheets c.file_at.ensures
