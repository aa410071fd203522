-- `spaces` makes as many spaces as it is asked for.
use Rattle.std.proofs.Common.{◌∙◌, [], ◌∷◌, ◌++◌, ap}
use Rattle.cli_args.specs.Help.{spaces}
use Rattle.cli_args.proofs.Lines.{one_space_more}
use Rattle.cli_args.proofs.help.spaces.Goals as goal

pub loop-k-init : goal.loop-k-init
unfolding spaces
loop-k-init c = c.new-text.ensures.bytes

pub loop-k-preserved : goal.loop-k-preserved
loop-k-preserved c = c.in_ok-push_str.ensures.bytes ∙ ap (λ t. t ++ 32 ∷ []) c.loop-k.invariant ∙ one_space_more c.loop-k.k
