-- The words at the front.
use Rattle.std.proofs.Common.{refl, ◌∙◌}
use Rattle.text.proofs.Over.{put_over}
use Rattle.station.proofs.Printed.{printed}
use Rattle.calls.proofs.write_words.Goals as goal

pub returns : goal.returns
returns c = printed _ _ _ _ refl (c.write_bytes.ensures ∙ put_over _ _)
