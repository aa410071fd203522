-- No refusal's number is 0, so its number and place are it. Assumes nothing.
use Rattle.std.proofs.Common.{◌≡◌, refl}
use Rattle.rules.specs.Answer.{refused}
use Rattle.answer.specs.declared.Refusal.{Refusal}
use Rattle.answer.specs.declared.Refusal.TheVariants.{LongSource, HighByte, ManyLines, HighBase, HighAddress, ManyLabels, ShortSlice, FarDistance, ShortList, BadMark, OutsideAddress, NoLabelNear, NoSuchLine, NoEncoding, OutOfReach, BadCommand, BadBranchName, LongCopy, Misplaced, ManySources, HighTotal}
use Rattle.answer.specs.Refusal.{number_of, place_of}
use Rattle.moves.specs.Moves.{answer_from}

pub refused_from : (e : Refusal) → answer_from (number_of e) (place_of e) ≡ refused (number_of e) (place_of e)
refused_from (LongSource p) = refl
refused_from (HighByte p) = refl
refused_from (ManyLines p) = refl
refused_from HighBase = refl
refused_from (HighAddress p) = refl
refused_from (ManyLabels p) = refl
refused_from (ShortSlice p) = refl
refused_from FarDistance = refl
refused_from (ShortList p) = refl
refused_from (BadMark p) = refl
refused_from (OutsideAddress p) = refl
refused_from NoLabelNear = refl
refused_from (NoSuchLine p) = refl
refused_from (NoEncoding p) = refl
refused_from (OutOfReach p) = refl
refused_from (BadCommand p) = refl
refused_from (BadBranchName p) = refl
refused_from (LongCopy p) = refl
refused_from (Misplaced p) = refl
refused_from ManySources = refl
refused_from HighTotal = refl
