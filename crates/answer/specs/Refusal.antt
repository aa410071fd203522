-- A refusal's number and place, and a call's answer as the rules say it. Assumes nothing.
use Rattle.std.specs.Prelude.{ℕ, Result, Ok, Err}
use Rattle.rules.specs.Answer.{Answer, accepted, refused}
use Rattle.answer.specs.declared.Refusal.{Refusal}
use Rattle.answer.specs.declared.Refusal.TheVariants.{LongSource, HighByte, ManyLines, HighBase, HighAddress, ManyLabels, ShortSlice, FarDistance, ShortList, BadMark, OutsideAddress, NoLabelNear, NoSuchLine, NoEncoding, OutOfReach, BadCommand, BadBranchName, LongCopy, Misplaced, ManySources, HighTotal}

abbrev pub number_of : Refusal → ℕ
number_of (LongSource p) = 1
number_of (HighByte p) = 2
number_of (ManyLines p) = 3
number_of HighBase = 4
number_of (HighAddress p) = 5
number_of (ManyLabels p) = 6
number_of (ShortSlice p) = 7
number_of FarDistance = 8
number_of (ShortList p) = 9
number_of (BadMark p) = 10
number_of (OutsideAddress p) = 11
number_of NoLabelNear = 12
number_of (NoSuchLine p) = 13
number_of (NoEncoding p) = 14
number_of (OutOfReach p) = 15
number_of (BadCommand p) = 16
number_of (BadBranchName p) = 17
number_of (LongCopy p) = 18
number_of (Misplaced p) = 19
number_of ManySources = 20
number_of HighTotal = 21

abbrev pub place_of : Refusal → ℕ
place_of (LongSource p) = p
place_of (HighByte p) = p
place_of (ManyLines p) = p
place_of HighBase = 0
place_of (HighAddress p) = p
place_of (ManyLabels p) = p
place_of (ShortSlice p) = p
place_of FarDistance = 0
place_of (ShortList p) = p
place_of (BadMark p) = p
place_of (OutsideAddress p) = p
place_of NoLabelNear = 0
place_of (NoSuchLine p) = p
place_of (NoEncoding p) = p
place_of (OutOfReach p) = p
place_of (BadCommand p) = p
place_of (BadBranchName p) = p
place_of (LongCopy p) = p
place_of (Misplaced p) = p
place_of ManySources = 1000000
place_of HighTotal = 0

-- what a call answers, as the rules say it
abbrev pub answer_of : {A : Type 0} → Result A Refusal → Answer A
answer_of (Ok n) = accepted n
answer_of (Err e) = refused (number_of e) (place_of e)
