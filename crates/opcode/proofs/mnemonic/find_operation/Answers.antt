-- `find_operation` meets its contract: each way narrows the search to the names that its tests leave. Assumes nothing.
use Rattle.std.proofs.Common.{arith}
use Rattle.opcode.specs.Operation.{of_length, other_three}
use Rattle.opcode.proofs.Mnemonics.{by_length, other_three_lem, among}
use Rattle.opcode.proofs.mnemonic.find_operation.Goals as goal

pub returns-in-3-2 : goal.returns-in-3-2
returns-in-3-2 c = among _ other_three (other_three_lem _ c.in-3.is c.upper_case.ensures c.if-upper_case-eq66.false) c.find_three.ensures

pub returns-in-4 : goal.returns-in-4
returns-in-4 c = among _ (of_length 4) (by_length _ 4 (omega arith)) c.find_four.ensures

pub returns-in-5 : goal.returns-in-5
returns-in-5 c = among _ (of_length 5) (by_length _ 5 (omega arith)) c.find_five.ensures

pub returns-in-7 : goal.returns-in-7
returns-in-7 c = among _ (of_length 7) (by_length _ 7 (omega arith)) c.find_seven.ensures
