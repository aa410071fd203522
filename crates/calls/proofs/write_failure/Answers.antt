-- `write_failure` goes by what failed. Assumes nothing.
use Rattle.rules.specs.Text.{bytes}
use Rattle.calls.proofs.write_failure.Goals as goal

pub returns-in-NoDigits : goal.returns-in-NoDigits
unfolding bytes
returns-in-NoDigits c = rw c.in-NoDigits.is c.write_words.ensures

pub returns-in-BadDigit : goal.returns-in-BadDigit
unfolding bytes
returns-in-BadDigit c = rw c.in-BadDigit.is c.write_words-in-BadDigit.ensures

pub returns-in-OutOfRange : goal.returns-in-OutOfRange
unfolding bytes
returns-in-OutOfRange c = rw c.in-OutOfRange.is c.write_words-in-OutOfRange.ensures
