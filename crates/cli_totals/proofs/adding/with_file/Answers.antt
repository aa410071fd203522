-- By the kind of the file.
use Rattle.cli_totals.proofs.adding.with_file.Goals as goal

pub returns-in-Sheet : goal.returns-in-Sheet
returns-in-Sheet c = λ b i. rw c.in-Sheet.is (c.with_sheet.ensures b i)

pub returns-in-Script : goal.returns-in-Script
returns-in-Script c = λ b i. rw c.in-Script.is (c.with_script.ensures b i)
