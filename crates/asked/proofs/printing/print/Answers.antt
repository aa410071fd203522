use Rattle.std.proofs.Common.{rules, ◌≡◌}
use Rattle.diagnostic.specs.Said.{failed_text}
use Rattle.diagnostic.specs.Reason.{reason_of}
use Rattle.outcome.specs.declared.What.TheVariants.{Write}
use Rattle.asked.specs.Said.{Says}
use Rattle.asked.proofs.Telling.{told}
use Rattle.asked.proofs.printing.print.Goals as goal

pub returns-in-Err-clause-said : goal.returns-in-Err-clause-said
returns-in-Err-clause-said g c = told (λ v. v.items) (λ shown. failed_text Write c.args.name.now (reason_of shown)) (λ s. Says (g.E.Write.contents c.args.errors.now) (g.E.Write.contents c.say.new.errors) s) c.failed_by.result (search rules) c.say.ensures
