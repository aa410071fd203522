use Rattle.std.proofs.Common.{◌∙◌, sym, refl, arith}
use Rattle.pages.proofs.Cutting.{more, done, ended}
use Rattle.pages.proofs.reading.cut_at.Goals as goal

pub returns-in_default : goal.returns-in_default
returns-in_default c = done (λ x. x.now) c.args.c c.args.text.now c.loop-k._k c.loop-k.parts.items c.loop-k.rest.now c.loop-k.invariant c.push.new.self.items c.loop-k.rest (sym c.find.ensures.value ∙ c.in_default.is) c.in_ok-push.ensures.items refl

pub loop-k-preserved : goal.loop-k-preserved
loop-k-preserved c = more (λ x. x.now) c.args.c c.args.text.now c.loop-k._k c.loop-k.parts.items c.loop-k.rest.now c.loop-k.invariant c.push-in-loop-k.new.self.items _ c.in-Some.n (sym c.find.ensures.value ∙ c.in-Some.is) c.in_ok-push-2.ensures.items refl

pub returns : goal.returns
returns c = ended (λ x. x.now) c.args.c c.args.text.now c.loop-k._k c.loop-k.parts.items c.loop-k.rest.now c.loop-k.invariant c.push-2.new.self.items c.loop-k.rest (omega arith) c.in_ok-push-3.ensures.items refl
