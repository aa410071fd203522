-- `code_in` answers by the kind. Assumes nothing.
use borrow.Author.Tests.{eq-eqb, ne_eqb}
use Rattle.emit.specs.Codes.{code_in}
use Rattle.emit.proofs.codes.code_in.Goals as goal

pub returns-then-kind-eq1 : goal.returns-then-kind-eq1
unfolding code_in
returns-then-kind-eq1 c = rw (code_in, eq-eqb _ _ c.if-kind-eq1.true)

pub returns-then-kind-eq2 : goal.returns-then-kind-eq2
unfolding code_in
returns-then-kind-eq2 c = rw (code_in, ne_eqb _ _ c.if-kind-eq1.false, eq-eqb _ _ c.if-kind-eq2.true)

pub returns-then-kind-eq3 : goal.returns-then-kind-eq3
unfolding code_in
returns-then-kind-eq3 c = rw (code_in, ne_eqb _ _ c.if-kind-eq1.false, ne_eqb _ _ c.if-kind-eq2.false, eq-eqb _ _ c.if-kind-eq3.true)

pub returns-then-kind-eq7 : goal.returns-then-kind-eq7
unfolding code_in
returns-then-kind-eq7 c = rw (code_in, ne_eqb _ _ c.if-kind-eq1.false, ne_eqb _ _ c.if-kind-eq2.false, ne_eqb _ _ c.if-kind-eq3.false, eq-eqb _ _ c.if-kind-eq7.true)

pub returns : goal.returns
unfolding code_in
returns c = rw (code_in, ne_eqb _ _ c.if-kind-eq1.false, ne_eqb _ _ c.if-kind-eq2.false, ne_eqb _ _ c.if-kind-eq3.false, ne_eqb _ _ c.if-kind-eq7.false)
