-- An answer of the rules as what a call makes: a text, or a refusal of a file. Assumes nothing.
use Rattle.std.specs.Prelude.{ℕ, ◌||◌, cond, eqb, [], take, Option, None, Some}
use Rattle.rules.specs.Text.{Text}
use Rattle.rules.specs.Answer.{Answer, accepted, refused}
use Rattle.cli_error.specs.Fault as Why
use Rattle.cli_error.specs.Fault.{Fault}
use Rattle.cli_error.specs.Answered.{Made, made, fails}
use Rattle.cli_run.specs.Input.{Named}

-- refusal n at place p of the input i, of which so many bytes are kept
abbrev pub of_input : ℕ → Named → ℕ → ℕ → Fault
of_input kept i n p = Why.refused i.name n p (take kept i.text)

-- 16 and 17 are of the branch table, if there is one: it has no lines
abbrev pub blamed : ℕ → Option Named → Named → ℕ → ℕ → Fault
blamed kept (Some t) i n p = cond (eqb n 16 || eqb n 17) (Why.refused t.name n p []) (of_input kept i n p)
blamed kept None i n p = of_input kept i n p

-- the text of what is accepted, or the refusal
abbrev pub told : {A : Type 0} → (A → Text) → ℕ → Option Named → Named → Answer A → Made
told f kept t i (accepted a) = made (f a)
told f kept t i (refused n p) = fails (blamed kept t i n p)
