-- Forms as the code tries them: operands in a form's places, and an operation's forms by the code's enums. Assumes nothing.
use Rattle.std.specs.Prelude.{ℕ, ◌≡◌, cond, List, [], ◌∷◌, length, Option, None, Some}
use Rattle.std.specs.Option.{unwrap_or}
use Rattle.std.specs.List.{list_any, find}
use Rattle.rules.specs.Text.{Text}
use Rattle.rules.specs.Label.{Table}
use Rattle.rules.specs.Forms.{Forms, exactly, or_more, counted, stand}
use Rattle.rules.specs.Forms.{Operand as Ruled}
use Rattle.requests.specs.Explain.{wrong_count, because, met, fault_in, why_forms}
use Rattle.requests.specs.Explain.{Verdict as Said}
use Rattle.opcode.specs.declared.mnemonic.Operation.{Operation}
use Rattle.opcode.specs.declared.mnemonic.Operation.TheVariants.{Moveq, Move, Movea, Muls, Tst, Subq, Asl, Dbra, Nop, Simhalt, Add, Sub, Cmp, Jmp, Branch}
use Rattle.explain.specs.Verdict.{verdict_of, fault_of}
use Rattle.explain.specs.Operand.{operand_of}
use Rattle.explain.specs.declared.Verdict.{Verdict}
use Rattle.explain.specs.declared.Verdict.TheVariants.{Emitted, WrongKinds}
use Rattle.explain.specs.declared.operand.Operand.{Operand}
use Rattle.explain.specs.declared.operand.Operand.TheVariants as O
use Rattle.explain.specs.declared.operand.Place.{Place}
use Rattle.explain.specs.declared.form.Pairs.{Pairs}
use Rattle.explain.specs.declared.form.Pairs.TheVariants as P
use Rattle.explain.specs.declared.form.Shape.{Shape}
use Rattle.explain.specs.declared.form.Shape.TheVariants as S

-- ---- forms with their operands
-- operands in a form's places
abbrev pub form_at : Table → ℕ → List Text → List Ruled → Place
form_at ls a ps f = record { met = met ls a f ps; stands = stand f ps; fault = fault_of (fault_in ls a f ps) }

-- the verdict of a form with the operands' kinds, or that there is none
abbrev pub blamed : Option Place → Verdict
blamed None = WrongKinds
blamed (Some f) = unwrap_or f.fault Emitted

-- the verdict by forms in order
abbrev pub told : List Place → Verdict
told fs = cond (list_any (λ f. f.met) fs) Emitted (blamed (find (λ f. f.stands) fs))

-- what comes after the one operand does not matter
abbrev pub WhyOneGives : Table → ℕ → Operand → Text → Verdict → Type 0
WhyOneGives ls a x s r = (ps : List Text) → r ≡ verdict_of (why_forms ls a ((operand_of x ∷ []) ∷ []) (s ∷ ps))

-- ---- an operation's forms
abbrev pub pair_form : Operand → Operand → List Ruled
pair_form x y = operand_of x ∷ operand_of y ∷ []

abbrev pub pairs_of : Pairs → List (List Ruled)
pairs_of (P.Just x y) = pair_form x y ∷ []
pairs_of P.Immediate = pair_form O.U16 O.Dn ∷ pair_form O.Dn O.Dn ∷ []
pairs_of P.Move =
    pair_form O.U16 O.Dn ∷ pair_form O.AtAn O.Dn ∷ pair_form O.Dn O.AtAn ∷ pair_form O.Dn O.Dn ∷ pair_form O.Label O.Dn ∷ pair_form O.Dn O.Label ∷ []

abbrev pub forms_for : Shape → Forms
forms_for S.Any = record { count = or_more 0; forms = [] ∷ [] }
forms_for (S.One x) = record { count = exactly 1; forms = (operand_of x ∷ []) ∷ [] }
forms_for (S.OneOrMore x) = record { count = or_more 1; forms = (operand_of x ∷ []) ∷ [] }
forms_for (S.Two p) = record { count = exactly 2; forms = pairs_of p }

abbrev pub shape_of : Operation → Shape
shape_of Moveq = S.Two (P.Just O.I8 O.Dn)
shape_of Move = S.Two P.Move
shape_of Movea = S.Two (P.Just O.HashLabel O.An)
shape_of Muls = S.Two P.Immediate
shape_of Tst = S.One O.Dn
shape_of Subq = S.Two (P.Just O.I8 O.Dn)
shape_of Asl = S.Two (P.Just O.I8 O.Dn)
shape_of Dbra = S.Two (P.Just O.Dn O.BranchTarget)
shape_of Nop = S.Any
shape_of Simhalt = S.Any
shape_of Add = S.Two (P.Just O.Dn O.Dn)
shape_of Sub = S.Two (P.Just O.Dn O.Dn)
shape_of Cmp = S.Two P.Immediate
shape_of Jmp = S.One O.JumpTarget
shape_of (Branch c) = S.OneOrMore O.BranchTarget

-- the verdict by forms that are looked up
unfoldable pub why_by : Forms → Table → ℕ → List Text → Said
why_by f ls a ps = cond (counted f.count (length ps)) (why_forms ls a f.forms ps) (because wrong_count)
