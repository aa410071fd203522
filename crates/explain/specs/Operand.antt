-- An operand in its place as the code answers it, for each place of the stations' forms, by what was read there. Assumes nothing.
use Rattle.std.specs.Prelude.{ℕ, Bool, true, false, ◌&&◌, ℤ, Option, None, Some, Result, Ok, Err}
use Rattle.std.specs.Option.{option_or}
use Rattle.rules.specs.Text.{Text}
use Rattle.rules.specs.Label.{Table, find}
use Rattle.rules.specs.Forms.{i8, u16, hash_label, Dn, An, AtAn, label, jump_target, branch_target, kind_of, kind_for, same_kind}
use Rattle.rules.specs.Forms.{Operand as Ruled}
use Rattle.rules.specs.Encode.{reach}
use Rattle.requests.specs.Explain.{meets, fault}
use Rattle.numeral.specs.declared.Failure.{Failure}
use Rattle.explain.specs.Verdict.{fault_of, failure_verdict}
use Rattle.explain.specs.declared.Verdict.{Verdict}
use Rattle.explain.specs.declared.Verdict.TheVariants.{NotRecorded, OutOfReach}
use Rattle.explain.specs.declared.operand.Operand.{Operand}
use Rattle.explain.specs.declared.operand.Operand.TheVariants as O
use Rattle.explain.specs.declared.operand.Fit.{Fit}
use Rattle.explain.specs.declared.operand.Place.{Place}

abbrev pub operand_of : Operand → Ruled
operand_of O.I8 = i8
operand_of O.U16 = u16
operand_of O.HashLabel = hash_label
operand_of O.Dn = Dn
operand_of O.An = An
operand_of O.AtAn = AtAn
operand_of O.Label = label
operand_of O.JumpTarget = jump_target
operand_of O.BranchTarget = branch_target

-- ---- by the rules: the word is made there, and what is wrong
abbrev pub fit_at : Table → ℕ → Ruled → Text → Fit
fit_at ls a x s = record { met = meets ls a x s; fault = fault_of (fault ls a x s) }

-- with its kind
abbrev pub place_at : Table → ℕ → Ruled → Text → Place
place_at ls a x s = record { met = meets ls a x s; stands = same_kind (kind_of s) (kind_for x); fault = fault_of (fault ls a x s) }

-- ---- by what was read
abbrev pub fit : Bool → Option Verdict → Fit
fit y v = record { met = y; fault = v }

-- a number
abbrev pub read_fit : {A : Type 0} → Option (Result A Failure) → Fit
read_fit None = fit false None
read_fit (Some (Ok v)) = fit true None
read_fit (Some (Err f)) = fit false (Some (failure_verdict f))

-- a register
abbrev pub register_fit : Option ℕ → Fit
register_fit None = fit false None
register_fit (Some n) = fit true None

-- a label's address
abbrev pub label_fit : Option ℕ → Fit
label_fit None = fit false (Some NotRecorded)
label_fit (Some x) = fit true None

-- a label's name
abbrev pub hash_fit : Table → Option Text → Fit
hash_fit ls None = fit false None
hash_fit ls (Some l) = label_fit (find l ls)

-- the displacement of a label
abbrev pub near_fit : Option ℤ → Fit
near_fit None = fit false (Some OutOfReach)
near_fit (Some z) = fit true None

-- a label's address, from a
abbrev pub reach_fit : ℕ → Option ℕ → Fit
reach_fit a None = fit false (Some NotRecorded)
reach_fit a (Some x) = near_fit (reach x a)

-- a signed number, where a label may be in reach
abbrev pub signed_fit : Bool → Result ℤ Failure → Fit
signed_fit y (Ok z) = fit true None
signed_fit y (Err f) = fit y (Some (failure_verdict f))

-- ---- both of two
abbrev pub both_places : Place → Place → Place
both_places x y = record { met = x.met && y.met; stands = x.stands && y.stands; fault = option_or x.fault y.fault }
