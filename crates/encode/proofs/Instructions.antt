-- An instruction by its head and its joined tail: how each way out of `encode_instruction` answers. Assumes nothing.
use Rattle.std.specs.Prelude.{Option, None, Some}
use Prim.Native.Nat.{ℕ, ◌+◌, ◌-◌}
use mathlib.Core.Path.{◌≡◌, sym, ap, ◌∙◌}
use mathlib.Core.Bool.{Bool, true}
use lib.ListN.{length, take, drop}
use Rattle.rules.specs.Option.{bind}
use Rattle.rules.specs.Text.{Text, uppers, leading, pieces, joined}
use Rattle.rules.specs.Line.{instruction_of}
use Rattle.rules.specs.Label.{Table}
use Rattle.rules.specs.Encode.{operation_in, encode_operation, encode_by}
use Rattle.opcode.specs.Operation.{operation_of, ruled}
use Rattle.opcode.specs.declared.mnemonic.Operation.{Operation}
use Rattle.opcode.proofs.Callers.{named, unnamed}
use Rattle.branches.specs.Branch.{names_in}
use Rattle.branches.proofs.Under.{small_condition}
use Rattle.text.specs.Spans.{part}
use Rattle.instruction.specs.FirstPiece.{head_of}
use Rattle.instruction.specs.Joined.{is_joined}
use Rattle.instruction.specs.Split.{operands_in}
use Rattle.instruction.specs.declared.Head.{Head}
use Rattle.instruction.proofs.FirstPiece.{instruction_read}
use Rattle.instruction.proofs.Joined.{joined_there}
use Rattle.encode.specs.Code.{code_of}
use Rattle.encode.specs.Operations.{Conditioned}
use Rattle.encode.specs.declared.Code.{Code}

module _ (names : Option Text) (t : Text) (h : Head) (e : h ≡ head_of t) {x : Option Operation} (f : x ≡ operation_of (operation_in (names_in names) (uppers (part t h.start h.end)))) where
  pub unknown : x ≡ None → (ls : Table) (a : ℕ) → code_of (encode_by (names_in names) ls a (instruction_of t)) ≡ None
  unfolding encode_by bind
  unknown g ls a = rw (instruction_read t h e, unnamed _ (sym f ∙ g))

  module _ {o : Operation} (g : x ≡ Some o) where
    found : operation_in (names_in names) (uppers (part t h.start h.end)) ≡ Some (ruled o)
    found = named _ (sym f ∙ g)

    pub conditioned : Conditioned o
    conditioned k p = small_condition names _ k (found ∙ ap (λ (v : Operation). Some (ruled v)) p)

    module _ (ls : Table) (a : ℕ) {r : Option Code} where
      -- by the joined tail, however it is come by
      pub encoded : r ≡ code_of (encode_operation ls a (ruled o) (operands_in (joined (pieces (drop h.tail t))))) → r ≡ code_of (encode_by (names_in names) ls a (instruction_of t))
      unfolding encode_by bind
      encoded w = rw (instruction_read t h e, found) w

      pub encoded_there : {s : ℕ} {y : Bool} → s ≡ h.tail + leading (drop h.tail t) → y ≡ is_joined (drop s t) → y ≡ true
          → r ≡ code_of (encode_operation ls a (ruled o) (operands_in (take (length t - s) (drop s t)))) → r ≡ code_of (encode_by (names_in names) ls a (instruction_of t))
      encoded_there {s} w j y v = encoded (rw (joined_there t h.tail s w j y) at v)
