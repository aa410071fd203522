-- For callers: where the words of a code stand, and that it takes at most six bytes. Assumes nothing.
use Rattle.std.specs.Prelude.{Option, None, Some}
use Rattle.rules.specs.Option.{bind, or_else}
use Prim.Native.Nat.{ℕ, ◌+◌, ◌*◌, ◌≤◌}
use mathlib.Core.Path.{◌≡◌, refl}
use mathlib.Core.Bool.{Bool, true, false, ◌||◌, cond}
use mathlib.Core.List.{List, [], ◌∷◌}
use native.Mathlib.Omega.{arith}
use lib.ListN.{length}
use Rattle.rules.specs.Text.{Text}
use Rattle.rules.specs.Line.{Instruction as Said}
use Rattle.rules.specs.Number.{hex_tail}
use Rattle.rules.specs.Encode.{one, two, is_some, all_digits}
use Rattle.rules.specs.Assemble.{places_at}
use Rattle.manual.specs.Manual.{Instruction, absolute, NOP, JMP, extension, extensions, halves, displacement_word, manual_words}
use Rattle.requests.specs.ManualCall.{Form, said, labelled, displaced, Addressing, load, store, point, jump, Branching, branch, loop, addressed, branched, as_if_there, form_size, Head, moveq, nop, jmp, dbra, branch_on, move_w, add_w, sub_w, cmp_w, muls_w, move_l, movea_l, cmp_l, tst_l, subq_l, asl_l, no_operand, registers, number32, jump_to, move_long, form_of, form, manual_size}
use Rattle.encode_manual.specs.Code.{words_of, places_of}
use Rattle.encode_manual.specs.declared.ManualCode.{ManualCode}
use Rattle.encode_manual.specs.declared.ManualCode.TheVariants.{Word, Value, Long, Address}

pub code_places : (a : ℕ) (c : ManualCode) → places_of a c ≡ places_at a (words_of c)
unfolding places_at
code_places a (Word w) = refl
code_places a (Value w v) = refl
code_places a (Long w v) = let k : a + 2 + 2 ≡ a + 4 = omega arith in rw k
code_places a (Address w x) = let k : a + 2 + 2 ≡ a + 4 = omega arith in rw k

-- ---- at most six bytes
record Small (g : Option Form) : Type 0 where
  at_most : form_size g ≤ 6

small_none : Small None
unfolding form_size
small_none = record { at_most = omega arith }

small_bind : {A : Type 0} (o : Option A) (f : A → Option Form) → ((x : A) → Small (f x)) → Small (bind o f)
unfolding bind
small_bind None f h = small_none
small_bind (Some x) f h = h x

small_else : (o p : Option Form) → Small o → Small p → Small (or_else o p)
unfolding or_else
small_else None p h k = k
small_else (Some x) p h k = h

small_two : {f : Text → Text → Option Form} → ((s t : Text) → Small (f s t)) → (ps : List Text) → Small (two f ps)
unfolding two
small_two h [] = small_none
small_two h (s ∷ []) = small_none
small_two h (s ∷ t ∷ []) = h s t
small_two h (s ∷ t ∷ u ∷ ps) = small_none

small_one : {f : Text → Option Form} → ((s : Text) → Small (f s)) → (ps : List Text) → Small (one f ps)
unfolding one
small_one h [] = small_none
small_one h (s ∷ []) = h s
small_one h (s ∷ t ∷ ps) = small_none

-- an instruction as it stands, by how many words it has
small_said : (i : Instruction) (k : ℕ) → 2 * length (manual_words i) ≡ k → k ≤ 6 → Small (Some (said i))
unfolding form_size as_if_there
small_said i k e h = record { at_most = rw e h }

small_labelled : (g : Addressing) (l : Text) → Small (Some (labelled g l))
unfolding form_size as_if_there addressed manual_words extensions extension halves
small_labelled (load n) l = record { at_most = omega arith }
small_labelled (store n) l = record { at_most = omega arith }
small_labelled (point n) l = record { at_most = omega arith }
small_labelled jump l = record { at_most = omega arith }

small_displaced : (g : Branching) (s : Text) → Small (Some (displaced g s))
unfolding form_size as_if_there branched manual_words extensions displacement_word
small_displaced (branch c) s = record { at_most = omega arith }
small_displaced (loop n) s = record { at_most = omega arith }

small_registers : (f : ℕ → ℕ → Instruction) → ((n m : ℕ) → 2 * length (manual_words (f n m)) ≡ 2) → (s t : Text) → Small (registers f s t)
unfolding registers
small_registers f h s t = small_bind _ _ (λ n. small_bind _ _ (λ m. small_said _ 2 (h n m) (omega arith)))

small_jump : (s : Text) → Small (jump_to s)
unfolding jump_to manual_words extensions extension halves
small_jump s = go (is_some (hex_tail s) || all_digits s)
  where
    go : (y : Bool) → Small (cond y (bind (number32 s) (λ v. Some (said (JMP (absolute v))))) (Some (labelled jump s)))
    go true = small_bind _ _ (λ v. small_said _ 6 refl (omega arith))
    go false = small_labelled jump s

small_move : (s t : Text) → Small (move_long s t)
unfolding move_long manual_words extensions extension halves
small_move s t =
    small_else _ _ (small_bind _ _ (λ v. small_bind _ _ (λ n. small_said _ 6 refl (omega arith))))
    (small_else _ _ (small_bind _ _ (λ n. small_bind _ _ (λ m. small_said _ 2 refl (omega arith))))
    (small_else _ _ (small_bind _ _ (λ n. small_bind _ _ (λ m. small_said _ 2 refl (omega arith))))
    (small_else _ _ (small_bind _ _ (λ l. small_bind _ _ (λ n. small_labelled (load n) l)))
    (small_bind _ _ (λ n. small_bind _ _ (λ l. small_labelled (store n) l))))))

small_form : (h : Head) (ps : List Text) → Small (form_of h ps)
unfolding form_of no_operand manual_words extensions extension halves
small_form moveq = small_two (λ s t. small_bind _ _ (λ v. small_bind _ _ (λ n. small_said _ 2 refl (omega arith))))
small_form nop = small_nothing
  where
    small_nothing : (ps : List Text) → Small (no_operand (said NOP) ps)
    small_nothing [] = small_said NOP 2 refl (omega arith)
    small_nothing (s ∷ ps) = small_none
small_form jmp = small_one (λ s. small_bind _ _ (λ l. small_jump l))
small_form dbra = small_two (λ s t. small_bind _ _ (λ n. small_bind _ _ (λ l. small_displaced (loop n) l)))
small_form (branch_on c) = small_one (λ s. small_bind _ _ (λ l. small_displaced (branch c) l))
small_form move_w = small_two (λ s t. small_registers _ (λ n m. refl) s t)
small_form add_w = small_two (λ s t. small_registers _ (λ n m. refl) s t)
small_form sub_w = small_two (λ s t. small_registers _ (λ n m. refl) s t)
small_form cmp_w = small_two (λ s t. small_registers _ (λ n m. refl) s t)
small_form muls_w = small_two (λ s t. small_else _ _ (small_bind _ _ (λ v. small_bind _ _ (λ n. small_said _ 4 refl (omega arith)))) (small_registers _ (λ n m. refl) s t))
small_form move_l = small_two small_move
small_form movea_l = small_two (λ s t. small_bind _ _ (λ l. small_bind _ _ (λ n. small_labelled (point n) l)))
small_form cmp_l = small_two (λ s t. small_bind _ _ (λ v. small_bind _ _ (λ n. small_said _ 6 refl (omega arith))))
small_form tst_l = small_one (λ s. small_bind _ _ (λ n. small_said _ 2 refl (omega arith)))
small_form subq_l = small_two (λ s t. small_bind _ _ (λ k. small_bind _ _ (λ n. small_said _ 2 refl (omega arith))))
small_form asl_l = small_two (λ s t. small_bind _ _ (λ k. small_bind _ _ (λ n. small_said _ 2 refl (omega arith))))

pub size_small : (i : Said) → manual_size i ≤ 6
unfolding manual_size form
size_small i = (small_bind _ _ (λ h. small_form h i.operands)).at_most
