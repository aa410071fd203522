-- Lines whose mnemonic is no row's, under a table. Assumes nothing.
use Rattle.std.specs.Prelude.{Option, None, Some}
use Rattle.rules.specs.Option.{bind, or_else}
use Prim.Native.Nat.{ℕ}
use mathlib.Core.Path.{◌≡◌, refl, sym, ap, ◌∙◌}
use mathlib.Core.Logic.{◌≢◌}
use mathlib.Core.List.{List, [], ◌++◌}
use Rattle.rules.specs.Text.{Text, bytes, same}
use Rattle.rules.specs.Line.{Instruction, end, instruction, line_of, size}
use Rattle.rules.specs.Encode.{Operation, Mnemonic, mnemonic, branches, other_mnemonics, mnemonics, operation_in, encode_by, encode}
use Rattle.rules.specs.Answer.{accepted, and_then}
use Rattle.rules.specs.Assemble.{Encoder, Pass, Place, places_at, code_contents_by, code_places_by, second_pass_by, pass_at, assemble_by}
use Rattle.manual.specs.Manual.{Condition, T, CC, CS, NE, EQ, PL, MI, GE, LT, GT, LE}
use Rattle.requests.proofs.Mnemonics.{in_both}
use Rattle.promises.specs.Refusals.{IsLine, Reached}
use Rattle.promises.specs.Nearest.{In, head, tail}
use Rattle.promises.specs.ListedForms.{words_before, words_after}
use Rattle.promises.specs.ManualWritten.{branch_named}
use Rattle.promises.specs.BranchCalls.{ListsUnder}
use Rattle.promises.proofs.Compared.{clash}
use Rattle.promises.proofs.Lists.{All}
use Rattle.promises.proofs.BranchNames.{found}
use Rattle.promises.proofs.ManualLists.{cut}
use Rattle.promises.proofs.BranchCalls.{lists_under}
use Rattle.promises_calls.specs.TableLines.{NoRow, OthersAsWithout}

-- what no entry is named is not found
none_in : (ns : List Mnemonic) (m : Text) → NoRow ns m → operation_in ns m ≡ None
none_in ns m h = go (operation_in ns m) refl
  where
    go : (o : Option Operation) → operation_in ns m ≡ o → operation_in ns m ≡ None
    go None e = e
    go (Some o) e = absurd (h (mnemonic m o) (found ns m o e) refl)

-- each of the eleven is a condition's
abbrev IsBranch : Mnemonic → Type 0
IsBranch n = (c : Condition) × (n.name ≡ branch_named c)

pick : (P : Mnemonic → Type 0) {n : Mnemonic} {ns : List Mnemonic} → In n ns → All P ns → P n
pick P (head e) h = rw e h.0
pick P (tail i) h = pick P i h.1

all_branches : All IsBranch branches
unfolding branches branch_named bytes
all_branches = ((T, refl), ((CC, refl), ((CS, refl), ((NE, refl), ((EQ, refl), ((PL, refl), ((MI, refl), ((GE, refl), ((LT, refl), ((GT, refl), ((LE, refl), tt)))))))))))

no_branch : (m : Text) → ((c : Condition) → m ≢ branch_named c) → NoRow branches m
no_branch m h n i e = let q = pick IsBranch i all_branches in h q.0 (e ∙ q.1)

other_than_branch : (c : Condition) → operation_in other_mnemonics (branch_named c) ≡ None
unfolding operation_in other_mnemonics same bytes branch_named
other_than_branch T = refl
other_than_branch CC = refl
other_than_branch CS = refl
other_than_branch NE = refl
other_than_branch EQ = refl
other_than_branch PL = refl
other_than_branch MI = refl
other_than_branch GE = refl
other_than_branch LT = refl
other_than_branch GT = refl
other_than_branch LE = refl

-- so what is found of a mnemonic that no row has
same_found : (ns : List Mnemonic) (m : Text) → NoRow ns m → ((c : Condition) → m ≢ branch_named c) → operation_in (other_mnemonics ++ ns) m ≡ operation_in mnemonics m
unfolding mnemonics
same_found ns m h k =
    in_both other_mnemonics ns m ∙ ap (or_else (operation_in other_mnemonics m)) (none_in ns m h ∙ sym (none_in branches m (no_branch m k)))
    ∙ sym (in_both other_mnemonics branches m)

none_found : (ns : List Mnemonic) (m : Text) (c : Condition) → NoRow ns m → m ≡ branch_named c → operation_in (other_mnemonics ++ ns) m ≡ None
unfolding or_else
none_found ns m c h e = in_both other_mnemonics ns m ∙ rw (none_in ns m h, ap (operation_in other_mnemonics) e ∙ other_than_branch c)

module _ (base : ℕ) (s : Text) (p : Pass) (h : pass_at base s ≡ accepted p) where
  module _ {j a : ℕ} {ms : List Text} (line : Text) (i : Instruction) (r : Reached size base s j a ms) (is : IsLine s j line) (k : (line_of line).task ≡ instruction i) where
    abbrev of_line : Encoder → List Place
    of_line e = places_at a (code_contents_by e p.labels a (instruction i))

    stands : (e : Encoder) (l : List Place) → assemble_by size e base s ≡ accepted l → l ≡ words_before e p j ++ (of_line e ++ words_after e p j)
    unfolding assemble_by and_then code_places_by
    stands e l made =
        let q : accepted (second_pass_by e p) ≡ accepted l = rw h at made in
        let c : second_pass_by e p ≡ l = cc in
        let go_on : (line_of line).task ≢ end = λ u. let v = sym k ∙ u in clash cc in
        sym c ∙ rw k at (cut size e base s p h line r is go_on)

    both : (names : List Mnemonic) → operation_in names i.mnemonic ≡ operation_in mnemonics i.mnemonic → of_line (encode_by names) ≡ of_line encode
    unfolding code_contents_by encode_by
    both names e = rw e

    nothing : (names : List Mnemonic) → operation_in names i.mnemonic ≡ None → of_line (encode_by names) ≡ []
    unfolding code_contents_by encode_by bind places_at
    nothing names e = rw e

pub others_as_without : OthersAsWithout
unfolding OthersAsWithout ListsUnder
others_as_without t ns x base s p l u h f g =
    let made : assemble_by size (encode_by (other_mnemonics ++ ns)) base s ≡ accepted u = sym (lists_under t ns x base s) ∙ g in
    record {
      others = λ j a ms line i r is k n o.
          record {
            places = places_at a (code_contents_by encode p.labels a (instruction i));
            without_table = stands base s p h line i r is k encode l f;
            with_table = rw (both base s p h line i r is k (other_mnemonics ++ ns) (same_found ns i.mnemonic n o)) at
                (stands base s p h line i r is k (encode_by (other_mnemonics ++ ns)) u made);
          };
      eleven = λ j a ms line i r is k n c e.
          rw (nothing base s p h line i r is k (other_mnemonics ++ ns) (none_found ns i.mnemonic c n e)) at
          (stands base s p h line i r is k (encode_by (other_mnemonics ++ ns)) u made);
    }
