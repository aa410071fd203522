-- Branch tables: each name of an accepted table is found, and its branches land. Assumes nothing.
use Rattle.std.specs.Prelude.{Option, None, Some}
use Rattle.rules.specs.Option.{or_else}
use Prim.Native.Nat.{ℕ, ◌+◌, ◌<◌}
use mathlib.Core.Path.{◌≡◌, refl, sym, ap, ◌∙◌}
use mathlib.Core.Logic.{◌⊎◌, inl, inr}
use mathlib.Core.Bool.{true}
use mathlib.Core.List.{List, [], ◌∷◌, ◌++◌}
use native.Mathlib.Omega.{arith}
use lib.ListN.{length, replicate, length-append, length-replicate}
use Rattle.rules.specs.Text.{Text}
use Rattle.rules.specs.Encode.{Operation, branch, Mnemonic, mnemonic, other_mnemonics, operation_in, is_some}
use Rattle.requests.proofs.Mnemonics.{in_both}
use Rattle.promises.specs.Nearest.{In, head, tail}
use Rattle.promises.specs.Lands.{BranchesLandBy}
use Rattle.promises.specs.Branches.{Row, four, Padded, Named, no_row, row, twice, taken, Accepted}
use Rattle.promises.specs.BranchCalls.{ListsUnder, BranchesLandUnder}
use Rattle.promises.proofs.Compared.{clash}
use Rattle.promises.proofs.Lands.{branches_land_by}
use Rattle.promises.proofs.BranchNames.{found, is_found}
use Rattle.promises.proofs.BranchCalls.{lists_under}

-- the row of a name, and where it stands
record RowOf (rs : List Row) (m : Text) (o : Operation) : Type 0 where
  front : List Row
  row : Row
  back : List Row
  stands : rs ≡ front ++ (row ∷ back)
  padded : Padded m (four row)
  means : o ≡ branch row.condition

row_of : {rs : List Row} {ns : List Mnemonic} {m : Text} {o : Operation} → Named rs ns → In (mnemonic m o) ns → RowOf rs m o
row_of {m = m} (row {r} {rs} {n} p h) (head e) =
    let f : n ≡ m = ap (λ (x : Mnemonic). x.name) (sym e) in
    record { front = []; row = r; back = rs; stands = refl; padded = rw f at p; means = ap (λ (x : Mnemonic). x.operation) e }
row_of (row {r} p h) (tail i) =
    let k = row_of h i in
    record { front = r ∷ k.front; row = k.row; back = k.back; stands = ap (λ (x : List Row). r ∷ x) k.stands; padded = k.padded; means = k.means }
row_of no_row i = elim i [ ]

-- rows of one name have the same four bytes
same_four : {m : Text} (q r : Row) → Padded m (four q) → Padded m (four r) → four q ≡ four r
same_four {m} q r f g =
    let h : 4 ≡ length m + f.spaces = ap length f.padded ∙ length-append m (replicate f.spaces 32) ∙ ap (λ n. length m + n) (length-replicate f.spaces 32) in
    let k : 4 ≡ length m + g.spaces = ap length g.padded ∙ length-append m (replicate g.spaces 32) ∙ ap (λ n. length m + n) (length-replicate g.spaces 32) in
    let e : f.spaces ≡ g.spaces = omega arith in
    f.padded ∙ rw e (sym g.padded)

-- of two rows one stands in front of the other, or they are one
order : (front : List Row) (q : Row) (back front' : List Row) (r : Row) (back' : List Row) → front ++ (q ∷ back) ≡ front' ++ (r ∷ back')
    → (q ≡ r) ⊎ (In q front' ⊎ In r front)
order [] q back [] r back' e = inl cc
order [] q back (x ∷ front') r back' e = inr (inl (head {y = x} cc))
order (x ∷ front) q back [] r back' e = inr (inr (head {y = x} cc))
order (x ∷ front) q back (y ∷ front') r back' e = go (order front q back front' r back' cc)
  where
    go : (q ≡ r) ⊎ (In q front' ⊎ In r front) → (q ≡ r) ⊎ (In q (y ∷ front') ⊎ In r (x ∷ front))
    go (inl h) = inl h
    go (inr (inl i)) = inr (inl (tail i))
    go (inr (inr i)) = inr (inr (tail i))

module _ (t : Text) (ns : List Mnemonic) (a : Accepted t ns) where
  -- a name has one row
  one_row : {m : Text} {o o' : Operation} → RowOf a.rows m o → RowOf a.rows m o' → o ≡ o'
  one_row {o = o} {o' = o'} x y = go (order x.front x.row x.back y.front y.row y.back (sym x.stands ∙ y.stands))
    where
      e : four x.row ≡ four y.row
      e = same_four x.row y.row x.padded y.padded

      go : (x.row ≡ y.row) ⊎ (In x.row y.front ⊎ In y.row x.front) → o ≡ o'
      go (inl h) = x.means ∙ ap (λ (r : Row). branch r.condition) h ∙ sym y.means
      go (inr (inl i)) = absurd ((a.right y.front y.row y.back y.stands).1 (twice i e))
      go (inr (inr i)) = absurd ((a.right x.front x.row x.back x.stands).1 (twice i (sym e)))

  module _ (m : Text) (c : ℕ) (i : In (mnemonic m (branch c)) ns) where
    its_row : RowOf a.rows m (branch c)
    its_row = row_of a.named i

    small : c < 16
    small =
        let r = its_row in
        let e : c ≡ r.row.condition = cc in
        omega (arith, (a.right r.front r.row r.back r.stands).0)

    -- it is no mnemonic other than the eleven, and no other row has it
    loaded_name : operation_in (other_mnemonics ++ ns) m ≡ Some (branch c)
    unfolding or_else is_some
    loaded_name = in_both other_mnemonics ns m ∙ go (operation_in other_mnemonics m) refl (operation_in ns m) refl
      where
        go : (x : Option Operation) → operation_in other_mnemonics m ≡ x → (y : Option Operation) → operation_in ns m ≡ y → or_else x y ≡ Some (branch c)
        go (Some o) f y g =
            let r = its_row in
            absurd ((a.right r.front r.row r.back r.stands).1 (taken (found other_mnemonics m o f) r.padded))
        go None f (Some o) g = ap Some (one_row (row_of a.named (found ns m o g)) its_row)
        go None f None g = let h : is_some {A = Operation} None ≡ true = rw g at (is_found i) in clash cc

pub branches_land_under : BranchesLandUnder
unfolding BranchesLandUnder BranchesLandBy ListsUnder
branches_land_under t ns a base s p l h f j x i o u d m q =
    branches_land_by (other_mnemonics ++ ns) base s p l h (sym (lists_under t ns a base s) ∙ f) j x i o u d m
    (record {
      condition = q.condition;
      small = small t ns a i.mnemonic q.condition q.row;
      named = loaded_name t ns a i.mnemonic q.condition q.row;
      others = q.others;
      operands = q.operands;
      near = q.near;
    })
