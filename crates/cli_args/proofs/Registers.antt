-- The registers, one after another. Assumes nothing.
use Rattle.std.proofs.Common.{◌≡◌, ◌∙◌, ℕ, suc, ◌+◌, ◌<◌, ◌≤◌, List, [], ◌∷◌, ◌++◌, length, get_or, take, drop, set, sym, refl, ap, arith, add-one, drop-cons, drop_of_length-le, take-suc-set, take_all, length-set}
use Rattle.std.specs.Prelude.{Result, Ok, Err}
use Rattle.std.proofs.lemmas.List.{append_assoc, append-nil}
use Rattle.cli_args.specs.declared.Setting.{Setting}
use Rattle.cli_args.specs.Number.{address}
use Rattle.cli_args.specs.Given.{Given, Complaint}
use Rattle.cli_args.specs.Asked.{then_ok, value_of, number_in, registers, registers_in}

-- these numbers, and then those of r
abbrev in_front : List ℕ → Result (List ℕ) Complaint → Result (List ℕ) Complaint
in_front xs r = then_ok r (λ ns. Ok (xs ++ ns))

nothing_in_front : (r : Result (List ℕ) Complaint) → r ≡ in_front [] r
nothing_in_front (Ok ns) = refl
nothing_in_front (Err e) = refl

both_in_front : (xs ys : List ℕ) (r : Result (List ℕ) Complaint) → in_front xs (in_front ys r) ≡ in_front (xs ++ ys) r
both_in_front xs ys (Ok ns) = ap (λ t. Ok t) (sym (append_assoc xs ys ns))
both_in_front xs ys (Err e) = refl

in_turn : (x : Result ℕ Complaint) (n : ℕ) (r : Result (List ℕ) Complaint) → Ok n ≡ x → then_ok x (λ n. then_ok r (λ ns. Ok (n ∷ ns))) ≡ in_front (n ∷ []) r
in_turn x n r e = ap (λ x. then_ok x (λ n. then_ok r (λ ns. Ok (n ∷ ns)))) (sym e)

in_error : (x : Result ℕ Complaint) (e : Complaint) (xs : List ℕ) (r : Result (List ℕ) Complaint) → Err e ≡ x
    → Err e ≡ in_front xs (then_ok x (λ n. then_ok r (λ ns. Ok (n ∷ ns))))
in_error x e xs r h = ap (λ x. in_front xs (then_ok x (λ n. then_ok r (λ ns. Ok (n ∷ ns))))) h

module _ (gs : List Given) where
  abbrev number_of : Setting → Result ℕ Complaint
  number_of s = number_in s address 0 (value_of s gs)

  next_of : (s : Setting) (ss : List Setting) → registers_in gs (s ∷ ss) ≡ then_ok (number_of s) (λ n. then_ok (registers_in gs ss) (λ ns. Ok (n ∷ ns)))
  unfolding registers_in
  next_of s ss = refl

  none_of : registers_in gs [] ≡ Ok []
  unfolding registers_in
  none_of = refl

  -- the numbers of the first k registers stand in a
  pub record Filled (k : ℕ) (a : List ℕ) : Type 0 where
    pub eight : length a ≡ 8
    pub same : registers_in gs registers ≡ in_front (take k a) (registers_in gs (drop k registers))

  pub filled_first : (a : List ℕ) → length a ≡ 8 → Filled 0 a
  filled_first a h = record { eight = h; same = nothing_in_front (registers_in gs registers) }

  module _ (k : ℕ) (a : List ℕ) (f : Filled k a) where
    module _ (d : Setting) (h : k < 8) where
      left : registers_in gs (drop k registers)
          ≡ then_ok (number_of (get_or registers k d)) (λ n. then_ok (registers_in gs (drop (suc k) registers)) (λ ns. Ok (n ∷ ns)))
      left = ap (registers_in gs) (drop-cons registers k d h) ∙ next_of (get_or registers k d) (drop (suc k) registers)

      pub filled_next : (n : ℕ) → Ok n ≡ number_of (get_or registers k d) → Filled (k + 1) (set a k n)
      filled_next n e =
          record {
            eight = length-set a k n ∙ f.eight;
            same =
                f.same ∙ ap (in_front (take k a)) (left ∙ in_turn (number_of (get_or registers k d)) n (registers_in gs (drop (suc k) registers)) e)
                ∙ both_in_front (take k a) (n ∷ []) (registers_in gs (drop (suc k) registers))
                ∙ ap (λ t. in_front t (registers_in gs (drop (suc k) registers))) (sym (take-suc-set a k n (omega (arith, f.eight))))
                ∙ ap (λ j. in_front (take j (set a k n)) (registers_in gs (drop j registers))) (sym (add-one k));
          }

      pub filled_wrong : (e : Complaint) → Err e ≡ number_of (get_or registers k d) → Err e ≡ registers_in gs registers
      filled_wrong e h =
          in_error (number_of (get_or registers k d)) e (take k a) (registers_in gs (drop (suc k) registers)) h
          ∙ sym (f.same ∙ ap (in_front (take k a)) left)

    pub filled_last : 8 ≤ k → Ok a ≡ registers_in gs registers
    filled_last h =
        sym (f.same ∙ ap (λ t. in_front (take k a) (registers_in gs t)) (drop_of_length-le registers h) ∙ ap (in_front (take k a)) none_of
        ∙ ap (λ t. Ok t) (append-nil (take k a) ∙ take_all k a (omega (arith, f.eight))))
