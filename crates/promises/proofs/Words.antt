-- The words of an instruction: under a shift only label addresses change, and there are at most two words. Assumes nothing.
use Rattle.std.specs.Prelude.{Option, None, Some, unwrap_or, option_map}
use Rattle.rules.specs.Option.{bind, or_else}
use Prim.Native.Nat.{ℕ, zero, suc, ◌+◌, ◌-◌, ◌≤◌}
use mathlib.Core.Path.{◌≡◌, refl, sym, ap, ◌∙◌}
use mathlib.Core.Logic.{◌≢◌}
use mathlib.Core.Bool.{Bool, true, false, cond}
use mathlib.Core.List.{List, [], ◌∷◌, map}
use native.Mathlib.Nat.{add_assoc, zero-add, suc-add, add-suc}
use native.Mathlib.Omega.{arith}
use lib.Dec.{leb, ltb, leb-suc-suc}
use lib.ListN.{length, take, length-take, length-map}
use lib.IntN.{sub_ℕ}
use Rattle.rules.specs.Text.{Text}
use Rattle.rules.specs.Line.{Instruction}
use Rattle.rules.specs.Label.{Table}
use Rattle.rules.specs.Encode.{Content, literal, address, long_address, Operation, moveq, move, movea, muls, tst, subq, asl, dbra, nop, simhalt, add, sub, cmp, jmp, branch, two, one, one_or_more, reach, displacement, is_some, jumps, with_label, registers_row, high_row, low_row, from_indirect, to_indirect, from_label, to_label, move_rows, movea_row, muls_rows, cmp_rows, moveq_row, quick_row, tst_row, jump_row, dbra_row, branch_row, encode_operation, Mnemonic, encode_by}
use Rattle.rules.specs.Assemble.{places_at, words_by}
use Rattle.promises.specs.Lawful.{shift_table, shift_content, shift_contents, Short}
use Rattle.promises.proofs.Compared.{clash}
use Rattle.promises.proofs.Shift.{find_shift}

-- a function of the value goes into each combinator that the encoders are made of
module _ {A B : Type 0} (g : A → B) where
  pub bind_map : {X : Type 0} (o : Option X) (f : X → Option A) → option_map g (bind o f) ≡ bind o (λ x. option_map g (f x))
  unfolding bind
  bind_map None f = refl
  bind_map (Some x) f = refl

  else_map : (x y : Option A) → option_map g (or_else x y) ≡ or_else (option_map g x) (option_map g y)
  unfolding or_else
  else_map None y = refl
  else_map (Some x) y = refl

  cond_map : (c : Bool) (x y : Option A) → option_map g (cond c x y) ≡ cond c (option_map g x) (option_map g y)
  cond_map true x y = refl
  cond_map false x y = refl

  two_map : (f : Text → Text → Option A) (ps : List Text) → option_map g (two f ps) ≡ two (λ s t. option_map g (f s t)) ps
  unfolding two
  two_map f [] = refl
  two_map f (s ∷ []) = refl
  two_map f (s ∷ t ∷ []) = refl
  two_map f (s ∷ t ∷ u ∷ ps) = refl

  one_map : (f : Text → Option A) (ps : List Text) → option_map g (one f ps) ≡ one (λ s. option_map g (f s)) ps
  unfolding one
  one_map f [] = refl
  one_map f (s ∷ []) = refl
  one_map f (s ∷ t ∷ ps) = refl

  one_or_more_map : (f : Text → Option A) (ps : List Text) → option_map g (one_or_more f ps) ≡ one_or_more (λ s. option_map g (f s)) ps
  unfolding one_or_more
  one_or_more_map f [] = refl
  one_or_more_map f (s ∷ ps) = refl

-- to take a function of the value into an encoder
ruleset into = (bind_map, else_map, cond_map, two_map, one_map, one_or_more_map)

-- a changed value is bound, or is there, as the value itself
pub bind_mapped : {X Y Z : Type 0} (g : X → Y) (o : Option X) (f : Y → Option Z) → bind (option_map g o) f ≡ bind o (λ x. f (g x))
unfolding bind
bind_mapped g None f = refl
bind_mapped g (Some x) f = refl

pub is_some_mapped : {X Y : Type 0} (g : X → Y) (o : Option X) → is_some (option_map g o) ≡ is_some o
unfolding is_some
is_some_mapped g None = refl
is_some_mapped g (Some x) = refl

-- a difference of two addresses does not change
leb_shift : (b x y : ℕ) → leb (b + x) (b + y) ≡ leb x y
leb_shift zero x y = rw (zero-add x, zero-add y)
leb_shift (suc b) x y = rw (suc-add b x, suc-add b y) (leb-suc-suc (b + x) (b + y) ∙ leb_shift b x y)

pub sub_shift : (b x y : ℕ) → sub_ℕ (b + x) (b + y) ≡ sub_ℕ x y
sub_shift b x y =
    let e : ltb (b + x) (b + y) ≡ ltb x y = rw (← add-suc b x) (leb_shift b (suc x) y) in
    let m : b + y - suc (b + x) ≡ y - suc x = omega arith in
    let n : b + x - (b + y) ≡ x - y = omega arith in
    rw (e, m, n)

-- so a displacement and a jump do not change
pub reach_shift : (b t a : ℕ) → reach (b + t) (b + a) ≡ reach t a
unfolding reach
reach_shift b t a = rw (add_assoc b a 2, sub_shift b t (a + 2))

pub displacement_shift : (b : ℕ) (ls : Table) (a : ℕ) (s : Text) → displacement (shift_table b ls) (b + a) s ≡ displacement ls a s
unfolding displacement
displacement_shift b ls a s = simp (find_shift, bind_mapped, reach_shift)

pub jumps_shift : (b : ℕ) (ls : Table) (s : Text) → jumps (shift_table b ls) s ≡ jumps ls s
unfolding jumps
jumps_shift b ls s = simp (find_shift, is_some_mapped)

-- a row with a label under a shift
with_label_shift : (b : ℕ) (ls : Table) (w : ℕ) (l : Text) → with_label (shift_table b ls) w l ≡ option_map (shift_contents b) (with_label ls w l)
unfolding with_label shift_content
with_label_shift b ls w l = simp (find_shift, bind_mapped, bind_map)

-- two of its contents, none of 32 bits, are all of them
single : Content → Content
single (literal w) = literal w
single (address x) = address x
single (long_address x) = literal x

first_two : List Content → List Content
first_two cs = map single (take 2 cs)

with_label_two : (ls : Table) (w : ℕ) (l : Text) → option_map first_two (with_label ls w l) ≡ with_label ls w l
unfolding with_label first_two single
with_label_two ls w l = simp bind_map

-- a word put where there is none
filled : List Content → List Content
filled [] = literal 0 ∷ []
filled (c ∷ cs) = c ∷ cs

with_label_filled : (ls : Table) (w : ℕ) (l : Text) → option_map filled (with_label ls w l) ≡ with_label ls w l
unfolding with_label filled
with_label_filled ls w l = simp bind_map

single_short : (cs : List Content) → Short (map single cs)
unfolding single Short
single_short [] = tt
single_short (literal w ∷ cs) = single_short cs
single_short (address x ∷ cs) = single_short cs
single_short (long_address x ∷ cs) = single_short cs

short_two : (o : Option (List Content)) → Short (unwrap_or (option_map first_two o) []) × (length (unwrap_or (option_map first_two o) []) ≤ 2)
unfolding first_two Short
short_two None = (tt, omega arith)
short_two (Some cs) = (single_short (take 2 cs), rw (length-map (take 2 cs) single, length-take) (omega arith))

-- contents without addresses of 32 bits take a place each
short_length : (a : ℕ) (cs : List Content) → Short cs → length (places_at a cs) ≡ length cs
unfolding places_at Short
short_length a [] h = refl
short_length a (literal w ∷ cs) h = ap suc (short_length (a + 2) cs h)
short_length a (address x ∷ cs) h = ap suc (short_length (a + 2) cs h)
short_length a (long_address x ∷ cs) h = absurd h

-- the law of all encoders: what changes each row's words by g changes an instruction's words by g
module _ (g : List Content → List Content) (ls ls' : Table) (a a' : ℕ)
    (word_by : (w : ℕ) → g (literal w ∷ []) ≡ literal w ∷ [])
    (value_by : (w v : ℕ) → g (literal w ∷ literal v ∷ []) ≡ literal w ∷ literal v ∷ [])
    (label_by : (w : ℕ) (l : Text) → option_map g (with_label ls w l) ≡ with_label ls' w l)
    (displacement_by : (s : Text) → displacement ls a s ≡ displacement ls' a' s)
    (jumps_by : (s : Text) → jumps ls s ≡ jumps ls' s) where
  operation_by : (o : Operation) (ps : List Text) → option_map g (encode_operation ls a o ps) ≡ encode_operation ls' a' o ps
  unfolding encode_operation registers_row high_row low_row from_indirect to_indirect from_label to_label move_rows movea_row muls_rows cmp_rows moveq_row quick_row tst_row jump_row dbra_row branch_row
  operation_by move ps = simp (into, word_by, value_by, label_by)
  operation_by movea ps = simp (into, label_by)
  operation_by muls ps = simp (into, word_by, value_by)
  operation_by add ps = simp (into, word_by)
  operation_by sub ps = simp (into, word_by)
  operation_by cmp ps = simp (into, word_by, value_by)
  operation_by moveq ps = simp (into, word_by)
  operation_by subq ps = simp (into, word_by)
  operation_by asl ps = simp (into, word_by)
  operation_by tst ps = simp (into, word_by)
  operation_by nop ps = simp word_by
  operation_by simhalt ps = simp word_by
  operation_by jmp ps = simp (into, word_by, jumps_by)
  operation_by dbra ps = simp (into, word_by, displacement_by)
  operation_by (branch c) ps = simp (into, word_by, displacement_by)

  encode_by_lem : (names : List Mnemonic) (i : Instruction) → option_map g (encode_by names ls a i) ≡ encode_by names ls' a' i
  unfolding encode_by
  encode_by_lem names i = simp (bind_map, operation_by)

-- whatever the mnemonics in use
module _ (names : List Mnemonic) where
  -- an instruction's words from base b are those from base 0, the label addresses b higher
  encode_shift : (b : ℕ) (ls : Table) (a : ℕ) (i : Instruction) → option_map (shift_contents b) (encode_by names ls a i) ≡ encode_by names (shift_table b ls) (b + a) i
  unfolding shift_content
  encode_shift b ls a i =
      encode_by_lem (shift_contents b) ls (shift_table b ls) a (b + a) (λ w. refl) (λ w v. refl) (λ w l. sym (with_label_shift b ls w l))
      (λ s. sym (displacement_shift b ls a s)) (λ s. sym (jumps_shift b ls s)) names i

  -- no words, shifted, are no words
  pub words_shift : (b : ℕ) (ls : Table) (a : ℕ) (i : Instruction)
      → words_by (encode_by names) (shift_table b ls) (b + a) i ≡ shift_contents b (words_by (encode_by names) ls a i)
  words_shift b ls a i = rw (← encode_shift b ls a i) (go (encode_by names ls a i))
    where
      go : (o : Option (List Content)) → unwrap_or (option_map (shift_contents b) o) [] ≡ shift_contents b (unwrap_or o [])
      go None = refl
      go (Some cs) = refl

  -- two of an instruction's contents, none of 32 bits, are all of them
  encode_two : (ls : Table) (a : ℕ) (i : Instruction) → option_map first_two (encode_by names ls a i) ≡ encode_by names ls a i
  unfolding first_two single
  encode_two ls a i = encode_by_lem first_two ls ls a a (λ w. refl) (λ w v. refl) (with_label_two ls) (λ s. refl) (λ s. refl) names i

  pub words_short : (ls : Table) (a : ℕ) (i : Instruction) → Short (words_by (encode_by names) ls a i)
  words_short ls a i = rw (encode_two ls a i) at (short_two (encode_by names ls a i)).0

  pub at_most_two : (ls : Table) (a : ℕ) (i : Instruction) → length (places_at a (words_by (encode_by names) ls a i)) ≤ 2
  at_most_two ls a i = rw (short_length a (words_by (encode_by names) ls a i) (words_short ls a i)) (rw (encode_two ls a i) at (short_two (encode_by names ls a i)).1)

  -- an instruction that has words has one at least: an empty list of words, filled, is not the encoder's
  pub some_words : (ls : Table) (a : ℕ) (i : Instruction) (cs : List Content) → encode_by names ls a i ≡ Some cs → cs ≢ []
  unfolding filled
  some_words ls a i cs e f = let u = rw (e, f) at (encode_by_lem filled ls ls a a (λ w. refl) (λ w v. refl) (with_label_filled ls) (λ s. refl) (λ s. refl) names i) in clash cc
