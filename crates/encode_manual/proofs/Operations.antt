-- Operations that have no form, by the suffix and the number of operands. Assumes nothing.
use Rattle.std.specs.Prelude.{None}
use Rattle.rules.specs.Option.{bind}
use mathlib.Core.Path.{◌≡◌, refl}
use mathlib.Core.List.{[], ◌∷◌}
use Prim.Native.Nat.{ℕ}
use Rattle.rules.specs.Text.{Text}
use Rattle.rules.specs.Encode.{one, two}
use Rattle.requests.specs.ManualCall.{form_of, no_operand}
use Rattle.opcode.specs.declared.mnemonic.Operation.{Operation}
use Rattle.opcode.specs.declared.mnemonic.Operation.TheVariants.{Moveq, Move, Movea, Muls, Tst, Subq, Asl, Dbra, Nop, Add, Sub, Cmp, Jmp, Branch}
use Rattle.instruction.specs.declared.Suffix.{Suffix}
use Rattle.instruction.specs.declared.Suffix.TheVariants.{None, Empty, Long, Word, Other}
use Rattle.encode_manual.specs.Heads.{plain_head, word_head, long_head, head_by, form_by}

-- ---- no operand
module _ (o : Operation) where
  pub no_plain_bare : (o ≡ Nop → ⊥) → form_by (plain_head o) [] ≡ None
  unfolding bind form_of no_operand one two
  no_plain_bare = go o
    where
      go : (p : Operation) → (p ≡ Nop → ⊥) → form_by (plain_head p) [] ≡ None
      go Nop h = absurd (h refl)
      go p h = refl

  no_word_bare : form_by (word_head o) [] ≡ None
  unfolding bind form_of two
  no_word_bare = go o
    where
      go : (p : Operation) → form_by (word_head p) [] ≡ None
      go Moveq = refl
      go p = refl

  no_long_bare : form_by (long_head o) [] ≡ None
  unfolding bind form_of one two
  no_long_bare = go o
    where
      go : (p : Operation) → form_by (long_head p) [] ≡ None
      go Moveq = refl
      go p = refl

  -- and a suffix
  pub no_bare : (x : Suffix) → (x ≡ None → ⊥) → form_by (head_by x o) [] ≡ None
  unfolding bind
  no_bare None h = absurd (h refl)
  no_bare Empty h = refl
  no_bare Long h = no_long_bare
  no_bare Word h = no_word_bare
  no_bare Other h = refl

module _ (s : Text) where
  -- ---- one operand
  pub no_plain_one : (o : Operation) → ((c : ℕ) → o ≡ Branch c → ⊥) → (o ≡ Jmp → ⊥) → form_by (plain_head o) (s ∷ []) ≡ None
  unfolding bind form_of no_operand one two
  no_plain_one (Branch c) b j = absurd (b c refl)
  no_plain_one Jmp b j = absurd (j refl)
  no_plain_one o b j = refl

  no_word_one : (o : Operation) → form_by (word_head o) (s ∷ []) ≡ None
  unfolding bind form_of two
  no_word_one Moveq = refl
  no_word_one o = refl

  pub no_suffix_one : (o : Operation) (x : Suffix) → (x ≡ None → ⊥) → (x ≡ Long → ⊥) → form_by (head_by x o) (s ∷ []) ≡ None
  unfolding bind
  no_suffix_one o None h k = absurd (h refl)
  no_suffix_one o Long h k = absurd (k refl)
  no_suffix_one o Word h k = no_word_one o
  no_suffix_one o Empty h k = refl
  no_suffix_one o Other h k = refl

  pub no_long_one : (o : Operation) → (o ≡ Tst → ⊥) → form_by (long_head o) (s ∷ []) ≡ None
  unfolding bind form_of one two
  no_long_one Tst t = absurd (t refl)
  no_long_one o t = refl

  -- ---- two
  module _ (t : Text) where
    pub no_suffix_two : (o : Operation) (x : Suffix) → (x ≡ None → ⊥) → (x ≡ Word → ⊥) → (x ≡ Long → ⊥) → form_by (head_by x o) (s ∷ t ∷ []) ≡ None
    unfolding bind
    no_suffix_two o None h k l = absurd (h refl)
    no_suffix_two o Word h k l = absurd (k refl)
    no_suffix_two o Long h k l = absurd (l refl)
    no_suffix_two o Empty h k l = refl
    no_suffix_two o Other h k l = refl

    pub no_plain_two : (o : Operation) → (o ≡ Moveq → ⊥) → (o ≡ Dbra → ⊥) → form_by (plain_head o) (s ∷ t ∷ []) ≡ None
    unfolding bind form_of no_operand one two
    no_plain_two Moveq m d = absurd (m refl)
    no_plain_two Dbra m d = absurd (d refl)
    no_plain_two o m d = refl

    pub no_word_two : (o : Operation) → (o ≡ Move → ⊥) → (o ≡ Add → ⊥) → (o ≡ Sub → ⊥) → (o ≡ Cmp → ⊥) → (o ≡ Muls → ⊥) → form_by (word_head o) (s ∷ t ∷ []) ≡ None
    unfolding bind form_of two
    no_word_two Move m a b c p = absurd (m refl)
    no_word_two Add m a b c p = absurd (a refl)
    no_word_two Sub m a b c p = absurd (b refl)
    no_word_two Cmp m a b c p = absurd (c refl)
    no_word_two Muls m a b c p = absurd (p refl)
    no_word_two o m a b c p = refl

    pub no_long_two : (o : Operation) → (o ≡ Move → ⊥) → (o ≡ Movea → ⊥) → (o ≡ Cmp → ⊥) → (o ≡ Subq → ⊥) → (o ≡ Asl → ⊥) → form_by (long_head o) (s ∷ t ∷ []) ≡ None
    unfolding bind form_of one two
    no_long_two Move m a c q l = absurd (m refl)
    no_long_two Movea m a c q l = absurd (a refl)
    no_long_two Cmp m a c q l = absurd (c refl)
    no_long_two Subq m a c q l = absurd (q refl)
    no_long_two Asl m a c q l = absurd (l refl)
    no_long_two o m a c q l = refl
