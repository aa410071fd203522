-- Laws of an instruction's size: the order of the tests in code is as good as the rules'. Assumes nothing.
use Rattle.std.specs.Prelude.{Option, None, Some}
use mathlib.Core.Path.{◌≡◌, refl, sym, ap, ◌∙◌}
use mathlib.Core.Bool.{Bool, true, false, not, ◌&&◌, ◌||◌, cond, or-false, false≢true}
use mathlib.Core.List.{List, [], ◌∷◌}
use Prim.Native.Nat.{ℕ, ◌-◌, ◌≤◌, ◌<◌}
use native.Mathlib.Omega.{arith}
use lib.Dec.{eqb}
use lib.ListN.{length, take, get_or, drop}
use Rattle.rules.specs.Text.{Text, bytes, blank, upper, uppers, cut_at, cut_where, drop_empty, pieces, joined, same, starts, first_text, other_texts, last_text}
use Rattle.rules.specs.Line.{instruction_of, operands_of, is_l, is_plain, is_long, instruction_size, size}
use Rattle.text.specs.Pieces.{run}
use Rattle.text.proofs.Kept.{rest_is}
use Rattle.text.proofs.Compare.{eqb_sym, same_is}
use Rattle.text.specs.Spans.{part, span_text}
use Rattle.instruction.specs.FirstPiece.{suffix_text, suffix_by, suffix_of, head_of}
use Rattle.instruction.specs.Split.{operands_in, operands_at}
use Rattle.instruction.specs.Size.{says_long, sized_by, is_long_by, size_by, sized_of, may_be_long}
use Rattle.instruction.specs.declared.Operands.{Operands}
use Rattle.instruction.specs.declared.Suffix.{Suffix}
use Rattle.instruction.specs.declared.Suffix.TheVariants.{None, Empty, Long, Word, Other}
use Rattle.instruction.specs.declared.SizeRule.{SizeRule}
use Rattle.instruction.specs.declared.SizeRule.TheVariants.{Immediate, Move}
use Rattle.instruction.specs.declared.Head.{Head}
use Rattle.instruction.proofs.FirstPiece.{piece_filled, first_here, first_later, head_of_lem}
use Rattle.instruction.proofs.Places.{operands_of_lem}
use Rattle.instruction.proofs.Initials.{size_standing}

-- ---- the rules' test, mnemonic by mnemonic
says_long_lem : (f : Option Text) → says_long (suffix_of f) ≡ is_l f
unfolding says_long suffix_of suffix_by is_l same bytes
says_long_lem None = refl
says_long_lem (Some []) = refl
says_long_lem (Some (b ∷ s)) = go (same (b ∷ s) (bytes "L")) (same (b ∷ s) (bytes "W"))
  where
    go : (l w : Bool) → says_long (cond l Long (cond w Word Other)) ≡ l
    go true w = refl
    go false true = refl
    go false false = refl

-- 4 bytes, by whatever decides
abbrev pub is_long_if : Option SizeRule → Text → Text → Bool
is_long_if None s t = false
is_long_if (Some k) s t = is_long_by k s t

module _ (m : Text) (f : Option Text) (s t : Text) where
  long_rest : same m (bytes "MULS") ≡ false → same m (bytes "CMP") ≡ false → is_long_if (sized_by m (suffix_of f)) s t ≡ is_long m f s t
  unfolding is_long sized_by is_long_by
  long_rest d c = rw (says_long_lem f, d, c) (go (same m (bytes "MOVE") || same m (bytes "MOVEA")) (is_l f))
    where
      go : (n l : Bool) → is_long_if (cond (not l) None (cond n (Some Move) None)) s t ≡ (n && l && not (is_plain s) || n && l && not (is_plain t) || false && l && starts (bytes "#") s || false && starts (bytes "#") s)
      go true true = simp or-false
      go true false = refl
      go false true = refl
      go false false = refl

  long_cmp : m ≡ bytes "CMP" → is_long_if (sized_by m (suffix_of f)) s t ≡ is_long m f s t
  unfolding is_long sized_by is_long_by same bytes
  long_cmp e = rw (e, says_long_lem f) (go (is_l f))
    where
      go : (l : Bool) → is_long_if (cond (not l) None (Some Immediate)) s t ≡ (l && starts (bytes "#") s || false)
      go true = simp or-false
      go false = refl

  long_muls : m ≡ bytes "MULS" → is_long_if (sized_by m (suffix_of f)) s t ≡ is_long m f s t
  unfolding is_long sized_by is_long_by same bytes
  long_muls e = rw e

  pub long_by : is_long_if (sized_by m (suffix_of f)) s t ≡ is_long m f s t
  long_by = go (same m (bytes "MULS")) (same m (bytes "CMP")) refl refl
    where
      go : (d c : Bool) → same m (bytes "MULS") ≡ d → same m (bytes "CMP") ≡ c → is_long_if (sized_by m (suffix_of f)) s t ≡ is_long m f s t
      go true c p q = long_muls (same_is m (bytes "MULS") p)
      go false true p q = long_cmp (same_is m (bytes "CMP") q)
      go false false p q = long_rest p q

size_one : (k : Option SizeRule) (s : Text) → 2 ≡ size_by k (s ∷ [])
unfolding size_by
size_one None s = refl
size_one (Some k) s = refl

size_none : (k : Option SizeRule) → 2 ≡ size_by k []
unfolding size_by
size_none None = refl
size_none (Some k) = refl

size_more : (k : Option SizeRule) (s t : Text) (ps : List Text) → cond (is_long_if k s (last_text t ps)) 4 2 ≡ size_by k (s ∷ t ∷ ps)
unfolding size_by
size_more None s t ps = refl
size_more (Some k) s t ps = refl

pub size_by_lem : (m : Text) (f : Option Text) (ps : List Text) → instruction_size m f ps ≡ size_by (sized_by m (suffix_of f)) ps
unfolding instruction_size
size_by_lem m f [] = size_none (sized_by m (suffix_of f))
size_by_lem m f (s ∷ []) = size_one (sized_by m (suffix_of f)) s
size_by_lem m f (s ∷ t ∷ ps) = ap (λ (y : Bool). cond y 4 2) (sym (long_by m f s (last_text t ps))) ∙ size_more (sized_by m (suffix_of f)) s t ps

-- an instruction's size, by what decides it and its operands
pub size_is : (t : Text) → size (instruction_of t) ≡ size_by (sized_of t) (operands_in (joined (other_texts (pieces t))))
unfolding size instruction_of operands_of operands_in sized_of
size_is t = size_by_lem _ _ _

-- ---- a text's first byte
starts_byte : (c : ℕ) (t : Text) → 0 < length t → starts (c ∷ []) t ≡ eqb (get_or t 0 0) c
unfolding starts
starts_byte c [] h = absurd (omega arith)
starts_byte c (b ∷ t) h = go (eqb c b) refl
  where
    go : (y : Bool) → eqb c b ≡ y → starts (c ∷ []) (b ∷ t) ≡ eqb b c
    go true e = rw (e, starts) (sym (eqb_sym b c ∙ e))
    go false e = rw (e, starts) (sym (eqb_sym b c ∙ e))

pub plain_none : (t : Text) → length t ≡ 0 → false ≡ is_plain t
unfolding is_plain starts bytes
plain_none [] h = refl
plain_none (b ∷ t) h = absurd (omega arith)

pub plain_some : (t : Text) → 1 ≤ length t → is_plain t ≡ (eqb (get_or t 0 0) 68 || eqb (get_or t 0 0) 65 || eqb (get_or t 0 0) 40)
unfolding is_plain bytes
plain_some t h = let p : 0 < length t = omega arith in rw (starts_byte 68 t p, starts_byte 65 t p, starts_byte 40 t p)

-- ---- the returns of `sized`

not_long : (x : Suffix) → (x ≡ Long → ⊥) → says_long x ≡ false
unfolding says_long
not_long None h = refl
not_long Empty h = refl
not_long Long h = absurd (h refl)
not_long Word h = refl
not_long Other h = refl

module _ (m : Text) (x : Suffix) where
  pub sized_muls : same m (bytes "MULS") ≡ true → Some Immediate ≡ sized_by m x
  unfolding sized_by
  sized_muls a = rw a

  module _ (a : same m (bytes "MULS") ≡ false) where
    pub sized_short : (x ≡ Long → ⊥) → None ≡ sized_by m x
    unfolding sized_by
    sized_short b = rw (a, not_long x b)

    module _ (b : x ≡ Long) where
      pub sized_cmp : same m (bytes "CMP") ≡ true → Some Immediate ≡ sized_by m x
      unfolding sized_by says_long
      sized_cmp c = rw (a, b, c)

      module _ (c : same m (bytes "CMP") ≡ false) where
        pub sized_move : same m (bytes "MOVE") ≡ true → Some Move ≡ sized_by m x
        unfolding sized_by says_long
        sized_move d = rw (a, b, c, d)

        module _ (d : same m (bytes "MOVE") ≡ false) {y : Bool} (e : same m (bytes "MOVEA") ≡ y) where
          pub sized_rest : cond y (Some Move) None ≡ sized_by m x
          unfolding sized_by says_long
          sized_rest = rw (a, b, c, d, e)

-- ---- the returns of `takes_four`
module _ (k : SizeRule) (s t : Text) where
  pub four_immediate : k ≡ Immediate → {y : Bool} → y ≡ starts (bytes "#") s → y ≡ is_long_by k s t
  unfolding is_long_by
  four_immediate e p = rw e p

  module _ (e : k ≡ Move) {y : Bool} (p : y ≡ is_plain s) where
    pub four_first : y ≡ false → not y ≡ is_long_by k s t
    unfolding is_long_by
    four_first h = rw (e, ← p, h)

    pub four_last : y ≡ true → {z : Bool} → z ≡ is_plain t → not z ≡ is_long_by k s t
    unfolding is_long_by
    four_last h q = rw (e, ← p, h, ← q)

-- ---- the returns of `size_of`
module _ (k : SizeRule) (t : Text) (o : Operands) (e : o ≡ operands_at t) where
  pub size_few : o.count < 2 → 2 ≡ size_by (Some k) (operands_in t)
  unfolding size_by
  size_few h = go (operands_in t) (operands_of_lem t o e).count
    where
      go : (ps : List Text) → o.count ≡ length ps → 2 ≡ size_by (Some k) ps
      go [] n = refl
      go (s ∷ []) n = refl
      go (s ∷ u ∷ ps) n = absurd (omega arith)

  module _ (h : 2 ≤ o.count) where
    size_many : cond (is_long_by k (span_text t o.first) (span_text t o.last)) 4 2 ≡ size_by (Some k) (operands_in t)
    unfolding size_by first_text other_texts last_text
    size_many = go (operands_in t) (operands_of_lem t o e).count ((operands_of_lem t o e).first (omega arith)).text ((operands_of_lem t o e).last (omega arith)).text
      where
        go : (ps : List Text) → o.count ≡ length ps → span_text t o.first ≡ first_text ps → span_text t o.last ≡ last_text (first_text ps) (other_texts ps)
            → cond (is_long_by k (span_text t o.first) (span_text t o.last)) 4 2 ≡ size_by (Some k) ps
        go [] n p q = absurd (omega arith)
        go (s ∷ []) n p q = absurd (omega arith)
        go (s ∷ u ∷ ps) n p q = rw (p, q)

    module _ {y : Bool} (q : y ≡ is_long_by k (span_text t o.first) (span_text t o.last)) where
      pub size_four : y ≡ true → 4 ≡ size_by (Some k) (operands_in t)
      size_four p = rw (← q, p) at size_many

      pub size_two : y ≡ false → 2 ≡ size_by (Some k) (operands_in t)
      size_two p = rw (← q, p) at size_many

-- ---- the first byte of an instruction
either_fixed : (l : Bool) → ◌≡◌ {A = Option SizeRule} (cond l None None) None
either_fixed true = refl
either_fixed false = refl

-- no operand decides for a mnemonic that is empty, or starts with neither M nor C
rule_empty : (x : Suffix) → sized_by [] x ≡ None
unfolding sized_by same bytes
rule_empty x = either_fixed (not (says_long x))

rule_byte : (x : Suffix) (c : ℕ) (m : Text) → eqb c 77 ≡ false → eqb c 67 ≡ false → sized_by (c ∷ m) x ≡ None
unfolding sized_by same bytes
rule_byte x c m d e = rw (d, e, same) (either_fixed (not (says_long x)))

rule_none : sized_of [] ≡ None
unfolding sized_of pieces cut_where cut_at drop_empty first_text uppers
rule_none = rule_empty _

rule_other : (b : ℕ) (s : Text) → eqb (upper b) 77 ≡ false → eqb (upper b) 67 ≡ false → blank b ≡ false → sized_of (b ∷ s) ≡ None
unfolding sized_of uppers
rule_other b s d e k = go (eqb 46 b) refl
  where
    go : (y : Bool) → eqb 46 b ≡ y → sized_of (b ∷ s) ≡ None
    go true q = rw (piece_filled b s k, first_here b (take (run s) s) q) (rule_empty _)
    go false q = rw (piece_filled b s k, first_later b (take (run s) s) q) (rule_byte _ (upper b) _ d e)

neither : (x y z : Bool) → (x || y || z) ≡ false → (x ≡ false) × (y ≡ false) × (z ≡ false)
neither true y z h = absurd (false≢true (sym h))
neither false true z h = absurd (false≢true (sym h))
neither false false z h = (refl, refl, h)

rule_short : (t : Text) → may_be_long t ≡ false → sized_of t ≡ None
unfolding may_be_long
rule_short [] h = rule_none
rule_short (b ∷ s) h = let n = neither _ _ _ h in rule_other b s n.0 n.1 n.2

size_by_none : (ps : List Text) → 2 ≡ size_by None ps
unfolding size_by
size_by_none ps = refl

-- ---- the returns of `instruction_size`
pub answer_short : (t : Text) {y : Bool} → y ≡ may_be_long t → y ≡ false → 2 ≡ size (instruction_of t)
answer_short t q p = rw (rule_short t (sym q ∙ p)) (size_by_none _) ∙ sym (size_is t)

module _ (t : Text) (h : Head) (e : h ≡ head_of t) {x : Suffix} (u : x ≡ suffix_of (suffix_text t)) {k : Option SizeRule} (q : k ≡ sized_by (uppers (part t h.start h.end)) x) where
  rule_is : k ≡ sized_of t
  unfolding sized_of
  rule_is = q ∙ rw ((head_of_lem t h e).mnemonic, u)

  -- by the joined tail
  answer_by : {r : ℕ} → r ≡ size_by k (operands_in (joined (pieces (drop h.tail t)))) → r ≡ size (instruction_of t)
  answer_by a = a ∙ rw ((head_of_lem t h e).others, rule_is) (sym (size_is t))

  pub answer_fixed : k ≡ None → 2 ≡ size (instruction_of t)
  answer_fixed p = answer_by (rw p (size_by_none _))

  pub answer_standing : {r : ℕ} → r ≡ size_by k (operands_in (take (length t - h.tail) (drop h.tail t))) → r ≡ size (instruction_of t)
  answer_standing a = answer_by (rw (rest_is t h.tail) at a ∙ size_standing k (drop h.tail t))
