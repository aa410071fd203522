-- The order of a call's checks, as a list of stages, and what it is for a call to refuse exactly by them. Assumes nothing.
use Rattle.std.specs.Prelude.{ℕ, ◌<◌, ◌≡◌, ◌↔◌, List, [], ◌∷◌}
use Rattle.rules.specs.Answer.{Answer, refused}

-- a stage: one number, over the whole input; or several, line by line, on each line in that order
pub data Stage : Type 0 where
  all : ℕ → Stage
  by_line : List ℕ → Stage

abbrev pub numbers : Stage → List ℕ
numbers (all n) = n ∷ []
numbers (by_line ns) = ns

-- n is one of the numbers; m stands ahead of n among them; n is a number of one of the stages
pub data OneOf (n : ℕ) : List ℕ → Type 0 where
  here : {k : ℕ} {ns : List ℕ} → n ≡ k → OneOf n (k ∷ ns)
  there : {k : ℕ} {ns : List ℕ} → OneOf n ns → OneOf n (k ∷ ns)

pub data Ahead (m n : ℕ) : List ℕ → Type 0 where
  ahead : {k : ℕ} {ns : List ℕ} → m ≡ k → OneOf n ns → Ahead m n (k ∷ ns)
  behind : {k : ℕ} {ns : List ℕ} → Ahead m n ns → Ahead m n (k ∷ ns)

pub data Checked (n : ℕ) : List Stage → Type 0 where
  at_once : {s : Stage} {ss : List Stage} → OneOf n (numbers s) → Checked n (s ∷ ss)
  after : {s : Stage} {ss : List Stage} → Checked n ss → Checked n (s ∷ ss)

-- condition m at place q is checked before condition n at place p
pub data CheckedBefore (m q n p : ℕ) : List Stage → Type 0 where
  -- in an earlier stage
  by_stage : {s : Stage} {ss : List Stage} → OneOf m (numbers s) → Checked n ss → CheckedBefore m q n p (s ∷ ss)
  -- in one that goes line by line, on an earlier line
  within_line : {ns : List ℕ} {ss : List Stage} → OneOf m ns → OneOf n ns → q < p → CheckedBefore m q n p (by_line ns ∷ ss)
  -- or on the same line, where m stands ahead of n
  on_line : {ns : List ℕ} {ss : List Stage} → Ahead m n ns → q ≡ p → CheckedBefore m q n p (by_line ns ∷ ss)
  further_on : {s : Stage} {ss : List Stage} → CheckedBefore m q n p ss → CheckedBefore m q n p (s ∷ ss)

-- condition n holds, "at that place, and none that" is checked "before it"
abbrev pub FirstOf : List Stage → (ℕ → ℕ → Type 0) → ℕ → ℕ → Type 0
FirstOf stages Condition n p = Condition n p × ((m q : ℕ) → CheckedBefore m q n p stages → ¬ Condition m q)

-- "an answer is refusal (n, place) exactly if" that is so
abbrev pub RefusesExactly : {A : Type 0} → List Stage → (ℕ → ℕ → Type 0) → Answer A → Type 0
RefusesExactly stages Condition r = (n p : ℕ) → (r ≡ refused n p) ↔ FirstOf stages Condition n p
