-- What a task is to the passes, and what a line does to the first pass: one law for each fact. Assumes nothing.
use Rattle.std.specs.Prelude.{Option, None, Some}
use Prim.Native.Nat.{ℕ, ◌<◌, ◌≤◌}
use mathlib.Core.Path.{◌≡◌, refl}
use mathlib.Core.Logic.{◌≢◌}
use mathlib.Core.Bool.{Bool, true, false}
use mathlib.Core.List.{List, [], ◌∷◌}
use borrow.Author.Tests.{ltb-true, ltb-false}
use lib.Dec.{ltb}
use Rattle.rules.specs.Limits.{address_limit}
use Rattle.rules.specs.Line.{SourceLine, Instruction, Task, skipped, end, org, no_org, label_only, instruction, value, space, line_of}
use Rattle.rules.specs.Label.{Table, record_all}
use Rattle.rules.specs.Answer.{Answer, accepted, refused, and_then}
use Rattle.rules.specs.Assemble.{Sizes, Encoder, Pass, address_after, is_end, leaving, step_by, putting, first_pass_by, data_contents, code_contents_by}
use Rattle.promises.specs.Refusals.{next_address}
use Rattle.promises.proofs.Compared.{clash}

-- the promise's address after a line is the rules'
pub next_address_lem : (z : Sizes) (base a : ℕ) (k : Task) → next_address z base a k ≡ address_after z base a k
unfolding next_address address_after
next_address_lem z base a skipped = refl
next_address_lem z base a end = refl
next_address_lem z base a (org v) = refl
next_address_lem z base a no_org = refl
next_address_lem z base a label_only = refl
next_address_lem z base a (instruction i) = refl
next_address_lem z base a (value n v) = refl
next_address_lem z base a (space n) = refl

-- END, by the rules' test
pub is_end_lem : (k : Task) → is_end k ≡ true → k ≡ end
unfolding is_end
is_end_lem skipped e = clash cc
is_end_lem end e = refl
is_end_lem (org v) e = clash cc
is_end_lem no_org e = clash cc
is_end_lem label_only e = clash cc
is_end_lem (instruction i) e = clash cc
is_end_lem (value n v) e = clash cc
is_end_lem (space n) e = clash cc

pub not_end : (k : Task) → is_end k ≡ false → k ≢ end
unfolding is_end
not_end k e f = let u : true ≡ false = rw f at e in clash cc

-- a task's words: none, an instruction's, or a value's
pub data Worded : Task → Type 0 where
  silent : {k : Task} → data_contents k ≡ [] → ((e : Encoder) (t : Table) (a : ℕ) → code_contents_by e t a k ≡ []) → Worded k
  codes : (i : Instruction) → Worded (instruction i)
  holds : (n v : ℕ) → Worded (value n v)

unfoldable pub worded : (k : Task) → Worded k
unfolding data_contents code_contents_by
worded skipped = silent refl (λ e t a. refl)
worded end = silent refl (λ e t a. refl)
worded (org v) = silent refl (λ e t a. refl)
worded no_org = silent refl (λ e t a. refl)
worded label_only = silent refl (λ e t a. refl)
worded (instruction i) = codes i
worded (value n v) = holds n v
worded (space n) = silent refl (λ e t a. refl)

-- a line does to the pass one of four things: it ends it, holds a label too many, leaves too high an address, or lets it go on
module _ (z : Sizes) (base a : ℕ) (t : Table) (l : SourceLine) (ls : List SourceLine) (P : Answer Pass → Type 0) where
  abbrev task : Task
  task = (line_of l.text).task

  abbrev recording : Option Table
  recording = record_all l a (line_of l.text).names t

  pub pass_line : (task ≡ end → P (accepted (record { labels = t; puts = [] })))
      → (task ≢ end → recording ≡ None → P (refused 6 l.number))
      → ((t' : Table) → task ≢ end → recording ≡ Some t' → address_limit ≤ address_after z base a task → P (refused 5 l.number))
      → ((t' : Table) → task ≢ end → recording ≡ Some t' → address_after z base a task < address_limit
      → P (and_then (first_pass_by z base (address_after z base a task) t' ls) (putting a task)))
      → P (first_pass_by z base a t (l ∷ ls))
  unfolding first_pass_by step_by leaving
  pass_line halts fills leaves goes = go (is_end task) refl recording refl (ltb (address_after z base a task) address_limit) refl
    where
      go : (x : Bool) → is_end task ≡ x → (o : Option Table) → recording ≡ o → (y : Bool) → ltb (address_after z base a task) address_limit ≡ y
          → P (first_pass_by z base a t (l ∷ ls))
      go true e o f y g = rw (first_pass_by, step_by, e) (halts (is_end_lem task e))
      go false e None f y g = rw (first_pass_by, step_by, e, f) (fills (not_end task e) f)
      go false e (Some t') f true g = rw (first_pass_by, step_by, e, f, g) (goes t' (not_end task e) f (ltb-true _ address_limit g))
      go false e (Some t') f false g = rw (first_pass_by, step_by, e, f, g) (leaves t' (not_end task e) f (ltb-false _ address_limit g))
