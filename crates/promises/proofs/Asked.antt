-- An accepted pass line by line: each line that is read asks at its index and address, and where the pass stops. Assumes nothing.
use Rattle.std.specs.Prelude.{Some, slice_get}
use Prim.Native.Nat.{ℕ, zero, suc, ◌+◌, ◌<◌, ◌≤◌}
use mathlib.Core.Path.{◌≡◌, refl, sym, ap, ◌∙◌}
use mathlib.Core.Logic.{◌≢◌}
use mathlib.Core.Bool.{Bool, true, false}
use mathlib.Core.List.{List, [], ◌∷◌, ◌++◌}
use native.Mathlib.Omega.{arith}
use lib.ListN.{length, take, drop, length-drop}
use Rattle.rules.specs.Text.{Text, cut_at}
use Rattle.rules.specs.Line.{SourceLine, numbered, lines_of, end, line_of}
use Rattle.rules.specs.Label.{Table}
use Rattle.rules.specs.Answer.{Answer, accepted, refused, and_then}
use Rattle.rules.specs.Assemble.{Sizes, Pass, address_after, is_end, putting, first_pass_by}
use Rattle.promises.specs.Refusals.{IsLine, next_address, Reached, start, further}
use Rattle.promises.proofs.Compared.{clash}
use Rattle.promises.proofs.RefusalsLines.{line_at}
use Rattle.promises.proofs.Tasks.{next_address_lem, is_end_lem, not_end, pass_line}

-- a list at an index
at_drop : {A : Type 0} (xs : List A) (j : ℕ) (x : A) → slice_get xs j ≡ Some x → drop j xs ≡ x ∷ drop (suc j) xs
at_drop [] j x e = clash cc
at_drop (y ∷ xs) zero x e = let u : y ≡ x = cc in ap (λ z. z ∷ xs) u
at_drop (y ∷ xs) (suc j) x e = at_drop xs j x e

pub drop_more : {A : Type 0} (xs : List A) (j : ℕ) (y : A) (ys : List A) → drop j xs ≡ y ∷ ys → drop (suc j) xs ≡ ys
drop_more [] zero y ys e = clash cc
drop_more [] (suc j) y ys e = clash cc
drop_more (x ∷ xs) zero y ys e = cc
drop_more (x ∷ xs) (suc j) y ys e = drop_more xs j y ys e

cut_at_lem : {A : Type 0} (xs : List A) (j : ℕ) (y : A) (ys : List A) → drop j xs ≡ y ∷ ys → xs ≡ take j xs ++ (y ∷ drop (suc j) xs)
cut_at_lem [] zero y ys e = clash cc
cut_at_lem [] (suc j) y ys e = clash cc
cut_at_lem (x ∷ xs) zero y ys e = let u : x ≡ y = cc in ap (λ z. z ∷ xs) u
cut_at_lem (x ∷ xs) (suc j) y ys e = ap (λ r. x ∷ r) (cut_at_lem xs j y ys e)

module _ (z : Sizes) (base : ℕ) where
  -- a line that an accepted pass reads, and the pass after it
  record Went (n i a : ℕ) (l : Text) (ls : List Text) (q : Pass) : Type 0 where
    table : Table
    rest : Pass
    goes : first_pass_by z base (next_address z base a (line_of l).task) table (numbered (suc n) (suc (i + length l)) ls) ≡ accepted rest
    labels : q.labels ≡ rest.labels
    puts : q.puts ≡ record { address = a; task = (line_of l).task } ∷ rest.puts

  went : (n i a : ℕ) (t : Table) (l : Text) (ls : List Text) (q : Pass) → (line_of l).task ≢ end
      → first_pass_by z base a t (numbered n i (l ∷ ls)) ≡ accepted q → Went n i a l ls q
  unfolding numbered and_then putting
  went n i a t l ls q k =
      pass_line z base a t (record { number = n; start = i; text = l }) others (λ r. r ≡ accepted q → Went n i a l ls q)
      (λ e h. absurd (k e)) (λ e o h. clash cc) (λ t' e o v h. clash cc) (λ t' e o v. on t' (first_pass_by z base after t' others) refl)
    where
      others : List SourceLine
      others = numbered (suc n) (suc (i + length l)) ls

      after : ℕ
      after = address_after z base a (line_of l).task

      on : (t' : Table) (r : Answer Pass) → first_pass_by z base after t' others ≡ r → and_then r (putting a (line_of l).task) ≡ accepted q → Went n i a l ls q
      on t' (refused m p) f g = clash cc
      on t' (accepted p) f g =
          let u : record { labels = p.labels; puts = record { address = a; task = (line_of l).task } ∷ p.puts } ≡ q = cc in
          record {
            table = t';
            rest = p;
            goes = rw (next_address_lem z base a (line_of l).task) f;
            labels = ap (λ (x : Pass). x.labels) (sym u);
            puts = ap (λ (x : Pass). x.puts) (sym u);
          }

  -- the pass after j lines of an accepted source
  module _ (s : Text) (p : Pass) (h : first_pass_by z base base [] (lines_of s) ≡ accepted p) where
    record After (j a : ℕ) : Type 0 where
      table : Table
      index : ℕ
      rest : Pass
      goes : first_pass_by z base a table (numbered (suc j) index (drop j (cut_at 10 s))) ≡ accepted rest
      labels : p.labels ≡ rest.labels
      puts : drop j p.puts ≡ rest.puts

    after_line : {j a : ℕ} (b : After j a) (l : Text) → IsLine s j l → (line_of l).task ≢ end → Went (suc j) b.index a l (drop (suc j) (cut_at 10 s)) b.rest
    after_line {j} {a} b l e k =
        went (suc j) b.index a b.table l (drop (suc j) (cut_at 10 s)) b.rest k (rw (at_drop (cut_at 10 s) j l e) at b.goes)

    after : {j a : ℕ} {ns : List Text} → Reached z base s j a ns → After j a
    unfolding lines_of
    after start = record { table = []; index = 0; rest = p; goes = h; labels = refl; puts = refl }
    after (further {j} {l = l} r e f) =
        let b = after r in
        let w = after_line b l e f in
        record {
          table = w.table;
          index = suc (b.index + length l);
          rest = w.rest;
          goes = w.goes;
          labels = b.labels ∙ w.labels;
          puts = drop_more p.puts j _ w.rest.puts (b.puts ∙ w.puts);
        }

    -- a line that is read asks at its index
    pub asked : {j a : ℕ} {ns : List Text} (l : Text) → Reached z base s j a ns → IsLine s j l → (line_of l).task ≢ end
        → drop j p.puts ≡ record { address = a; task = (line_of l).task } ∷ drop (suc j) p.puts
    asked {j} {a} l r e f =
        let b = after r in
        let w = after_line b l e f in
        let u = b.puts ∙ w.puts in
        rw (drop_more p.puts j _ w.rest.puts u) u

    pub put_at_lem : {j a : ℕ} {ns : List Text} (l : Text) → Reached z base s j a ns → IsLine s j l → (line_of l).task ≢ end
        → p.puts ≡ take j p.puts ++ (record { address = a; task = (line_of l).task } ∷ drop (suc j) p.puts)
    put_at_lem {j} l r e f = cut_at_lem p.puts j _ (drop (suc j) p.puts) (asked l r e f)

    -- so the lines before are no more than what is asked
    pub asked_before : {j a : ℕ} {ns : List Text} → Reached z base s j a ns → j ≤ length p.puts
    asked_before start = omega arith
    asked_before (further {j} {l = l} r e f) = let u = simp length-drop at (ap length (asked l r e f)) in omega arith

    -- after END, and after the last line, nothing is asked
    pub ended : {j a : ℕ} {ns : List Text} (l : Text) → Reached z base s j a ns → IsLine s j l → (line_of l).task ≡ end → drop j p.puts ≡ []
    unfolding numbered
    ended {j} {a} l r e k =
        let b = after r in
        b.puts ∙ pass_line z base a b.table (record { number = suc j; start = b.index; text = l }) _ (λ x. x ≡ accepted b.rest → b.rest.puts ≡ [])
        (λ f h. ap (λ (x : Pass). x.puts) (let u : b.rest ≡ record { labels = b.table; puts = [] } = cc in u)) (λ f o h. absurd (f k)) (λ t' f o v h. absurd (f k))
        (λ t' f o v h. absurd (f k)) (rw (at_drop (cut_at 10 s) j l e) at b.goes)

    pub over : {j a : ℕ} {ns : List Text} → Reached z base s j a ns → drop j (cut_at 10 s) ≡ [] → drop j p.puts ≡ []
    unfolding numbered first_pass_by
    over r e =
        let b = after r in
        let g = rw e at b.goes in
        b.puts ∙ ap (λ (x : Pass). x.puts) (let u : b.rest ≡ record { labels = b.table; puts = [] } = cc in u)

-- the line after the first j ones: it is read, and asks for something or is END; or END stands before it, or there are no more lines
module _ (z : Sizes) (base : ℕ) (s : Text) where
  pub data Lined (j : ℕ) : Type 0 where
    asks : {a : ℕ} {ns : List Text} {l : Text} → Reached z base s j a ns → IsLine s j l → (line_of l).task ≢ end → Lined j
    ends : {a : ℕ} {ns : List Text} {l : Text} → Reached z base s j a ns → IsLine s j l → (line_of l).task ≡ end → Lined j
    past_end : {i a : ℕ} {ns : List Text} {l : Text} → Reached z base s i a ns → IsLine s i l → (line_of l).task ≡ end → i < j → Lined j
    past_lines : {i a : ℕ} {ns : List Text} → Reached z base s i a ns → drop i (cut_at 10 s) ≡ [] → i ≤ j → Lined j

  look : {j a : ℕ} {ns : List Text} → Reached z base s j a ns → Lined j
  look {j} {a} {ns} r = go (drop j (cut_at 10 s)) refl
    where
      on : (l : Text) → IsLine s j l → (x : Bool) → is_end (line_of l).task ≡ x → Lined j
      on l e true f = ends r e (is_end_lem (line_of l).task f)
      on l e false f = asks r e (not_end (line_of l).task f)

      go : (ls : List Text) → drop j (cut_at 10 s) ≡ ls → Lined j
      go [] e = past_lines r e (omega arith)
      go (l ∷ ls) e = on l (line_at (cut_at 10 s) j l ls e).0 (is_end (line_of l).task) refl

  next : {j : ℕ} → Lined j → Lined (suc j)
  next (asks r e f) = look (further r e f)
  next (ends r e f) = past_end r e f (omega arith)
  next (past_end r e f h) = past_end r e f (omega arith)
  next (past_lines r e h) = past_lines r e (omega arith)

  pub lined : (j : ℕ) → Lined j
  lined zero = look start
  lined (suc j) = next (lined j)
