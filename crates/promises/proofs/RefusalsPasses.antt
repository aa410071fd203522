-- The first pass refuses by the first line at which condition 6 or 5 holds, or by none. Assumes nothing.
use Rattle.std.specs.Prelude.{Some}
use Prim.Native.Nat.{ℕ, suc, ◌+◌, ◌<◌, ◌≤◌}
use mathlib.Core.Path.{◌≡◌, refl}
use mathlib.Core.Logic.{◌≢◌}
use mathlib.Core.List.{List, [], ◌∷◌}
use native.Mathlib.Omega.{arith}
use lib.ListN.{length, drop}
use Rattle.rules.specs.Limits.{address_limit}
use Rattle.rules.specs.Text.{Text, cut_at}
use Rattle.rules.specs.Line.{SourceLine, numbered, lines_of, end, line_of}
use Rattle.rules.specs.Label.{Table, record_all}
use Rattle.rules.specs.Answer.{accepted}
use Rattle.rules.specs.Assemble.{Sizes, Pass, address_after, first_pass_by}
use Rattle.promises.specs.Refusals.{IsLine, next_address, names_of, on_top, Reached, start, further, TooMany, PassCondition, address_over, labels_over, of_source}
use Rattle.promises.proofs.Compared.{Compared, less, more, equal, compared}
use Rattle.promises.proofs.Stages.{done, pass_lines}
use Rattle.promises.proofs.RefusalsLines.{line_at, no_line, Lines, Either, six, five, either, Fine, fine_next, Through, stop_labels, stop_address, putting_through, From}
use Rattle.promises.proofs.RefusalsLabels.{no_names, Holds, holds_none, not_recorded, all_recorded}
use Rattle.promises.proofs.Tasks.{next_address_lem, pass_line}
use Rattle.promises.proofs.Shapes.{end_unlabelled}

module _ (z : Sizes) (base : ℕ) (s : Text) where
  -- where the passes stand after j lines is one place
  pub reached_once : {j a b : ℕ} {ns ms : List Text} → Reached z base s j a ns → Reached z base s j b ms → (a ≡ b) × (ns ≡ ms)
  reached_once start start = (refl, refl)
  reached_once (further {l = k} r e f) (further {l = l} q g h) =
      let same = reached_once r q in
      let u = same.0 in
      let v = same.1 in
      let w : k ≡ l = cc in
      (cc, cc)

  -- no line passed is the end
  pub not_end : {j a : ℕ} {ns : List Text} → Reached z base s j a ns → (i : ℕ) (l : Text) → i < j → IsLine s i l → (line_of l).task ≢ end
  not_end start i l h e = absurd (omega arith)
  not_end (further {j} {l = k} r f g) i l h e = go (compared i j) (λ u v w. not_end r i l u v w)
    where
      go : Compared i j → (i < j → IsLine s i l → (line_of l).task ≢ end) → (line_of l).task ≢ end
      go (less u) ih = ih u e
      go (more u) ih = absurd (omega arith)
      go (equal u) ih = let w : k ≡ l = cc in λ v. g (rw w v)

module _ (z : Sizes) (base : ℕ) (s : Text) where
  abbrev C : ℕ → ℕ → Type 0
  C = PassCondition z base s

  -- the conditions at a line that the passes come to
  address_at : {j a : ℕ} {ns : List Text} {l : Text} → Reached z base s j a ns → IsLine s j l → C 5 (suc j) → address_limit ≤ next_address z base a (line_of l).task
  address_at {l = l} r e (address_over {l = k} q f h) =
      let u = (reached_once z base s r q).0 in
      let w : l ≡ k = cc in
      rw (u, w) (omega (arith, h))
  address_at r e (of_source i) = elim i [ ]

  labels_at : {j a : ℕ} {ns : List Text} {l : Text} → Reached z base s j a ns → IsLine s j l → C 6 (suc j) → TooMany (names_of (line_of l)) ns
  labels_at {l = l} r e (labels_over {l = k} q f h) =
      let u = (reached_once z base s r q).1 in
      let w : l ≡ k = cc in
      rw (u, w) h
  labels_at r e (of_source i) = elim i [ ]

  -- 5 or 6 at a place is at a line that the passes come to
  record AtLine (p : ℕ) : Type 0 where
    index : ℕ
    place : p ≡ suc index
    address : ℕ
    names : List Text
    text : Text
    reached : Reached z base s index address names
    is : IsLine s index text

  -- 5, 6, and either of the two
  at_address : {p : ℕ} → C 5 p → AtLine p
  at_address (address_over {j} {a} {ns} {l} r f h) = record { index = j; place = refl; address = a; names = ns; text = l; reached = r; is = f }
  at_address (of_source i) = elim i [ ]

  at_labels : {p : ℕ} → C 6 p → AtLine p
  at_labels (labels_over {j} {a} {ns} {l} r f h) = record { index = j; place = refl; address = a; names = ns; text = l; reached = r; is = f }
  at_labels (of_source i) = elim i [ ]

  at_line : (m p : ℕ) → Lines m → C m p → AtLine p
  at_line m p i c = go (either i)
    where
      go : Either m → AtLine p
      go (six e) = at_labels (rw e at c)
      go (five e) = at_address (rw e at c)

  -- END changes neither the address nor the labels
  fine_end : (j a : ℕ) (ns : List Text) (l : Text) → Fine C j → Reached z base s j a ns → IsLine s j l → a < address_limit → (line_of l).task ≡ end → Fine C (suc j)
  unfolding next_address
  fine_end j a ns l f r e b k =
      fine_next C j f (λ c. let h = rw k at (address_at r e c) in omega arith) (λ c. no_names ns (rw (end_unlabelled l k) at (labels_at r e c)))

  -- no condition at the first j lines, and the passes come to no line after them
  clear_lines : (j : ℕ) → Fine C j → ((p : ℕ) (l : AtLine p) → ¬ (j ≤ l.index)) → (p : Pass) → Through C (accepted p)
  clear_lines j f g p = pass_lines none_at done
    where
      none_at : (m q : ℕ) → Lines m → ¬ C m q
      none_at m q i c = at (at_line m q i c) (compared (at_line m q i c).index j)
        where
          at : (l : AtLine q) → Compared l.index j → ⊥
          at l (less k) = f m q i (omega (arith, l.place)) c
          at l (more k) = g q l (omega arith)
          at l (equal k) = g q l (omega arith)

  -- the lines are over, or one is END
  no_more : (j : ℕ) → Fine C j → drop j (cut_at 10 s) ≡ [] → (p : Pass) → Through C (accepted p)
  no_more j f e = clear_lines j f (λ p l h. no_line (cut_at 10 s) l.index j l.text e h l.is)

  ended : (j : ℕ) (l : Text) → Fine C (suc j) → IsLine s j l → (line_of l).task ≡ end → (p : Pass) → Through C (accepted p)
  ended j l f e h = clear_lines (suc j) f (λ p k u. not_end z base s k.reached j l u e h)

  -- the pass goes on while no condition holds at the lines before
  pass : (ls : List Text) (j i a : ℕ) (t : Table) (ns : List Text) → drop j (cut_at 10 s) ≡ ls → Reached z base s j a ns → Holds t ns → a < address_limit → Fine C j
      → From C z base j i a t ls
  unfolding first_pass_by numbered
  pass [] j i a t ns e r h b f = no_more j f e _
  pass (l ∷ ls) j i a t ns e r h b f =
      pass_line z base a t here (numbered (suc (suc j)) (suc (i + length l)) ls) (Through C)
      (λ k. ended j l (fine_end j a ns l f r is b k) is k _)
      (λ k o. stop_labels C j f (labels_over r is (not_recorded here a (line_of l).names t ns h o)))
      (λ t' k o v. stop_address C j f (fits t' o) (address_over r is (rw after v)))
      (λ t' k o v. putting_through C a (line_of l).task _
      (pass ls (suc j) (suc (i + length l)) (address_after z base a (line_of l).task) t' (on_top (names_of (line_of l)) ns) (line_at (cut_at 10 s) j l ls e).1
      (rw after at (further r is k)) (all_recorded here a (line_of l).names t ns h t' o).1 v (fine_next C j f (λ u. let w = rw after at (address_at r is u) in omega arith) (fits t' o))))
    where
      here : SourceLine
      here = record { number = suc j; start = i; text = l }

      is : IsLine s j l
      is = (line_at (cut_at 10 s) j l ls e).0

      after : next_address z base a (line_of l).task ≡ address_after z base a (line_of l).task
      after = next_address_lem z base a (line_of l).task

      fits : (t' : Table) → record_all here a (line_of l).names t ≡ Some t' → ¬ C 6 (suc j)
      fits t' o v = (all_recorded here a (line_of l).names t ns h t' o).0 (labels_at r is v)

  -- the pass over the whole source
  pub pass_through : base < address_limit → Through C (first_pass_by z base base [] (lines_of s))
  unfolding lines_of
  pass_through b = pass (cut_at 10 s) 0 0 base [] [] refl start holds_none b (λ m q r h c. let k = (at_line m q r c).place in omega arith)
