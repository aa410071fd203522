-- The sheet: the class of each line of an accepted source, which is the one that its text and the list say, and how many there are of each.
-- Assumes nothing.
use Rattle.std.specs.Prelude.{Some, slice_get}
use Prim.Native.Nat.{ℕ, zero, suc, ◌+◌, ◌-◌, ◌<◌, ◌≤◌}
use mathlib.Core.Path.{◌≡◌, refl, sym, ap, ◌∙◌}
use mathlib.Core.Logic.{◌≢◌}
use mathlib.Core.Bool.{Bool, true, false, cond}
use mathlib.Core.List.{List, [], ◌∷◌, ◌++◌, map}
use native.Mathlib.Omega.{arith}
use borrow.Author.Tests.{eqb-true, eqb-false}
use lib.Dec.{eqb}
use lib.ListN.{length, drop, replicate, length-append, length-map, length-drop, length-replicate}
use Rattle.rules.specs.Text.{Text, trim, cut_at}
use Rattle.rules.specs.Line.{SourceLine, lines_of, numbered, Task, skipped, end, org, no_org, label_only, instruction, value, space, line_of, size}
use Rattle.rules.specs.Label.{Table}
use Rattle.rules.specs.Encode.{Content, literal, address, long_address, mnemonics, encode}
use Rattle.rules.specs.Answer.{accepted}
use Rattle.rules.specs.Assemble.{Put, Pass, Place, putting, first_pass_by, places_at, data_contents, code_contents_by, code_places_by, code_places, pass_at_by, pass_at, address_after}
use Rattle.requests.specs.Sheet.{Class, skip, origin, bare_label, datum, emitting, wordless, ending, class_number, word_class, class_of, read_classes, classes, how_many, marked_in}
use Rattle.promises.specs.Refusals.{line_count, IsLine, Reached}
use Rattle.promises.specs.Explain.{PutsWords, PutsNone}
use Rattle.promises.specs.Sheet.{Ends, ReadClass, skipped_line, org_line, only_label, data_line, word_line, wordless_line, InClass, ended, read, HowMany, no_entry, one_more, as_many}
use Rattle.promises.proofs.Compared.{clash, Compared, less, more, equal, compared}
use Rattle.promises.proofs.RefusalsPasses.{not_end}
use Rattle.promises.proofs.RefusalsAssemble.{counted}
use Rattle.promises.proofs.Accepted.{not_refused, checks_passed}
use Rattle.promises.proofs.Tasks.{pass_line}
use Rattle.promises.proofs.Fit.{Holds, holds_then}
use Rattle.promises.proofs.Asked as Asked
use Rattle.promises.proofs.Asked.{Lined, asks, ends, past_end, past_lines, lined}
use Rattle.promises.proofs.LineVerdicts.{contents}
use Rattle.promises.proofs.LineWords.{words_or_none, line_puts, line_silent}
use Rattle.promises.proofs.SheetLines.{sort_of, skips_sort, ends_end, orgs_sort, label_sort, holds_sort, code_sort, Said, said_skip, said_end, said_org, said_label, said_data, said_code, said}

-- ---- the class of what a line asks, by its sort
sort_class : ℕ → Class → Class
sort_class zero w = skip
sort_class (suc zero) w = ending
sort_class (suc (suc zero)) w = origin
sort_class (suc (suc (suc zero))) w = bare_label
sort_class (suc (suc (suc (suc zero)))) w = datum
sort_class (suc (suc (suc (suc (suc n))))) w = w

abbrev worded : Table → ℕ → Task → Class
worded ls a k = word_class (code_places ls (record { address = a; task = k }))

by_sort : (ls : Table) (a : ℕ) (k : Task) → class_of ls a k ≡ sort_class (sort_of k) (worded ls a k)
unfolding class_of sort_of sort_class
by_sort ls a skipped = refl
by_sort ls a end = refl
by_sort ls a (org v) = refl
by_sort ls a no_org = refl
by_sort ls a label_only = refl
by_sort ls a (instruction i) = refl
by_sort ls a (value n v) = refl
by_sort ls a (space n) = refl

of_sort : (ls : Table) (a : ℕ) (k : Task) (n : ℕ) → sort_of k ≡ n → class_of ls a k ≡ sort_class n (worded ls a k)
of_sort ls a k n e = by_sort ls a k ∙ ap (λ (m : ℕ). sort_class m (worded ls a k)) e

not_the_end : (k : Task) (n : ℕ) → sort_of k ≡ n → n ≢ 1 → k ≢ end
unfolding sort_of
not_the_end k n e h f = h (sym e ∙ ap sort_of f)

-- an instruction's words by the list's places
code_only : (ls : Table) (a : ℕ) (k : Task) → sort_of k ≡ 5 → contents mnemonics ls a k ≡ code_contents_by encode ls a k
unfolding sort_of contents data_contents
code_only ls a skipped e = clash cc
code_only ls a end e = clash cc
code_only ls a (org v) e = clash cc
code_only ls a no_org e = clash cc
code_only ls a label_only e = clash cc
code_only ls a (instruction i) e = refl
code_only ls a (value n v) e = clash cc
code_only ls a (space n) e = clash cc

filled : (a : ℕ) (c : Content) (cs : List Content) → word_class (places_at a (c ∷ cs)) ≡ emitting
unfolding word_class places_at
filled a (literal w) cs = refl
filled a (address x) cs = refl
filled a (long_address x) cs = refl

-- ---- an accepted source
-- no more lines are read than there are
abbrev Few : ℕ → Pass → Type 0
Few n p = length p.puts ≤ n

few : (a : ℕ) (t : Table) (ls : List SourceLine) → Holds (Few (length ls)) (first_pass_by size 0 a t ls)
unfolding first_pass_by putting
few a t [] = omega arith
few a t (l ∷ ls) =
    pass_line size 0 a t l ls (Holds (Few (suc (length ls)))) (λ k. omega arith) (λ k o. tt) (λ t' k o v. tt)
    (λ t' k o v. holds_then (Few (length ls)) (Few (suc (length ls))) (first_pass_by size 0 _ t' ls) (putting a (line_of l.text).task) (few (address_after size 0 a (line_of l.text).task) t' ls) (λ p h. omega arith))

as_many_lines : (n i : ℕ) (ls : List Text) → length (numbered n i ls) ≡ length ls
unfolding numbered
as_many_lines n i [] = refl
as_many_lines n i (l ∷ ls) = ap suc (as_many_lines (suc n) (suc (i + length l)) ls)

-- ---- lists by index
at_front : {A B : Type 0} (f : A → B) (xs : List A) (ys : List B) (j : ℕ) (x : A) (rest : List A) → drop j xs ≡ x ∷ rest → slice_get (map f xs ++ ys) j ≡ Some (f x)
at_front f [] ys zero x rest e = clash cc
at_front f [] ys (suc j) x rest e = clash cc
at_front f (y ∷ xs) ys zero x rest e = let u : y ≡ x = cc in ap (λ z. Some (f z)) u
at_front f (y ∷ xs) ys (suc j) x rest e = at_front f xs ys j x rest e

at_back : {A B : Type 0} (f : A → B) (xs : List A) (n j : ℕ) (y : B) → length xs ≤ j → j < length xs + n → slice_get (map f xs ++ replicate n y) j ≡ Some y
at_back f [] zero j y h k = absurd (omega arith)
at_back f [] (suc n) zero y h k = refl
at_back f [] (suc n) (suc j) y h k = at_back f [] n j y (omega arith) (omega arith)
at_back f (x ∷ xs) n zero y h k = absurd (omega arith)
at_back f (x ∷ xs) n (suc j) y h k = at_back f xs n j y (omega arith) (omega arith)

index_below : {A : Type 0} (xs : List A) (j : ℕ) (x : A) → slice_get xs j ≡ Some x → j < length xs
index_below [] j x e = clash cc
index_below (y ∷ xs) zero x e = omega arith
index_below (y ∷ xs) (suc j) x e = let h = index_below xs j x e in omega arith

module _ (s : Text) (p : Pass) (accepts : pass_at 0 s ≡ accepted p) where
  passed : first_pass_by size 0 0 [] (lines_of s) ≡ accepted p
  unfolding pass_at_by
  passed = (not_refused _ 4 0 _ p (checks_passed s _ p accepts).1).1

  pub read_few : length p.puts ≤ length (cut_at 10 s)
  unfolding lines_of
  read_few = let h = rw passed at (few 0 [] (lines_of s)) in omega (arith, as_many_lines 1 0 (cut_at 10 s))

  pub all_classes : length (classes s p) ≡ line_count s
  unfolding classes read_classes
  all_classes = rw (length-append, length-map, length-replicate) (omega (arith, read_few, (counted s).0))

  abbrev ls : Table
  ls = p.labels

  -- a line that is read, not END
  module _ {j a : ℕ} {ns : List Text} (l : Text) (r : Reached size 0 s j a ns) (e : IsLine s j l) (f : (line_of l).task ≢ end) where
    class_read : slice_get (classes s p) j ≡ Some (class_of ls a (line_of l).task)
    unfolding classes read_classes
    class_read = at_front (λ (u : Put). class_of ls u.address u.task) p.puts _ j (record { address = a; task = (line_of l).task }) (drop (suc j) p.puts) (Asked.asked size 0 s p passed l r e f)

    no_end : (i : ℕ) (k : Text) → i ≤ j → IsLine s i k → ¬ Ends (trim k)
    no_end i k h g b = go (compared i j)
      where
        go : Compared i j → ⊥
        go (less u) = not_end size 0 s r i k u g (ends_end k b)
        go (more u) = omega arith
        go (equal u) = let g' = rw u at g in let w : k ≡ l = cc in f (rw w at (ends_end k b))

    -- its words
    code_class : (x : List Content) → code_contents_by encode ls a (line_of l).task ≡ x → worded ls a (line_of l).task ≡ word_class (places_at a x)
    unfolding code_places_by
    code_class x g = ap (λ (y : List Content). word_class (places_at a y)) g

    puts : sort_of (line_of l).task ≡ 5 → (c : Content) (cs : List Content) → code_contents_by encode ls a (line_of l).task ≡ c ∷ cs → PutsWords encode p j a
    puts h c cs g = line_puts mnemonics p j a (line_of l).task (Asked.put_at_lem size 0 s p passed l r e f) c cs (code_only ls a (line_of l).task h ∙ g)

    puts_none : sort_of (line_of l).task ≡ 5 → code_contents_by encode ls a (line_of l).task ≡ [] → PutsNone encode p j
    puts_none h g = line_silent mnemonics p j a (line_of l).task (Asked.put_at_lem size 0 s p passed l r e f) (code_only ls a (line_of l).task h ∙ g)

    with_word : {b : ℕ} → sort_of (line_of l).task ≡ 5 → PutsWords encode p j b → worded ls a (line_of l).task ≡ emitting
    with_word h w = go (code_contents_by encode ls a (line_of l).task) refl
      where
        go : (x : List Content) → code_contents_by encode ls a (line_of l).task ≡ x → worded ls a (line_of l).task ≡ emitting
        go [] g = absurd (words_or_none w (puts_none h g))
        go (c ∷ cs) g = code_class (c ∷ cs) g ∙ filled a c cs

    without_word : sort_of (line_of l).task ≡ 5 → PutsNone encode p j → worded ls a (line_of l).task ≡ wordless
    unfolding word_class places_at
    without_word h n = go (code_contents_by encode ls a (line_of l).task) refl
      where
        go : (x : List Content) → code_contents_by encode ls a (line_of l).task ≡ x → worded ls a (line_of l).task ≡ wordless
        go [] g = code_class [] g
        go (c ∷ cs) g = absurd (words_or_none (puts h c cs g) n)

    -- the class that its text says is its own
    is_class : {c : Class} → ReadClass p j (trim l) c → class_of ls a (line_of l).task ≡ c
    unfolding sort_class
    is_class (skipped_line k) = of_sort ls a (line_of l).task 0 (skips_sort l k)
    is_class (org_line k) = of_sort ls a (line_of l).task 2 (orgs_sort l k)
    is_class (only_label k) = of_sort ls a (line_of l).task 3 (label_sort l k)
    is_class (data_line {r = t} k h) = of_sort ls a (line_of l).task 4 (holds_sort l t k h)
    is_class (word_line {r = t} k h w) = let q = code_sort l t k h in of_sort ls a (line_of l).task 5 q ∙ with_word q w
    is_class (wordless_line {r = t} k h w) = let q = code_sort l t k h in of_sort ls a (line_of l).task 5 q ∙ without_word q w

    -- and the text says it
    class_said : Said (trim l) (line_of l).task → ReadClass p j (trim l) (class_of ls a (line_of l).task)
    unfolding sort_class
    class_said (said_skip q k) = rw (of_sort ls a (line_of l).task 0 q) (skipped_line k)
    class_said (said_end q k) = absurd (f q)
    class_said (said_org q k) = rw (of_sort ls a (line_of l).task 2 q) (org_line k)
    class_said (said_label q k) = rw (of_sort ls a (line_of l).task 3 q) (only_label k)
    class_said (said_data q k h) = rw (of_sort ls a (line_of l).task 4 q) (data_line k h)
    class_said (said_code q k h) = go (code_contents_by encode ls a (line_of l).task) refl
      where
        go : (x : List Content) → code_contents_by encode ls a (line_of l).task ≡ x → ReadClass p j (trim l) (class_of ls a (line_of l).task)
        go [] g = let w = puts_none q g in rw (of_sort ls a (line_of l).task 5 q ∙ without_word q w) (wordless_line k h w)
        go (c ∷ cs) g = let w = puts q c cs g in rw (of_sort ls a (line_of l).task 5 q ∙ with_word q w) (word_line k h w)

    read_class : InClass s p j (class_of ls a (line_of l).task)
    read_class = read no_end e (class_said (said l))

    read_is : {c : Class} → InClass s p j c → class_of ls a (line_of l).task ≡ c
    read_is (ended {i = i} {l = k} g b h m) = absurd (no_end i k h g b)
    read_is (read {l = k} n g h) = let w : k ≡ l = cc in is_class (rw w at h)

  -- END, and what follows
  end_begins : (l : Text) → (line_of l).task ≡ end → Ends (trim l)
  unfolding sort_of
  end_begins l f = go (line_of l).task f (said l)
    where
      go : (k : Task) → k ≡ end → Said (trim l) k → Ends (trim l)
      go k g (said_skip q h) = let u : sort_of end ≡ 0 = rw g at q in clash cc
      go k g (said_end q h) = h
      go k g (said_org q h) = let u : sort_of end ≡ 2 = rw g at q in clash cc
      go k g (said_label q h) = let u : sort_of end ≡ 3 = rw g at q in clash cc
      go k g (said_data q h d) = let u : sort_of end ≡ 4 = rw g at q in clash cc
      go k g (said_code q h d) = let u : sort_of end ≡ 5 = rw g at q in clash cc

  module _ {i a : ℕ} {ns : List Text} (l : Text) (r : Reached size 0 s i a ns) (e : IsLine s i l) (f : (line_of l).task ≡ end) (j : ℕ) (h : i ≤ j) where
    class_ended : j < line_count s → slice_get (classes s p) j ≡ Some ending
    unfolding classes read_classes
    class_ended m =
        let u = simp length-drop at (ap length (Asked.ended size 0 s p passed l r e f)) in
        at_back (λ (x : Put). class_of ls x.address x.task) p.puts (length (cut_at 10 s) - length p.puts) j ending (omega arith) (omega (arith, (counted s).0, read_few))

    ended_is : {c : Class} → InClass s p j c → ending ≡ c
    ended_is (ended g b k m) = refl
    ended_is (read n g k) = absurd (n i l h e (end_begins l f))

  line_below : {j : ℕ} {l : Text} → IsLine s j l → j < line_count s
  line_below {j} {l} e = omega (arith, (counted s).0, index_below (cut_at 10 s) j l e)

  in_below : {j : ℕ} {c : Class} → InClass s p j c → j < line_count s
  in_below (ended g b k m) = m
  in_below (read n g k) = line_below g

  -- every line
  pub class_at : (j : ℕ) → j < line_count s → (c : Class) × (slice_get (classes s p) j ≡ Some c) × InClass s p j c
  class_at j m = go (lined size 0 s j)
    where
      go : Lined size 0 s j → (c : Class) × (slice_get (classes s p) j ≡ Some c) × InClass s p j c
      go (asks {l = l} r e f) = (_, class_read l r e f, read_class l r e f)
      go (ends {l = l} r e f) = (ending, class_ended l r e f j (omega arith) m, ended e (end_begins l f) (omega arith) m)
      go (past_end {l = l} r e f h) = (ending, class_ended l r e f j (omega arith) m, ended e (end_begins l f) (omega arith) m)
      go (past_lines r e h) = let u = simp length-drop at (ap length e) in absurd (omega (arith, (counted s).0))

  pub is_class_at : (j : ℕ) (c : Class) → InClass s p j c → slice_get (classes s p) j ≡ Some c
  is_class_at j c k = go (lined size 0 s j)
    where
      go : Lined size 0 s j → slice_get (classes s p) j ≡ Some c
      go (asks {l = l} r e f) = class_read l r e f ∙ ap Some (read_is l r e f k)
      go (ends {l = l} r e f) = class_ended l r e f j (omega arith) (in_below k) ∙ ap Some (ended_is l r e f j (omega arith) k)
      go (past_end {l = l} r e f h) = class_ended l r e f j (omega arith) (in_below k) ∙ ap Some (ended_is l r e f j (omega arith) k)
      go (past_lines r e h) = let u = simp length-drop at (ap length e) in absurd (omega (arith, (counted s).0, in_below k))

  pub each_class : (j : ℕ) (c : Class) → slice_get (classes s p) j ≡ Some c → InClass s p j c
  each_class j c e =
      let h = class_at j (omega (arith, all_classes, index_below (classes s p) j c e)) in
      let g = sym h.1 ∙ e in
      let u : h.0 ≡ c = cc in
      rw u at h.2

-- ---- how many there are of each class
class_back : ℕ → Class
class_back zero = skip
class_back (suc zero) = origin
class_back (suc (suc zero)) = bare_label
class_back (suc (suc (suc zero))) = datum
class_back (suc (suc (suc (suc zero)))) = emitting
class_back (suc (suc (suc (suc (suc zero))))) = wordless
class_back (suc (suc (suc (suc (suc (suc n)))))) = ending

number_back : (c : Class) → class_back (class_number c) ≡ c
unfolding class_back class_number
number_back skip = refl
number_back origin = refl
number_back bare_label = refl
number_back datum = refl
number_back emitting = refl
number_back wordless = refl
number_back ending = refl

same_class : (c d : Class) → eqb (class_number c) (class_number d) ≡ true → d ≡ c
same_class c d e = sym (number_back d) ∙ ap class_back (sym (eqb-true (class_number c) (class_number d) e)) ∙ number_back c

other_class : (c d : Class) → eqb (class_number c) (class_number d) ≡ false → d ≢ c
other_class c d e f = eqb-false (class_number c) (class_number d) e (ap class_number (sym f))

pub how_many_lem : (c : Class) (cs : List Class) → HowMany (λ d. d ≡ c) cs (how_many c cs)
unfolding how_many
how_many_lem c [] = no_entry
how_many_lem c (d ∷ cs) = go (eqb (class_number c) (class_number d)) refl (how_many_lem c cs)
  where
    go : (x : Bool) → eqb (class_number c) (class_number d) ≡ x → HowMany (λ d. d ≡ c) cs (how_many c cs) → HowMany (λ d. d ≡ c) (d ∷ cs) (cond x (suc (how_many c cs)) (how_many c cs))
    go true e h = one_more (same_class c d e) h
    go false e h = as_many (other_class c d e) h

pub how_marked : (l : List Place) → HowMany (λ (q : Place). q.mark ≡ 1) l (marked_in l)
unfolding marked_in
how_marked [] = no_entry
how_marked (q ∷ l) = go (eqb q.mark 1) refl (how_marked l)
  where
    go : (x : Bool) → eqb q.mark 1 ≡ x → HowMany (λ (q : Place). q.mark ≡ 1) l (marked_in l) → HowMany (λ (q : Place). q.mark ≡ 1) (q ∷ l) (cond x (suc (marked_in l)) (marked_in l))
    go true e h = one_more (eqb-true q.mark 1 e) h
    go false e h = as_many (eqb-false q.mark 1 e) h

-- no more marked words than words, no more of a class than lines, and all classes together are the lines
pub marked_few : (l : List Place) → marked_in l ≤ length l
unfolding marked_in
marked_few [] = omega arith
marked_few (q ∷ l) = go (eqb q.mark 1) (marked_few l)
  where
    go : (x : Bool) → marked_in l ≤ length l → cond x (suc (marked_in l)) (marked_in l) ≤ suc (length l)
    go true h = omega arith
    go false h = omega arith

pub seven : (cs : List Class)
    → how_many skip cs + how_many origin cs + how_many bare_label cs + how_many datum cs + how_many emitting cs + how_many wordless cs + how_many ending cs ≡ length cs
unfolding how_many class_number
seven [] = refl
seven (skip ∷ cs) = let h = seven cs in omega arith
seven (origin ∷ cs) = let h = seven cs in omega arith
seven (bare_label ∷ cs) = let h = seven cs in omega arith
seven (datum ∷ cs) = let h = seven cs in omega arith
seven (emitting ∷ cs) = let h = seven cs in omega arith
seven (wordless ∷ cs) = let h = seven cs in omega arith
seven (ending ∷ cs) = let h = seven cs in omega arith
