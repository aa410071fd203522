-- The passes over a copy come to what they come to over its source: the same labels, and the same lines but for skipped ones. Assumes nothing.
use Rattle.std.specs.Prelude.{Option, None, Some}
use Prim.Native.Nat.{ℕ, suc, ◌+◌, ◌≤◌}
use mathlib.Core.Path.{◌≡◌, refl, sym, ap, ◌∙◌}
use mathlib.Core.Bool.{Bool, true, false, cond}
use mathlib.Core.List.{List, [], ◌∷◌, flat_map, ◌++◌}
use native.Mathlib.Omega.{arith}
use lib.Dec.{ltb, eqb}
use lib.ListN.{length}
use borrow.Author.Tests.{ltb-false, le-ltb, leb-false, lt-ltb}
use Rattle.rules.specs.Limits.{max_source, max_lines, address_limit}
use Rattle.rules.specs.Text.{Text, trim, trim_start, trim_end, cut_where, cut_at}
use Rattle.rules.specs.Line.{SourceLine, numbered, lines_of, Task, skipped, end, Line, line, trimmed_line, line_of, size}
use Rattle.rules.specs.Label.{Table, record_all}
use Rattle.rules.specs.Encode.{Mnemonic, encode_by, mnemonics}
use Rattle.rules.specs.Answer.{Answer, accepted, refused, refuse_if, and_then}
use Rattle.rules.specs.Assemble.{Sizes, Encoder, Put, Pass, Step, halt, full, next, address_after, is_end, leaving, step_by, putting, first_pass_by, places_at, data_contents, code_contents_by, data_places, code_places_by, second_pass_by, first_high, pass_at_by, encoded, assemble_by, Place}
use Rattle.requests.specs.ManualCall.{manual_size, manual_encode}
use Rattle.requests.specs.ManualAssemble.{task_fault, faultless, encoded_manual, assemble_manual}
use Rattle.requests.specs.Branches.{loaded, names_with, under, assemble_under}
use Rattle.requests.specs.Tidy.{tidy_line, tidy_lines, parted, tidy}
use Rattle.promises.specs.Tidy.{Kind, skip, fin, origin, step4, kind_of, ByFind, CopyIsShort, CopyGivesList, CopyKeepsLabels}
use Rattle.promises.proofs.Accepted.{LetThrough, not_refused, checks_passed, checks_pass}
use Rattle.promises.proofs.Compared.{clash}
use Rattle.tidylaws.proofs.Hits.{Clean, clean, cleaner}
use Rattle.tidylaws.proofs.Shapes.{line_by, by_kind, before_by, lines_more}
use Rattle.tidylaws.proofs.Reading.{Same, line_same}
use Rattle.tidylaws.proofs.Within.{AllClean, clean_tidy, cut_parted, copies_clean}
use Rattle.tidylaws.proofs.Short.{count_lines, copy_is_short}
use Rattle.tidylaws.proofs.Tables.{Alike, no_labels, AlikeOption, no_tables, tables, alike_named, find_alike, record_alike, task_fault_alike, encoders_find, code_alike}

-- ---- a line and its copy do the same
data AlikeStep : Step → Step → Type 0 where
  both_halt : AlikeStep halt halt
  both_full : AlikeStep full full
  both_next : {a : ℕ} {t u : Table} → Alike t u → AlikeStep (next a t) (next a u)

alike_leaving : (a : ℕ) {o p : Option Table} → AlikeOption o p → AlikeStep (leaving a o) (leaving a p)
unfolding leaving
alike_leaving a no_tables = both_full
alike_leaving a (tables q) = both_next q

alike_step : (z : Sizes) (base a : ℕ) (k l : SourceLine) {t u : Table} {x y : Line} → Alike t u → Same y x → AlikeStep (step_by z base a t k x) (step_by z base a u l y)
unfolding step_by
alike_step z base a k l {t} {u} {x} {y} q s = rw s.task (go (is_end x.task))
  where
    go : (b : Bool) → AlikeStep (elim b [ true ↦ halt | false ↦ leaving (address_after z base a x.task) (record_all k a x.names t) ])
        (elim b [ true ↦ halt | false ↦ leaving (address_after z base a x.task) (record_all l a y.names u) ])
    go true = both_halt
    go false = alike_leaving _ (record_alike k l a x.names y.names (sym s.names) q)

-- ---- the first pass
-- its clause, by what a line of the task k does
on_step : ℕ → ℕ → Table → Task → Step → (ℕ → Table → Answer Pass) → Answer Pass
on_step a n t k halt f = accepted (record { labels = t; puts = [] })
on_step a n t k full f = refused 6 n
on_step a n t k (next a' t') f = cond (ltb a' address_limit) (and_then (f a' t') (putting a k)) (refused 5 n)

pass_more : (z : Sizes) (base a : ℕ) (t : Table) (l : SourceLine) (ls : List SourceLine)
    → first_pass_by z base a t (l ∷ ls) ≡ on_step a l.number t (line_of l.text).task (step_by z base a t l (line_of l.text)) (λ a' t'. first_pass_by z base a' t' ls)
unfolding first_pass_by on_step
pass_more z base a t l ls = go (step_by z base a t l (line_of l.text)) refl
  where
    tested : (y : Bool) (a' : ℕ) (t' : Table) → ltb a' address_limit ≡ y → step_by z base a t l (line_of l.text) ≡ next a' t'
        → first_pass_by z base a t (l ∷ ls) ≡ cond (ltb a' address_limit) (and_then (first_pass_by z base a' t' ls) (putting a (line_of l.text).task)) (refused 5 l.number)
    tested true a' t' f e = rw (first_pass_by, e, f)
    tested false a' t' f e = rw (first_pass_by, e, f)

    go : (s : Step) → step_by z base a t l (line_of l.text) ≡ s → first_pass_by z base a t (l ∷ ls) ≡ on_step a l.number t (line_of l.text).task (step_by z base a t l (line_of l.text)) (λ a' t'. first_pass_by z base a' t' ls)
    go halt e = rw (first_pass_by, e)
    go full e = rw (first_pass_by, e)
    go (next a' t') e = tested (ltb a' address_limit) a' t' refl e ∙ rw e

-- what the lines ask, the same but for skipped ones
pub data Puts : List Put → List Put → Type 0 where
  no_puts : Puts [] []
  both_put : (p : Put) {ps qs : List Put} → Puts ps qs → Puts (p ∷ ps) (p ∷ qs)
  left_out : (a : ℕ) {ps qs : List Put} → Puts ps qs → Puts (record { address = a; task = skipped } ∷ ps) qs
  put_in : (a : ℕ) {ps qs : List Put} → Puts ps qs → Puts ps (record { address = a; task = skipped } ∷ qs)

pub record SamePass (p q : Pass) : Type 0 where
  pub labels_alike : Alike p.labels q.labels
  pub puts_same : Puts p.puts q.puts

-- an accepted source's copy is accepted
data SameAnswer : Answer Pass → Answer Pass → Type 0 where
  same_pass : {p q : Pass} → SamePass p q → SameAnswer (accepted p) (accepted q)
  not_accepted : (n i : ℕ) (y : Answer Pass) → SameAnswer (refused n i) y

same_put : (a : ℕ) (k : Task) {x y : Answer Pass} → SameAnswer x y → SameAnswer (and_then x (putting a k)) (and_then y (putting a k))
unfolding and_then putting
same_put a k (same_pass s) = same_pass (record { labels_alike = s.labels_alike; puts_same = both_put (record { address = a; task = k }) s.puts_same })
same_put a k (not_accepted n i y) = not_accepted n i _

same_left : (a : ℕ) {x y : Answer Pass} → SameAnswer x y → SameAnswer (and_then x (putting a skipped)) y
unfolding and_then putting
same_left a (same_pass s) = same_pass (record { labels_alike = s.labels_alike; puts_same = left_out a s.puts_same })
same_left a (not_accepted n i y) = not_accepted n i y

-- after steps that are alike, of the same task
same_step : (a n m : ℕ) (k c : Task) → c ≡ k → {t u : Table} → Alike t u → {x y : Step} → AlikeStep x y → (f g : ℕ → Table → Answer Pass)
    → ((a' : ℕ) (t' u' : Table) → Alike t' u' → SameAnswer (f a' t') (g a' u')) → SameAnswer (on_step a n t k x f) (on_step a m u c y g)
unfolding on_step
same_step a n m k c e q both_halt f g h = same_pass (record { labels_alike = q; puts_same = no_puts })
same_step a n m k c e q both_full f g h = not_accepted 6 n _
same_step a n m k c e q (both_next {a = a'} {t = t'} {u = u'} r) f g h = rw e (go (ltb a' address_limit))
  where
    go : (y : Bool) → SameAnswer (cond y (and_then (f a' t') (putting a k)) (refused 5 n)) (cond y (and_then (g a' u') (putting a k)) (refused 5 m))
    go true = same_put a k (h a' t' u' r)
    go false = not_accepted 5 n _

-- after a skipped line
same_skip : (a n : ℕ) (t : Table) (f : ℕ → Table → Answer Pass) (y : Answer Pass) → SameAnswer (f a t) y → SameAnswer (on_step a n t skipped (next a t) f) y
unfolding on_step
same_skip a n t f y s = go (ltb a address_limit)
  where
    go : (z : Bool) → SameAnswer (cond z (and_then (f a t) (putting a skipped)) (refused 5 n)) y
    go true = same_left a s
    go false = not_accepted 5 n y

-- lines of two kinds, by their names and tasks
skip_line : (l : Text) → kind_of (trim l) ≡ skip → line_of l ≡ line [] skipped
unfolding by_kind
skip_line l e = line_by l ∙ rw e

end_line : (l : Text) → kind_of (trim l) ≡ fin → line_of l ≡ line [] end
unfolding by_kind
end_line l e = line_by l ∙ rw e

abbrev numbered_line : ℕ → ℕ → Text → SourceLine
numbered_line n i l = record { number = n; start = i; text = l }

-- the lines ls give the same from any address and with alike tables
abbrev Passing : Sizes → ℕ → List Text → Type 0
Passing z base ls = (a : ℕ) (t u : Table) (n i m j : ℕ) → Alike t u → SameAnswer (first_pass_by z base a t (numbered n i ls)) (first_pass_by z base a u (numbered m j (tidy_lines ls)))

module _ (z : Sizes) (base : ℕ) (l : Text) (ls : List Text) (ih : Passing z base ls) (a : ℕ) (t u : Table) (n i m j : ℕ) (q : Alike t u) where
  abbrev on_line : Answer Pass
  on_line = on_step a n t (line_of l).task (step_by z base a t (numbered_line n i l) (line_of l)) (λ a' t'. first_pass_by z base a' t' (numbered (suc n) (suc (i + length l)) ls))

  -- by the kind of the line
  pass_skip : kind_of (trim l) ≡ skip → SameAnswer on_line (first_pass_by z base a u (numbered m j (tidy_lines ls)))
  unfolding step_by is_end address_after leaving record_all
  pass_skip e = rw (skip_line l e) (same_skip a n t _ _ (ih a t u _ _ m j q))

  pass_end : kind_of (trim l) ≡ fin → SameAnswer on_line (first_pass_by z base a u (numbered m j (tidy_line l ∷ [])))
  unfolding step_by is_end on_step numbered
  pass_end e =
      let f : (line_of (tidy_line l)).task ≡ end = (line_same l).task ∙ ap (λ (x : Line). x.task) (end_line l e) in
      rw (pass_more z base a u (numbered_line m j (tidy_line l)) [], f, end_line l e) (same_pass (record { labels_alike = q; puts_same = no_puts }))

  pass_both : SameAnswer on_line (first_pass_by z base a u (numbered m j (tidy_line l ∷ tidy_lines ls)))
  unfolding numbered
  pass_both =
      rw (pass_more z base a u (numbered_line m j (tidy_line l)) (numbered (suc m) (suc (j + length (tidy_line l))) (tidy_lines ls)))
      (same_step a n m (line_of l).task (line_of (tidy_line l)).task (line_same l).task q (alike_step z base a (numbered_line n i l) (numbered_line m j (tidy_line l)) q (line_same l)) _ _ (λ a' t' u' r. ih a' t' u' _ _ _ _ r))

  pass_kind : (k : Kind) → kind_of (trim l) ≡ k → SameAnswer on_line (first_pass_by z base a u (numbered m j (before_by k (tidy_line l) (tidy_lines ls))))
  unfolding before_by
  pass_kind skip e = pass_skip e
  pass_kind fin e = pass_end e
  pass_kind origin e = pass_both
  pass_kind step4 e = pass_both

pass_copy : (z : Sizes) (base : ℕ) (ls : List Text) → Passing z base ls
unfolding first_pass_by numbered tidy_lines
pass_copy z base [] a t u n i m j q = same_pass (record { labels_alike = q; puts_same = no_puts })
pass_copy z base (l ∷ ls) a t u n i m j q =
    rw (lines_more l ls, pass_more z base a t (numbered_line n i l) (numbered (suc n) (suc (i + length l)) ls))
    (pass_kind z base l ls (pass_copy z base ls) a t u n i m j q (kind_of (trim l)) refl)

-- ---- the second pass
module _ (e : Encoder) (b : ByFind e) where
  data_same : {ps qs : List Put} → Puts ps qs → flat_map data_places ps ≡ flat_map data_places qs
  unfolding flat_map data_places data_contents places_at
  data_same no_puts = refl
  data_same (both_put p r) = ap (λ (l : List Place). data_places p ++ l) (data_same r)
  data_same (left_out a r) = data_same r
  data_same (put_in a r) = data_same r

  code_same : {t u : Table} → Alike t u → {ps qs : List Put} → Puts ps qs → flat_map (code_places_by e t) ps ≡ flat_map (code_places_by e u) qs
  unfolding flat_map code_places_by code_contents_by places_at
  code_same q no_puts = refl
  code_same q (both_put p r) = rw (code_alike e b q p, code_same q r)
  code_same q (left_out a r) = code_same q r
  code_same q (put_in a r) = code_same q r

  pub second_same : {p q : Pass} → SamePass p q → second_pass_by e p ≡ second_pass_by e q
  unfolding second_pass_by
  second_same s = rw (data_same s.puts_same, code_same s.labels_alike s.puts_same)

-- ---- 14 and 15 of the manual's call
fault_none : {A : Type 0} (t : Table) (n : ℕ) (p : Put) (ps : List Put) (r : Answer A) → task_fault t p.address p.task ≡ None → faultless t n (p ∷ ps) r ≡ faultless t (suc n) ps r
unfolding faultless
fault_none t n p ps r e = rw (e, faultless)

fault_some : {A : Type 0} (t : Table) (n : ℕ) (p : Put) (ps : List Put) (r : Answer A) (f : ℕ) → task_fault t p.address p.task ≡ Some f → faultless t n (p ∷ ps) r ≡ refused f n
unfolding faultless
fault_some t n p ps r f e = rw (e, faultless)

faults_same : {A : Type 0} {t u : Table} → Alike t u → {ps qs : List Put} → Puts ps qs → (n m : ℕ) (r : Answer A) (l : A) → faultless t n ps r ≡ accepted l → faultless u m qs r ≡ accepted l
unfolding faultless task_fault
faults_same q no_puts n m r l h = h
faults_same {A} {t} {u} q (both_put p {ps} {qs} s) n m r l h = go (task_fault t p.address p.task) refl (λ n m r l h. faults_same q s n m r l h)
  where
    go : (o : Option ℕ) → task_fault t p.address p.task ≡ o → ((n m : ℕ) (r : Answer A) (l : A) → faultless t n ps r ≡ accepted l → faultless u m qs r ≡ accepted l)
        → faultless u m (p ∷ qs) r ≡ accepted l
    go None e ih = fault_none u m p qs r (sym (task_fault_alike t u (find_alike q) p.address p.task) ∙ e) ∙ ih (suc n) (suc m) r l (sym (fault_none t n p ps r e) ∙ h)
    go (Some f) e ih = let k = sym (fault_some t n p ps r f e) ∙ h in clash cc
faults_same q (left_out a s) n m r l h = faults_same q s (suc n) m r l h
faults_same q (put_in a s) n m r l h = faults_same q s n (suc m) r l h

-- ---- bytes over 127
high_here : (i b : ℕ) (s : Text) → ltb 127 b ≡ true → first_high i (b ∷ s) ≡ Some i
unfolding first_high
high_here i b s e = rw (e, first_high)

high_later : (i b : ℕ) (s : Text) → ltb 127 b ≡ false → first_high i (b ∷ s) ≡ first_high (suc i) s
unfolding first_high
high_later i b s e = rw (e, first_high)

ascii_clean : (i : ℕ) (s : Text) → first_high i s ≡ None → Clean (ltb 127) s
ascii_clean i [] e = clean
ascii_clean i (b ∷ s) e = go (ltb 127 b) refl (ascii_clean (suc i) s)
  where
    go : (y : Bool) → ltb 127 b ≡ y → (first_high (suc i) s ≡ None → Clean (ltb 127) s) → Clean (ltb 127) (b ∷ s)
    go true f ih = let z : ◌≡◌ {A = ℕ} 0 1 = cc (high_here i b s f) in absurd (omega arith)
    go false f ih = cleaner f (ih (sym (high_later i b s f) ∙ e))

clean_ascii : (i : ℕ) {s : Text} → Clean (ltb 127) s → first_high i s ≡ None
unfolding first_high
clean_ascii i clean = refl
clean_ascii i (cleaner {a} {p} q c) = high_later i a p q ∙ clean_ascii (suc i) c

-- ---- the lines of the copy
-- those copied, or one empty line
pub data LinesOf : List Text → List Text → Type 0 where
  same_lines : (l : Text) (ls : List Text) → LinesOf (l ∷ ls) (l ∷ ls)
  one_line : LinesOf [] ([] ∷ [])

pub lines_of_lem : (s : Text) → LinesOf (tidy_lines (cut_at 10 s)) (cut_at 10 (tidy s))
unfolding tidy parted cut_at cut_where
lines_of_lem s = go (tidy_lines (cut_at 10 s)) (copies_clean s)
  where
    go : (ts : List Text) → AllClean (eqb 10) ts → LinesOf ts (cut_at 10 (parted ts))
    go [] c = one_line
    go (l ∷ ls) c = rw (cut_parted c) (same_lines l ls)

lines_count : {ts us : List Text} → LinesOf ts us → (n : ℕ) → length ts ≤ n → 1 ≤ n → length us ≤ n
lines_count (same_lines l ls) n h k = h
lines_count one_line n h k = k

-- a copy passes the checks that its source passes
through : (s : Text) → LetThrough s → LetThrough (tidy s)
unfolding CopyIsShort
through s c =
    record {
      size = le-ltb max_source (length (tidy s)) (omega (arith, ltb-false max_source (length s) c.size, copy_is_short s));
      ascii = clean_ascii 0 (clean_tidy (ltb 127) refl refl refl (ascii_clean 0 s c.ascii));
      lines = le-ltb max_lines (length (cut_at 10 (tidy s))) (lines_count (lines_of_lem s) max_lines (omega (arith, ltb-false max_lines (length (cut_at 10 s)) c.lines, count_lines (cut_at 10 s))) (omega arith));
    }

-- ---- the pass over a copy
pub record PassOver (p : Pass) (x : Answer Pass) : Type 0 where
  pub copy : Pass
  pub passed : x ≡ accepted copy
  pub same : SamePass p copy

-- one empty line more asks nothing
empty_pass : (z : Sizes) (base : ℕ) → ltb base address_limit ≡ true
    → first_pass_by z base base [] (numbered 1 0 ([] ∷ [])) ≡ accepted (record { labels = []; puts = record { address = base; task = skipped } ∷ [] })
unfolding first_pass_by numbered step_by is_end address_after leaving record_all line_of trimmed_line trim trim_start trim_end and_then putting
empty_pass z base e = rw (first_pass_by, e)

over_lines : (z : Sizes) (base : ℕ) (p : Pass) {ts us : List Text} → ltb base address_limit ≡ true → LinesOf ts us
    → PassOver p (first_pass_by z base base [] (numbered 1 0 ts)) → PassOver p (first_pass_by z base base [] (numbered 1 0 us))
unfolding first_pass_by numbered
over_lines z base p low (same_lines l ls) o = o
over_lines z base p low one_line o =
    let k : o.copy ≡ record { labels = []; puts = [] } = cc o.passed in
    let s : SamePass p (record { labels = []; puts = [] }) = rw k at o.same in
    record {
      copy = record { labels = []; puts = record { address = base; task = skipped } ∷ [] };
      passed = empty_pass z base low;
      same = record { labels_alike = s.labels_alike; puts_same = put_in base s.puts_same };
    }

over_answer : {x y : Answer Pass} (p : Pass) → x ≡ accepted p → SameAnswer x y → PassOver p y
over_answer p e (same_pass {p = r} {q} s) = let k : r ≡ p = cc in record { copy = q; passed = refl; same = rw k at s }
over_answer p e (not_accepted n i y) = clash cc

pub pass_over : (z : Sizes) (base : ℕ) (s : Text) (p : Pass) → pass_at_by z base s ≡ accepted p → PassOver p (pass_at_by z base (tidy s))
unfolding pass_at_by lines_of refuse_if
pass_over z base s p h =
    let c = checks_passed s _ p h in
    let k = not_refused _ _ _ _ p c.1 in
    let low : ltb base address_limit ≡ true = lt-ltb base address_limit (leb-false address_limit base k.0) in
    let o : PassOver p (first_pass_by z base base [] (lines_of (tidy s))) = over_lines z base p low (lines_of_lem s) (over_answer p k.1 (pass_copy z base (cut_at 10 s) base [] [] 1 0 1 0 no_labels)) in
    rw (checks_pass {A = Pass} (tidy s) _ (through s c.0), k.0) o

-- ---- what follows the pass
-- an answer to a pass that only its labels' addresses and its lines decide
pub follows : (z : Sizes) (f : Pass → Answer (List Place)) → ((p q : Pass) → SamePass p q → (l : List Place) → f p ≡ accepted l → f q ≡ accepted l)
    → (base : ℕ) (s : Text) (l : List Place) → and_then (pass_at_by z base s) f ≡ accepted l → and_then (pass_at_by z base (tidy s)) f ≡ accepted l
unfolding and_then
follows z f k base s l h = go (pass_at_by z base s) refl
  where
    go : (x : Answer Pass) → pass_at_by z base s ≡ x → and_then (pass_at_by z base (tidy s)) f ≡ accepted l
    go (accepted p) e = let o = pass_over z base s p e in rw o.passed (k p o.copy o.same l (rw e at h))
    go (refused n i) e = let u = rw e at h in clash cc

lists_by : (z : Sizes) (e : Encoder) → ByFind e → (base : ℕ) (s : Text) (l : List Place) → assemble_by z e base s ≡ accepted l → assemble_by z e base (tidy s) ≡ accepted l
unfolding assemble_by
lists_by z e b = follows z (encoded e) (λ p q s l h. rw (second_same e b s) at h)

-- under a branch table: the names that it gives are the same for both
table_lists : (t : Text) (base : ℕ) (s : Text) (l : List Place) → assemble_under t base s ≡ accepted l → assemble_under t base (tidy s) ≡ accepted l
unfolding under and_then
table_lists t base s l h = go (loaded t) h
  where
    go : (x : Answer (List Mnemonic)) → and_then x (λ rs. assemble_by size (encode_by (names_with rs)) base s) ≡ accepted l
        → and_then x (λ rs. assemble_by size (encode_by (names_with rs)) base (tidy s)) ≡ accepted l
    go (accepted rs) k = lists_by size (encode_by (names_with rs)) (encoders_find.rules (names_with rs)) base s l k
    go (refused n i) k = clash cc

manual_lists : (base : ℕ) (s : Text) (l : List Place) → assemble_manual base s ≡ accepted l → assemble_manual base (tidy s) ≡ accepted l
unfolding assemble_manual encoded_manual
manual_lists = follows manual_size encoded_manual (λ p q s l h. faults_same s.labels_alike s.puts_same 1 1 _ l (rw (second_same manual_encode encoders_find.manual s) at h))

pub copy_gives_list : CopyGivesList
copy_gives_list =
    record {
      by_find = lists_by;
      rules = lists_by size (encode_by mnemonics) (encoders_find.rules mnemonics);
      mnemonics = λ names. lists_by size (encode_by names) (encoders_find.rules names);
      table = table_lists;
      manual = manual_lists;
    }

pub copy_keeps_labels : CopyKeepsLabels
unfolding CopyKeepsLabels
copy_keeps_labels z base s p h =
    let o = pass_over z base s p h in
    record { copy = o.copy; passed = o.passed; same = alike_named o.same.labels_alike }
