-- What is promised of the calls that are lent a branch table holds. Assumes nothing.
use Prim.Native.Nat.{ℕ}
use mathlib.Core.Path.{◌≡◌, refl, sym, ap, ◌∙◌, subst}
use mathlib.Core.Logic.{◌↔◌}
use mathlib.Core.Bool.{Bool, true, false}
use mathlib.Core.List.{List, [], ◌∷◌, ◌++◌}
use lib.ListN.{length, take}
use Rattle.rules.specs.Text.{Text}
use Rattle.rules.specs.Line.{size}
use Rattle.rules.specs.Encode.{Mnemonic, other_mnemonics, mnemonics, encode_by}
use Rattle.rules.specs.Answer.{Answer, accepted, refused, refuse_if, and_then}
use Rattle.rules.specs.Assemble.{Place, Slices, pass_at, encoded, assemble_by, assemble, short, room, assemble_answer, write_list, assemble_slices}
use Rattle.rules.specs.Tally.{held}
use Rattle.requests.specs.Explain.{explain_all_by, explain_by}
use Rattle.requests.specs.Branches.{loaded, names_with, under, assemble_under, assemble_under_answer, assemble_under_slices}
use Rattle.promises.specs.Stages.{Stage, all, OneOf, Checked, at_once, CheckedBefore, by_stage, within_line, on_line, further_on, FirstOf, RefusesExactly, after}
use Rattle.promises.specs.Refusals.{PassCondition, passing, assembling, SamePast}
use Rattle.promises.specs.Lawful.{RulesAreLawful, RulesAreShort}
use Rattle.promises.specs.MovedLists.{MovesAsAssembledFor, WordsDifferFor, LawfulMoves, ShortWordsDiffer}
use Rattle.promises.specs.Explain as E
use Rattle.promises.specs.Explain.{ExplainCondition, no_line, never_read, explaining, ExplainsExactly, ExplainRefusesExactly}
use Rattle.promises.specs.Branches.{TableCondition, loading, Accepted, LoadRefusesExactly, LoadAcceptsExactly, FrontOfATable}
use Rattle.promises.specs.BranchCalls.{UnderCondition, of_table, of_call, ListCondition, of_pass, slice_short, AssembleUnderRefusesExactly, ListsUnder, AssembleUnderWrites, TablesMove, ExplainUnderRefusesExactly, ExplainsUnder, ExplainsAllUnder, ElevenAsWithout, FrontIsEnough}
use Rattle.promises.proofs.Compared.{clash}
use Rattle.promises.proofs.Stages.{is_checked, not_checked, checked_by, ahead_is, behind_checked, still_checked, Apart, apart, are_apart, Runs, done, refuse_if_lem, and_then_lem, runs_by, refuses_exactly, none_holds}
use Rattle.promises.proofs.RefusalsShort.{shorter, is_short}
use Rattle.promises.proofs.RefusalsAssemble.{pass_known, pass_answered}
use Rattle.promises.proofs.Refusals.{written}
use Rattle.promises.proofs.Lawful.{rules_are_lawful, rules_are_short}
use Rattle.promises.proofs.MovedLists.{lawful_moves, short_words_differ}
use Rattle.promises.proofs.Explain.{explains_exactly, explain_refuses_exactly, explains_all}
use Rattle.promises.proofs.Branches.{load_known, load_answered, load_refuses_exactly, load_accepts_exactly}
use Rattle.promises.proofs.BranchFront.{front_of_a_table}
use Rattle.promises.proofs.BranchEleven.{lists_same, explains_same, explain_same, eleven_mean}

-- ---- a call under a table
-- an accepted one: the call by its names
with_names : {A : Type 0} (t : Text) (ns : List Mnemonic) → Accepted t ns → (call : List Mnemonic → Answer A) → under t call ≡ call (other_mnemonics ++ ns)
unfolding under and_then names_with LoadAcceptsExactly
with_names t ns a call = rw ((load_accepts_exactly t ns).1 a)

-- what follows a call
under_then : {A B : Type 0} (t : Text) (call : List Mnemonic → Answer A) (f : A → Answer B) → and_then (under t call) f ≡ under t (λ ns. and_then (call ns) f)
unfolding under and_then
under_then {A} {B} t call f = go (loaded t)
  where
    go : (x : Answer (List Mnemonic)) → and_then (and_then x (λ ns. call (names_with ns))) f ≡ and_then x (λ ns. and_then (call (names_with ns)) f)
    go (accepted ns) = refl
    go (refused n p) = refl

-- a call that refuses exactly by its conditions does so under a table too, whose numbers are no others' and come first
module _ (t : Text) (C : ℕ → ℕ → Type 0) (ss : List Stage) (d : Apart (loading ++ ss)) (known : (n p : ℕ) → C n p → Checked n ss) where
  abbrev U : ℕ → ℕ → Type 0
  U = UnderCondition t C

  number_of_lem : {n p : ℕ} → TableCondition t n p → OneOf n (16 ∷ 17 ∷ [])
  number_of_lem {n} {p} c = go (load_known t n p c)
    where
      go : Checked n loading → OneOf n (16 ∷ 17 ∷ [])
      go (at_once i) = i
      go (after i) = elim i [ ]

  -- the first of the table's is the first of all
  first_loading : {n p : ℕ} → FirstOf loading (TableCondition t) n p → FirstOf (loading ++ ss) U n p
  first_loading {n} {p} h = (of_table h.0, λ m q b. go m q b)
    where
      own : OneOf n (16 ∷ 17 ∷ [])
      own = number_of_lem h.0

      earlier : (m q : ℕ) → OneOf m (16 ∷ 17 ∷ []) → CheckedBefore m q n p loading → ¬ U m q
      earlier m q i b (of_table c) = h.1 m q b c
      earlier m q i b (of_call c) = d.0 m i (known m q c)

      go : (m q : ℕ) → CheckedBefore m q n p (loading ++ ss) → ¬ U m q
      go m q (by_stage i k) c = d.0 n own k
      go m q (within_line i j l) c = earlier m q i (within_line i j l) c
      go m q (on_line a e) c = earlier m q (ahead_is a) (on_line a e) c
      go m q (further_on b) c = d.0 n own (behind_checked b)

  module _ {A : Type 0} (call : List Mnemonic → Answer A) (exactly : (ns : List Mnemonic) → loaded t ≡ accepted ns → RefusesExactly ss C (call (names_with ns))) where
    under_exactly : RefusesExactly (loading ++ ss) U (under t call)
    unfolding under and_then LoadRefusesExactly apart
    under_exactly n p = go (loaded t) refl
      where
        widen : (m q : ℕ) → CheckedBefore m q n p loading → CheckedBefore m q n p (loading ++ ss)
        widen m q (by_stage i k) = elim k [ ]
        widen m q (within_line i j l) = within_line i j l
        widen m q (on_line b e) = on_line b e
        widen m q (further_on b) = elim b [ ]

        blamed : (m q : ℕ) → loaded t ≡ refused m q → U n p → ((m' q' : ℕ) → CheckedBefore m' q' n p (loading ++ ss) → ¬ U m' q') → (m ≡ n) × (q ≡ p)
        blamed m q f (of_table c) h =
            let k = sym f ∙ (load_refuses_exactly t n p).1 (c, λ m' q' b i. h m' q' (widen m' q' b) (of_table i)) in
            (cc, cc)
        blamed m q f (of_call c) h =
            let g = (load_refuses_exactly t m q).0 f in
            absurd (h m q (by_stage (number_of_lem g.0) (known n p c)) (of_table g.0))

        own : (ns : List Mnemonic) → loaded t ≡ accepted ns → (m q : ℕ) → U m q → C m q
        own ns f m q (of_table c) = absurd (none_holds (TableCondition t) loading (are_apart loading refl) (load_known t) ns (loaded t) f (load_answered t) m q c)
        own ns f m q (of_call c) = c

        later : (ns : List Mnemonic) → loaded t ≡ accepted ns → FirstOf ss C n p → (m q : ℕ) → CheckedBefore m q n p (loading ++ ss) → ¬ C m q
        later ns f h m q (by_stage i k) c = d.0 m i (known m q c)
        later ns f h m q (within_line i j l) c = d.0 m i (known m q c)
        later ns f h m q (on_line b e) c = d.0 m (ahead_is b) (known m q c)
        later ns f h m q (further_on b) c = h.1 m q b c

        go : (x : Answer (List Mnemonic)) → loaded t ≡ x → (and_then x (λ ns. call (names_with ns)) ≡ refused n p) ↔ FirstOf (loading ++ ss) U n p
        go (refused m q) f = (
          λ e.
              let u : m ≡ n = cc in
              let v : q ≡ p = cc in
              first_loading ((load_refuses_exactly t n p).0 (f ∙ rw (u, v))),
          λ h. let k = blamed m q f h.0 h.1 in rw (k.0, k.1),
        )
        go (accepted ns) f = (
          λ e. let h = (exactly ns f n p).0 e in (of_call h.0, λ m q b c. later ns f h m q b (own ns f m q c)),
          λ h. (exactly ns f n p).1 (own ns f n p h.0, λ m q b c. h.1 m q (further_on b) (of_call c)),
        )

-- ---- the stations' call
module _ (t : Text) (base : ℕ) (s : Text) (x : Slices) where
  abbrev L : ℕ → ℕ → Type 0
  L = ListCondition t base s x

  list_known : (n p : ℕ) → L n p → Checked n assembling
  unfolding is_checked
  list_known n p (of_pass c) = still_checked (all 7 ∷ []) (pass_known size base s n p c)
  list_known n p (slice_short e h) = checked_by 7 assembling refl

  from_pass : (n p : ℕ) → Checked n passing → L n p → PassCondition size base s n p
  unfolding is_checked
  from_pass n p k (of_pass c) = c
  from_pass n p k (slice_short e h) = absurd (not_checked 7 passing refl k)

  to_7 : (l : List Place) → assemble_under t base s ≡ accepted l → (q : ℕ) → L 7 q → (short x (length l) ≡ true) × (q ≡ length l)
  unfolding is_checked
  to_7 l e q (slice_short {l = k} g h) = let u : k ≡ l = cc in (is_short x (length l) (rw u at h), ap length u)
  to_7 l e q (of_pass c) = absurd (not_checked 7 passing refl (pass_known size base s 7 q c))

  -- under an accepted table
  module _ (ns : List Mnemonic) (e : loaded t ≡ accepted ns) where
    listed : Runs L passing (assemble_by size (encode_by (names_with ns)) base s)
    unfolding assemble_by
    listed =
        and_then_lem L [] (pass_at base s) (encoded (encode_by (names_with ns)))
        (runs_by (PassCondition size base s) L passing (pass_at base s) (λ n p. of_pass) from_pass (pass_answered size base s)) (λ p f. done)

    is_list : assemble_under t base s ≡ assemble_by size (encode_by (names_with ns)) base s
    unfolding under and_then
    is_list = rw e

    answered : Runs L assembling (and_then (assemble_by size (encode_by (names_with ns)) base s) (room x))
    unfolding room
    answered =
        and_then_lem L (all 7 ∷ []) (assemble_by size (encode_by (names_with ns)) base s) (room x) listed λ l f.
        refuse_if_lem L 7 (length l) (short x (length l)) (accepted (length l)) (λ g. slice_short (is_list ∙ f) (shorter x (length l) g)) (to_7 l (is_list ∙ f)) (λ g. done)

    list_exactly : RefusesExactly assembling L (and_then (assemble_by size (encode_by (names_with ns)) base s) (room x))
    unfolding apart
    list_exactly = refuses_exactly L assembling (are_apart assembling refl) list_known (and_then (assemble_by size (encode_by (names_with ns)) base s) (room x)) answered

pub assemble_under_refuses_exactly : AssembleUnderRefusesExactly
unfolding AssembleUnderRefusesExactly assemble_under_answer apart
assemble_under_refuses_exactly t base s x =
    rw (under_then t (λ names. assemble_by size (encode_by names) base s) (room x))
    (under_exactly t (L t base s x) assembling (are_apart (loading ++ assembling) refl) (list_known t base s x)
    (λ names. and_then (assemble_by size (encode_by names) base s) (room x)) (list_exactly t base s x))

pub lists_under : ListsUnder
unfolding ListsUnder
lists_under t ns a base s = with_names t ns a (λ names. assemble_by size (encode_by names) base s)

-- ---- what is written
-- of any list or refusal
unwritten : (r : Answer (List Place)) (x : Slices) (n p : ℕ) → and_then r (room x) ≡ refused n p → write_list r x ≡ x
unfolding and_then room write_list refuse_if
unwritten (refused m q) x n p e = refl
unwritten (accepted l) x n p e = go (short x (length l)) refl e
  where
    go : (y : Bool) → short x (length l) ≡ y → refuse_if y 7 (length l) (accepted (length l)) ≡ refused n p → write_list (accepted l) x ≡ x
    go true f g = rw (f, write_list)
    go false f g = clash cc

accepted_list : (r : Answer (List Place)) (x : Slices) (n : ℕ) → and_then r (room x) ≡ accepted n
    → (l : List Place) × (r ≡ accepted l) × (n ≡ length l) × (held n (write_list r x) ≡ l) × SamePast n (write_list r x) x
unfolding and_then room write_list refuse_if
accepted_list (refused m q) x n e = clash cc
accepted_list (accepted l) x n e = go (short x (length l)) refl e
  where
    go : (y : Bool) → short x (length l) ≡ y → refuse_if y 7 (length l) (accepted (length l)) ≡ accepted n
        → (k : List Place) × (accepted l ≡ accepted k) × (n ≡ length k) × (held n (write_list (accepted l) x) ≡ k) × SamePast n (write_list (accepted l) x) x
    go true f g = clash cc
    go false f g = let k : n ≡ length l = cc in rw (f, write_list, k) (l, refl, refl, (written l x).0, (written l x).1)

-- no condition holds of a call that is accepted
clear : (t : Text) (base : ℕ) (s : Text) (x : Slices) (n : ℕ) → assemble_under_answer t base s x ≡ accepted n → (m q : ℕ) → ¬ UnderCondition t (L t base s x) m q
unfolding assemble_under_answer under and_then apart
clear t base s x n e m q c = go (loaded t) refl e c
  where
    go : (y : Answer (List Mnemonic)) → loaded t ≡ y → and_then (and_then y (λ ns. assemble_by size (encode_by (names_with ns)) base s)) (room x) ≡ accepted n
        → UnderCondition t (L t base s x) m q → ⊥
    go (refused i j) f g k = clash cc
    go (accepted ns) f g (of_table k) = none_holds (TableCondition t) loading (are_apart loading refl) (load_known t) ns (loaded t) f (load_answered t) m q k
    go (accepted ns) f g (of_call k) =
        none_holds (L t base s x) assembling (are_apart assembling refl) (list_known t base s x) n
        (and_then (assemble_by size (encode_by (names_with ns)) base s) (room x)) g (answered t base s x ns f) m q k

pub assemble_under_writes : AssembleUnderWrites
unfolding assemble_under_answer assemble_under_slices
assemble_under_writes =
    record {
      refusal = λ t base s x n p e. unwritten (assemble_under t base s) x n p e;
      acceptance = λ t base s x n e.
          let h = accepted_list (assemble_under t base s) x n e in
          record { clear = clear t base s x n e; list = h.0; listed = h.1; counted = h.2; written = h.3; past = h.4 };
    }

-- ---- moving is assembling
pub tables_move : TablesMove
unfolding TablesMove LawfulMoves ShortWordsDiffer RulesAreLawful RulesAreShort
tables_move t ns a =
    let names = other_mnemonics ++ ns in
    let e : assemble_under t ≡ assemble_by size (encode_by names) = λ k base s. with_names t ns a (λ m. assemble_by size (encode_by m) base s) k in
    record {
      moves_as_assembled = subst (MovesAsAssembledFor size (encoded (encode_by names))) (sym e) (lawful_moves size (encode_by names) 2 (rules_are_lawful names));
      differ = subst WordsDifferFor (sym e) (short_words_differ size (encode_by names) 2 (rules_are_lawful names) (rules_are_short names));
    }

-- ---- the calls that say why a line has no word
explain_known : (base : ℕ) (s : Text) (k n p : ℕ) → ExplainCondition base s k n p → Checked n explaining
unfolding is_checked
explain_known base s k n p (E.of_pass c) = still_checked (all 13 ∷ []) (pass_known size base s n p c)
explain_known base s k n p (no_line h) = checked_by 13 explaining refl
explain_known base s k n p (never_read e f h) = checked_by 13 explaining refl

pub explain_under_refuses_exactly : ExplainUnderRefusesExactly
unfolding ExplainUnderRefusesExactly ExplainRefusesExactly apart
explain_under_refuses_exactly t base s k =
    under_exactly t (ExplainCondition base s k) explaining (are_apart (loading ++ explaining) refl) (explain_known base s k)
    (λ names. explain_by names base s k) (λ ns e. explain_refuses_exactly (names_with ns) base s k)

pub explains_under : ExplainsUnder
unfolding ExplainsUnder ExplainsExactly
explains_under t ns a base s k v = rw (with_names t ns a (λ names. explain_by names base s k)) (explains_exactly (other_mnemonics ++ ns) base s k v)

pub explains_all_under : ExplainsAllUnder
unfolding apart
explains_all_under =
    record {
      refuses = λ t base s.
          under_exactly t (PassCondition size base s) passing (are_apart (loading ++ passing) refl) (pass_known size base s)
          (λ names. explain_all_by names base s) (λ ns e. explains_all.refuses (names_with ns) base s);
      lines = λ t ns a base s. with_names t ns a (λ names. explain_all_by names base s);
    }

-- ---- the eleven, and a table's front
pub eleven_as_without : ElevenAsWithout
unfolding ElevenAsWithout ListsUnder assemble_under_answer assemble_under_slices assemble_answer assemble_slices
eleven_as_without t ns a e =
    let list : (base : ℕ) (s : Text) → assemble_under t base s ≡ assemble base s =
    λ base s. lists_under t ns a base s ∙ lists_same (other_mnemonics ++ ns) mnemonics (eleven_mean ns e) base s in
    record {
      list = list;
      answer = λ base s x. ap (λ (r : Answer (List Place)). and_then r (room x)) (list base s);
      slices = λ base s x. ap (λ (r : Answer (List Place)). write_list r x) (list base s);
      verdicts = λ base s. with_names t ns a (λ names. explain_all_by names base s) ∙ explains_same (other_mnemonics ++ ns) mnemonics (eleven_mean ns e) base s;
      verdict = λ base s k. with_names t ns a (λ names. explain_by names base s k) ∙ explain_same (other_mnemonics ++ ns) mnemonics (eleven_mean ns e) base s k;
    }

under_front : {A : Type 0} (t : Text) (call : List Mnemonic → Answer A) → under (take 97 t) call ≡ under t call
unfolding under FrontOfATable
under_front t call = ap (λ (r : Answer (List Mnemonic)). and_then r (λ ns. call (names_with ns))) (front_of_a_table t)

pub front_is_enough : (t : Text) → FrontIsEnough t
unfolding assemble_under_answer assemble_under_slices
front_is_enough t =
    record {
      list = λ base s. under_front t (λ names. assemble_by size (encode_by names) base s);
      answer = λ base s x. ap (λ (r : Answer (List Place)). and_then r (room x)) (under_front t (λ names. assemble_by size (encode_by names) base s));
      slices = λ base s x. ap (λ (r : Answer (List Place)). write_list r x) (under_front t (λ names. assemble_by size (encode_by names) base s));
      verdicts = λ base s. under_front t (λ names. explain_all_by names base s);
      verdict = λ base s k. under_front t (λ names. explain_by names base s k);
    }
