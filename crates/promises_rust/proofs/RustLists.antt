-- The comparison with the Rust: the second pass, and the theorem that the list, marks left out, is the Rust's. Assumes nothing.
use Rattle.std.specs.Prelude.{Option, None, Some, unwrap_or, option_map}
use Prim.Native.Nat.{ℕ, suc, ◌+◌, ◌/◌, ◌%◌, ◌^◌, ◌<◌}
use mathlib.Core.Path.{◌≡◌, refl, sym, ap, ◌∙◌}
use mathlib.Core.List.{List, [], ◌∷◌, ◌++◌, map, flat_map, foldl, append-nil, append_assoc, map-append}
use native.Mathlib.Omega.{arith}
use native.Mathlib.Nat.{mod-eq_of_lt, mod-mod, div-add-mod'}
use lib.Bits.{and_mask}
use Rattle.rules.specs.Text.{Text, cut_at}
use Rattle.rules.specs.Line.{numbered, lines_of, Instruction as Said, Task, size}
use Rattle.rules.specs.Label.{Table, find}
use Rattle.rules.specs.Encode.{Content, literal, address, long_address, encode}
use Rattle.rules.specs.Answer.{Answer, accepted, refused, and_then}
use Rattle.rules.specs.Assemble.{Put, Pass, first_pass, Place, places_at, data_contents, words_by, code_contents, code_contents_by, data_places, code_places, second_pass, second_pass_by, code_places_by}
use Rattle.promises_rust.specs.RustStr.{split, HashMap, look_up, push, add_u32}
use Rattle.promises_rust.specs.RustAssembler.{AssemblyInstruction, Code, encode_instruction_with_ext, State, rust_first_pass, push_data, push_ext, push_code, push_instruction}
use Rattle.promises_rust.specs.RustAssembler as Rust
use Rattle.promises_rust.specs.RustLists.{inst_at, without_mark, ListIsTheRusts}
use Rattle.promises.proofs.Accepted.{accepts}
use Rattle.promises.proofs.Tasks.{Worded, silent, codes, holds, worded}
use Rattle.promises_rust.proofs.RustText.{split_is}
use Rattle.promises_rust.proofs.RustOperand.{Agrees}
use Rattle.promises_rust.proofs.RustEncode.{plain, ext_words, code_words, encode_same}
use Rattle.promises_rust.proofs.RustValue.{TaskLow}
use Rattle.promises_rust.proofs.RustPlain.{all_plain}
use Rattle.promises_rust.proofs.RustLine.{AllDone, all_done}
use Rattle.rules.specs.Assemble as Rules
use Rattle.promises_rust.proofs.RustPass.{code_at, value_at, code_of, value_of, PutLow, AllLow, nil, cons, Ended, texts, accepted_inj, never, pass_ends}

-- words at an address, each two further on
words_at : ℕ → List ℕ → List (ℕ × ℕ)
words_at a [] = []
words_at a (w ∷ ws) = (a, w) ∷ words_at (a + 2) ws

places_words : (a : ℕ) (cs : List Content) → map without_mark (places_at a cs) ≡ words_at a (plain cs)
unfolding places_at words_at
places_words a [] = refl
places_words a (literal w ∷ cs) = ap (λ (r : List (ℕ × ℕ)). (a, w) ∷ r) (places_words (a + 2) cs)
places_words a (address x ∷ cs) = ap (λ (r : List (ℕ × ℕ)). (a, x % 65536) ∷ r) (places_words (a + 2) cs)
places_words a (long_address x ∷ cs) =
    let e : a + 4 ≡ a + 2 + 2 = omega arith in
    rw e (ap (λ (r : List (ℕ × ℕ)). (a, x / 65536 % 65536) ∷ (a + 2, x % 65536) ∷ r) (places_words (a + 2 + 2) cs))

-- the address of a second word does not wrap
two_on : (a : ℕ) → a < 2 ^ 30 → add_u32 a 2 ≡ a + 2
two_on a h = mod-eq_of_lt (omega arith)

-- a loop that pushes
pushes : {A : Type 0} (f : List (ℕ × ℕ) → A → List (ℕ × ℕ)) (g : A → List (ℕ × ℕ)) → ((m : List (ℕ × ℕ)) (x : A) → f m x ≡ m ++ g x)
    → (xs : List A) (m : List (ℕ × ℕ)) → foldl f m xs ≡ m ++ flat_map g xs
unfolding flat_map
pushes f g e [] m = sym (append-nil m)
pushes f g e (x ∷ xs) m = rw (e m x) (pushes f g e xs (m ++ g x) ∙ append_assoc m (g x) (flat_map g xs))

-- the words of a value, and of an instruction
data_words : ℕ × ℕ → List (ℕ × ℕ)
data_words d = push_data [] d

inst_words : HashMap → AssemblyInstruction → List (ℕ × ℕ)
inst_words m i = push_instruction m [] i

data_pushes : (m : List (ℕ × ℕ)) (d : ℕ × ℕ) → push_data m d ≡ m ++ data_words d
unfolding push_data data_words
data_pushes m d = append_assoc m _ _

code_pushes : (m : List (ℕ × ℕ)) (a : ℕ) (o : Option Code) → push_code m a o ≡ m ++ push_code [] a o
unfolding push_code push_ext
code_pushes m a None = sym (append-nil m)
code_pushes m a (Some c) = go c.1
  where
    go : (e : Option ℕ) → push_ext (push m (a, c.0)) a e ≡ m ++ push_ext ((a, c.0) ∷ []) a e
    go None = refl
    go (Some e) = append_assoc m _ _

instruction_pushes : (labels : HashMap) (m : List (ℕ × ℕ)) (i : AssemblyInstruction) → push_instruction labels m i ≡ m ++ inst_words labels i
unfolding push_instruction inst_words
instruction_pushes labels m i = code_pushes m i.address (encode_instruction_with_ext labels i)

-- they stand at the rules' places
code_words_lem : (a : ℕ) → a < 2 ^ 30 → (o : Option Code) → push_code [] a o ≡ words_at a (unwrap_or (option_map code_words o) [])
unfolding push_code push_ext words_at
code_words_lem a h None = refl
code_words_lem a h (Some c) = go c.1
  where
    go : (e : Option ℕ) → push_ext ((a, c.0) ∷ []) a e ≡ (a, c.0) ∷ words_at (a + 2) (ext_words e)
    go None = refl
    go (Some e) = rw (two_on a h)

get_d_map : (o : Option (List Content)) → unwrap_or (option_map plain o) [] ≡ plain (unwrap_or o [])
get_d_map None = refl
get_d_map (Some cs) = refl

inst_words_lem : {m : HashMap} {t : Table} → Agrees m t → (a : ℕ) → a < 2 ^ 30 → (i : Said) → inst_words m (inst_at a i) ≡ map without_mark (places_at a (words_by encode t a i))
unfolding inst_words push_instruction
inst_words_lem {m} {t} g a low i =
    code_words_lem a low (encode_instruction_with_ext m (inst_at a i))
    ∙ ap (λ (o : Option (List ℕ)). words_at a (unwrap_or o [])) (encode_same a low i g).words
    ∙ ap (words_at a) (get_d_map (encode t a i))
    ∙ sym (places_words a (words_by encode t a i))

data_words_lem : (a v : ℕ) → a < 2 ^ 30 → v < 2 ^ 32 → data_words (a, v) ≡ map without_mark (places_at a (literal (v / 65536) ∷ literal (v % 65536) ∷ []))
unfolding data_words push_data places_at
data_words_lem a v h k = rw (two_on a h, and_mask v 16, mod-mod v (2 ^ 16), mod-eq_of_lt {n = v / 65536} {m = 65536} high)
  where
    high : v / 65536 < 65536
    high = omega (arith, div-add-mod' v 65536)

-- a task's words
data_put : (a : ℕ) → a < 2 ^ 30 → {k : Task} (w : Worded k) → TaskLow k → flat_map data_words (value_at a w) ≡ map without_mark (places_at a (data_contents k))
unfolding value_at data_contents places_at flat_map
data_put a h (silent e f) l = rw e
data_put a h (codes i) l = refl
data_put a h (holds n v) l = append-nil (data_words (a, v)) ∙ data_words_lem a v h l.0

code_put : {m : HashMap} {t : Table} → Agrees m t → (a : ℕ) → a < 2 ^ 30 → {k : Task} (w : Worded k)
    → flat_map (inst_words m) (code_at a w) ≡ map without_mark (places_at a (code_contents t a k))
unfolding code_at code_contents_by places_at flat_map
code_put {t = t} g a h (silent e f) = rw (f encode t a)
code_put {m = m} g a h (codes i) = append-nil (inst_words m (inst_at a i)) ∙ inst_words_lem g a h i
code_put g a h (holds n v) = refl

-- all puts' words
flat_append : {A B : Type 0} (f : A → List B) (xs ys : List A) → flat_map f (xs ++ ys) ≡ flat_map f xs ++ flat_map f ys
unfolding flat_map
flat_append f [] ys = refl
flat_append f (x ∷ xs) ys = rw (flat_append f xs ys) (sym (append_assoc (f x) (flat_map f xs) (flat_map f ys)))

puts_words : {A : Type 0} (f : A → List (ℕ × ℕ)) (g : Put → List A) (h : Put → List Place) → ((p : Put) → PutLow p → flat_map f (g p) ≡ map without_mark (h p))
    → {ps : List Put} → AllLow ps → flat_map f (flat_map g ps) ≡ map without_mark (flat_map h ps)
unfolding flat_map
puts_words f g h e nil = refl
puts_words f g h e (cons {p = p} {ps = ps} l ls) =
    rw (flat_append f (g p) (flat_map g ps), map-append without_mark (h p) (flat_map h ps), e p l, puts_words f g h e ls)

-- the two passes
second_is : (s : State) (p : Pass) → Ended (record { labels = []; instructions = []; data_values = []; current_address = 0 }) s p
    → foldl (push_instruction s.labels) (foldl push_data [] s.data_values) s.instructions ≡ map without_mark (second_pass p)
unfolding second_pass_by data_places code_places_by
second_is s p e =
    rw (
      e.instructions,
      e.values,
      pushes push_data data_words data_pushes (flat_map value_of p.puts) [],
      pushes (push_instruction s.labels) (inst_words s.labels) (instruction_pushes s.labels) (flat_map code_of p.puts) _,
      puts_words data_words value_of data_places (λ x l. data_put x.address l.address (worded x.task) l.value) e.low,
      puts_words (inst_words s.labels) code_of (code_places p.labels) (λ x l. code_put e.agrees x.address l.address (worded x.task)) e.low,
    )
    (sym (map-append without_mark (flat_map data_places p.puts) (flat_map (code_places p.labels) p.puts)))

-- the lines
lines_texts : (n i : ℕ) (ls : List Text) → texts (numbered n i ls) ≡ ls
unfolding numbered
lines_texts n i [] = refl
lines_texts n i (l ∷ ls) = ap (λ (r : List Text). l ∷ r) (lines_texts (suc n) _ ls)

-- at first no label is known to either
pub empty_agrees : Agrees [] []
unfolding look_up find
empty_agrees = record { finds = λ n. refl; low = λ n. tt }

pub list_is : (s : Text) (ls : List Text) → AllDone (split 10 s) ls → (l : List Place) → Rules.assemble 0 s ≡ accepted l → map without_mark l ≡ Rust.assemble ls
unfolding Rust.assemble lines_of and_then
list_is s ls b l e = go (first_pass 0 0 [] (lines_of s)) refl (accepts size encode 0 s l e).passed
  where
    all : AllDone (texts (lines_of s)) ls
    all = rw (lines_texts 1 0 (cut_at 10 s), ← split_is 10 s) b

    start : State
    start = record { labels = []; instructions = []; data_values = []; current_address = 0 }

    go : (r : Answer Pass) → first_pass 0 0 [] (lines_of s) ≡ r → and_then r (λ p. accepted (second_pass p)) ≡ accepted l
        → map without_mark l ≡ Rust.assemble ls
    go (refused n q) f h = absurd (never n q l h)
    go (accepted p) f h =
        rw (← accepted_inj (second_pass p) l h)
        (sym (second_is (rust_first_pass ls start) p (pass_ends (lines_of s) all 0 (omega arith) [] start refl empty_agrees p f)))

pub list_is_the_rusts : ListIsTheRusts
unfolding ListIsTheRusts
list_is_the_rusts s b l e = list_is s (split 10 s) (all_done (all_plain (split 10 s) b)) l e
