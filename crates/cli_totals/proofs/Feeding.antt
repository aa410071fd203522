-- A chunk of the names, used up name by name. Assumes nothing.
use Rattle.std.proofs.Common.{◌≡◌, ℕ, ◌+◌, ◌-◌, ◌<◌, ◌≤◌, Bool, true, false, cond, List, [], ◌∷◌, ◌++◌, append-nil, append_assoc, length, take, drop, min, refl, sym, ap, subst, ◌∙◌, length-drop, take-append-drop, drop-drop, take_all, arith, Option, Ok, Err}
use Rattle.rules.specs.Text.{Text, cut_at}
use Rattle.requests.specs.Sheet.{Totals}
use Rattle.sheet.specs.Totals.{said}
use Rattle.sheet.specs.declared.Totals.{Totals as Sums}
use Rattle.sheettext.specs.Names.{name_kept, NamesRead, line_length, taken_of, name_after, held_on}
use Rattle.sheettext.specs.declared.names.Taken.{Taken}
use Rattle.sheettext.proofs.Lines.{names_read_on}
use Rattle.cli_error.specs.Answered.{Answered}
use Rattle.cli_error.specs.declared.Answer.{Answer}
use Rattle.cli_io.specs.World.{World}
use Rattle.cli_totals.specs.Names.{whole_names, left_of}
use Rattle.cli_totals.specs.Sheeted.{AddsFiles, AddsNamed}
use Rattle.cli_totals.specs.Steps.{Holds, FileAdded, ScriptAddedIf, AnswersRead, ReadAdded, ReadHalts}
use Rattle.cli_totals.specs.declared.adding.Kind.TheVariants.{Script}
use Rattle.cli_totals.proofs.Cutting.{names_more, left_more, names_none, left_all, one_line}
use Rattle.cli_totals.proofs.Holding.{hold_none, as_read, as_held}
use Rattle.cli_totals.proofs.Chaining.{add_one, add_last}

-- ---- the rest of a chunk from an index on, as `take_name` is lent it
module _ (chunk : Text) (at : ℕ) where
  abbrev lent : Text
  lent = take (length chunk - at) (drop at chunk)

  lent_so : lent ≡ drop at chunk
  lent_so = take_all (length chunk - at) (drop at chunk) (omega (arith, length-drop at chunk))

  pub used_within : (held : ℕ) {r : Taken} → r ≡ taken_of held lent → at < length chunk → (at < at + r.used) × (at + r.used ≤ length chunk)
  unfolding taken_of
  used_within held {r} e h =
      let size : length lent ≡ length chunk - at = ap length lent_so ∙ length-drop at chunk in
      let used : r.used ≡ min (length lent) (line_length lent + 1) = ap (λ (x : Taken). x.used) e in
      (omega arith, omega arith)

  pub held_within : (held : ℕ) {r : Taken} → r ≡ taken_of held lent → r.held ≤ 4097
  unfolding taken_of
  held_within held {r} e = let most : r.held ≡ min 4097 (held + line_length lent) = ap (λ (x : Taken). x.held) e in omega arith

module _ {H : Type 0} (w : World H) where
  -- the names of what was read, and what is left of it, by two ways to say them
  module _ (json : Bool) (file : Option Text) (n : ℕ) (t : Totals) (now new : H) (a : Answered) where
    alike : {ns ms : List Text} {l m : Text} → ns ≡ ms → l ≡ m
        → AddsFiles w new a Script ms (λ u x. AddsNamed w new a json file n m u x) t now
        → AddsFiles w new a Script ns (λ u x. AddsNamed w new a json file n l u x) t now
    alike {ns} {ms} {l} {m} e f x =
        subst (λ (ks : List Text). AddsFiles w new a Script ks (λ u y. AddsNamed w new a json file n l u y) t now) (sym e)
        (subst (λ (k : Text). AddsFiles w new a Script ms (λ u y. AddsNamed w new a json file n k u y) t now) (sym f) x)

  -- ---- r, which was read, is used up to its tail: what is so of the rest is so of r
  module _ (r : Text) (t : Totals) (old : H) where
    pub record Chunked (tail : Text) (name : List ℕ) (held : ℕ) (u : Totals) (now : H) : Type 0 where
      pub rest : Text
      pub holds : Holds rest name held
      pub left : left_of (rest ++ tail) ≡ left_of r
      pub so : (json : Bool) (file : Option Text) (n : ℕ) (new : H) (a : Answered)
          → AnswersRead w json file n (rest ++ tail) u now new a → AnswersRead w json file n r t old new a

    module _ (s : Text) {name : List ℕ} {held : ℕ} {u : Totals} {now : H} (c : Chunked s name held u now) where
      abbrev taken : Taken
      taken = taken_of held s

      abbrev after : List ℕ
      after = name_after held s name

      abbrev tail : Text
      tail = drop taken.used s

      abbrev used : Text
      used = c.rest ++ take taken.used s

      parts : used ++ tail ≡ c.rest ++ s
      parts = append_assoc c.rest (take taken.used s) tail ∙ ap (λ (x : Text). c.rest ++ x) (take-append-drop taken.used s)

      -- a part of a name
      chunk_part : taken.whole ≡ false → Chunked tail after taken.held u now
      chunk_part e =
          record {
            rest = used;
            holds = as_held (names_read_on.part c.rest s [] name held (as_read c.holds) e);
            left = ap left_of parts ∙ c.left;
            so = λ json file n new a x. c.so json file n new a (subst (λ (y : Text). AnswersRead w json file n y u now new a) parts x);
          }

      -- a name that is whole
      abbrev whole : Text
      whole = take taken.held after

      module _ (e : taken.whole ≡ true) where
        read : NamesRead used (whole ∷ []) after 0
        read = names_read_on.whole c.rest s [] name held (as_read c.holds) e

        line : (l : Text) × (cut_at 10 used ≡ l ∷ [] ∷ []) × (whole ≡ name_kept l)
        line = one_line read

        names_so : whole_names (c.rest ++ s) ≡ whole ∷ whole_names tail
        names_so =
            ap whole_names (sym parts)
            ∙ (names_more used tail line.0 line.1 ∙ ap (λ (x : Text). x ∷ whole_names tail) (sym line.2))

        left_so : left_of (c.rest ++ s) ≡ left_of tail
        left_so = ap left_of (sym parts) ∙ left_more used tail line.0 line.1

        chunk_name : (mid : H) (v : Sums) → FileAdded w Script whole u now mid (Ok v) → Chunked tail after 0 (said v) mid
        chunk_name mid v f =
            record {
              rest = [];
              holds = hold_none after read.room;
              left = sym left_so ∙ c.left;
              so = λ json file n new a x.
                  c.so json file n new a
                  (alike json file n u now new a names_so left_so
                  (add_one w Script whole (whole_names tail) u now mid new a (λ y m. AddsNamed w new a json file n (left_of tail) y m) v f x));
            }

        chunk_last : (mid : H) (z : Answer) → FileAdded w Script whole u now mid (Err z) → ReadHalts w r t old mid z
        chunk_last mid z f = λ json file n.
            let b = add_last w Script whole (whole_names tail) u now mid (λ a y m. AddsNamed w mid a json file n (left_of tail) y m) z f in
            (b.0, c.so json file n mid b.0 (alike json file n u now mid b.0 names_so left_so b.1), b.2)

      -- by whether it is whole
      pub chunk_more : (mid : H) (v : Sums) → ScriptAddedIf w taken.whole (take taken.held after) u now mid (Ok v) → Chunked tail after (held_on taken) (said v) mid
      unfolding held_on
      chunk_more mid v = go taken.whole refl
        where
          go : (b : Bool) → taken.whole ≡ b → ScriptAddedIf w b (take taken.held after) u now mid (Ok v) → Chunked tail after (cond b 0 taken.held) (said v) mid
          go true e f = chunk_name e mid v f
          go false e f =
              let sum : u ≡ said v = cc in
              subst (λ (m : H). Chunked tail after taken.held (said v) m) (sym f.0)
              (subst (λ (x : Totals). Chunked tail after taken.held x now) sum (chunk_part e))

      pub chunk_halts : (mid : H) (z : Answer) → ScriptAddedIf w taken.whole (take taken.held after) u now mid (Err z) → ReadHalts w r t old mid z
      chunk_halts mid z = go taken.whole refl
        where
          go : (b : Bool) → taken.whole ≡ b → ScriptAddedIf w b (take taken.held after) u now mid (Err z) → ReadHalts w r t old mid z
          go true e f = chunk_last e mid z f
          go false e f = absurd (cc)

    -- ---- none of it is left
    module _ {tail : Text} {name : List ℕ} {held : ℕ} {u : Totals} {now : H} (c : Chunked tail name held u now) (e : tail ≡ []) where
      all : c.rest ++ tail ≡ c.rest
      all = ap (λ (x : Text). c.rest ++ x) e ∙ append-nil c.rest

      same : c.rest ≡ left_of r
      same = sym (left_all c.rest c.holds.plain) ∙ (ap left_of (sym all) ∙ c.left)

      pub chunk_held : Holds (left_of r) name held
      chunk_held = subst (λ (x : Text). Holds x name held) same c.holds

      pub chunk_added : ReadAdded w r t old now u
      unfolding AddsFiles
      chunk_added =
          record {
            so = λ json file n new a x.
                c.so json file n new a (alike json file n u now new a (ap whole_names all ∙ names_none c.rest c.holds.plain) c.left x);
          }

  pub chunk_begin : (rest chunk : Text) (t : Totals) (old : H) (name : List ℕ) (held : ℕ) → Holds rest name held → Chunked (rest ++ chunk) t old chunk name held t old
  chunk_begin rest chunk t old name held h = record { rest = rest; holds = h; left = refl; so = λ json file n new a x. x }

-- ---- as the loop has it: r, what `take_name` takes of the chunk from an index on
module _ {H : Type 0} (w : World H) (q : Text) (t : Totals) (old : H) (chunk : Text) (at : ℕ) {name last : List ℕ} {held : ℕ} {u : Totals} {now : H}
    (c : Chunked w q t old (drop at chunk) name held u now) {r : Taken} (e : r ≡ taken_of held (lent chunk at)) (f : last ≡ name_after held (lent chunk at) name) where
  abbrev all_taken : Taken
  all_taken = taken_of held (drop at chunk)

  abbrev all_after : List ℕ
  all_after = name_after held (drop at chunk) name

  taken_so : r ≡ all_taken
  taken_so = e ∙ ap (taken_of held) (lent_so chunk at)

  after_so : last ≡ all_after
  after_so = f ∙ ap (λ (s : Text). name_after held s name) (lent_so chunk at)

  pub chunk_goes_on : {k : ℕ} (mid : H) (v : Sums) → ScriptAddedIf w r.whole (take r.held last) u now mid (Ok v) → k ≡ held_on r
      → Chunked w q t old (drop (at + r.used) chunk) last k (said v) mid
  chunk_goes_on {k} mid v g h =
      let more = chunk_more w q t old (drop at chunk) c mid v (rw (after_so, taken_so) at g) in
      let left : drop all_taken.used (drop at chunk) ≡ drop (at + r.used) chunk =
      drop-drop all_taken.used at chunk ∙ ap (λ (x : Taken). drop (at + x.used) chunk) (sym taken_so) in
      let keeps : held_on all_taken ≡ k = ap held_on (sym taken_so) ∙ sym h in
      subst (λ (s : Text). Chunked w q t old s last k (said v) mid) left
      (subst (λ (y : List ℕ). Chunked w q t old (drop all_taken.used (drop at chunk)) y k (said v) mid) (sym after_so)
      (subst (λ (n : ℕ). Chunked w q t old (drop all_taken.used (drop at chunk)) all_after n (said v) mid) keeps more))

  pub chunk_ends : (mid : H) (z : Answer) → ScriptAddedIf w r.whole (take r.held last) u now mid (Err z) → ReadHalts w q t old mid z
  chunk_ends mid z g = chunk_halts w q t old (drop at chunk) c mid z (rw (after_so, taken_so) at g)
