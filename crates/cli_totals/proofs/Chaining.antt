-- One file after another: what is so of those that are left is so of all. Assumes nothing.
use Rattle.std.proofs.Common.{◌≡◌, ℕ, suc, ◌+◌, ◌-◌, ◌^◌, ◌<◌, ◌≤◌, Bool, true, false, cond, ltb, List, [], ◌∷◌, ◌++◌, length, take, refl, sym, ap, subst, inl, inr, length-take-le, arith, Option, Ok, Err}
use Rattle.rules.specs.Text.{Text}
use Rattle.requests.specs.Sheet.{Totals, no_totals}
use Rattle.sheet.specs.Totals.{said}
use Rattle.sheet.specs.declared.Totals.{Totals as Sums}
use Rattle.cli_error.specs.Fault.{failed}
use Rattle.cli_error.specs.Answered.{Answered, output_of, failure_of}
use Rattle.cli_error.specs.Gives.{Gives}
use Rattle.cli_error.specs.declared.Answer.{Answer}
use Rattle.cli_io.specs.World.{World, input_name, Takes}
use Rattle.cli_io.specs.Tabled.{NotRead}
use Rattle.cli_io.specs.Answers.{Answers}
use Rattle.cli_totals.specs.Series.{Sum, text_of}
use Rattle.cli_totals.specs.Names.{left_of}
use Rattle.cli_totals.specs.Sheeted.{no_end, Totalled, GoesOn, AddsFiles, AddsNamed, AddsInput, AnswersSheet}
use Rattle.cli_totals.specs.Steps.{Holds, name_if, FileAdded, ScriptAddedIf, AnswersLast, AnswersNames, AnswersRead, AnswersInput, ReadAdded, ReadHalts}
use Rattle.cli_totals.specs.declared.adding.Kind.{Kind}
use Rattle.cli_totals.specs.declared.adding.Kind.TheVariants.{Sheet, Script}
use Rattle.cli_totals.proofs.Holding.{hold_none, last_held}

module _ {H : Type 0} (w : World H) where
  -- ---- a file more
  module _ (kind : Kind) (name : Text) (ns : List Text) (t : Totals) (now mid : H) where
    pub add_one : (new : H) (a : Answered) (k : Totals → H → Type 0) (v : Sums) → FileAdded w kind name t now mid (Ok v)
        → AddsFiles w new a kind ns k (said v) mid → AddsFiles w new a kind (name ∷ ns) k t now
    unfolding AddsFiles
    add_one new a k v f x =
        (f.0, mid, f.1, subst (λ (s : Sum). GoesOn new a (λ u m. AddsFiles w new a kind ns k u m) s mid) (sym f.2) x)

    -- or the call ends with it
    pub add_last : (k : Answered → Totals → H → Type 0) (r : Answer) → FileAdded w kind name t now mid (Err r)
        → (a : Answered) × AddsFiles w mid a kind (name ∷ ns) (k a) t now × Gives a r
    unfolding AddsFiles
    add_last k r f =
        let a = failure_of f.2.0 in (
          a,
          (f.0, mid, f.1, subst (λ (s : Sum). GoesOn mid a (λ u m. AddsFiles w mid a kind ns (k a) u m) s mid) (sym f.2.1) (refl, refl)),
          f.2.2,
        )

  -- ---- the last name
  module _ (json : Bool) (name : Text) (t : Totals) (now mid : H) where
    last_added : (b : Bool) (v : Sums) → ScriptAddedIf w b name t now mid (Ok v)
        → AnswersLast w json (cond b (name ∷ []) []) t now mid (output_of (text_of json (said v)) 0)
    unfolding AddsFiles
    last_added true v f =
        let a = output_of (text_of json (said v)) 0 in
        add_one Script name [] t now mid mid a (λ u m. Totalled mid a json u m) v f (refl, refl)
    last_added false v f = let same : t ≡ said v = cc in (f.0, ap (λ (u : Totals). output_of (text_of json u) 0) (sym same))

    pub last_answered : (v : Sums) (r : Answer) → ScriptAddedIf w (ltb 0 (length name)) name t now mid (Ok v)
        → Gives (output_of (text_of json (said v)) 0) r → Answers (AnswersLast w json (name_if name) t) now mid r
    last_answered v r f g = (output_of (text_of json (said v)) 0, last_added (ltb 0 (length name)) v f, g)

    last_ended : (b : Bool) (r : Answer) → ScriptAddedIf w b name t now mid (Err r) → Answers (AnswersLast w json (cond b (name ∷ []) []) t) now mid r
    last_ended true r f = add_last Script name [] t now mid (λ a u m. Totalled mid a json u m) r f
    last_ended false r f = absurd (cc)

    pub last_halted : (r : Answer) → ScriptAddedIf w (ltb 0 (length name)) name t now mid (Err r) → Answers (AnswersLast w json (name_if name) t) now mid r
    last_halted r f = last_ended (ltb 0 (length name)) r f

  -- ---- the names, of which k reads were made, of at most so many
  module _ (json : Bool) (file : Option Text) (most : ℕ) (t : Totals) (old : H) where
    pub record Naming (k : ℕ) (name : List ℕ) (held : ℕ) (u : Totals) (now : H) : Type 0 where
      pub rest : Text
      pub turns : ℕ
      pub holds : Holds rest name held
      pub count : k + turns ≡ most
      pub so : (new : H) (a : Answered) → AnswersNames w json file turns rest u now new a → AnswersNames w json file most [] t old new a

    pub names_begin : (name : List ℕ) → length name ≡ 4097 → Naming 0 name 0 t old
    names_begin name h = record { rest = []; turns = most; holds = hold_none name h; count = omega arith; so = λ new a x. x }

    module _ {k : ℕ} {name : List ℕ} {held : ℕ} {u : Totals} {now : H} (s : Naming k name held u now) where
      -- one of the turns that are left
      turn : (new : H) (a : Answered) → k < most → AnswersNames w json file (suc (s.turns - 1)) s.rest u now new a
          → AnswersNames w json file most [] t old new a
      turn new a h x =
          let left : suc (s.turns - 1) ≡ s.turns = omega (arith, s.count) in
          s.so new a (subst (λ (n : ℕ). AddsNamed w new a json file n s.rest u now) left x)

      -- the read failed
      pub names_unread : (mid : H) (r : Answer) → k < most → NotRead w now mid file r → Answers (AnswersNames w json file most [] t) old mid r
      unfolding AddsNamed
      names_unread mid r h f =
          let a = failure_of (failed f.0 (input_name file) f.1) in
          (a, turn mid a h (mid, inl (f.0, f.1, f.2, (refl, refl))), f.3)

      -- it gave nothing: the last name is added
      pub names_over : (chunk : List ℕ) (n : ℕ) (mid new : H) (r : Answer) → k < most → n ≡ 0 → Takes (λ c. w.takes now mid file c) chunk n
          → Answers (AnswersLast w json (name_if (take held name)) u) mid new r → Answers (AnswersNames w json file most [] t) old new r
      unfolding AddsNamed
      names_over chunk n mid new r h e f g =
          let none : w.takes now mid file [] = subst (λ (m : ℕ). w.takes now mid file (take m chunk)) e f.1 in
          let last = subst (λ (ns : List Text). AnswersLast w json ns u mid new g.0) (sym (last_held s.holds)) g.1 in
          (g.0, turn new g.0 h (mid, inr (inl (none, last))), g.2)

      -- it gave some bytes
      module _ (chunk : List ℕ) (n : ℕ) (mid new : H) (h : k < most) (e : n ≡ 0 → ⊥) (f : Takes (λ c. w.takes now mid file c) chunk n) where
        more : (m : H) (a : Answered) → AnswersRead w json file (s.turns - 1) (s.rest ++ take n chunk) u mid m a → AnswersNames w json file most [] t old m a
        unfolding AddsNamed
        more m a x =
            let some : 0 < length (take n chunk) = omega (arith, e, length-take-le n chunk f.0) in
            turn m a h (mid, inr (inr (take n chunk, some, f.1, x)))

        pub names_more : {next : List ℕ} {kept : ℕ} {v : Totals} → Holds (left_of (s.rest ++ take n chunk)) next kept → ReadAdded w (s.rest ++ take n chunk) u mid new v
            → Naming (k + 1) next kept v new
        names_more {next} {kept} {v} g r =
            record {
              rest = left_of (s.rest ++ take n chunk);
              turns = s.turns - 1;
              holds = g;
              count = omega (arith, s.count, h);
              so = λ m a x. more m a (r.so json file (s.turns - 1) m a x);
            }

        -- a script among them ends the call
        pub names_halted : (r : Answer) → ReadHalts w (s.rest ++ take n chunk) u mid new r → Answers (AnswersNames w json file most [] t) old new r
        names_halted r g = let z = g json file (s.turns - 1) in (z.0, more new z.0 z.1, z.2)

      -- they do not end
      pub names_endless : (r : Answer) → most ≤ k → Gives (failure_of (no_end file)) r → Answers (AnswersNames w json file most [] t) old now r
      unfolding AddsNamed
      names_endless r h g =
          let a = failure_of (no_end file) in
          let none : 0 ≡ s.turns = omega (arith, s.count, h) in
          (a, s.so now a (subst (λ (n : ℕ). AddsNamed w now a json file n s.rest u now) none (refl, refl)), g)

  -- ---- the input, which is opened first
  module _ (json : Bool) (file : Option Text) (t : Totals) (old : H) where
    pub input_unopened : (new : H) (r : Answer) → NotRead w old new file r → Answers (AnswersInput w json file t) old new r
    input_unopened new r f =
        let a = failure_of (failed f.0 (input_name file) f.1) in
        (a, (new, inl (f.0, f.1, f.2, (refl, refl))), f.3)

    pub input_named : (mid new : H) (r : Answer) → w.opens old mid file → Answers (AnswersNames w json file (2 ^ 64 - 1) [] t) mid new r
        → Answers (AnswersInput w json file t) old new r
    input_named mid new r o g = (g.0, (mid, inr (o, g.1)), g.2)

  -- ---- the sheets, of which some are left
  module _ (json : Bool) (file : Option Text) (sheets : List Text) (old : H) where
    pub record Sheeting (left : List Text) (t : Totals) (now : H) : Type 0 where
      pub so : (new : H) (a : Answered) → AddsFiles w new a Sheet left (λ u m. AddsInput w new a json file u m) t now
          → AnswersSheet w json sheets file old new a

    pub sheets_begin : Sheeting sheets no_totals old
    sheets_begin = record { so = λ new a x. x }

    module _ {left : List Text} {t : Totals} {now : H} (s : Sheeting left t now) where
      pub sheets_more : (name : Text) (ns : List Text) (mid : H) (v : Sums) → left ≡ name ∷ ns → FileAdded w Sheet name t now mid (Ok v) → Sheeting ns (said v) mid
      sheets_more name ns mid v e f =
          record {
            so = λ new a x.
                s.so new a
                (subst (λ (l : List Text). AddsFiles w new a Sheet l (λ u m. AddsInput w new a json file u m) t now) (sym e)
                (add_one Sheet name ns t now mid new a (λ u m. AddsInput w new a json file u m) v f x));
          }

      pub sheets_halted : (name : Text) (ns : List Text) (mid : H) (r : Answer) → left ≡ name ∷ ns → FileAdded w Sheet name t now mid (Err r)
          → Answers (AnswersSheet w json sheets file) old mid r
      sheets_halted name ns mid r e f =
          let z = add_last Sheet name ns t now mid (λ a u m. AddsInput w mid a json file u m) r f in
          (z.0, s.so mid z.0 (subst (λ (l : List Text). AddsFiles w mid z.0 Sheet l (λ u m. AddsInput w mid z.0 json file u m) t now) (sym e) z.1), z.2)

      pub sheets_over : (new : H) (r : Answer) → left ≡ [] → Answers (AnswersInput w json file t) now new r → Answers (AnswersSheet w json sheets file) old new r
      unfolding AddsFiles
      sheets_over new r e g =
          (g.0, s.so new g.0 (subst (λ (l : List Text). AddsFiles w new g.0 Sheet l (λ u m. AddsInput w new g.0 json file u m) t now) (sym e) g.1), g.2)
