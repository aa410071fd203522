-- One file after another: what is added so far, and where it ends. Assumes nothing.
use Rattle.std.proofs.Common.{ℕ, ◌+◌, ◌-◌, ◌<◌, ◌≤◌, ◌≡◌, refl, sym, ap, ◌∙◌, Bool, true, false, cond, List, [], ◌∷◌, ◌++◌, append-nil, append_assoc, length, take, drop, map, arith, min, get_or, length-drop, take-append-drop, add-one, inl, inr}
use Rattle.std.specs.Prelude.{Option, Some, suc, zero, ltb}
use lib.Seq.{take_all, take-add, length-take-le}
use Rattle.rules.specs.Text.{Text}
use Rattle.requests.specs.Sheet.{Totals, no_totals}
use Rattle.sheettext.specs.Names.{names_in, name_kept, line_length, taken_of, name_after, held_on}
use Rattle.sheettext.specs.declared.names.Taken.{Taken}
use Rattle.sheettext.proofs.Lines.{names_read_on}
use Rattle.outcome.specs.declared.Stop.{Stop}
use Rattle.outcome.specs.declared.Which.{Which}
use Rattle.outcome.specs.declared.Which.TheVariants.{Sheet, Script}
use Rattle.outcome.specs.declared.Outcome.{Outcome}
use Rattle.outcome.specs.declared.Outcome.TheVariants.{Accepted, NotAll, Stopped, NoMemory, WrongUse, Failed}
use Rattle.serving.specs.Served.{Unread}
use Rattle.make_sheet.specs.Series.{Sum, summed, with_sheet, with_script}
use Rattle.make_sheet.specs.Reading.{Added, Unadded, ScriptsAdded, AddedIf, Adding}
use Rattle.make_sheet.specs.Served.{SheetsAdded, SheetHalts, ScriptHalts}
use Rattle.make_sheet.proofs.Holding.{hold_none, hold_more, hold_length}
use Rattle.make_sheet.proofs.Summing.{sheets_more, scripts_more, sheets_none, scripts_none}
use Rattle.make_sheet.proofs.Naming.{names_begin}

-- ---- a list of names, at one of them
module _ {A : Type 0} (g : A → Text) where
  names_length : (xs : List A) → length (map g xs) ≡ length xs
  names_length [] = refl
  names_length (x ∷ xs) = ap suc (names_length xs)

  names_before : (xs : List A) (k : ℕ) → k < length xs → k ≡ length (take k (map g xs))
  names_before xs k h = sym (length-take-le k (map g xs) (omega (arith, names_length xs)))

  names_split : (xs : List A) (k : ℕ) (d : A) → k < length xs → map g xs ≡ take k (map g xs) ++ (g (get_or xs k d) ∷ drop (suc k) (map g xs))
  names_split [] k d h = absurd (omega arith)
  names_split (y ∷ xs) zero d h = refl
  names_split (y ∷ xs) (suc k) d h = ap (λ (z : List Text). g y ∷ z) (names_split xs k d (omega arith))

  names_next : (xs : List A) (k : ℕ) (d : A) → k < length xs → take (suc k) (map g xs) ≡ take k (map g xs) ++ (g (get_or xs k d) ∷ [])
  names_next [] k d h = absurd (omega arith)
  names_next (y ∷ xs) zero d h = refl
  names_next (y ∷ xs) (suc k) d h = ap (λ (z : List Text). g y ∷ z) (names_next xs k d (omega arith))

-- what was not read is not added
not_stopped : (w : Which) (x : Stop) → Unread w (Stopped x) → ⊥
not_stopped w x (e, inl h) = cc
not_stopped w x (e, inr h) = cc

pub unread_unadded : (old : Option (List ℕ)) (step : Text → Sum → Sum) (w : Which) (t : Totals) (o : Outcome) → Unread w o → Unadded old step w t o
unread_unadded old step w t Accepted u = u
unread_unadded old step w t NotAll u = u
unread_unadded old step w t (Stopped s) u = absurd (not_stopped w s u)
unread_unadded old step w t NoMemory u = u
unread_unadded old step w t WrongUse u = u
unread_unadded old step w t (Failed h v e) u = u

module _ (f : Option Text → Option (List ℕ)) where
  -- ---- sheets
  pub no_sheets : SheetsAdded f [] no_totals
  no_sheets = record { texts = []; held = hold_none f; sum = sheets_none }

  sheet_more : {ns : List Text} {t u : Totals} {k : ℕ} (n : Text) → SheetsAdded f ns t → k ≡ length ns → Added (f (Some n)) (with_sheet k) t u → SheetsAdded f (ns ++ (n ∷ [])) u
  sheet_more {ns} {t} {u} {k} n a e b =
      record {
        texts = a.texts ++ (b.0 ∷ []);
        held = hold_more f ns a.texts n b.0 a.held b.1;
        sum = sheets_more 0 a.texts b.0 (summed no_totals) k (omega (arith, hold_length f ns a.texts a.held)) ∙ (ap (with_sheet k b.0) a.sum ∙ b.2);
      }

  sheet_halts : {tells : Text → Outcome → Type 0} {ns ms : List Text} {t : Totals} {k : ℕ} {o : Outcome} (n : Text) (rest : List Text) → SheetsAdded f ns t → k ≡ length ns → ms ≡ ns ++ (n ∷ rest)
      → Unadded (f (Some n)) (with_sheet k) (Sheet k) t o → tells n o → SheetHalts f tells ms o
  sheet_halts {tells} {ns} {ms} {t} {k} n rest a e p b q =
      record { before = ns; name = n; rest = rest; split = p; totals = t; added = a; halt = rw e at b; said = q }

  -- of names in a list, the sheets so far
  module _ {A : Type 0} (g : A → Text) (xs : List A) (d : A) where
    pub sheet_next : {t u : Totals} {k : ℕ} → k < length xs → SheetsAdded f (take k (map g xs)) t → Added (f (Some (g (get_or xs k d)))) (with_sheet k) t u
        → SheetsAdded f (take (k + 1) (map g xs)) u
    sheet_next {t} {u} {k} h a b = rw (add-one k, names_next g xs k d h) (sheet_more _ a (names_before g xs k h) b)

    pub sheet_last : {tells : Text → Outcome → Type 0} {t : Totals} {k : ℕ} {o : Outcome} → k < length xs → SheetsAdded f (take k (map g xs)) t
        → Unadded (f (Some (g (get_or xs k d)))) (with_sheet k) (Sheet k) t o → tells (g (get_or xs k d)) o → SheetHalts f tells (map g xs) o
    sheet_last {tells} {t} {k} {o} h a b q = sheet_halts _ _ a (names_before g xs k h) (names_split g xs k d h) b q

  pub sheets_over : {A : Type 0} (g : A → Text) (xs : List A) {t : Totals} {k : ℕ} → length xs ≤ k → SheetsAdded f (take k (map g xs)) t → SheetsAdded f (map g xs) t
  sheets_over g xs {t} {k} h a = rw (take_all k (map g xs) (omega (arith, names_length g xs))) at a

  -- ---- scripts
  no_scripts : (t : Totals) → ScriptsAdded f [] t t
  no_scripts t = record { texts = []; held = hold_none f; sum = scripts_none t }

  script_more : {ns : List Text} {t u v : Totals} (n : Text) → ScriptsAdded f ns t u → Added (f (Some n)) with_script u v → ScriptsAdded f (ns ++ (n ∷ [])) t v
  script_more {ns} {t} {u} {v} n a b =
      record {
        texts = a.texts ++ (b.0 ∷ []);
        held = hold_more f ns a.texts n b.0 a.held b.1;
        sum = scripts_more a.texts b.0 (summed t) ∙ (ap (with_script b.0) a.sum ∙ b.2);
      }

  by_names : {ns ms : List Text} {t u : Totals} → ms ≡ ns → ScriptsAdded f ns t u → ScriptsAdded f ms t u
  by_names e a = rw e a

  -- before the first read
  pub adding_none : (t : Totals) (name : List ℕ) → length name ≡ 4097 → Adding f t [] name 0 t
  adding_none t name h = record { given = []; names = names_read_on.none name h; added = no_scripts t }

  -- after a name, or a part of one, from the front of a chunk
  module _ {t u : Totals} {s : Text} {name : List ℕ} {held : ℕ} (piece : Text) (a : Adding f t s name held u) where
    abbrev taken : Taken
    taken = taken_of held piece

    abbrev after : List ℕ
    after = name_after held piece name

    adding_more : {v : Totals} → AddedIf taken.whole f (take taken.held after) u v → Adding f t (s ++ take taken.used piece) after (held_on taken) v
    unfolding held_on
    adding_more {v} b = go taken.whole refl
      where
        go : (x : Bool) → taken.whole ≡ x → Adding f t (s ++ take taken.used piece) after (held_on taken) v
        go true e =
            record {
              given = a.given ++ (take taken.held after ∷ []);
              names = rw (held_on, e) (names_read_on.whole s piece a.given name held a.names e);
              added = script_more (take taken.held after) a.added (rw e at b);
            }
        go false e = record { given = a.given; names = rw (held_on, e) (names_read_on.part s piece a.given name held a.names e); added = rw (rw e at b) a.added }

    halts_more : {tells : Text → Outcome → Type 0} {o : Outcome} → (taken.whole ≡ true) × Unadded (f (Some (take taken.held after))) with_script Script u o
        → tells (take taken.held after) o → (more : Text) → ScriptHalts f tells ((s ++ take taken.used piece) ++ more) t o
    halts_more b q more =
        let first = names_begin (names_read_on.whole s piece a.given name held a.names b.0) more in
        record {
          before = a.given;
          name = take taken.held after;
          rest = first.0;
          split = first.1 ∙ append_assoc a.given (take taken.held after ∷ []) first.0;
          totals = u;
          added = a.added;
          halt = b.1;
          said = q;
        }

  -- ---- at the end of the names
  module _ {t u : Totals} {s : Text} {name : List ℕ} {held : ℕ} (a : Adding f t s name held u) where
    last : map name_kept (names_in s) ≡ a.given ++ cond (ltb 0 held) (take held name ∷ []) []
    last = names_read_on.over s a.given name held a.names

    pub adding_over : {v : Totals} → AddedIf (ltb 0 held) f (take held name) u v → ScriptsAdded f (map name_kept (names_in s)) t v
    adding_over {v} b = go (ltb 0 held) refl
      where
        go : (x : Bool) → ltb 0 held ≡ x → ScriptsAdded f (map name_kept (names_in s)) t v
        go true e = by_names (rw e at last) (script_more (take held name) a.added (rw e at b))
        go false e = by_names ((rw e at last) ∙ append-nil a.given) (rw (rw e at b) a.added)

    pub halts_over : {tells : Text → Outcome → Type 0} {o : Outcome} → (ltb 0 held ≡ true) × Unadded (f (Some (take held name))) with_script Script u o
        → tells (take held name) o → ScriptHalts f tells s t o
    halts_over b q = record { before = a.given; name = take held name; rest = []; split = rw b.0 at last; totals = u; added = a.added; halt = b.1; said = q }

regroup : (s a b c m : Text) → ((s ++ a) ++ b) ++ (c ++ m) ≡ (s ++ (a ++ (b ++ c))) ++ m
regroup s a b c m = simp append_assoc

-- ---- the rest of a chunk from an index on, as `take_name` is lent it
module _ (chunk : Text) (at : ℕ) where
  abbrev rest : Text
  rest = take (length chunk - at) (drop at chunk)

  rest_so : rest ≡ drop at chunk
  rest_so = take_all (length chunk - at) (drop at chunk) (omega (arith, length-drop at chunk))

  pub used_within : (held : ℕ) {r : Taken} → r ≡ taken_of held rest → at < length chunk → (at < at + r.used) × (at + r.used ≤ length chunk)
  unfolding taken_of
  used_within held {r} e h =
      let size : length rest ≡ length chunk - at = ap length rest_so ∙ length-drop at chunk in
      let used : r.used ≡ min (length rest) (line_length rest + 1) = ap (λ (x : Taken). x.used) e in
      (omega arith, omega arith)

  pub held_within : (held : ℕ) {r : Taken} → r ≡ taken_of held rest → r.held ≤ 4097
  unfolding taken_of
  held_within held {r} e = let most : r.held ≡ min 4097 (held + line_length rest) = ap (λ (x : Taken). x.held) e in omega arith

  module _ (f : Option Text → Option (List ℕ)) (s : Text) {t u : Totals} {name last : List ℕ} {held : ℕ} {r : Taken} (a : Adding f t (s ++ take at chunk) name held u)
      (e : r ≡ taken_of held rest) (n : last ≡ name_after held rest name) where
    pub adding_on : {v : Totals} {k : ℕ} → AddedIf r.whole f (take r.held last) u v → k ≡ held_on r → Adding f t (s ++ take (at + r.used) chunk) last k v
    adding_on b h =
        let grown : s ++ take (at + r.used) chunk ≡ (s ++ take at chunk) ++ take r.used rest =
        ap (λ (x : Text). s ++ x) (take-add at r.used chunk ∙ ap (λ (x : Text). take at chunk ++ take r.used x) (sym rest_so))
        ∙ sym (append_assoc s (take at chunk) (take r.used rest)) in
        let file = rw (n, e) at b in
        rw (grown, h, n, e) (adding_more f rest a file)

    pub halting_on : {tells : Text → Outcome → Type 0} {o : Outcome} → (r.whole ≡ true) × Unadded (f (Some (take r.held last))) with_script Script u o → tells (take r.held last) o
        → (more : Text) → ScriptHalts f tells ((s ++ chunk) ++ more) t o
    halting_on {tells} {o} b q more =
        let used = (taken_of held rest).used in
        let halt = rw (n, e) at b in
        let said = rw (n, e) at q in
        let parts : take at chunk ++ (take used rest ++ drop used rest) ≡ chunk =
        ap (λ (x : Text). take at chunk ++ x) (take-append-drop used rest ∙ rest_so) ∙ take-append-drop at chunk in
        let whole : ((s ++ take at chunk) ++ take used rest) ++ (drop used rest ++ more) ≡ (s ++ chunk) ++ more =
        regroup s (take at chunk) (take used rest) (drop used rest) more ∙ ap (λ (x : Text). (s ++ x) ++ more) parts in
        rw (← whole) (halts_more f rest a halt said (drop used rest ++ more))
