-- What a call comes to, by what its parts come to. Assumes nothing.
use Rattle.std.proofs.Common.{ℕ, ◌≡◌, Bool, true, false, List, ◌++◌, take, inl, inr}
use Rattle.std.specs.Prelude.{Option, Some, None, Result, Ok, Err, IfOk, IfErr, MatchResult, ltb}
use Rattle.std.specs.Io.KnownBytes.{Consumes}
use Rattle.std.specs.declared.io.Error.{Error}
use Rattle.rules.specs.Text.{Text}
use Rattle.requests.specs.Sheet.{Totals}
use Rattle.sheettext.specs.Rows.{sheet_text}
use Rattle.jsontext.specs.Line.{IsLine}
use Rattle.jsontext.specs.Totals.{totals_data}
use Rattle.sheet.specs.declared.Totals.{Totals as Sums}
use Rattle.sheet.specs.Totals.{said}
use Rattle.outcome.specs.declared.Which.{Which}
use Rattle.outcome.specs.declared.Which.TheVariants.{Input, Table, Sheet, Script}
use Rattle.outcome.specs.declared.What.TheVariants.{Open, Read, Write}
use Rattle.outcome.specs.declared.Outcome.{Outcome}
use Rattle.outcome.specs.declared.Outcome.TheVariants.{Accepted, NotAll, Stopped, NoMemory, WrongUse, Failed}
use Rattle.serving.specs.Said.{named}
use Rattle.serving.specs.Served.{Held, Unread}
use Rattle.make_sheet.specs.Series.{with_script, text_of}
use Rattle.make_sheet.specs.Reading.{InputUnopened, InputUnread, Unadded, AddedIf, Adding}
use Rattle.make_sheet.specs.Served.{SheetsAdded, SheetHalts, ScriptHalts, NamesAdded, NamesHalt, AllAdded, NotAdded}
use Rattle.make_sheet.proofs.Holding.{all_of, more_read}
use Rattle.make_sheet.proofs.Summing.{all_summed}
use Rattle.make_sheet.proofs.Feeding.{adding_over, halts_over}

-- what failed was neither opened nor read of another file
not_of : (w : Which) (o : Outcome) → ((e : Error) → o ≡ Failed Open (Some w) e → ⊥) → ((e : Error) → o ≡ Failed Read (Some w) e → ⊥) → Unread w o → ⊥
not_of w o p q (e, inl h) = p e h
not_of w o p q (e, inr h) = q e h

module _ (f : Option Text → Option (List ℕ)) (tells : Text → Outcome → Type 0) where
  -- ---- the names
  module _ (old : Option (List ℕ)) (input : Text) (t : Totals) where
    halts_so : (o : Outcome) → (x : Text) × Held old x × ScriptHalts f tells x t o → NamesHalt old f tells input t o
    halts_so Accepted h = h
    halts_so NotAll h = h
    halts_so (Stopped s) h = h
    halts_so NoMemory h = h
    halts_so WrongUse h = h
    halts_so (Failed Open w e) h = h
    halts_so (Failed Read None e) h = h
    halts_so (Failed Read (Some Input) e) h = absurd (not_of Script (Failed Read (Some Input) e) (λ d k. cc) (λ d k. cc) h.2.halt)
    halts_so (Failed Read (Some Table) e) h = h
    halts_so (Failed Read (Some (Sheet k)) e) h = h
    halts_so (Failed Read (Some Script) e) h = h
    halts_so (Failed Write w e) h = h

    pub unread_halts : (o : Outcome) → InputUnread o → tells input o → NamesHalt old f tells input t o
    unread_halts Accepted h q = absurd h
    unread_halts NotAll h q = absurd h
    unread_halts (Stopped s) h q = absurd h
    unread_halts NoMemory h q = absurd h
    unread_halts WrongUse h q = absurd h
    unread_halts (Failed Open w e) h q = absurd h
    unread_halts (Failed Read None e) h q = absurd h
    unread_halts (Failed Read (Some Input) e) h q = q
    unread_halts (Failed Read (Some Table) e) h q = absurd h
    unread_halts (Failed Read (Some (Sheet k)) e) h q = absurd h
    unread_halts (Failed Read (Some Script) e) h q = absurd h
    unread_halts (Failed Write w e) h q = absurd h

    -- at their end
    pub names_over : {u : Totals} {s : Text} {name : List ℕ} {held : ℕ} → Held old s → Adding f t s name held u → (r : Result Sums Outcome)
        → MatchResult r (λ v. AddedIf (ltb 0 held) f (take held name) u (said v)) (λ o. (ltb 0 held ≡ true) × Unadded (f (Some (take held name))) with_script Script u o)
        → IfErr r (λ o. tells (take held name) o) → MatchResult r (λ v. NamesAdded old f t (said v)) (λ o. NamesHalt old f tells input t o)
    names_over {u} {s} k a (Ok v) h q = (s, k, adding_over f a h)
    names_over {u} {s} k a (Err o) h q = halts_so o (s, k, halts_over f a h q)

    -- in a chunk more of them
    pub chunk_halts : (mid new : Option (List ℕ)) (s chunk : Text) (o : Outcome) → Consumes old mid s → Consumes mid new chunk
        → ((rest : Text) → ScriptHalts f tells ((s ++ chunk) ++ rest) t o) → NamesHalt old f tells input t o
    chunk_halts mid new s chunk o a b h =
        let all = all_of old new (s ++ chunk) (more_read old mid new s chunk a b) in
        halts_so o ((s ++ chunk) ++ all.0, all.1, h all.0)

  -- ---- the totals
  module _ (sheets : List Text) (input : Option Text) where
    pub sheet_not_added : (o : Outcome) → SheetHalts f tells sheets o → NotAdded f tells sheets input o
    sheet_not_added Accepted h = inl h
    sheet_not_added NotAll h = inl h
    sheet_not_added (Stopped s) h = inl h
    sheet_not_added NoMemory h = inl h
    sheet_not_added WrongUse h = inl h
    sheet_not_added (Failed Open None e) h = inl h
    sheet_not_added (Failed Open (Some Input) e) h = absurd (not_of _ (Failed Open (Some Input) e) (λ d k. cc) (λ d k. cc) h.halt)
    sheet_not_added (Failed Open (Some Table) e) h = inl h
    sheet_not_added (Failed Open (Some (Sheet k)) e) h = inl h
    sheet_not_added (Failed Open (Some Script) e) h = inl h
    sheet_not_added (Failed Read w e) h = inl h
    sheet_not_added (Failed Write w e) h = inl h

    module _ (t : Totals) (a : SheetsAdded f sheets t) where
      pub unopened : (o : Outcome) → InputUnopened o → tells (named input) o → NotAdded f tells sheets input o
      unopened Accepted h q = absurd h
      unopened NotAll h q = absurd h
      unopened (Stopped s) h q = absurd h
      unopened NoMemory h q = absurd h
      unopened WrongUse h q = absurd h
      unopened (Failed Open None e) h q = absurd h
      unopened (Failed Open (Some Input) e) h q = (t, a, q)
      unopened (Failed Open (Some Table) e) h q = absurd h
      unopened (Failed Open (Some (Sheet k)) e) h q = absurd h
      unopened (Failed Open (Some Script) e) h q = absurd h
      unopened (Failed Read w e) h q = absurd h
      unopened (Failed Write w e) h q = absurd h

      script_not_added : (o : Outcome) → NamesHalt (f input) f tells (named input) t o → NotAdded f tells sheets input o
      script_not_added Accepted h = inr (t, a, h)
      script_not_added NotAll h = inr (t, a, h)
      script_not_added (Stopped s) h = inr (t, a, h)
      script_not_added NoMemory h = inr (t, a, h)
      script_not_added WrongUse h = inr (t, a, h)
      script_not_added (Failed Open None e) h = inr (t, a, h)
      script_not_added (Failed Open (Some Input) e) h = absurd (not_of Script (Failed Open (Some Input) e) (λ d k. cc) (λ d k. cc) h.2.halt)
      script_not_added (Failed Open (Some Table) e) h = inr (t, a, h)
      script_not_added (Failed Open (Some (Sheet k)) e) h = inr (t, a, h)
      script_not_added (Failed Open (Some Script) e) h = inr (t, a, h)
      script_not_added (Failed Read w e) h = inr (t, a, h)
      script_not_added (Failed Write w e) h = inr (t, a, h)

      all_added : (u : Totals) → NamesAdded (f input) f t u → AllAdded f sheets input u
      all_added u h =
          record {
            sheet_texts = a.texts;
            sheets_held = a.held;
            names = h.0;
            names_held = h.1;
            script_texts = h.2.texts;
            scripts_held = h.2.held;
            sum = all_summed a.texts h.2.texts t u a.sum h.2.sum;
          }

      pub totals_over : {old : Option (List ℕ)} → old ≡ f input → (r : Result Sums Outcome)
          → MatchResult r (λ u. NamesAdded old f t (said u)) (λ o. NamesHalt old f tells (named input) t o)
          → MatchResult r (λ u. AllAdded f sheets input (said u)) (λ o. NotAdded f tells sheets input o)
      totals_over {old} e (Ok u) h = all_added (said u) (rw e at h)
      totals_over {old} e (Err o) h = script_not_added o (rw e at h)

-- ---- the text
pub json_line : {V E : Type 0} (items : V → List ℕ) (u : Totals) {json : Bool} → json ≡ true → (r : Result V E) → IfOk r (λ v. IsLine (totals_data u) (items v))
    → IfOk r (λ v. items v ≡ text_of json u)
unfolding text_of
json_line items u e (Ok v) h = rw e h.text
json_line items u e (Err x) h = tt

pub plain_text : (u : Totals) {json : Bool} {s : Text} → json ≡ false → s ≡ sheet_text u → s ≡ text_of json u
unfolding text_of
plain_text u e h = rw e h
