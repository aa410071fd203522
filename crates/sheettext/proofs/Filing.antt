-- One file after another: what is added by the buffer is added by the text, and there is a script for each name. Assumes nothing.
use Prim.Native.Nat.{ℕ, ◌+◌, ◌-◌, ◌<◌, ◌≤◌, min}
use mathlib.Core.Path.{◌≡◌, refl, sym, ap, ◌∙◌}
use mathlib.Core.Bool.{Bool, true, false, false≢true, ◌&&◌, cond}
use mathlib.Core.List.{List, [], ◌∷◌, ◌++◌, map, append-nil, append_assoc}
use native.Mathlib.Omega.{arith}
use lib.Dec.{ltb}
use lib.ListN.{length, take, drop, replicate, length-append, length-drop, length-replicate}
use lib.Seq.{take_all, take-add}
use Rattle.rules.specs.Text.{Text}
use Rattle.requests.specs.Sheet.{add_source}
use Rattle.requests.specs.Sheet.{Totals as Said}
use Rattle.station.specs.Reads.{Reads, at_start, failed_at}
use Rattle.station.specs.declared.input.Input.{Input}
use Rattle.station.proofs.Kept.{take_lesser}
use Rattle.sheettext.specs.Back.{sheet_in}
use Rattle.sheettext.specs.Steps.{Outcome, summed, stops, no_sheet, unread, outcome_of, unless_unread, script_step, sheet_answer, sheet_step}
use Rattle.sheettext.specs.Names.{names_in, name_kept, line_length, taken_of, name_after, held_on}
use Rattle.sheettext.specs.Files.{goes_on, file_step, with_file, Asked, FileAdded, with_scripts, names_of_all, Adding, ScriptsAdded, NamesAdded}
use Rattle.sheettext.specs.declared.names.Taken.{Taken}
use Rattle.sheettext.proofs.Lines.{names_read_on}

-- ---- what is owed for a file that was read
abbrev pub Owed : Bool → Input → List ℕ → Outcome → Outcome → Type 0
Owed sheet i buffer o p = (p ≡ file_step sheet i buffer o) × ((t : Text) → (i.failed ≡ false → Reads t buffer i) → p ≡ with_file sheet i t o)

-- where it was not read all is one
unless : (i : Input) (x y : Outcome) → (i.failed ≡ false → unless_unread i x ≡ unless_unread i y) → unless_unread i x ≡ unless_unread i y
unfolding unless_unread
unless i x y h = go i.failed refl
  where
    go : (b : Bool) → i.failed ≡ b → cond i.failed unread x ≡ cond i.failed unread y
    go true e = rw e
    go false e = h e

module _ (u : Said) (i : Input) (buffer : List ℕ) {sheet : Bool} {p : Outcome} where
  pub owed_sheet : sheet ≡ true → (p ≡ sheet_step u i buffer) × ((t : Text) → Reads t buffer i → sheet_step u i buffer ≡ unless_unread i (sheet_answer u (sheet_in (take 32768 t)))) → Owed sheet i buffer (summed u) p
  unfolding file_step with_file sheet_step
  owed_sheet e h = (
    rw e h.0,
    λ t r. rw e (h.0 ∙ unless i (sheet_answer u (sheet_in (take i.total buffer))) (sheet_answer u (sheet_in (take 32768 t))) (λ f. h.1 t (r f))),
  )

  pub owed_script : sheet ≡ false → (p ≡ script_step u i buffer) × ((t : Text) → Reads t buffer i → script_step u i buffer ≡ unless_unread i (outcome_of (add_source u t))) → Owed sheet i buffer (summed u) p
  unfolding file_step with_file script_step
  owed_script e h = (rw e h.0, λ t r. rw e (h.0 ∙ unless i _ (outcome_of (add_source u t)) (λ f. h.1 t (r f))))

-- ---- what is said of it
pub name_front : (name : Text) (n : ℕ) → n ≡ min (length name) 4097 → take n name ≡ name_kept name
unfolding name_kept
name_front name n e = take_lesser n 4097 name e

-- ---- a file that may be due
due_then : (x due : Bool) → (x && due) ≡ true → due ≡ true
due_then true due e = e
due_then false due e = absurd (false≢true e)

module _ (name : Text) {due sheet : Bool} where
  pub not_read : (o : Outcome) → (goes_on o && due) ≡ false → FileAdded name due sheet o o
  unfolding goes_on with_file
  not_read o e = record { file = record { name = name; input = failed_at 0; text = [] }; named = refl; after = go o due e }
    where
      go : (o : Outcome) (d : Bool) → (goes_on o && d) ≡ false → o ≡ cond d (with_file sheet (failed_at 0) [] o) o
      go o false e = refl
      go (summed t) true e = absurd (false≢true (sym e))
      go (stops n p) true e = refl
      go (no_sheet n) true e = refl
      go unread true e = refl

  pub is_read : (o p : Outcome) (i : Input) (t : Text) → (goes_on o && due) ≡ true → p ≡ with_file sheet i t o → FileAdded name due sheet o p
  is_read o p i t e h = record { file = record { name = name; input = i; text = t }; named = refl; after = rw (due_then (goes_on o) due e) h }

-- ---- one script after another
with_more : (fs : List Asked) (f : Asked) (o : Outcome) → with_scripts (fs ++ (f ∷ [])) o ≡ with_file false f.input f.text (with_scripts fs o)
unfolding with_scripts
with_more [] f o = refl
with_more (g ∷ fs) f o = with_more fs f (with_file false g.input g.text o)

names_more : (fs : List Asked) (f : Asked) → names_of_all (fs ++ (f ∷ [])) ≡ names_of_all fs ++ (f.name ∷ [])
unfolding names_of_all
names_more [] f = refl
names_more (g ∷ fs) f = ap (λ (x : List Text). g.name ∷ x) (names_more fs f)

-- before the first read
pub adding_none : (o : Outcome) (name : List ℕ) → length name ≡ 4097 → Adding o [] name 0 o
unfolding with_scripts names_of_all
adding_none o name h = record { files = []; names = names_read_on.none name h; after = refl }

-- after a name, or a part of one, from the front of a chunk
pub adding_more : {o p q : Outcome} {t : Text} {name : List ℕ} {held : ℕ} (s : Text) → Adding o t name held p
    → FileAdded (take (taken_of held s).held (name_after held s name)) (taken_of held s).whole false p q
    → Adding o (t ++ take (taken_of held s).used s) (name_after held s name) (held_on (taken_of held s)) q
unfolding held_on
adding_more {o} {p} {q} {t} {name} {held} s a f = go (taken_of held s).whole refl
  where
    go : (b : Bool) → (taken_of held s).whole ≡ b → Adding o (t ++ take (taken_of held s).used s) (name_after held s name) (held_on (taken_of held s)) q
    go true e =
        record {
          files = a.files ++ (f.file ∷ []);
          names = rw (held_on, e, names_more a.files f.file, f.named) (names_read_on.whole t s (names_of_all a.files) name held a.names e);
          after = (rw e at f.after) ∙ (ap (with_file false f.file.input f.file.text) a.after ∙ sym (with_more a.files f.file o));
        }
    go false e =
        record {
          files = a.files;
          names = rw (held_on, e) (names_read_on.part t s (names_of_all a.files) name held a.names e);
          after = (rw e at f.after) ∙ a.after;
        }

-- the same of the chunk's rest from an index on, as `take_name` is lent it
module _ (chunk : Text) (at : ℕ) where
  abbrev rest : Text
  rest = take (length chunk - at) (drop at chunk)

  rest_so : rest ≡ drop at chunk
  rest_so = take_all (length chunk - at) (drop at chunk) (omega (arith, length-drop at chunk))

  pub used_within : (held : ℕ) {r : Taken} → r ≡ taken_of held rest → at < length chunk → (at < at + r.used) × (at + r.used ≤ length chunk)
  unfolding taken_of
  used_within held {r} e h =
      let size : length rest ≡ length chunk - at = ap length rest_so ∙ length-drop at chunk in
      let used : r.used ≡ min (length rest) (line_length rest + 1) = ap (λ (x : Taken). x.used) e in
      (omega arith, omega arith)

  pub adding_on : (t : Text) {o p q : Outcome} {name last : List ℕ} {held k : ℕ} {r : Taken} → Adding o (t ++ take at chunk) name held p → r ≡ taken_of held rest
      → last ≡ name_after held rest name → FileAdded (take r.held last) r.whole false p q → k ≡ held_on r → Adding o (t ++ take (at + r.used) chunk) last k q
  adding_on t {o} {p} {q} {name} {last} {held} {k} {r} a e n f h =
      let grown : t ++ take (at + r.used) chunk ≡ (t ++ take at chunk) ++ take r.used rest =
      ap (λ (x : Text). t ++ x) (take-add at r.used chunk ∙ ap (λ (x : Text). take at chunk ++ take r.used x) (sym rest_so))
      ∙ sym (append_assoc t (take at chunk) (take r.used rest)) in
      let file = rw (n, e) at f in
      rw (grown, h, n, e) (adding_more rest a file)

-- at the end
pub adding_over : {o p q : Outcome} {t : Text} {name : List ℕ} {held : ℕ} → Adding o t name held p → FileAdded (take held name) (ltb 0 held) false p q → ScriptsAdded o t q
adding_over {o} {p} {q} {t} {name} {held} a f = go (ltb 0 held) refl
  where
    over : map name_kept (names_in t) ≡ names_of_all a.files ++ cond (ltb 0 held) (take held name ∷ []) []
    over = names_read_on.over t (names_of_all a.files) name held a.names

    go : (b : Bool) → ltb 0 held ≡ b → ScriptsAdded o t q
    go true e =
        record {
          files = a.files ++ (f.file ∷ []);
          names = names_more a.files f.file ∙ (rw f.named (sym (rw e at over)));
          after = (rw e at f.after) ∙ (ap (with_file false f.file.input f.file.text) a.after ∙ sym (with_more a.files f.file o));
        }
    go false e = record { files = a.files; names = sym (append-nil (names_of_all a.files)) ∙ sym (rw e at over); after = (rw e at f.after) ∙ a.after }

-- ---- the names on standard input: some text was read of them
pub record Feeding (o : Outcome) (name : List ℕ) (held : ℕ) (p : Outcome) (i : Input) : Type 0 where
  pub text : Text
  pub total : i.failed ≡ false → i.total ≡ length text
  pub adding : Adding o text name held p

pub feeding_none : (o : Outcome) → Feeding o (replicate 4097 0) 0 o at_start
feeding_none o = record { text = []; total = λ f. refl; adding = adding_none o (replicate 4097 0) (length-replicate {A = ℕ} 4097 0) }

-- a chunk more
pub feeding_more : {o p q : Outcome} {name last : List ℕ} {held k : ℕ} {i : Input} → Feeding o name held p i → (chunk : Text) (j : Input)
    → ((t : Text) → Adding o t name held p → Adding o (t ++ chunk) last k q) → (j.failed ≡ false → (i.failed ≡ false) × (j.total ≡ i.total + length chunk)) → Feeding o last k q j
feeding_more {i = i} f chunk j more counts =
    record {
      text = f.text ++ chunk;
      total = λ e. let was = counts e in was.1 ∙ (ap (λ (n : ℕ). n + length chunk) (f.total was.0) ∙ sym (length-append f.text chunk));
      adding = more f.text f.adding;
    }

pub feeding_over : {o p q : Outcome} {name : List ℕ} {held : ℕ} {i : Input} → Feeding o name held p i → i.more ≡ false → FileAdded (take held name) (ltb 0 held) false p q → NamesAdded o q i
feeding_over f e a = record { text = f.text; total = f.total; over = e; scripts = adding_over f.adding a }
