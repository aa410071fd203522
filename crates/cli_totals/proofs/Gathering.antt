-- What a call with an output has added: all its sheets, and a script for each line of its input. Assumes nothing.
use Rattle.std.proofs.Common.{◌≡◌, ℕ, zero, suc, Bool, List, [], ◌∷◌, ◌++◌, append-nil, append_assoc, map, refl, sym, ap, subst, ◌∙◌, inl, inr, Option, None, Some}
use Rattle.rules.specs.Text.{Text}
use Rattle.requests.specs.Sheet.{Totals, no_totals}
use Rattle.sheettext.specs.Names.{name_kept, names_in}
use Rattle.cli_error.specs.Fault.{Fault, failed}
use Rattle.cli_error.specs.Answered.{Answered, failure_of, output_of}
use Rattle.cli_run.specs.Input.{Named}
use Rattle.cli_run.specs.Items.{Found, read, unread, Item}
use Rattle.cli_io.specs.World.{World, input_name}
use Rattle.cli_totals.specs.Series.{Sum, summed, halts, sum_then, with_file, with_files, sum_all, text_of}
use Rattle.cli_totals.specs.Names.{whole_names, left_of}
use Rattle.cli_totals.specs.Sheeted.{bad_name, no_end, sum_with, ReadsNamed, Ends, Totalled, GoesOn, AddsFiles, AddsNamed, AddsInput, AnswersSheet}
use Rattle.cli_totals.specs.Stated.{names_of, joined, WereRead, WereTaken, AllAdded, TotalsOfAll}
use Rattle.cli_totals.specs.declared.adding.Kind.{Kind}
use Rattle.cli_totals.specs.declared.adding.Kind.TheVariants.{Sheet, Script}
use Rattle.cli_totals.proofs.Lines.{names_of_both}

-- ---- an answer with an output is of no fault
no_fault : {a : Answered} {s : Text} (e : Fault) → a.output ≡ Some s → a ≡ failure_of e → ⊥
no_fault {a} {s} e o h = let none : ◌≡◌ {A = Option Text} None (Some s) = sym (ap (λ (x : Answered). x.output) h) ∙ o in cc

its_text : {a : Answered} {s : Text} (t : Text) → a.output ≡ Some s → a ≡ output_of t 0 → s ≡ t
its_text {a} {s} t o h = let some : Some s ≡ Some t = sym o ∙ ap (λ (x : Answered). x.output) h in cc

-- ---- files in two parts
names_both : (xs ys : List Named) → names_of (xs ++ ys) ≡ names_of xs ++ names_of ys
names_both [] ys = refl
names_both (x ∷ xs) ys = ap (λ (l : List Text). x.name ∷ l) (names_both xs ys)

sum_both : (kind : Kind) (xs ys : List Named) (t u : Totals) → with_files kind xs t ≡ summed u → with_files kind (xs ++ ys) t ≡ with_files kind ys u
unfolding with_files sum_then
sum_both kind [] ys t u e = let same : t ≡ u = cc in ap (λ (v : Totals). with_files kind ys v) same
sum_both kind (x ∷ xs) ys t u e = go (with_file kind t x) (λ v p. sum_both kind xs ys v u p) e
  where
    go : (s : Sum) → ((v : Totals) → with_files kind xs v ≡ summed u → with_files kind (xs ++ ys) v ≡ with_files kind ys u) → sum_then s (λ v. with_files kind xs v) ≡ summed u → sum_then s (λ v. with_files kind (xs ++ ys) v) ≡ with_files kind ys u
    go (summed v) ih p = ih v p
    go (halts f) ih p = absurd (cc)

module _ {H : Type 0} (w : World H) where
  read_both : (xs ys : List Named) → WereRead w xs → WereRead w ys → WereRead w (xs ++ ys)
  unfolding WereRead
  read_both [] ys p q = q
  read_both (x ∷ xs) ys p q = (p.0, read_both xs ys p.1 q)

  module _ (new : H) (a : Answered) (s : Text) (o : a.output ≡ Some s) where
    -- ---- some files, and then k
    abbrev Gathered : Kind → List Text → (Totals → H → Type 0) → Totals → Type 0
    Gathered kind ns k t =
        (bs : List Named) × (u : Totals) × (mid : H) × (names_of bs ≡ ns) × WereRead w bs × (with_files kind bs t ≡ summed u) × k u mid

    module _ (kind : Kind) (n : Text) (ns : List Text) (k : Totals → H → Type 0) (t : Totals) (now mid : H)
        (more : (u : Totals) (m : H) → AddsFiles w new a kind ns k u m → Gathered kind ns k u) where
      abbrev Then : Totals → H → Type 0
      Then = λ u m. AddsFiles w new a kind ns k u m

      one_read : (b : Named) → b.name ≡ n → w.reads now mid (Some n) (read b.text) → (z : Sum) → with_file kind t b ≡ z → GoesOn new a Then z mid
          → Gathered kind (n ∷ ns) k t
      unfolding WereRead with_files sum_then
      one_read b e r (summed u) p g =
          let h = more u mid g in
          let named = ap (λ (x : Text). x ∷ names_of h.0) e ∙ ap (λ (xs : List Text). n ∷ xs) h.3 in
          let fact = subst (λ (x : Text). w.reads now mid (Some x) (read b.text)) (sym e) r in
          (b ∷ h.0, h.1, h.2, named, ((now, mid, fact), h.4), rw p h.5, h.6)
      one_read b e r (halts f) p g = absurd (no_fault f o g.1)

      one_found : (name : Text) (found : Found) → name ≡ n → w.reads now mid (Some n) found
          → GoesOn new a Then (sum_with kind t (record { name = name; found = found })) mid → Gathered kind (n ∷ ns) k t
      one_found name (read b) e r g = one_read (record { name = name; text = b }) e r (with_file kind t (record { name = name; text = b })) refl g
      one_found name (unread what reason) e r g = absurd (no_fault (failed what name reason) o g.1)

      one_item : (i : Item) → ReadsNamed w n now mid i → GoesOn new a Then (sum_with kind t i) mid → Gathered kind (n ∷ ns) k t
      one_item i (inl r) g = one_found i.name i.found r.0 r.1 g
      one_item i (inr q) g =
          let ends : Ends new a (bad_name n) mid = subst (λ (x : Item). GoesOn new a Then (sum_with kind t x) mid) q.2 g in
          absurd (no_fault (bad_name n) o ends.1)

    all_files : (kind : Kind) (ns : List Text) (k : Totals → H → Type 0) (t : Totals) (now : H) → AddsFiles w new a kind ns k t now → Gathered kind ns k t
    unfolding AddsFiles WereRead with_files
    all_files kind [] k t now f = ([], t, now, refl, tt, refl, f)
    all_files kind (n ∷ ns) k t now f = one_item kind n ns k t now f.1 (λ u m. all_files kind ns k u m) f.0 f.2 f.3

    -- ---- the names
    module _ (json : Bool) (file : Option Text) where
      record Taken (rest : Text) (t : Totals) : Type 0 where
        chunks : List Text
        scripts : List Named
        totals : Totals
        taken : WereTaken w file chunks
        read_all : WereRead w scripts
        named : names_of scripts ≡ map name_kept (names_in (rest ++ joined chunks))
        sum : with_files Script scripts t ≡ summed totals
        text : s ≡ text_of json totals

      at_end : (rest : Text) (t : Totals) → Gathered Script (map name_kept (names_in rest)) (λ u m. Totalled new a json u m) t → Taken rest t
      unfolding WereTaken joined
      at_end rest t h =
          record {
            chunks = [];
            scripts = h.0;
            totals = h.1;
            taken = tt;
            read_all = h.4;
            named = h.3 ∙ ap (λ (x : Text). map name_kept (names_in x)) (sym (append-nil rest));
            sum = h.5;
            text = its_text (text_of json h.1) o h.6.1;
          }

      one_chunk : (rest c : Text) (t u : Totals) (now mid : H) (bs : List Named) → w.takes now mid file c → WereRead w bs → names_of bs ≡ whole_names (rest ++ c)
          → with_files Script bs t ≡ summed u → Taken (left_of (rest ++ c)) u → Taken rest t
      unfolding WereTaken joined
      one_chunk rest c t u now mid bs f r e p q =
          record {
            chunks = c ∷ q.chunks;
            scripts = bs ++ q.scripts;
            totals = q.totals;
            taken = ((now, mid, f), q.taken);
            read_all = read_both bs q.scripts r q.read_all;
            named =
                names_both bs q.scripts
                ∙ (ap (λ (x : List Text). x ++ names_of q.scripts) e
                ∙ (ap (λ (x : List Text). whole_names (rest ++ c) ++ x) q.named
                ∙ (sym (names_of_both (rest ++ c) (joined q.chunks)) ∙ ap (λ (x : Text). map name_kept (names_in x)) (append_assoc rest c (joined q.chunks)))));
            sum = sum_both Script bs q.scripts t u p ∙ q.sum;
            text = q.text;
          }

      all_names : (n : ℕ) (rest : Text) (t : Totals) (now : H) → AddsNamed w new a json file n rest t now → Taken rest t
      unfolding AddsNamed
      all_names zero rest t now f = absurd (no_fault (no_end file) o f.1)
      all_names (suc n) rest t now (mid, inl f) = absurd (no_fault (failed f.0 (input_name file) f.1) o f.3.1)
      all_names (suc n) rest t now (mid, inr (inl f)) = at_end rest t (all_files Script (map name_kept (names_in rest)) (λ u m. Totalled new a json u m) t mid f.1)
      all_names (suc n) rest t now (mid, inr (inr f)) =
          let h = all_files Script (whole_names (rest ++ f.0)) (λ u m. AddsNamed w new a json file n (left_of (rest ++ f.0)) u m) t mid f.3 in
          one_chunk rest f.0 t h.1 now mid h.0 f.2 h.4 h.3 h.5 (all_names n (left_of (rest ++ f.0)) h.1 h.2 h.6)

      -- ---- the whole call
      from_input : (t : Totals) (now : H) → AddsInput w new a json file t now → Taken [] t
      from_input t now (mid, inl f) = absurd (no_fault (failed f.0 (input_name file) f.1) o f.3.1)
      from_input t now (mid, inr f) = all_names _ [] t mid f.1

      all_added : (sheets : List Text) (old : H) → AnswersSheet w json sheets file old new a → AllAdded w json sheets file s
      unfolding sum_all sum_then
      all_added sheets old f =
          let h = all_files Sheet sheets (λ t m. AddsInput w new a json file t m) no_totals old f in
          let q = from_input h.1 h.2 h.6 in
          record {
            sheet_files = h.0;
            sheets_named = h.3;
            sheets_read = h.4;
            chunks = q.chunks;
            names_read = q.taken;
            scripts = q.scripts;
            scripts_named = q.named;
            scripts_read = q.read_all;
            totals = q.totals;
            sum = ap (λ (x : Sum). sum_then x (λ t. with_files Script q.scripts t)) h.5 ∙ q.sum;
            text = q.text;
          }

  pub totals_of_all : TotalsOfAll w
  unfolding TotalsOfAll
  totals_of_all json sheets file old new a s f o = all_added new a s o json file sheets old f
