-- What a printout shows, row by row. Assumes nothing.
use Rattle.std.specs.Prelude.{Option, None, Some, slice_get}
use Prim.Native.Nat.{ℕ, zero, suc, ◌+◌, ◌^◌, ◌≤◌, ◌<◌}
use mathlib.Core.Path.{◌≡◌, refl, sym, ap, ◌∙◌}
use mathlib.Core.Bool.{Bool, true, false, cond}
use mathlib.Core.List.{List, [], ◌∷◌, ◌++◌, map, flat_map}
use native.Mathlib.Omega.{arith}
use lib.Dec.{ltb}
use lib.ListN.{length, take, drop}
use lib.Seq.{drop_at}
use Rattle.rules.specs.Text.{Text, bytes, cut_where, cut_at}
use Rattle.rules.specs.Number.{Failure, Reading, read, failed}
use Rattle.rules.specs.Line.{SourceLine, lines_of, line_of}
use Rattle.rules.specs.Directive.{line_reading}
use Rattle.rules.specs.Label.{Label, Table}
use Rattle.rules.specs.Encode.{Mnemonic, encode_by}
use Rattle.rules.specs.Answer.{Answer, accepted, refused, and_then}
use Rattle.rules.specs.Assemble.{Put, Pass, Place, places_at, data_contents, data_places, code_contents_by, code_places_by, pass_at, encoded, assemble_by}
use Rattle.requests.specs.Explain.{Verdict, emitted, because, bad_number, why_task, explain_by}
use Rattle.requests.specs.Symbols.{put_in_order, in_order, symbols}
use Rattle.requests.proofs.Answers.{line_asks, line_ends, line_after_end}
use Rattle.promises.proofs.Compared.{clash}
use Rattle.outline.proofs.Lines.{lines_count}
use Rattle.listing.specs.Listing.{digits_of, decimal}
use Rattle.listing.specs.Reading.{hex_in}
use Rattle.listing.proofs.Digits.{length_digits}
use Rattle.listing.proofs.Values.{number_read}
use Rattle.symtext.specs.Symlist.{symbol_text, line_text, symbols_text}
use Rattle.symtext.specs.Symlist.{told_text as symbols_told}
use Rattle.printout.specs.Printout.{padded, words_text, reason_of, places_of_put, under_rows, page_text, printout_by}
use Rattle.printout.specs.Shown.{address_in, word_in, places_in, sixteen, Printout, LineShown, after_rows, ShowsLines, PutShown, ShowsPlaces, ShowsEnd, ReasonShown, ShowsReasons, RefusesAlike}
use Rattle.printout.proofs.Columns.{words_length}
use Rattle.printout.proofs.Broken.{cut_rows, lines_whole}
use Rattle.printout.proofs.Bare.{bare_row, bare_end, reason_at, bare_read, bare_unread, end_put, row_lines, rows_ended, rows_count, rows_whole, numbered_whole, number_column, address_column, words_column, second_column, text_column, ending_column, end_at, RowIs, asks, ends, behind_end, row_at}
use Rattle.printout.proofs.Worded.{places_read, blank_read}
use Rattle.printout.proofs.Asking.{asks_at, asks_end, line_is, pass_asks, few_lines, put_low, end_last, end_low, emitted_places, reason_places, failed_places}

-- ---- a list at an index
at_below : {A : Type 0} (xs : List A) (k : ℕ) (x : A) → slice_get xs k ≡ Some x → k < length xs
at_below [] k x e = clash cc
at_below (y ∷ xs) zero x e = omega arith
at_below (y ∷ xs) (suc k) x e = omega (arith, at_below xs k x e)

at_front : {A : Type 0} (xs ys : List A) (k : ℕ) (x : A) → slice_get xs k ≡ Some x → slice_get (xs ++ ys) k ≡ Some x
at_front [] ys k x e = clash cc
at_front (y ∷ xs) ys zero x e = e
at_front (y ∷ xs) ys (suc k) x e = at_front xs ys k x e

-- ---- one row's columns
module _ (n k : ℕ) (a w l e : Text) (h : n ≤ 9999) (la : length a ≡ 8) (lw : length w ≡ 10) where
  bare_line : n ≡ suc k → LineShown k l (bare_row n a w l e)
  unfolding padded
  bare_line q = record { number = number_column n a w l e h la lw ∙ ap padded q; text = text_column n a w l e h la lw }

-- a line that asks u
module _ (names : List Mnemonic) (t : Table) (u : Put) (l : SourceLine) (h : l.number ≤ 9999) where
  abbrev row : Text
  row = bare_read names t u l

  abbrev columns : Text
  columns = digits_of 16 8 u.address

  abbrev words : Text
  words = words_text (places_of_put names t u)

  abbrev tail : Text
  tail = bare_end (places_of_put names t u) (reason_at names t u l)

  read_line : (k : ℕ) → l.number ≡ suc k → LineShown k l.text row
  read_line k q = bare_line l.number k columns words l.text tail h (length_digits 16 8 u.address) (words_length (places_of_put names t u)) q

  read_ending : drop (27 + length l.text) row ≡ tail
  read_ending = ending_column l.number columns words l.text tail h (length_digits 16 8 u.address) (words_length (places_of_put names t u))

  module _ (g : u.address < 16 ^ 8) where
    pub read_address : address_in row ≡ u.address
    unfolding address_in
    read_address = ap (hex_in 0) (address_column l.number columns words l.text tail h (length_digits 16 8 u.address) (words_length (places_of_put names t u))) ∙ number_read 8 u.address g

    pub read_places : places_in row ≡ map sixteen (places_of_put names t u)
    unfolding places_in
    read_places =
        let w = words_column l.number columns words l.text tail h (length_digits 16 8 u.address) (words_length (places_of_put names t u)) in
        let z = second_column l.number columns words l.text tail h (length_digits 16 8 u.address) (words_length (places_of_put names t u)) in
        rw (read_address, w, z) (places_read names t u (32 ∷ (l.text ++ tail)))

-- a line after END
module _ (l : SourceLine) (h : l.number ≤ 9999) where
  abbrev blanks : Text
  blanks = bytes "          "

  unread_line : (k : ℕ) → l.number ≡ suc k → LineShown k l.text (bare_unread l)
  unfolding bytes
  unread_line k q = bare_line l.number k (bytes "not read") blanks l.text [] h refl refl q

  unread_ending : drop (27 + length l.text) (bare_unread l) ≡ []
  unfolding bytes
  unread_ending = ending_column l.number (bytes "not read") blanks l.text [] h refl refl

  unread_address : take 8 (drop 6 (bare_unread l)) ≡ bytes "not read"
  unfolding bytes
  unread_address = address_column l.number (bytes "not read") blanks l.text [] h refl refl

  pub unread_places : places_in (bare_unread l) ≡ []
  unfolding places_in bytes
  unread_places =
      let rest : Text = 32 ∷ (l.text ++ []) in
      let a = address_in (bare_unread l) in
      let w = words_column l.number (bytes "not read") blanks l.text [] h refl refl in
      let z = second_column l.number (bytes "not read") blanks l.text [] h refl refl in
      let first : word_in a (drop 16 (bare_unread l)) ≡ [] = ap (word_in a) w ∙ blank_read a (32 ∷ 32 ∷ 32 ∷ 32 ∷ 32 ∷ rest) in
      let second : word_in (a + 2) (drop 21 (bare_unread l)) ≡ [] = ap (word_in (a + 2)) z ∙ blank_read (a + 2) rest in
      rw (first, second)

-- ---- a printout's rows
pub pass_of : (names : List Mnemonic) (base : ℕ) (s t : Text) → printout_by names base s ≡ accepted t → (p : Pass) × Printout names base s t p
unfolding printout_by and_then
pass_of names base s t e = go (pass_at base s) refl
  where
    go : (r : Answer Pass) → pass_at base s ≡ r → (p : Pass) × Printout names base s t p
    go (accepted p) f = (p, record { passed = f; printed = e })
    go (refused n k) f = let g : refused n k ≡ accepted t = rw f at e in clash cc

printed_as : (names : List Mnemonic) (base : ℕ) (s : Text) (p : Pass) → pass_at base s ≡ accepted p → printout_by names base s ≡ accepted (page_text names base s p)
unfolding printout_by and_then
printed_as names base s p e = rw e

-- row k, and the line that it is of
record Found (names : List Mnemonic) (base : ℕ) (s t : Text) (p : Pass) (k : ℕ) (x : Text) : Type 0 where
  line : SourceLine
  text : line.text ≡ x
  number : line.number ≡ suc k
  small : line.number ≤ 9999
  among : slice_get (lines_of s) k ≡ Some line
  inside : k < length (cut_at 10 s)
  row : Text
  at : slice_get (cut_at 10 t) k ≡ Some row
  is : RowIs names p.labels base base p.puts k line row

module _ {names : List Mnemonic} {base : ℕ} {s t : Text} {p : Pass} (h : Printout names base s t p) where
  abbrev lines : List Text
  lines = row_lines names p.labels base base p.puts (lines_of s)

  abbrev under : Text
  under = under_rows p.labels (symbols_text base s)

  page : t ≡ page_text names base s p
  page = let e : accepted t ≡ accepted (page_text names base s p) = sym h.printed ∙ printed_as names base s p h.passed in cc

  pub rows : cut_at 10 t ≡ lines ++ cut_at 10 under
  unfolding page_text lines_of
  rows =
      ap (cut_at 10) (page ∙ ap (λ (x : Text). x ++ under) (rows_ended names p.labels base base p.puts (lines_of s)))
      ∙ cut_rows lines under (rows_whole names p.labels base base p.puts (lines_of s) (numbered_whole 1 0 (cut_at 10 s) (lines_whole s)))

  found : (k : ℕ) (x : Text) → slice_get (cut_at 10 s) k ≡ Some x → Found names base s t p k x
  unfolding lines_of
  found k x e =
      let l = line_is 1 0 (cut_at 10 s) k x e in
      let r = row_at names p.labels base base p.puts (lines_of s) k (record { number = 1 + k; start = l.start; text = x }) l.at in
      let i = at_below (cut_at 10 s) k x e in
      record {
        line = record { number = 1 + k; start = l.start; text = x };
        text = refl;
        number = omega arith;
        small = omega (arith, few_lines base s p h.passed);
        among = l.at;
        inside = i;
        row = r.row;
        at = rw rows (at_front lines (cut_at 10 under) k r.row r.at);
        is = r.is;
      }

  -- addresses have 8 digits
  pub put_fits : (k : ℕ) (u : Put) → slice_get p.puts k ≡ Some u → u.address < 16 ^ 8
  put_fits k u e = omega (arith, (put_low base s p h.passed k u e).here)

  pub end_fits : end_at base base p.puts < 16 ^ 8
  end_fits = omega (arith, end_low base s p h.passed)

-- ---- each line once and in order
row_line : {names : List Mnemonic} {t : Table} {base a : ℕ} {us : List Put} {k : ℕ} {l : SourceLine} {r : Text} → RowIs names t base a us k l r → l.number ≤ 9999 → l.number ≡ suc k → LineShown k l.text r
row_line {names} {t} {k = k} {l} (asks u e q) h n = rw q (read_line names t u l h k n)
row_line {names} {t} {base} {a} {us} {k} {l} (ends e q) h n = rw q (read_line names t (end_put (end_at base a us)) l h k n)
row_line {k = k} {l} (behind_end e q) h n = rw q (unread_line l h k n)

put_some : (l : Label) (ms : List Label) → (m : Label) × (ns : List Label) × (put_in_order l ms ≡ m ∷ ns)
unfolding put_in_order
put_some l [] = (l, [], refl)
put_some l (m ∷ ms) = go (ltb l.start m.start)
  where
    go : (y : Bool) → (n : Label) × (ns : List Label) × (cond y (l ∷ m ∷ ms) (m ∷ put_in_order l ms) ≡ n ∷ ns)
    go true = (l, m ∷ ms, refl)
    go false = (m, put_in_order l ms, refl)

name_some : (n r : Text) → (b : ℕ) × (x : Text) × (n ++ (32 ∷ r) ≡ b ∷ x)
name_some [] r = (32, r, refl)
name_some (b ∷ n) r = (b, n ++ (32 ∷ r), refl)

symbol_some : (m : Label) (ns : List Label) → (b : ℕ) × (x : Text) × (flat_map symbol_text (m ∷ ns) ≡ b ∷ x)
unfolding flat_map line_text
symbol_some m ns =
    let r = name_some m.name (digits_of 16 8 m.address ++ (32 ∷ (decimal m.line ++ (10 ∷ [])))) in
    (r.0, r.1 ++ flat_map symbol_text ns, ap (λ (x : Text). x ++ flat_map symbol_text ns) r.2)

labels_after : (t : Table) → cut_at 10 (under_rows t (flat_map symbol_text (in_order t))) ≡ after_rows (flat_map symbol_text (in_order t))
unfolding under_rows in_order after_rows flat_map cut_at cut_where
labels_after [] = refl
labels_after (x ∷ t) =
    let m = put_some x (in_order t) in
    let r = symbol_some m.0 m.1 in
    let e : flat_map symbol_text (put_in_order x (in_order t)) ≡ r.0 ∷ r.1 = ap (flat_map symbol_text) m.2 ∙ r.2 in
    rw e

after_rows_lem : {names : List Mnemonic} {base : ℕ} {s t : Text} {p : Pass} → Printout names base s t p → drop (length (cut_at 10 s)) (cut_at 10 t) ≡ after_rows (symbols_text base s)
unfolding symbols_text symbols_told symbols and_then
after_rows_lem {names} {base} {s} {t} {p} h =
    let n : length (lines h) ≡ length (cut_at 10 s) = rows_count names p.labels base base p.puts (lines_of s) ∙ lines_count s in
    let labels : symbols_text base s ≡ flat_map symbol_text (in_order p.labels) = rw h.passed in
    ap (drop (length (cut_at 10 s))) (rows h) ∙ (drop_at (lines h) (cut_at 10 (under h)) (length (cut_at 10 s)) n ∙ rw labels (labels_after p.labels))

pub shows_lines : ShowsLines
unfolding ShowsLines
shows_lines names base s t e = (
  λ k x g.
      let f = found pass.1 k x g in
      (f.row, f.at, rw f.text at (row_line f.is f.small f.number)),
  after,
)
  where
    pass : (p : Pass) × Printout names base s t p
    pass = pass_of names base s t e

    after : drop (length (cut_at 10 s)) (cut_at 10 t) ≡ after_rows (symbols_text base s)
    after = after_rows_lem pass.1

-- ---- words
pub end_places : (names : List Mnemonic) (t : Table) (a : ℕ) → places_of_put names t (end_put a) ≡ []
unfolding places_of_put data_places data_contents places_at code_places_by code_contents_by
end_places names t a = refl

module _ {names : List Mnemonic} {base : ℕ} {s t : Text} {p : Pass} (h : Printout names base s t p) (k : ℕ) (l : SourceLine) (small : l.number ≤ 9999) where
  abbrev Shown : Text → Type 0
  Shown r = ((u : Put) → slice_get p.puts k ≡ Some u → PutShown names p u r) × (length p.puts ≤ k → places_in r ≡ [])

  put_shown : (r : Text) → RowIs names p.labels base base p.puts k l r → Shown r
  unfolding places_of_put
  put_shown r (asks u e q) = (
    λ v g.
        let x : v ≡ u = cc in
        let fits = put_fits h k u e in
        rw (x, q) (record { address = read_address names p.labels u l small fits; places = read_places names p.labels u l small fits }),
    λ le. absurd (omega (arith, at_below p.puts k u e)),
  )
  put_shown r (ends e q) = (
    λ v g. absurd (omega (arith, at_below p.puts k v g)),
    λ le. rw q (read_places names p.labels (end_put (end_at base base p.puts)) l small (end_fits h) ∙ ap (map sixteen) (end_places names p.labels (end_at base base p.puts))),
  )
  put_shown r (behind_end e q) = (λ v g. absurd (omega (arith, at_below p.puts k v g)), λ le. rw q (unread_places l small))

  end_shown : (r : Text) → RowIs names p.labels base base p.puts k l r → length p.puts ≡ k → address_in r ≡ end_at base base p.puts
  end_shown r (asks u e q) n = absurd (omega (arith, at_below p.puts k u e))
  end_shown r (ends e q) n = rw q (read_address names p.labels (end_put (end_at base base p.puts)) l small (end_fits h))
  end_shown r (behind_end e q) n = absurd (omega arith)

same_row : (t : Text) {r r' : Text} (k : ℕ) → slice_get (cut_at 10 t) k ≡ Some r → slice_get (cut_at 10 t) k ≡ Some r' → r ≡ r'
same_row t k e f = cc

pub shows_places : ShowsPlaces
unfolding ShowsPlaces
shows_places names base s t p h k x r i =
    let f = found h k x i.line in
    let same : f.row ≡ r = same_row t k f.at i.row in
    rw same at (put_shown h k f.line f.small f.row f.is)

none_asked : (us : List Put) (base a : ℕ) → length us ≡ 0 → end_at base a us ≡ a
unfolding end_at
none_asked [] base a e = refl
none_asked (u ∷ us) base a e = absurd (omega arith)

pub shows_end : ShowsEnd
unfolding ShowsEnd
shows_end names base s t p h k x r i n =
    let f = found h k x i.line in
    let same : f.row ≡ r = same_row t k f.at i.row in
    let address : address_in r ≡ end_at base base p.puts = rw same at (end_shown h k f.line f.small f.row f.is n) in
    (λ z. address ∙ none_asked p.puts base base (n ∙ z), λ j u z e. address ∙ end_last base base p.puts j u (n ∙ z) e)

-- ---- reasons
given_reason : (o : Option (Reading ℕ)) (v : Verdict) → ((f : Failure) → ¬ (o ≡ Some (failed f))) → reason_of o v ≡ v
unfolding reason_of
given_reason None v n = refl
given_reason (Some (read m)) v n = refl
given_reason (Some (failed f)) v n = absurd (n f refl)

failed_reason : (o : Option (Reading ℕ)) (v : Verdict) (f : Failure) → o ≡ Some (failed f) → reason_of o v ≡ because (bad_number f)
unfolding reason_of
failed_reason o v f e = rw e

-- a line that is read, and asks u
module _ (names : List Mnemonic) (base : ℕ) (s : Text) (t : Table) (k : ℕ) (u : Put) (l : SourceLine) (small : l.number ≤ 9999) (asked : u.task ≡ (line_of l.text).task)
    (told : explain_by names base s (suc k) ≡ accepted (why_task names t u.address u.task)) where
  says : (v : Verdict) → explain_by names base s (suc k) ≡ accepted v → why_task names t u.address u.task ≡ v
  says v e = let q : accepted (why_task names t u.address u.task) ≡ accepted v = sym told ∙ e in cc

  tail_is : (ps : List Place) (v : Verdict) → places_of_put names t u ≡ ps → reason_at names t u l ≡ v → drop (27 + length l.text) (bare_read names t u l) ≡ bare_end ps v
  tail_is ps v e f = read_ending names t u l small ∙ rw (e, f)

  read_reason : ReasonShown names base s k l.text (bare_read names t u l)
  unfolding bare_end
  read_reason =
      record {
        word = λ e. let w = emitted_places names t u (says emitted e) in tail_is (w.0 ∷ w.1) (reason_at names t u l) w.2 refl;
        number = λ f v e g. tail_is [] (because (bad_number f)) (failed_places names t u l.text f asked g) (failed_reason (line_reading l.text) (why_task names t u.address u.task) f g);
        reason = λ x e n. tail_is [] (because x) (reason_places names t u x (says (because x) e)) (given_reason (line_reading l.text) (why_task names t u.address u.task) n ∙ says (because x) e);
        unread = λ n i e. let q : accepted (why_task names t u.address u.task) ≡ refused n i = sym told ∙ e in clash cc;
      }

-- a line after END
unread_reason : (names : List Mnemonic) (base : ℕ) (s : Text) (k : ℕ) (l : SourceLine) → l.number ≤ 9999 → explain_by names base s (suc k) ≡ refused 13 (suc k) → ReasonShown names base s k l.text (bare_unread l)
unread_reason names base s k l small told =
    record {
      word = λ e. let q : refused 13 (suc k) ≡ accepted emitted = sym told ∙ e in clash cc;
      number = λ f v e g. let q : refused 13 (suc k) ≡ accepted v = sym told ∙ e in clash cc;
      reason = λ x e n. let q : refused 13 (suc k) ≡ accepted (because x) = sym told ∙ e in clash cc;
      unread = λ n i e. (unread_ending l small, unread_address l small);
    }

reason_shown : {names : List Mnemonic} {base : ℕ} {s t : Text} {p : Pass} (h : Printout names base s t p) {k : ℕ} {x : Text} (f : Found names base s t p k x) (r : Text)
    → RowIs names p.labels base base p.puts k f.line r → ReasonShown names base s k f.line.text r
unfolding why_task
reason_shown {names} {base} {s} {t} {p} h {k} f r (asks u e q) =
    rw q (read_reason names base s p.labels k u f.line f.small (asks_at p.puts (lines_of s) k u f.line (pass_asks base s p h.passed) e f.among) (line_asks names base s p h.passed k u e))
reason_shown {names} {base} {s} {t} {p} h {k} f r (ends e q) =
    rw q (read_reason names base s p.labels k (end_put (end_at base base p.puts)) f.line f.small (sym (asks_end p.puts (lines_of s) k f.line (pass_asks base s p h.passed) e f.among)) (line_ends names base s p h.passed k e f.inside))
reason_shown {names} {base} {s} {t} {p} h {k} f r (behind_end e q) = rw q (unread_reason names base s k f.line f.small (line_after_end names base s p h.passed k e))

pub shows_reasons : ShowsReasons
unfolding ShowsReasons
shows_reasons names base s t e k x r i =
    let h = (pass_of names base s t e).1 in
    let f = found h k x i.line in
    let same : f.row ≡ r = same_row t k f.at i.row in
    rw (f.text, same) at (reason_shown h f f.row f.is)

-- ---- refusals
pub refuses_alike : RefusesAlike
unfolding RefusesAlike printout_by assemble_by and_then
refuses_alike names base s n k = (λ e. to (pass_at base s) e, λ e. from (pass_at base s) e)
  where
    to : (r : Answer Pass) → and_then r (λ p. accepted (page_text names base s p)) ≡ refused n k → and_then r (encoded (encode_by names)) ≡ refused n k
    to (accepted p) e = clash cc
    to (refused m j) e = let a : m ≡ n = cc in let b : j ≡ k = cc in rw (a, b)

    from : (r : Answer Pass) → and_then r (encoded (encode_by names)) ≡ refused n k → and_then r (λ p. accepted (page_text names base s p)) ≡ refused n k
    from (accepted p) e = clash cc
    from (refused m j) e = let a : m ≡ n = cc in let b : j ≡ k = cc in rw (a, b)
