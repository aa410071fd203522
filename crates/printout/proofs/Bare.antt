-- Rows without their byte 10: that the printout is them, and what stands in their columns. Assumes nothing.
use Rattle.std.specs.Prelude.{Some, slice_get}
use Prim.Native.Nat.{ℕ, zero, suc, ◌+◌, ◌≤◌, ◌<◌, suc-le-suc}
use mathlib.Core.Path.{◌≡◌, refl, sym, ap, ◌∙◌}
use mathlib.Core.Bool.{Bool, true, false, cond}
use mathlib.Core.List.{List, [], ◌∷◌, ◌++◌, append_assoc, append-nil, flat_map, map}
use native.Mathlib.Omega.{arith}
use lib.Dec.{eqb}
use lib.ListN.{length, take, drop, length-append, length-map}
use lib.Seq.{take_at, drop_at, drop-drop}
use Rattle.rules.specs.Number.{no_digits, bad_digit, out_of_range}
use Rattle.rules.specs.Text.{Text, bytes}
use Rattle.rules.specs.Line.{SourceLine, numbered, end, size}
use Rattle.rules.specs.Directive.{line_reading}
use Rattle.rules.specs.Label.{Table}
use Rattle.rules.specs.Encode.{Mnemonic}
use Rattle.rules.specs.Assemble.{Put, Place, address_after}
use Rattle.requests.specs.Explain.{not_instruction, unknown_mnemonic, wrong_count, wrong_kinds, bad_number, not_recorded, out_of_reach, Verdict, emitted, because, why_task}
use Rattle.promises.proofs.Lists.{All, slice_get-mapped}
use Rattle.promises.proofs.Compared.{clash}
use Rattle.listing.specs.Listing.{digits_of, decimal}
use Rattle.whytext.specs.WhyLine.{phrase, verdict_text}
use Rattle.printout.specs.Printout.{padded, word_text, words_text, front_text, end_text, row_text, reason_of, places_of_put, read_row, unread_row, rows_from}
use Rattle.printout.proofs.Columns.{padded_length, front_length}
use Rattle.printout.proofs.Broken.{no_break, Unbroken, whole_append, whole_drop, digits_whole, decimal_whole, AllUnbroken, ended}

-- ---- one row
abbrev pub bare_row : ℕ → Text → Text → Text → Text → Text
bare_row n a w l e = (front_text n a w ++ l) ++ e

unfoldable pub bare_end : List Place → Verdict → Text
bare_end [] v = bytes "  <- " ++ phrase v
bare_end (p ∷ ps) v = []

end_ended : (ps : List Place) (v : Verdict) → end_text ps v ≡ ended (bare_end ps v)
unfolding end_text bare_end verdict_text bytes
end_ended [] v = refl
end_ended (p ∷ ps) v = refl

-- the reason that is shown of a line which asks u
abbrev pub reason_at : List Mnemonic → Table → Put → SourceLine → Verdict
reason_at names t u l = reason_of (line_reading l.text) (why_task names t u.address u.task)

abbrev pub bare_read : List Mnemonic → Table → Put → SourceLine → Text
bare_read names t u l =
    bare_row l.number (digits_of 16 8 u.address) (words_text (places_of_put names t u)) l.text (bare_end (places_of_put names t u) (reason_at names t u l))

abbrev pub bare_unread : SourceLine → Text
bare_unread l = bare_row l.number (bytes "not read") (bytes "          ") l.text []

read_ended : (names : List Mnemonic) (t : Table) (u : Put) (l : SourceLine) → read_row names t u l ≡ ended (bare_read names t u l)
unfolding read_row row_text
read_ended names t u l =
    let ps = places_of_put names t u in
    let front = front_text l.number (digits_of 16 8 u.address) (words_text ps) ++ l.text in
    rw (end_ended ps (reason_at names t u l)) (sym (append_assoc front (bare_end ps (reason_at names t u l)) (10 ∷ [])))

unread_ended : (l : SourceLine) → unread_row l ≡ ended (bare_unread l)
unfolding unread_row
unread_ended l = ap ended (sym (append-nil (front_text l.number (bytes "not read") (bytes "          ") ++ l.text)))

-- ---- all rows
abbrev pub end_put : ℕ → Put
end_put a = record { address = a; task = end }

unfoldable pub row_lines : List Mnemonic → Table → ℕ → ℕ → List Put → List SourceLine → List Text
row_lines names t base a us [] = []
row_lines names t base a [] (l ∷ ls) = bare_read names t (end_put a) l ∷ map bare_unread ls
row_lines names t base a (u ∷ us) (l ∷ ls) = bare_read names t u l ∷ row_lines names t base (address_after size base u.address u.task) us ls

unreads_ended : (ls : List SourceLine) → flat_map unread_row ls ≡ flat_map ended (map bare_unread ls)
unfolding flat_map
unreads_ended [] = refl
unreads_ended (l ∷ ls) = rw (unread_ended l, unreads_ended ls)

pub rows_ended : (names : List Mnemonic) (t : Table) (base a : ℕ) (us : List Put) (ls : List SourceLine)
    → rows_from names t base a us ls ≡ flat_map ended (row_lines names t base a us ls)
unfolding rows_from row_lines flat_map
rows_ended names t base a us [] = refl
rows_ended names t base a [] (l ∷ ls) = rw (read_ended names t (end_put a) l, unreads_ended ls)
rows_ended names t base a (u ∷ us) (l ∷ ls) = rw (read_ended names t u l, rows_ended names t base (address_after size base u.address u.task) us ls)

pub rows_count : (names : List Mnemonic) (t : Table) (base a : ℕ) (us : List Put) (ls : List SourceLine) → length (row_lines names t base a us ls) ≡ length ls
unfolding row_lines
rows_count names t base a us [] = refl
rows_count names t base a [] (l ∷ ls) = ap suc (length-map ls bare_unread)
rows_count names t base a (u ∷ us) (l ∷ ls) = ap suc (rows_count names t base (address_after size base u.address u.task) us ls)

-- ---- none has a byte 10
padded_whole : (n : ℕ) → Unbroken (padded n)
unfolding padded bytes no_break
padded_whole n = whole_append (drop (length (decimal n)) (32 ∷ 32 ∷ 32 ∷ 32 ∷ [])) (decimal n) (whole_drop (length (decimal n)) (32 ∷ 32 ∷ 32 ∷ 32 ∷ []) refl) (decimal_whole n)

front_whole : (n : ℕ) (a w : Text) → Unbroken a → Unbroken w → Unbroken (front_text n a w)
unfolding front_text bytes no_break
front_whole n a w h k =
    let one = padded n ++ (32 ∷ 32 ∷ []) in
    let two = one ++ a in
    let three = two ++ (32 ∷ 32 ∷ []) in
    whole_append (three ++ w) (32 ∷ []) (whole_append three w (whole_append two (32 ∷ 32 ∷ []) (whole_append one a (whole_append (padded n) (32 ∷ 32 ∷ []) (padded_whole n) refl) h) refl) k) refl

sign_whole : (m : ℕ) → Unbroken (cond (eqb m 0) 32 42 ∷ [])
unfolding no_break
sign_whole m = go (eqb m 0)
  where
    go : (y : Bool) → Unbroken (cond y 32 42 ∷ [])
    go true = refl
    go false = refl

word_whole : (w m : ℕ) → Unbroken (word_text w m)
unfolding word_text
word_whole w m = whole_append (digits_of 16 4 w) (cond (eqb m 0) 32 42 ∷ []) (digits_whole 16 4 w) (sign_whole m)

words_whole : (ps : List Place) → Unbroken (words_text ps)
unfolding words_text bytes no_break
words_whole [] = refl
words_whole (p ∷ []) = whole_append (word_text p.word p.mark) (32 ∷ 32 ∷ 32 ∷ 32 ∷ 32 ∷ []) (word_whole p.word p.mark) refl
words_whole (p ∷ q ∷ ps) = whole_append (word_text p.word p.mark) (word_text q.word q.mark) (word_whole p.word p.mark) (word_whole q.word q.mark)

phrase_whole : (v : Verdict) → Unbroken (phrase v)
unfolding bytes no_break
phrase_whole emitted = refl
phrase_whole (because not_instruction) = refl
phrase_whole (because unknown_mnemonic) = refl
phrase_whole (because wrong_count) = refl
phrase_whole (because wrong_kinds) = refl
phrase_whole (because (bad_number no_digits)) = refl
phrase_whole (because (bad_number bad_digit)) = refl
phrase_whole (because (bad_number out_of_range)) = refl
phrase_whole (because not_recorded) = refl
phrase_whole (because out_of_reach) = refl

end_whole : (ps : List Place) (v : Verdict) → Unbroken (bare_end ps v)
unfolding bare_end bytes no_break
end_whole [] v = whole_append (32 ∷ 32 ∷ 60 ∷ 45 ∷ 32 ∷ []) (phrase v) refl (phrase_whole v)
end_whole (p ∷ ps) v = refl

abbrev LineWhole : SourceLine → Type 0
LineWhole l = Unbroken l.text

read_whole : (names : List Mnemonic) (t : Table) (u : Put) (l : SourceLine) → LineWhole l → Unbroken (bare_read names t u l)
read_whole names t u l h =
    let a = digits_of 16 8 u.address in
    let w = words_text (places_of_put names t u) in
    let front = front_text l.number a w in
    whole_append (front ++ l.text) (bare_end (places_of_put names t u) (reason_at names t u l)) (whole_append front l.text (front_whole l.number a w (digits_whole 16 8 u.address) (words_whole (places_of_put names t u))) h) (end_whole (places_of_put names t u) (reason_at names t u l))

unread_whole : (l : SourceLine) → LineWhole l → Unbroken (bare_unread l)
unfolding bytes no_break
unread_whole l h =
    let front = front_text l.number (bytes "not read") (bytes "          ") in
    whole_append (front ++ l.text) [] (whole_append front l.text (front_whole l.number (bytes "not read") (bytes "          ") refl refl) h) refl

unreads_whole : (ls : List SourceLine) → All LineWhole ls → AllUnbroken (map bare_unread ls)
unreads_whole [] h = tt
unreads_whole (l ∷ ls) h = (unread_whole l h.0, unreads_whole ls h.1)

pub rows_whole : (names : List Mnemonic) (t : Table) (base a : ℕ) (us : List Put) (ls : List SourceLine) → All LineWhole ls → AllUnbroken (row_lines names t base a us ls)
unfolding row_lines
rows_whole names t base a us [] h = tt
rows_whole names t base a [] (l ∷ ls) h = (read_whole names t (end_put a) l h.0, unreads_whole ls h.1)
rows_whole names t base a (u ∷ us) (l ∷ ls) h = (read_whole names t u l h.0, rows_whole names t base (address_after size base u.address u.task) us ls h.1)

pub numbered_whole : (n i : ℕ) (ts : List Text) → AllUnbroken ts → All LineWhole (numbered n i ts)
unfolding numbered
numbered_whole n i [] h = tt
numbered_whole n i (x ∷ ts) h = (h.0, numbered_whole (suc n) (suc (i + length x)) ts h.1)

-- ---- columns
module _ (n : ℕ) (a w l e : Text) (h : n ≤ 9999) (la : length a ≡ 8) (lw : length w ≡ 10) where
  abbrev row : Text
  row = bare_row n a w l e

  abbrev behind : Text
  behind = w ++ (32 ∷ (l ++ e))

  shape : row ≡ padded n ++ (32 ∷ 32 ∷ (a ++ (32 ∷ 32 ∷ behind)))
  unfolding front_text bytes
  shape = simp append_assoc

  pub number_column : take 4 row ≡ padded n
  number_column = ap (take 4) shape ∙ take_at (padded n) (32 ∷ 32 ∷ (a ++ (32 ∷ 32 ∷ behind))) 4 (padded_length n h)

  from_address : drop 6 row ≡ a ++ (32 ∷ 32 ∷ behind)
  from_address = ap (drop 6) shape ∙ (sym (drop-drop 2 4 (padded n ++ (32 ∷ 32 ∷ (a ++ (32 ∷ 32 ∷ behind))))) ∙ ap (drop 2) (drop_at (padded n) (32 ∷ 32 ∷ (a ++ (32 ∷ 32 ∷ behind))) 4 (padded_length n h)))

  pub address_column : take 8 (drop 6 row) ≡ a
  address_column = ap (take 8) from_address ∙ take_at a (32 ∷ 32 ∷ behind) 8 la

  pub words_column : drop 16 row ≡ behind
  words_column = sym (drop-drop 10 6 row) ∙ (ap (drop 10) from_address ∙ (sym (drop-drop 2 8 (a ++ (32 ∷ 32 ∷ behind))) ∙ ap (drop 2) (drop_at a (32 ∷ 32 ∷ behind) 8 la)))

  pub second_column : drop 21 row ≡ drop 5 behind
  second_column = sym (drop-drop 5 16 row) ∙ ap (drop 5) words_column

  line_column : drop 27 row ≡ l ++ e
  line_column = ap (drop 27) (append_assoc (front_text n a w) l e) ∙ drop_at (front_text n a w) (l ++ e) 27 (front_length n a w h la lw)

  pub text_column : take (length l) (drop 27 row) ≡ l
  text_column = ap (take (length l)) line_column ∙ take_at l e (length l) refl

  pub ending_column : drop (27 + length l) row ≡ e
  ending_column = drop_at (front_text n a w ++ l) e (27 + length l) (length-append (front_text n a w) l ∙ ap (λ (k : ℕ). k + length l) (front_length n a w h la lw))

-- ---- which row it is
-- the address after all that is asked, at first a
unfoldable pub end_at : ℕ → ℕ → List Put → ℕ
end_at base a [] = a
end_at base a (u ∷ us) = end_at base (address_after size base u.address u.task) us

-- the row of the k-th line, from 0: one that asks, END, or one after it
pub data RowIs (names : List Mnemonic) (t : Table) (base a : ℕ) (us : List Put) (k : ℕ) (l : SourceLine) (r : Text) : Type 0 where
  asks : (u : Put) → slice_get us k ≡ Some u → r ≡ bare_read names t u l → RowIs names t base a us k l r
  ends : length us ≡ k → r ≡ bare_read names t (end_put (end_at base a us)) l → RowIs names t base a us k l r
  behind_end : length us < k → r ≡ bare_unread l → RowIs names t base a us k l r

pub record RowFound (names : List Mnemonic) (t : Table) (base a : ℕ) (us : List Put) (ls : List SourceLine) (k : ℕ) (l : SourceLine) : Type 0 where
  pub row : Text
  pub at : slice_get (row_lines names t base a us ls) k ≡ Some row
  pub is : RowIs names t base a us k l row

module _ (names : List Mnemonic) (t : Table) (base : ℕ) where
  later : (a : ℕ) (u : Put) (us : List Put) (k : ℕ) (l : SourceLine) (r : Text) → RowIs names t base (address_after size base u.address u.task) us k l r → RowIs names t base a (u ∷ us) (suc k) l r
  unfolding end_at
  later a u us k l r (asks v e q) = asks v e q
  later a u us k l r (ends e q) = ends (ap suc e) q
  later a u us k l r (behind_end h q) = behind_end (suc-le-suc h) q

  pub row_at : (a : ℕ) (us : List Put) (ls : List SourceLine) (k : ℕ) (l : SourceLine) → slice_get ls k ≡ Some l → RowFound names t base a us ls k l
  unfolding row_lines end_at
  row_at a us [] k l e = clash cc
  row_at a [] (m ∷ ls) zero l e = let q : m ≡ l = cc in record { row = bare_read names t (end_put a) m; at = refl; is = ends refl (rw q) }
  row_at a [] (m ∷ ls) (suc k) l e = record { row = bare_unread l; at = slice_get-mapped bare_unread ls k ∙ rw e; is = behind_end (omega arith) refl }
  row_at a (u ∷ us) (m ∷ ls) zero l e = let q : m ≡ l = cc in record { row = bare_read names t u m; at = refl; is = asks u refl (rw q) }
  row_at a (u ∷ us) (m ∷ ls) (suc k) l e =
      let f = row_at (address_after size base u.address u.task) us ls k l e in
      record { row = f.row; at = f.at; is = later a u us k l f.row f.is }
