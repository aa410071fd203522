-- What `lagvettu list` prints for a script, an assembly listing for people: a row for each line of the source with its address and its
-- words, or why it has none, and the labels under the rows; over the mnemonics in use, by the stations' and under a branch table. Assumes nothing.
use Rattle.std.specs.Prelude.{ℕ, cond, eqb, length, drop, Option, None, Some}
use mathlib.Core.List.{List, [], ◌∷◌, ◌++◌, flat_map}
use Rattle.rules.specs.Text.{Text, bytes}
use Rattle.rules.specs.Number.{Reading, read, failed}
use Rattle.rules.specs.Line.{SourceLine, lines_of, end, size}
use Rattle.rules.specs.Directive.{line_reading}
use Rattle.rules.specs.Label.{Table}
use Rattle.rules.specs.Encode.{Mnemonic, mnemonics, encode_by}
use Rattle.rules.specs.Answer.{Answer, accepted, refused, and_then}
use Rattle.rules.specs.Assemble.{Put, Pass, Place, address_after, data_places, code_places_by, pass_at}
use Rattle.requests.specs.Explain.{Verdict, because, bad_number, why_task}
use Rattle.requests.specs.Branches.{under}
use Rattle.listing.specs.Listing.{digits_of, decimal, refused_text}
use Rattle.symtext.specs.Symlist.{symbols_text}
use Rattle.whytext.specs.WhyLine.{verdict_text}

-- ---- columns
-- a line's number in decimal, with spaces in front, in 4 columns
unfoldable pub padded : ℕ → Text
padded n = drop (length (decimal n)) (bytes "    ") ++ decimal n

-- a word: 4 upper-case hexadecimal digits, and `*` if its mark is not 0
unfoldable pub word_text : ℕ → ℕ → Text
word_text word mark = digits_of 16 4 word ++ (cond (eqb mark 0) 32 42 ∷ [])

-- ten bytes for at most two words, which is as many as a line has
unfoldable pub words_text : List Place → Text
words_text [] = bytes "          "
words_text (p ∷ []) = word_text p.word p.mark ++ bytes "     "
words_text (p ∷ q ∷ ps) = word_text p.word p.mark ++ word_text q.word q.mark

-- what stands before a line's own bytes: 27 bytes, the address or `not read` being 8 of them
unfoldable pub front_text : ℕ → Text → Text → Text
front_text n address words = ((((padded n ++ bytes "  ") ++ address) ++ bytes "  ") ++ words) ++ (32 ∷ [])

-- ---- rows
-- what stands after them: why there is no word; and byte 10
unfoldable pub end_text : List Place → Verdict → Text
end_text [] v = bytes "  <- " ++ verdict_text v
end_text (p ∷ ps) v = 10 ∷ []

-- the row of the n-th line, with the text l, read at address a: its places, and the reason if there are none
unfoldable pub row_text : ℕ → ℕ → List Place → Verdict → Text → Text
row_text n a ps v l = (front_text n (digits_of 16 8 a) (words_text ps) ++ l) ++ end_text ps v

-- a directive, ORG or data with `DC.`, whose number cannot be read is told by what failed in it, any other line by the verdict on it
unfoldable pub reason_of : Option (Reading ℕ) → Verdict → Verdict
reason_of None v = v
reason_of (Some (read n)) v = v
reason_of (Some (failed f)) v = because (bad_number f)

-- all places of what a line asks
unfoldable pub places_of_put : List Mnemonic → Table → Put → List Place
places_of_put names t u = data_places u ++ code_places_by (encode_by names) t u

-- a line that is read, and asks u
unfoldable pub read_row : List Mnemonic → Table → Put → SourceLine → Text
read_row names t u l =
    row_text l.number u.address (places_of_put names t u) (reason_of (line_reading l.text) (why_task names t u.address u.task)) l.text

-- a line after END
unfoldable pub unread_row : SourceLine → Text
unread_row l = (front_text l.number (bytes "not read") (bytes "          ") ++ l.text) ++ (10 ∷ [])

-- the rows of lines, of which the first ones ask so much, and the next one, which is END, is read at address a
unfoldable pub rows_from : List Mnemonic → Table → ℕ → ℕ → List Put → List SourceLine → Text
rows_from names t base a us [] = []
rows_from names t base a [] (l ∷ ls) = read_row names t (record { address = a; task = end }) l ++ flat_map unread_row ls
rows_from names t base a (u ∷ us) (l ∷ ls) =
    read_row names t u l ++ rows_from names t base (address_after size base u.address u.task) us ls

-- ---- the printout
-- under the rows, if there are labels: an empty line, and what `symlist` prints
unfoldable pub under_rows : Table → Text → Text
under_rows [] symbols = []
under_rows (x ∷ t) symbols = 10 ∷ symbols

unfoldable pub page_text : List Mnemonic → ℕ → Text → Pass → Text
page_text names base s p = rows_from names p.labels base base p.puts (lines_of s) ++ under_rows p.labels (symbols_text base s)

-- of a source at a base, by the mnemonics in use
unfoldable pub printout_by : List Mnemonic → ℕ → Text → Answer Text
printout_by names base s = and_then (pass_at base s) (λ p. accepted (page_text names base s p))

-- by the stations' mnemonics, or under a branch table if one is lent
unfoldable pub printout_of : Option Text → ℕ → Text → Answer Text
printout_of None base s = printout_by mnemonics base s
printout_of (Some t) base s = under t (λ names. printout_by names base s)

-- a refused source has the one line of its refusal
unfoldable pub told_text : Answer Text → Text
told_text (accepted t) = t
told_text (refused n p) = refused_text n p

-- by the stations' mnemonics, and under a branch table
unfoldable pub printout_text : ℕ → Text → Text
printout_text base s = told_text (printout_by mnemonics base s)

unfoldable pub printout_under : Text → ℕ → Text → Text
printout_under t base s = told_text (under t (λ names. printout_by names base s))
