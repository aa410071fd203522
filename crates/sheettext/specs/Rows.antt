-- A sheet's text: a row for each total, then the mean "as two whole numbers". Assumes nothing.
use Rattle.std.specs.Prelude.{ℕ, [], ◌∷◌, ◌++◌}
use Rattle.rules.specs.Text.{Text, bytes}
use Rattle.requests.specs.Sheet.{Totals, Mean, mean_of}
use Rattle.listing.specs.Listing.{decimal}

-- words, a number in decimal, and a byte
unfoldable pub part_text : Text → ℕ → ℕ → Text
part_text words n stop = words ++ (decimal n ++ (stop ∷ []))

abbrev pub row : Text → ℕ → Text
row name n = part_text name n 10

-- lines that are no instructions; instructions, and END with what follows; words, labels and sources
unfoldable pub plain_text : Totals → Text
plain_text t =
    ((row (bytes "skipped ") t.skipped_lines ++ row (bytes "org ") t.org_lines) ++ row (bytes "label ") t.label_lines) ++ row (bytes "data ") t.data_lines

unfoldable pub code_text : Totals → Text
code_text t = (row (bytes "word ") t.word_lines ++ row (bytes "wordless ") t.wordless_lines) ++ row (bytes "end ") t.end_lines

unfoldable pub counts_text : Totals → Text
counts_text t =
    (((row (bytes "words ") t.words ++ row (bytes "marked ") t.marked) ++ row (bytes "labels ") t.labels) ++ row (bytes "accepted ") t.accepted_sources)
    ++ row (bytes "refused ") t.refused_sources

unfoldable pub mean_text : Mean → Text
mean_text m = part_text (bytes "mean ") m.words 32 ++ row [] m.scripts

unfoldable pub sheet_text : Totals → Text
sheet_text t = ((plain_text t ++ code_text t) ++ counts_text t) ++ mean_text (mean_of t)
