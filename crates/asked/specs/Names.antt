-- The names that words give files. Assumes nothing.
use Rattle.std.specs.Prelude.{ℕ, ◌-◌, Bool, true, false, length, take, get_or, eqb, Option, None, Some, option_map, find, map, codes, bytes_eq}
use Rattle.rules.specs.Text.{Text}
use Rattle.commandline.specs.declared.Asked.{Asked}

-- a word that was no UTF-8 ends in byte 0, which no other word has
abbrev pub is_broken : Text → Bool
is_broken t = eqb (get_or t (length t - 1) 1) 0

-- it is printed without that byte
abbrev pub shown : Text → Text
shown t = elim (is_broken t) [ true ↦ take (length t - 1) t | false ↦ t ]

-- FILE as an input: `-` is standard input, which has no name
abbrev pub input_of : Text → Option Text
input_of t = elim (bytes_eq t (codes "-")) [ true ↦ None | false ↦ Some t ]

-- a name that was no UTF-8
abbrev pub broken : Option Text → Option Text
broken None = None
broken (Some t) = elim (is_broken t) [ true ↦ Some t | false ↦ None ]

abbrev pub first_of : Option Text → Option Text → Option Text
first_of (Some t) o = Some t
first_of None o = o

-- the first of the files that are to be read whose name was none: the branch table, the sheets, FILE
abbrev pub unread : Asked → Option Text
unread a =
    first_of (broken (option_map (λ s. s.now) a.branches))
    (first_of (find is_broken (map (λ s. s.now) a.sheets.items)) (find is_broken (map (λ s. s.now) a.files.items)))

abbrev pub unwritten : Asked → Option Text
unwritten a = broken (option_map (λ s. s.now) a.output)
