-- The rules' limits, each named once. Assumes nothing.
use Rattle.std.specs.Prelude.{ℕ, ◌+◌, ◌^◌}

-- "source 32,768 bytes, 4,096 lines"
abbrev pub max_source : ℕ
max_source = 32768

abbrev pub max_lines : ℕ
max_lines = 4096

-- "256 distinct names"
abbrev pub max_labels : ℕ
max_labels = 256

-- "addresses below 2^30": of lines and labels
abbrev pub address_limit : ℕ
address_limit = 2 ^ 30

-- the highest address that a place may be moved to (as assembled, a place stands at 2^30 at most)
abbrev pub last_address : ℕ
last_address = 2 ^ 30 + 1

-- a distance lies within ±(2^30 - 1)
abbrev pub distance_limit : ℕ
distance_limit = 2 ^ 30

-- "Parentheses nest at most 16 deep."
abbrev pub max_nesting : ℕ
max_nesting = 16
