-- What the arguments of `bench` say: `-w` or not, and numbers at the places 1 to 13, ADDRESS, FROM, TO, START, LIMIT and A0 to A7.
-- Assumes nothing.
use Rattle.std.specs.Prelude.{ℕ, ◌+◌, ◌^◌, Bool, true, false, cond, ◌||◌, eqb, ltb, leb, length, get_or, set, replicate, Option, None, Some}
use Rattle.rules.specs.Text.{Text, bytes, starts}
use Rattle.rules.specs.Number.{some_digits, ranged, below, value_of}
use Rattle.station.specs.Station.{hexadecimal_in}
use Rattle.benchtext.specs.declared.arguments.Given.{Given}

-- decimal, below a bound
unfoldable pub decimal_in : ℕ → Text → Option ℕ
decimal_in bound t = value_of (ranged (below bound) (some_digits 10 t))

-- the number at a place: FROM and TO in decimal, 16 bits; the others, but LIMIT, in hexadecimal, 32 bits
unfoldable pub number_at : ℕ → Text → Option ℕ
number_at place t = cond (eqb place 2 || eqb place 3) (value_of (ranged (below 65536) (some_digits 10 t))) (value_of (hexadecimal_in t))

-- before the first argument
abbrev pub no_argument : Given
no_argument = record { place = 0; tries = false; numbers = replicate 14 0; limit = 0 }

-- LIMIT, in decimal, 64 bits
abbrev pub with_limit : Given → Option ℕ → Option Given
with_limit g None = None
with_limit g (Some v) = Some (record { place = 6; tries = g.tries; numbers = g.numbers; limit = v })

-- a number at another place
abbrev pub with_number : Given → ℕ → Option ℕ → Option Given
with_number g p None = None
with_number g p (Some v) = Some (record { place = p + 1; tries = g.tries; numbers = set g.numbers p v; limit = g.limit })

-- the argument at a place, of which there are 13; none where it is not what its place asks for
unfoldable pub placed_at : Given → ℕ → Text → Option Given
placed_at g p t = cond (eqb p 5) (with_limit g (decimal_in (2 ^ 64) t)) (cond (ltb p 14) (with_number g p (number_at p t)) None)

unfoldable pub is_option : Text → Bool
is_option t = cond (eqb (length t) 2) (starts (bytes "-w") t) false

-- one more argument: `-w` in front asks for a threshold, and ADDRESS is next; any other first argument is START
unfoldable pub argued : Given → Text → Option Given
argued g t =
    cond (eqb g.place 0)
    (cond (is_option t) (Some (record { place = 1; tries = true; numbers = g.numbers; limit = g.limit })) (placed_at g 4 t))
    (placed_at g g.place t)

-- after arguments of which none was wrong
abbrev pub with_argument : Option Given → Text → Option Given
with_argument None t = None
with_argument (Some g) t = argued g t

-- what is asked for is whole: START and LIMIT are there, and FROM is not above TO
unfoldable pub is_whole : Given → Bool
is_whole g = cond (ltb g.place 6) false (leb (get_or g.numbers 2 0) (get_or g.numbers 3 0))

-- what the arguments say, if they are what `bench` takes
unfoldable pub whole : Option Given → Option Given
whole None = None
whole (Some g) = cond (is_whole g) (Some g) None
