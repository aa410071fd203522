-- Rust's std as far as the Rust assembler uses it, on ASCII text, each function from its documentation: strings, numbers in
-- text, machine numbers, and a map. A string is the list of its bytes. Assumes nothing.
use Rattle.std.specs.Prelude.{ℕ, zero, suc, ◌+◌, ◌-◌, ◌*◌, ◌/◌, ◌^◌, ◌%◌, Bool, true, false, not, ◌&&◌, ◌||◌, cond, List, [], ◌∷◌, ◌++◌, map, reverse, length, take, drop, get_or, leb, ltb, eqb, ℤ, pos, negsuc, neg_ℤ, ◌-ℤ◌, Option, None, Some}
use Rattle.std.specs.Int.Signed.{le_z}
use Rattle.rules.specs.Option.{bind, or_else}
use Rattle.rules.specs.Text.{Text, bytes}

-- `?` and `if let Some(x) = o { .. }`: what follows where o is there. A block of `if`s that ends in `return` comes to
-- what it returns, or to none where control falls through to what stands after it
infixr 20 ◌>>=◌
abbrev pub ◌>>=◌ : {A B : Type 0} → Option A → (A → Option B) → Option B
◌>>=◌ o f = bind o f

infixr 15 ◌then◌
abbrev pub ◌then◌ : {A : Type 0} → Option A → Option A → Option A
◌then◌ a b = or_else a b

-- `if b { block }`
abbrev pub when : {A : Type 0} → Bool → Option A → Option A
when b a = cond b a None

-- `o.is_some()`
unfoldable pub rust_is_some : {A : Type 0} → Option A → Bool
rust_is_some None = false
rust_is_some (Some a) = true

-- Vec: `v[i]`, of which the callers know that it is there; `v.get(i)`; `v.push(x)`; `.filter(f)`
abbrev pub at : List Text → ℕ → Text
at v i = get_or v i []

unfoldable pub get : {A : Type 0} → List A → ℕ → Option A
get [] i = None
get (x ∷ v) zero = Some x
get (x ∷ v) (suc i) = get v i

abbrev pub push : {A : Type 0} → List A → A → List A
push v x = v ++ (x ∷ [])

unfoldable pub filter : {A : Type 0} → (A → Bool) → List A → List A
filter f [] = []
filter f (x ∷ v) = elim (f x) [ true ↦ x ∷ filter f v | false ↦ filter f v ]

-- `s.chars().all(f)`
unfoldable pub all : (ℕ → Bool) → Text → Bool
all f [] = true
all f (c ∷ s) = f c && all f s

-- `is_empty` of a Vec and of a string
unfoldable pub is_empty : {A : Type 0} → List A → Bool
is_empty [] = true
is_empty (x ∷ v) = false

-- `==` on strings
unfoldable pub equals : Text → Text → Bool
equals [] [] = true
equals [] (c ∷ t) = false
equals (b ∷ s) [] = false
equals (b ∷ s) (c ∷ t) = eqb b c && equals s t

-- char::is_whitespace: the property White_Space, in ASCII U+0009..U+000D and U+0020
unfoldable pub is_whitespace : ℕ → Bool
is_whitespace c = leb 9 c && leb c 13 || eqb c 32

-- str::trim: "leading and trailing whitespace removed"
unfoldable pub trim_start : Text → Text
trim_start [] = []
trim_start (c ∷ s) = elim (is_whitespace c) [ true ↦ trim_start s | false ↦ c ∷ s ]

unfoldable pub trim_end : Text → Text
trim_end s = reverse (trim_start (reverse s))

unfoldable pub trim : Text → Text
trim s = trim_end (trim_start s)

-- a byte of the first piece
unfoldable pub extend : ℕ → List Text → List Text
extend c [] = (c ∷ []) ∷ []
extend c (p ∷ ps) = (c ∷ p) ∷ ps

-- str::split: "substrings of this string slice, separated by characters matched by a pattern"
unfoldable pub split_by : (ℕ → Bool) → Text → List Text
split_by f [] = [] ∷ []
split_by f (c ∷ s) = elim (f c) [ true ↦ [] ∷ split_by f s | false ↦ extend c (split_by f s) ]

unfoldable pub split : ℕ → Text → List Text
split c s = split_by (eqb c) s

-- str::split_whitespace: "sub-slices of the original string slice, separated by any amount of whitespace", so none is empty
unfoldable pub split_whitespace : Text → List Text
split_whitespace s = filter (λ p. not (is_empty p)) (split_by is_whitespace s)

-- str::splitn(2, c): "at most n items", of which the nth "will contain the remainder of the string"
unfoldable pub splitn_2 : ℕ → Text → List Text
splitn_2 c [] = [] ∷ []
splitn_2 c (b ∷ s) = elim (eqb b c) [ true ↦ [] ∷ s ∷ [] | false ↦ extend b (splitn_2 c s) ]

-- str::to_uppercase, of ASCII
unfoldable pub to_upper : ℕ → ℕ
to_upper c = cond (leb 97 c && leb c 122) (c - 32) c

unfoldable pub to_uppercase : Text → Text
to_uppercase s = map to_upper s

-- str::starts_with, ends_with, contains, strip_prefix: the pattern comes second
unfoldable pub starts_with : Text → Text → Bool
starts_with s [] = true
starts_with [] (a ∷ p) = false
starts_with (b ∷ s) (a ∷ p) = eqb a b && starts_with s p

unfoldable pub ends_with : Text → Text → Bool
ends_with s p = starts_with (reverse s) (reverse p)

unfoldable pub contains : Text → Text → Bool
contains [] p = starts_with [] p
contains (b ∷ s) p = starts_with (b ∷ s) p || contains s p

unfoldable pub strip_prefix : Text → Text → Option Text
strip_prefix s p = cond (starts_with s p) (Some (drop (length p) s)) None

-- `&s[a..b]`
unfoldable pub slice : Text → ℕ → ℕ → Text
slice s a b = drop a (take b s)

-- [&str]::join, the separator between the texts
unfoldable pub join_more : List Text → Text → Text
join_more [] sep = []
join_more (p ∷ ps) sep = sep ++ (p ++ join_more ps sep)

unfoldable pub join : List Text → Text → Text
join [] sep = []
join (p ∷ ps) sep = p ++ join_more ps sep

-- char::is_ascii_digit
unfoldable pub is_ascii_digit : ℕ → Bool
is_ascii_digit c = leb 48 c && leb c 57

-- char::to_digit: a digit is one of 0-9, a-z, A-Z; "None if the char does not refer to a digit in the given radix"
unfoldable pub digit : ℕ → Option ℕ
digit c =
    cond (is_ascii_digit c) (Some (c - 48))
    (cond (leb 65 c && leb c 90) (Some (c - 55))
    (cond (leb 97 c && leb c 122) (Some (c - 87)) None))

unfoldable pub to_digit : ℕ → ℕ → Option ℕ
to_digit c radix = do d ← digit c; when (ltb d radix) (Some d)

-- the value of digits after the value v
unfoldable pub digits_from : ℕ → ℕ → Text → Option ℕ
digits_from radix v [] = Some v
digits_from radix v (c ∷ s) = elim (to_digit c radix) [ None ↦ None | Some d ↦ digits_from radix (v * radix + d) s ]

unfoldable pub digits : ℕ → Text → Option ℕ
digits radix s = when (not (is_empty s)) (digits_from radix 0 s)

-- an optional + in front
unfoldable pub strip_plus : Text → Text
strip_plus s = cond (starts_with s (bytes "+")) (drop 1 s) s

-- u16::from_str_radix, u32::from_str_radix, by the type's bits: "an optional + sign followed by only digits", in the type's range
unfoldable pub u_from_str_radix : ℕ → Text → ℕ → Option ℕ
u_from_str_radix bits s radix = do v ← digits radix (strip_plus s); when (ltb v (2 ^ bits)) (Some v)

-- `(a..=b).contains(&z)`
abbrev pub range_contains : ℤ → ℤ → ℤ → Bool
range_contains a b z = le_z a z && le_z z b

-- in the range of an i8
unfoldable pub i8_range : Option ℤ → Option ℤ
i8_range o = do z ← o; when (range_contains (negsuc 127) (pos 127) z) (Some z)

unfoldable pub negated : Option ℕ → Option ℤ
negated o = do v ← o; Some (neg_ℤ (pos v))

unfoldable pub unnegated : Option ℕ → Option ℤ
unnegated o = do v ← o; Some (pos v)

-- i8::from_str_radix: "an optional + or - sign followed by only digits", in the type's range
unfoldable pub i8_from_str_radix : Text → ℕ → Option ℤ
i8_from_str_radix s radix =
    cond (starts_with s (bytes "-")) (i8_range (negated (digits radix (drop 1 s)))) (i8_range (unnegated (digits radix (strip_plus s))))

-- `s.parse::<u16>()`, `s.parse::<u32>()`, `s.parse::<i8>()`: decimal
abbrev pub u_parse : ℕ → Text → Option ℕ
u_parse bits s = u_from_str_radix bits s 10

abbrev pub i8_parse : Text → Option ℤ
i8_parse s = i8_from_str_radix s 10

-- `as u8`, `as u16`, of an unsigned number
abbrev pub as_u8 : ℕ → ℕ
as_u8 n = n % 2 ^ 8

abbrev pub as_u16 : ℕ → ℕ
as_u16 n = n % 2 ^ 16

-- a signed number cast to an unsigned one of n bits, in two's complement
unfoldable pub as_unsigned : ℕ → ℤ → ℕ
as_unsigned n (pos k) = k % 2 ^ n
as_unsigned n (negsuc k) = 2 ^ n - suc (k % 2 ^ n)

-- an unsigned number of n bits cast to a signed one, the upper half below zero
unfoldable pub as_signed : ℕ → ℕ → ℤ
as_signed n k = cond (ltb (k * 2) (2 ^ n)) (pos k) (negsuc (2 ^ n - suc k))

-- `z as i8` of an i32, and `z as u16` of an i8
abbrev pub as_i8 : ℤ → ℤ
as_i8 z = as_signed 8 (as_unsigned 8 z)

abbrev pub i8_as_u16 : ℤ → ℕ
i8_as_u16 z = as_unsigned 16 z

-- `a + b` of u32 and `a - b` of i32, which wrap
abbrev pub add_u32 : ℕ → ℕ → ℕ
add_u32 a b = (a + b) % 2 ^ 32

abbrev pub sub_i32 : ℤ → ℤ → ℤ
sub_i32 a b = as_signed 32 (as_unsigned 32 (a -ℤ b))

-- `v >> k`, and `v << k` of a u16
abbrev pub shr : ℕ → ℕ → ℕ
shr v k = v / 2 ^ k

abbrev pub shl_u16 : ℕ → ℕ → ℕ
shl_u16 v k = (v * 2 ^ k) % 2 ^ 16

-- HashMap<String, u32>: `insert` puts an entry in front, where `look_up` (its `get`) finds it before an older one of that key
pub record Entry : Type 0 where
  pub key : Text
  pub value : ℕ

abbrev pub HashMap : Type 0
HashMap = List Entry

unfoldable pub insert : HashMap → Text → ℕ → HashMap
insert m k v = record { key = k; value = v } ∷ m

unfoldable pub look_up : HashMap → Text → Option ℕ
look_up [] k = None
look_up (e ∷ m) k = elim (equals k e.key) [ true ↦ Some e.value | false ↦ look_up m k ]

-- `match s { "A" => a, .. _ => None }`
pub record Arm (A : Type 0) : Type 0 where
  pub pattern : Text
  pub result : Option A

infixr 12 ◌⇒◌
abbrev pub ◌⇒◌ : {A : Type 0} → Text → Option A → Arm A
◌⇒◌ p r = record { pattern = p; result = r }

unfoldable pub match : {A : Type 0} → Text → List (Arm A) → Option A
match s [] = None
match s (a ∷ arms) = elim (equals s a.pattern) [ true ↦ a.result | false ↦ match s arms ]
