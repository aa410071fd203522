-- Bytes of text, by the rules: blanks, upper case, trimming, cutting, pieces. Assumes nothing.
use Rattle.std.specs.Prelude.{ℕ, zero, suc, ◌-◌, Bool, true, false, ◌&&◌, ◌||◌, cond, List, [], ◌∷◌, ◌++◌, leb, eqb, Option, None, Some}
use Prim.Native.Char.{code}
use Prim.Native.String as S
use Prim.Native.String.{String}

-- a text is a list of bytes
abbrev pub Text : Type 0
Text = List ℕ

-- the bytes of a quoted text
unfoldable pub bytes : String → Text
bytes S.[] = []
bytes (S.◌∷◌ c s) = code c ∷ bytes s

-- "Blanks are bytes 9 to 13 and 32."
unfoldable pub blank : ℕ → Bool
blank b = leb 9 b && leb b 13 || eqb b 32

-- "Upper-casing is ASCII."
unfoldable pub upper : ℕ → ℕ
upper b = cond (leb 97 b && leb b 122) (b - 32) b

unfoldable pub uppers : Text → Text
uppers [] = []
uppers (b ∷ s) = upper b ∷ uppers s

-- how many blanks lead
unfoldable pub leading : Text → ℕ
leading [] = 0
leading (b ∷ s) = elim (blank b) [ true ↦ suc (leading s) | false ↦ 0 ]

-- without the blanks in front
unfoldable pub trim_start : Text → Text
trim_start [] = []
trim_start (b ∷ s) = elim (blank b) [ true ↦ trim_start s | false ↦ b ∷ s ]

-- b before s, unless b is a blank and nothing follows
unfoldable pub keep_end : ℕ → Text → Text
keep_end b [] = cond (blank b) [] (b ∷ [])
keep_end b (c ∷ s) = b ∷ c ∷ s

-- without the blanks at the end
unfoldable pub trim_end : Text → Text
trim_end [] = []
trim_end (b ∷ s) = keep_end b (trim_end s)

unfoldable pub trim : Text → Text
trim s = trim_end (trim_start s)

-- a byte put in front of the first text
unfoldable pub on_first : ℕ → List Text → List Text
on_first b [] = (b ∷ []) ∷ []
on_first b (p ∷ ps) = (b ∷ p) ∷ ps

-- cut at each byte that passes the test: one more text than such bytes
unfoldable pub cut_where : (ℕ → Bool) → Text → List Text
cut_where f [] = [] ∷ []
cut_where f (b ∷ s) = elim (f b) [ true ↦ [] ∷ cut_where f s | false ↦ on_first b (cut_where f s) ]

-- cut at each byte c
unfoldable pub cut_at : ℕ → Text → List Text
cut_at c s = cut_where (eqb c) s

unfoldable pub drop_empty : List Text → List Text
drop_empty [] = []
drop_empty ([] ∷ ps) = drop_empty ps
drop_empty ((b ∷ p) ∷ ps) = (b ∷ p) ∷ drop_empty ps

-- "blank-separated pieces"
unfoldable pub pieces : Text → List Text
pieces s = drop_empty (cut_where blank s)

unfoldable pub join_more : List Text → Text
join_more [] = []
join_more (p ∷ ps) = 32 ∷ (p ++ join_more ps)

-- pieces "joined by one space"
unfoldable pub joined : List Text → Text
joined [] = []
joined (p ∷ ps) = p ++ join_more ps

-- the texts before and after a byte, where it stands at all
pub data Cut : Type 0 where
  uncut : Cut
  around : Text → Text → Cut

unfoldable pub in_front : ℕ → Cut → Cut
in_front b uncut = uncut
in_front b (around s t) = around (b ∷ s) t

-- a cut at the first byte c
unfoldable pub first_cut : ℕ → Text → Cut
first_cut c [] = uncut
first_cut c (b ∷ s) = elim (eqb b c) [ true ↦ around [] s | false ↦ in_front b (first_cut c s) ]

unfoldable pub same : Text → Text → Bool
same [] [] = true
same [] (b ∷ t) = false
same (a ∷ s) [] = false
same (a ∷ s) (b ∷ t) = elim (eqb a b) [ true ↦ same s t | false ↦ false ]

-- the second text starts with the first
unfoldable pub starts : Text → Text → Bool
starts [] t = true
starts (a ∷ p) [] = false
starts (a ∷ p) (b ∷ t) = elim (eqb a b) [ true ↦ starts p t | false ↦ false ]

-- the second text contains the first
unfoldable pub contains : Text → Text → Bool
contains p [] = starts p []
contains p (b ∷ t) = elim (starts p (b ∷ t)) [ true ↦ true | false ↦ contains p t ]

-- what follows p in a text that starts with it
unfoldable pub after : Text → Text → Option Text
after [] t = Some t
after (a ∷ p) [] = None
after (a ∷ p) (b ∷ t) = elim (eqb a b) [ true ↦ after p t | false ↦ None ]

-- the n-th text, from 0
unfoldable pub nth : ℕ → List Text → Option Text
nth n [] = None
nth zero (p ∷ ps) = Some p
nth (suc n) (p ∷ ps) = nth n ps

-- the first text, empty where there is none; the others; the last of p and ps
unfoldable pub first_text : List Text → Text
first_text [] = []
first_text (p ∷ ps) = p

unfoldable pub other_texts : List Text → List Text
other_texts [] = []
other_texts (p ∷ ps) = ps

unfoldable pub last_text : Text → List Text → Text
last_text p [] = p
last_text p (q ∷ ps) = last_text q ps
