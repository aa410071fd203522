-- What `symlist` prints is read back as the labels, and in no other way. Assumes nothing.
use Prim.Native.Nat.{ℕ, ◌^◌, ◌<◌, ◌≤◌}
use mathlib.Core.Path.{◌≡◌, refl, sym, ap, ◌∙◌}
use mathlib.Core.Bool.{true, false, not}
use mathlib.Core.List.{List, [], ◌∷◌, ◌++◌, map, flat_map, append_assoc, append-nil}
use native.Mathlib.Omega.{arith}
use lib.Dec.{ltb, eqb}
use lib.ListN.{length, length-append}
use Rattle.rules.specs.Text.{Text, bytes, cut_where, cut_at}
use Rattle.rules.specs.Line.{Name, size}
use Rattle.rules.specs.Label.{Label}
use Rattle.rules.specs.Answer.{Answer, accepted, refused}
use Rattle.rules.specs.Assemble.{Sizes}
use Rattle.rules.proofs.Standing.{At}
use Rattle.rules.proofs.Names.{Rising, next, names_rise, over}
use Rattle.requests.specs.Symbols.{symbols}
use Rattle.promises.specs.Refusals.{source_over, byte_over, lines_over, PassCondition, of_source, base_over, address_over, labels_over}
use Rattle.promises.specs.Nearest.{In, head, tail, RecordsBy, records}
use Rattle.promises.specs.Symbols.{IsSymbols, SymbolsAreListed, EachListFits}
use Rattle.promises.proofs.Compared.{clash}
use Rattle.promises.proofs.Lists.{all_at}
use Rattle.promises.proofs.Symbols.{symbols_are_listed}
use Rattle.promises.proofs.SymbolsFit.{each_list_fits}
use Rattle.promises.proofs.SymbolsRows.{symbols_refuse_exactly}
use Rattle.listing.specs.Listing.{digits_of, decimal, refused_text}
use Rattle.symtext.specs.Symlist.{line_text, symbol_text, told_text, symbols_text}
use Rattle.printout.proofs.Broken.{no_break, Unbroken, whole_append, digits_whole, decimal_whole, AllUnbroken, ended, cut_rows, lines_whole}
use Rattle.promises_texts.specs.Labels.{digit_shown, only_digits, Shown, shown, Shows, ShowsEach, ShowsLabels, SymbolsReadBack}
use Rattle.promises_texts.proofs.Numerals.{both, address_length, address_only, address_is, decimal_is, no_zeros}

-- ---- a text without a space
abbrev Unspaced : Text → Type 0
Unspaced t = (c d : Text) → ¬ (t ≡ c ++ (32 ∷ d))

digits_unspaced : (radix : ℕ) → ltb 16 radix ≡ false → (t : Text) → only_digits radix t ≡ true → Unspaced t
unfolding only_digits digit_shown
digits_unspaced radix h t e c d f = go c (rw f at e)
  where
    go : (c : Text) → ¬ (only_digits radix (c ++ (32 ∷ d)) ≡ true)
    go [] k = let z : false ≡ true = rw h at (both (ltb 16 radix) (only_digits radix d) k).0 in clash cc
    go (b ∷ c) k = go c (both (ltb (digit_shown b) radix) (only_digits radix (c ++ (32 ∷ d))) k).1

-- what stands before and after the last space
last_space : (a b c d : Text) → Unspaced b → Unspaced d → a ++ (32 ∷ b) ≡ c ++ (32 ∷ d) → (a ≡ c) × (b ≡ d)
last_space [] b [] d h k e = (refl, cc)
last_space [] b (x ∷ c) d h k e = let f : b ≡ c ++ (32 ∷ d) = cc in absurd (h c d f)
last_space (x ∷ a) b [] d h k e = let f : d ≡ a ++ (32 ∷ b) = cc in absurd (k a b f)
last_space (x ∷ a) b (y ∷ c) d h k e =
    let f : a ++ (32 ∷ b) ≡ c ++ (32 ∷ d) = cc in
    let g : x ≡ y = cc in
    let r = last_space a b c d h k f in
    (rw (g, r.0) refl, r.1)

-- ---- a row shows one label
split : (n a l : Text) → n ++ (32 ∷ (a ++ (32 ∷ l))) ≡ (n ++ (32 ∷ a)) ++ (32 ∷ l)
split n a l = sym (append_assoc n (32 ∷ a) (32 ∷ l))

shows_parts : {r : Text} {x : Shown} (s : Shows r x) → r ≡ (x.name ++ (32 ∷ s.address)) ++ (32 ∷ s.line)
shows_parts {x = x} s = s.parts ∙ split x.name s.address s.line

address_unspaced : {r : Text} {x : Shown} (s : Shows r x) → Unspaced s.address
address_unspaced s = digits_unspaced 16 refl s.address s.hexadecimal

line_unspaced : {r : Text} {x : Shown} (s : Shows r x) → Unspaced s.line
line_unspaced s = digits_unspaced 10 refl s.line s.decimal

same_shown : {x y : Shown} → x.name ≡ y.name → x.address ≡ y.address → x.line ≡ y.line → x ≡ y
same_shown {x} {y} e f g = ap (λ n. record { name = n; address = x.address; line = x.line }) e ∙ ap (λ a. record { name = y.name; address = a; line = x.line }) f ∙ ap (λ k. record { name = y.name; address = y.address; line = k }) g

one_label : (r : Text) (x y : Shown) → Shows r x → Shows r y → x ≡ y
one_label r x y s t =
    let outer = last_space (x.name ++ (32 ∷ s.address)) s.line (y.name ++ (32 ∷ t.address)) t.line (line_unspaced s) (line_unspaced t) (sym (shows_parts s) ∙ shows_parts t) in
    let inner = last_space x.name s.address y.name t.address (address_unspaced s) (address_unspaced t) outer.0 in
    same_shown inner.0 (sym s.address_value ∙ (rw (inner.1) t.address_value)) (sym s.line_value ∙ (rw (outer.1) t.line_value))

some_bytes : {r : Text} {x : Shown} → Shows r x → 0 < length r
some_bytes {x = x} s = rw (s.parts, length-append x.name (32 ∷ (s.address ++ (32 ∷ s.line)))) (omega arith)

no_end : {r : Text} {rs : List Text} {x : Shown} → Shows r x → ¬ (r ∷ rs ≡ [] ∷ [])
no_end {r} s e = let h = some_bytes s in let z : r ≡ [] = cc in let k : length r ≡ 0 = ap length z in absurd (omega arith)

one_list : (rs : List Text) (xs ys : List Shown) → ShowsEach rs xs → ShowsEach rs ys → xs ≡ ys
unfolding ShowsEach
one_list rs [] [] h k = refl
one_list [] [] (y ∷ ys) h k = absurd k
one_list (r ∷ rs) [] (y ∷ ys) h k = absurd (no_end k.0 h)
one_list [] (x ∷ xs) ys h k = absurd h
one_list (r ∷ rs) (x ∷ xs) [] h k = absurd (no_end h.0 k)
one_list (r ∷ rs) (x ∷ xs) (y ∷ ys) h k = let e = one_label r x y h.0 k.0 in let f = one_list rs xs ys h.1 k.1 in rw (e, f) refl

-- ---- names have no byte 10
front_whole : (s t : Text) → Unbroken (s ++ t) → Unbroken s
unfolding no_break
front_whole [] t h = refl
front_whole (b ∷ s) t h =
    let p = both (not (eqb 10 b)) (no_break (s ++ t)) h in
    rw (no_break, p.0, front_whole s t p.1) refl

drop_front : (f s : Text) → Unbroken (f ++ s) → Unbroken s
unfolding no_break
drop_front [] s h = h
drop_front (b ∷ f) s h = drop_front f s (both (not (eqb 10 b)) (no_break (f ++ s)) h).1

part_whole : {n t : Text} {i : ℕ} → At n i t → Unbroken t → Unbroken n
part_whole {n} a h = front_whole n a.rest (drop_front a.front (n ++ a.rest) (rw a.cut at h))

named_at : {l : Text} {e b : ℕ} {m : Name} {ms : List Name} → Rising l e b ms → In m ms → At m.text m.start l
named_at (next h c r) (head f) = rw f c
named_at (next h c r) (tail i) = named_at r i
named_at (over _) i = elim i [ ]

recorded_whole : {base : ℕ} {s n : Text} {i k a : ℕ} → RecordsBy size base s n i k a → Unbroken n
recorded_whole {s = s} (records {j} {l = l} r e h) = part_whole (named_at (names_rise l) h) (all_at Unbroken (cut_at 10 s) j l (lines_whole s) e)

-- ---- the rows that are printed
abbrev row : Label → Text
row x = x.name ++ (32 ∷ (digits_of 16 8 x.address ++ (32 ∷ decimal x.line)))

row_ended : (x : Label) → symbol_text x ≡ ended (row x)
unfolding line_text
row_ended x =
    sym
    (append_assoc x.name (32 ∷ (digits_of 16 8 x.address ++ (32 ∷ decimal x.line))) (10 ∷ [])
    ∙ ap (λ t. x.name ++ (32 ∷ t)) (append_assoc (digits_of 16 8 x.address) (32 ∷ decimal x.line) (10 ∷ [])))

rows_ended : (l : List Label) → flat_map symbol_text l ≡ flat_map ended (map row l)
unfolding flat_map
rows_ended [] = refl
rows_ended (x ∷ l) = rw (row_ended x, rows_ended l) refl

-- a label that a row can show
record Tellable (x : Label) : Type 0 where
  name_whole : Unbroken x.name
  low : x.address < 16 ^ 8

row_whole : (x : Label) → Tellable x → Unbroken (row x)
unfolding no_break
row_whole x t =
    whole_append x.name (32 ∷ (digits_of 16 8 x.address ++ (32 ∷ decimal x.line))) t.name_whole
    (whole_append (digits_of 16 8 x.address) (32 ∷ decimal x.line) (digits_whole 16 8 x.address) (decimal_whole x.line))

row_shows : (x : Label) → Tellable x → Shows (row x) (shown x)
row_shows x t =
    let d = decimal_is x.line in
    record {
      address = digits_of 16 8 x.address;
      line = decimal x.line;
      parts = refl;
      eight = address_length 8 x.address;
      hexadecimal = address_only 8 x.address;
      address_value = address_is 8 x.address t.low;
      decimal = d.only;
      some_digit = d.some;
      no_zeros = no_zeros d;
      line_value = d.value;
    }

all_whole : (l : List Label) → ((x : Label) → In x l → Tellable x) → AllUnbroken (map row l)
all_whole [] h = tt
all_whole (x ∷ l) h = (row_whole x (h x (head refl)), all_whole l (λ y i. h y (tail i)))

each_shown : (l : List Label) → ((x : Label) → In x l → Tellable x) → ShowsEach (map row l ++ ([] ∷ [])) (map shown l)
unfolding ShowsEach
each_shown [] h = refl
each_shown (x ∷ l) h = (row_shows x (h x (head refl)), each_shown l (λ y i. h y (tail i)))

told : (l : List Label) → ((x : Label) → In x l → Tellable x) → ShowsLabels (flat_map symbol_text l) (map shown l)
unfolding cut_at cut_where
told l h =
    let cut : cut_at 10 (flat_map symbol_text l) ≡ map row l ++ ([] ∷ []) =
    ap (cut_at 10) (rows_ended l ∙ sym (append-nil (flat_map ended (map row l)))) ∙ cut_rows (map row l) [] (all_whole l h) in
    rw cut (each_shown l h)

-- ---- an accepted source
labels_back : (base : ℕ) (s : Text) (l : List Label) → symbols base s ≡ accepted l → IsSymbols base s l × ShowsLabels (symbols_text base s) (map shown l)
unfolding symbols_text told_text SymbolsAreListed EachListFits
labels_back base s l e =
    let listed : IsSymbols base s l = (symbols_are_listed base s l).0 e in
    let fits = each_list_fits base s l e in
    (listed, rw e (told l (λ x i. record { name_whole = recorded_whole (listed.last i).made; low = omega (arith, (fits.entry i).address) })))

-- ---- a refused one
low_number : {z : Sizes} {base : ℕ} {s : Text} {n p : ℕ} → PassCondition z base s n p → n ≤ 6
low_number (of_source (source_over h)) = omega arith
low_number (of_source (byte_over h)) = omega arith
low_number (of_source (lines_over h)) = omega arith
low_number (base_over h) = omega arith
low_number (address_over r i h) = omega arith
low_number (labels_over r i h) = omega arith

abbrev refusal : ℕ → ℕ → Text
refusal n p = (bytes "refused" ++ (32 ∷ decimal n)) ++ (32 ∷ decimal p)

refusal_ended : (n p : ℕ) → refused_text n p ≡ ended (refusal n p)
unfolding refused_text bytes
refusal_ended n p =
    sym (append_assoc (bytes "refused" ++ (32 ∷ decimal n)) (32 ∷ decimal p) (10 ∷ []) ∙ append_assoc (bytes "refused") (32 ∷ decimal n) ((32 ∷ decimal p) ++ (10 ∷ [])))

refusal_whole : (n p : ℕ) → Unbroken (refusal n p)
unfolding no_break bytes
refusal_whole n p =
    whole_append (bytes "refused" ++ (32 ∷ decimal n)) (32 ∷ decimal p) (whole_append (bytes "refused") (32 ∷ decimal n) refl (decimal_whole n)) (decimal_whole p)

refusal_cut : (n p : ℕ) → cut_at 10 (refused_text n p) ≡ refusal n p ∷ [] ∷ []
unfolding flat_map cut_at cut_where
refusal_cut n p =
    ap (cut_at 10) (refusal_ended n p ∙ sym (append-nil (ended (refusal n p))) ∙ sym (append-nil (ended (refusal n p) ++ [])))
    ∙ cut_rows (refusal n p ∷ []) [] (refusal_whole n p, tt)

-- its number has one digit and not eight
no_label : (n p : ℕ) (x : Shown) → n < 10 → ¬ Shows (refusal n p) x
no_label n p x h s =
    let m = decimal_is n in
    let number = digits_unspaced 10 refl (decimal n) m.only in
    let place = digits_unspaced 10 refl (decimal p) (decimal_is p).only in
    let outer = last_space (bytes "refused" ++ (32 ∷ decimal n)) (decimal p) (x.name ++ (32 ∷ s.address)) s.line place (line_unspaced s) (shows_parts s) in
    let inner = last_space (bytes "refused") (decimal n) x.name s.address number (address_unspaced s) outer.0 in
    let same : length (decimal n) ≡ 8 = ap length inner.1 ∙ s.eight in
    absurd (omega (arith, same, m.short h))

refusal_none : (n p : ℕ) (xs : List Shown) → n < 10 → ¬ ShowsLabels (refused_text n p) xs
unfolding ShowsEach
refusal_none n p xs h k = go xs (rw (refusal_cut n p) at k)
  where
    go : (xs : List Shown) → ¬ ShowsEach (refusal n p ∷ [] ∷ []) xs
    go [] e = let two : ◌≡◌ {A = ℕ} 2 1 = ap length e in absurd (omega arith)
    go (x ∷ xs) e = no_label n p x h e.0

none_back : (base : ℕ) (s : Text) (n p : ℕ) (xs : List Shown) → PassCondition size base s n p → ¬ ShowsLabels (symbols_text base s) xs
unfolding symbols_text told_text SymbolsAreListed
none_back base s n p xs c = go (symbols base s) refl
  where
    go : (r : Answer (List Label)) → symbols base s ≡ r → ¬ ShowsLabels (symbols_text base s) xs
    go (accepted l) e h = ((symbols_are_listed base s l).0 e).clear n p c
    go (refused m q) e h = refusal_none m q xs (omega (arith, low_number ((symbols_refuse_exactly.list base s m q).0 e).0)) (rw e at h)

pub symbols_read_back : SymbolsReadBack
symbols_read_back = record { labels = labels_back; one_reading = λ t xs ys h k. one_list (cut_at 10 t) xs ys h k; no_refusal = none_back }
