-- A row of what `bench` prints: what stands after a list in the arrays changes nothing of it. Assumes nothing.
use Prim.Native.Nat.{ℕ, zero, suc, ◌≤◌, ◌<◌, min}
use mathlib.Core.Path.{◌≡◌, refl, sym, ◌∙◌, ap}
use mathlib.Core.Bool.{Bool, true, false, cond}
use mathlib.Core.List.{List, [], ◌∷◌, ◌++◌, map}
use native.Mathlib.Omega.{arith}
use lib.Dec.{eqb}
use lib.ListN.{length, take, replicate, length-append, length-map, get_or-append}
use borrow.Author.Tests.{le-ltb}
use Rattle.rules.specs.Text.{Text}
use Rattle.rules.specs.Assemble.{Place, Slices, over, holding}
use Rattle.std.specs.Prelude.{Ok, Err}
use Rattle.listing.specs.Reading.{room_in, read_list, places_in}
use Rattle.listing.specs.declared.reading.BadLine.{BadLine}
use Rattle.listing.proofs.RoundTrip.{length_places}
use Rattle.station.specs.Station.{wrong_line_text, unless_failed}
use Rattle.station.specs.Reads.{Reads}
use Rattle.station.specs.declared.input.Input.{Input}
use Rattle.station.proofs.Moving.{first_front}
use Rattle.station.proofs.Front.{parsed_front}
use Rattle.station.proofs.Kept.{take_lesser}
use Rattle.machine.specs.Machine.{run_of}
use Rattle.machine.specs.Bench.{clear, fill_of, state_at, short_list, bench_answer, bench_of}
use Rattle.benchtext.specs.declared.arguments.Given.{Given}
use Rattle.benchtext.specs.BenchText.{with_value, value_for, run_line, threshold, value_at, words_for, row_of, rows_of, registers_of, start_of, addresses_in, words_in, parsed_row, parsed_rows, row_text, row_count, input_row, input_rows}

-- ---- more after the first n places
module _ (n : ℕ) (xs ys : List ℕ) (h : n ≤ length xs) where
  long : n ≤ length (xs ++ ys)
  long = rw (length-append xs ys) (omega arith)

  module _ (ws zs : List ℕ) (k : n ≤ length ws) where
    more : n ≤ length (ws ++ zs)
    more = rw (length-append ws zs) (omega arith)

    answer_front : {A : Type 0} (r : A) → bench_answer n (xs ++ ys) (ws ++ zs) r ≡ bench_answer n xs ws r
    unfolding bench_answer short_list
    answer_front r = rw (le-ltb _ _ long, le-ltb _ _ more, le-ltb _ _ h, le-ltb _ _ k, first_front _ 0 xs ys n h)

    fill_front : (m : ℕ) (mem : List ℕ) → m ≤ n → fill_of m (xs ++ ys) (ws ++ zs) mem ≡ fill_of m xs ws mem
    unfolding fill_of
    fill_front zero mem l = refl
    fill_front (suc m) mem l =
        rw (fill_front m mem (omega arith), get_or-append xs ys 0 m (omega arith), get_or-append ws zs 0 m (omega arith))

    bench_front : (a : List ℕ) (pc limit : ℕ) → bench_of n (xs ++ ys) (ws ++ zs) a pc limit ≡ bench_of n xs ws a pc limit
    unfolding bench_of state_at
    bench_front a pc limit =
        answer_front _ ∙ ap (λ (m : List ℕ). bench_answer n xs ws (run_of limit (record { d = replicate 8 0; a = a; flags = clear; pc = pc; mem = m }))) (fill_front n (replicate 16384 0) (omega arith))

value_front : (n p v : ℕ) (xs ys ws zs : List ℕ) → n ≤ length xs → n ≤ length ws → with_value n p v (xs ++ ys) (ws ++ zs) ≡ with_value n p v xs ws ++ zs
unfolding with_value
value_front zero p v xs ys ws zs h k = refl
value_front (suc n) p v [] ys ws zs h k = absurd (omega arith)
value_front (suc n) p v (x ∷ xs) ys [] zs h k = absurd (omega arith)
value_front (suc n) p v (x ∷ xs) ys (w ∷ ws) zs h k = ap (λ (r : List ℕ). cond (eqb x p) v w ∷ r) (value_front n p v xs ys ws zs (omega arith) (omega arith))

pub value_long : (n p v : ℕ) (xs ws : List ℕ) → length (with_value n p v xs ws) ≡ length ws
unfolding with_value
value_long zero p v xs ws = refl
value_long (suc n) p v [] ws = refl
value_long (suc n) p v (x ∷ xs) [] = refl
value_long (suc n) p v (x ∷ xs) (w ∷ ws) = ap suc (value_long n p v xs ws)

module _ (g : Given) (row n : ℕ) (xs ys ws zs : List ℕ) (h : n ≤ length xs) (k : n ≤ length ws) where
  words_front : words_for g row n (xs ++ ys) (ws ++ zs) ≡ words_for g row n xs ws ++ zs
  unfolding words_for
  words_front = go g.tries
    where
      go : (x : Bool) → cond x (with_value n (threshold g) (value_at g row) (xs ++ ys) (ws ++ zs)) (ws ++ zs) ≡ cond x (with_value n (threshold g) (value_at g row) xs ws) ws ++ zs
      go true = value_front n (threshold g) (value_at g row) xs ys ws zs h k
      go false = refl

  words_long : length (words_for g row n xs ws) ≡ length ws
  unfolding words_for
  words_long = go g.tries
    where
      go : (x : Bool) → length (cond x (with_value n (threshold g) (value_at g row) xs ws) ws) ≡ length ws
      go true = value_long n (threshold g) (value_at g row) xs ws
      go false = refl

  row_front : row_of g row n (xs ++ ys) (ws ++ zs) ≡ row_of g row n xs ws
  unfolding row_of
  row_front =
      let l = words_long in
      rw words_front (ap (run_line (value_for g row)) (bench_front n xs ys h (words_for g row n xs ws) zs (omega arith) (registers_of g) (start_of g) g.limit))

  rows_front : rows_of g n (xs ++ ys) (ws ++ zs) ≡ rows_of g n xs ws
  unfolding rows_of
  rows_front = rw (answer_front n xs ys h ws zs k n)

-- ---- a text read into slices with room for 12,288 places, which gives y
module _ (t : Text) (x y : Slices) (room : room_in x ≡ 12288) where
  -- it is a list
  module _ (n : ℕ) (e : Ok n ≡ read_list (room_in x) t) (filled : y ≡ holding (places_in n t) x) where
    answered : Ok n ≡ read_list 12288 t
    answered = rw room at e

    columns : (f : Place → ℕ) → length (map f (places_in n t)) ≡ n
    columns f = length-map (places_in n t) f ∙ length_places n t

    fits : (f : Place → ℕ) (zs : List ℕ) → n ≤ length (map f (places_in n t) ++ zs)
    fits f zs = let l = columns f in rw (length-append (map f (places_in n t)) zs) (omega arith)

    pub addresses_fit : n ≤ length y.addresses
    unfolding holding over
    addresses_fit = rw filled (fits (λ (p : Place). p.address) _)

    pub words_fit : n ≤ length y.words
    unfolding holding over
    words_fit = rw filled (fits (λ (p : Place). p.word) _)

    pub row_read : (g : Given) (row : ℕ) → row_of g row n y.addresses y.words ≡ row_text g row t
    unfolding row_text parsed_row holding over
    row_read g row =
        let l = columns (λ (p : Place). p.address) in
        let m = columns (λ (p : Place). p.word) in
        rw (← answered, filled) (row_front g row n (addresses_in n t) _ (words_in n t) _ (omega arith) (omega arith))

    pub rows_read : (g : Given) → rows_of g n y.addresses y.words ≡ row_count g t
    unfolding row_count parsed_rows holding over
    rows_read g =
        let l = columns (λ (p : Place). p.address) in
        let m = columns (λ (p : Place). p.word) in
        rw (← answered, filled) (rows_front g 0 n (addresses_in n t) _ (words_in n t) _ (omega arith) (omega arith))

  -- it is no list
  module _ (r : BadLine) (e : Err r ≡ read_list (room_in x) t) where
    wrong : Err r ≡ read_list 12288 t
    wrong = rw room at e

    pub row_wrong : (g : Given) (row : ℕ) → wrong_line_text r.number ≡ row_text g row t
    unfolding row_text parsed_row
    row_wrong g row = rw (← wrong)

    pub rows_wrong : (g : Given) → 1 ≡ row_count g t
    unfolding row_count parsed_rows
    rows_wrong g = rw (← wrong)

-- ---- an input, by where its reader stands
module _ (g : Given) (i : Input) (buffer : List ℕ) where
  pub row_failed : (row : ℕ) → i.failed ≡ true → input_row g row i buffer ≡ []
  unfolding input_row unless_failed
  row_failed row f = rw f

  pub row_kept : (row : ℕ) → i.failed ≡ false → (n : ℕ) → n ≡ min (length buffer) i.total → row_text g row (take n buffer) ≡ input_row g row i buffer
  unfolding input_row unless_failed
  row_kept row f n e = rw (f, take_lesser n i.total buffer e)

  pub rows_failed : i.failed ≡ true → 0 ≡ input_rows g i buffer
  unfolding input_rows
  rows_failed f = rw f

  pub rows_kept : i.failed ≡ false → (n : ℕ) → n ≡ min (length buffer) i.total → row_count g (take n buffer) ≡ input_rows g i buffer
  unfolding input_rows
  rows_kept f n e = rw (f, take_lesser n i.total buffer e)

  -- 196,609 bytes of a list's text are enough
  pub row_enough : (row : ℕ) (t : Text) → (i.failed ≡ false → 196608 < length buffer) → Reads t buffer i → input_row g row i buffer ≡ unless_failed i (row_text g row t)
  unfolding input_row unless_failed row_text parsed_row
  row_enough row t k r = go i.failed refl
    where
      go : (f : Bool) → i.failed ≡ f → cond f [] (row_text g row (take i.total buffer)) ≡ cond f [] (row_text g row t)
      go true e = refl
      go false e = ap (row_text g row) (sym r.front) ∙ parsed_front (parsed_row g row) (λ t u n. refl) (length buffer) t (k e)

  pub rows_enough : (t : Text) → (i.failed ≡ false → 196608 < length buffer) → Reads t buffer i → input_rows g i buffer ≡ cond i.failed 0 (row_count g t)
  unfolding input_rows row_count parsed_rows
  rows_enough t k r = go i.failed refl
    where
      go : (f : Bool) → i.failed ≡ f → cond f 0 (row_count g (take i.total buffer)) ≡ cond f 0 (row_count g t)
      go true e = refl
      go false e = ap (row_count g) (sym r.front) ∙ parsed_front (parsed_rows g) (λ t u n. refl) (length buffer) t (k e)
