-- The sheet: totals added up. The sum's laws, the bounds of a series' totals, and so what a series comes to, in parts and in any order.
-- Assumes nothing.
use Prim.Native.Nat.{ℕ, suc, ◌+◌, ◌*◌, ◌≤◌, ◌<◌, max}
use mathlib.Core.Path.{◌≡◌, refl, sym, ap, ◌∙◌}
use mathlib.Core.Bool.{false}
use mathlib.Core.List.{List, [], ◌∷◌, ◌++◌}
use native.Mathlib.Omega.{arith}
use native.Mathlib.Nat.{max_comm}
use borrow.Author.Tests.{le-leb, lt-leb, le-ltb, lt-ltb}
use lib.ListN.{length, length-append}
use Rattle.rules.specs.Text.{Text}
use Rattle.rules.specs.Answer.{accepted, refused, refuse_if, and_then}
use Rattle.requests.specs.Sheet.{max_sources, max_total, Totals, totals, numbers_in, no_totals, source_sheet, plus, sources, any_over, add_source, add_sheet, add_all, plant_sheet}
use Rattle.promises.specs.Nearest.{In, head, tail}
use Rattle.promises.specs.Sheet.{Larger, the_first, the_second, Added, OneOfTotals, skipped_total, org_total, label_total, data_total, word_total, wordless_total, end_total, words_total, marked_total, labels_total, accepted_total, refused_total, Reordered, as_it_is, exchanged}
use Rattle.promises.proofs.Compared.{Compared, less, more, equal, compared}

-- ---- the sum
same_totals : {a a' b b' c c' d d' e e' f f' g g' h h' i i' j j' k k' l l' : ℕ} → a ≡ a' → b ≡ b' → c ≡ c' → d ≡ d' → e ≡ e' → f ≡ f' → g ≡ g' → h ≡ h' → i ≡ i' → j ≡ j'
    → k ≡ k' → l ≡ l' → totals a b c d e f g h i j k l ≡ totals a' b' c' d' e' f' g' h' i' j' k' l'
same_totals p q r s t u v w x y z o = rw (p, q, r, s, t, u, v, w, x, y, z, o)

larger_assoc : (a b c : ℕ) → max (max a b) c ≡ max a (max b c)
larger_assoc a b c = omega arith

pub plus_none : (t : Totals) → plus t no_totals ≡ t
unfolding plus
plus_none t = same_totals (omega arith) (omega arith) (omega arith) (omega arith) (omega arith) (omega arith) (omega arith) (omega arith) (omega arith) (omega arith) (omega arith) (omega arith)

pub plus_comm : (t u : Totals) → plus t u ≡ plus u t
unfolding plus
plus_comm t u = same_totals (omega arith) (omega arith) (omega arith) (omega arith) (omega arith) (omega arith) (omega arith) (omega arith) (omega arith) (max_comm t.labels u.labels) (omega arith) (omega arith)

pub plus_assoc : (t u v : Totals) → plus (plus t u) v ≡ plus t (plus u v)
unfolding plus
plus_assoc t u v = same_totals (omega arith) (omega arith) (omega arith) (omega arith) (omega arith) (omega arith) (omega arith) (omega arith) (omega arith) (larger_assoc t.labels u.labels v.labels) (omega arith) (omega arith)

none_plus : (t : Totals) → plus no_totals t ≡ t
none_plus t = plus_comm no_totals t ∙ plus_none t

-- two neighbours exchanged
pub plus_swap : (t u v : Totals) → plus t (plus u v) ≡ plus u (plus t v)
plus_swap t u v = sym (plus_assoc t u v) ∙ ap (λ (w : Totals). plus w v) (plus_comm t u) ∙ plus_assoc u t v

larger : (a b : ℕ) → Larger a b (max a b)
larger a b = go (compared a b)
  where
    go : Compared a b → Larger a b (max a b)
    go (less h) = let e : max a b ≡ b = omega arith in rw e (the_second (omega arith))
    go (more h) = let e : max a b ≡ a = omega arith in rw e (the_first (omega arith))
    go (equal h) = let e : max a b ≡ b = omega arith in rw e (the_second (omega arith))

pub added : (t u : Totals) → Added t u (plus t u)
unfolding plus
added t u =
    record {
      of_skipped = refl;
      of_org = refl;
      of_label = refl;
      of_data = refl;
      of_word = refl;
      of_wordless = refl;
      of_end = refl;
      of_words = refl;
      of_marked = refl;
      of_labels = larger t.labels u.labels;
      of_accepted = refl;
      of_refused = refl;
    }

-- ---- bounds
-- totals of n sources: a source has at most 8,192 words, and of all else less
pub record Within (n : ℕ) (t : Totals) : Type 0 where
  pub of_skipped : t.skipped_lines ≤ 8192 * n
  pub of_org : t.org_lines ≤ 8192 * n
  pub of_label : t.label_lines ≤ 8192 * n
  pub of_data : t.data_lines ≤ 8192 * n
  pub of_word : t.word_lines ≤ 8192 * n
  pub of_wordless : t.wordless_lines ≤ 8192 * n
  pub of_end : t.end_lines ≤ 8192 * n
  pub of_words : t.words ≤ 8192 * n
  pub of_marked : t.marked ≤ 8192 * n
  pub of_labels : t.labels ≤ 8192 * n
  pub count : t.accepted_sources + t.refused_sources ≡ n

within_none : Within 0 no_totals
within_none =
    record {
      of_skipped = omega arith;
      of_org = omega arith;
      of_label = omega arith;
      of_data = omega arith;
      of_word = omega arith;
      of_wordless = omega arith;
      of_end = omega arith;
      of_words = omega arith;
      of_marked = omega arith;
      of_labels = omega arith;
      count = omega arith;
    }

within_plus : (m n k : ℕ) (t u : Totals) → Within m t → Within n u → k ≡ m + n → Within k (plus t u)
unfolding plus
within_plus m n k t u w x e =
    record {
      of_skipped = omega (arith, w.of_skipped, x.of_skipped);
      of_org = omega (arith, w.of_org, x.of_org);
      of_label = omega (arith, w.of_label, x.of_label);
      of_data = omega (arith, w.of_data, x.of_data);
      of_word = omega (arith, w.of_word, x.of_word);
      of_wordless = omega (arith, w.of_wordless, x.of_wordless);
      of_end = omega (arith, w.of_end, x.of_end);
      of_words = omega (arith, w.of_words, x.of_words);
      of_marked = omega (arith, w.of_marked, x.of_marked);
      of_labels = omega (arith, w.of_labels, x.of_labels);
      count = omega (arith, w.count, x.count);
    }

-- each total of at most a million sources
pub low : (n : ℕ) (t : Totals) → Within n t → n ≤ max_sources → (m : ℕ) → OneOfTotals t m → m ≤ max_total
low n t w h _ skipped_total = omega (arith, w.of_skipped)
low n t w h _ org_total = omega (arith, w.of_org)
low n t w h _ label_total = omega (arith, w.of_label)
low n t w h _ data_total = omega (arith, w.of_data)
low n t w h _ word_total = omega (arith, w.of_word)
low n t w h _ wordless_total = omega (arith, w.of_wordless)
low n t w h _ end_total = omega (arith, w.of_end)
low n t w h _ words_total = omega (arith, w.of_words)
low n t w h _ marked_total = omega (arith, w.of_marked)
low n t w h _ labels_total = omega (arith, w.of_labels)
low n t w h _ accepted_total = omega (arith, w.count)
low n t w h _ refused_total = omega (arith, w.count)

-- the twelve as a list
pub is_one : (t : Totals) (n : ℕ) → In n (numbers_in t) → OneOfTotals t n
unfolding numbers_in
is_one t n (head e) = rw e skipped_total
is_one t n (tail (head e)) = rw e org_total
is_one t n (tail (tail (head e))) = rw e label_total
is_one t n (tail (tail (tail (head e)))) = rw e data_total
is_one t n (tail (tail (tail (tail (head e))))) = rw e word_total
is_one t n (tail (tail (tail (tail (tail (head e)))))) = rw e wordless_total
is_one t n (tail (tail (tail (tail (tail (tail (head e))))))) = rw e end_total
is_one t n (tail (tail (tail (tail (tail (tail (tail (head e)))))))) = rw e words_total
is_one t n (tail (tail (tail (tail (tail (tail (tail (tail (head e))))))))) = rw e marked_total
is_one t n (tail (tail (tail (tail (tail (tail (tail (tail (tail (head e)))))))))) = rw e labels_total
is_one t n (tail (tail (tail (tail (tail (tail (tail (tail (tail (tail (head e))))))))))) = rw e accepted_total
is_one t n (tail (tail (tail (tail (tail (tail (tail (tail (tail (tail (tail (head e)))))))))))) = rw e refused_total
is_one t n (tail (tail (tail (tail (tail (tail (tail (tail (tail (tail (tail (tail i)))))))))))) = elim i [ ]

pub one_is : (t : Totals) (n : ℕ) → OneOfTotals t n → In n (numbers_in t)
unfolding numbers_in
one_is t _ skipped_total = head refl
one_is t _ org_total = tail (head refl)
one_is t _ label_total = tail (tail (head refl))
one_is t _ data_total = tail (tail (tail (head refl)))
one_is t _ word_total = tail (tail (tail (tail (head refl))))
one_is t _ wordless_total = tail (tail (tail (tail (tail (head refl)))))
one_is t _ end_total = tail (tail (tail (tail (tail (tail (head refl))))))
one_is t _ words_total = tail (tail (tail (tail (tail (tail (tail (head refl)))))))
one_is t _ marked_total = tail (tail (tail (tail (tail (tail (tail (tail (head refl))))))))
one_is t _ labels_total = tail (tail (tail (tail (tail (tail (tail (tail (tail (head refl)))))))))
one_is t _ accepted_total = tail (tail (tail (tail (tail (tail (tail (tail (tail (tail (head refl))))))))))
one_is t _ refused_total = tail (tail (tail (tail (tail (tail (tail (tail (tail (tail (tail (head refl)))))))))))

none_above : (ns : List ℕ) → ((n : ℕ) → In n ns → n ≤ max_total) → any_over ns ≡ false
unfolding any_over
none_above [] h = refl
none_above (n ∷ ns) h = rw (le-ltb max_total n (h n (head refl)), none_above ns (λ m i. h m (tail i)))

none_over : (n : ℕ) (t : Totals) → Within n t → n ≤ max_sources → any_over (numbers_in t) ≡ false
none_over n t w h = none_above (numbers_in t) (λ m i. low n t w h m (is_one t m i))

-- ---- a series
unfoldable pub total_of : List Text → Totals
total_of [] = no_totals
total_of (s ∷ ss) = plus (source_sheet s) (total_of ss)

pub total_append : (ss ts : List Text) → total_of (ss ++ ts) ≡ plus (total_of ss) (total_of ts)
unfolding total_of
total_append [] ts = sym (none_plus (total_of ts))
total_append (s ∷ ss) ts = ap (plus (source_sheet s)) (total_append ss ts) ∙ sym (plus_assoc (source_sheet s) (total_of ss) (total_of ts))

-- where each source's own totals are within their bounds
module _ (own : (s : Text) → Within 1 (source_sheet s)) where
  pub total_within : (ss : List Text) → Within (length ss) (total_of ss)
  unfolding total_of
  total_within [] = within_none
  total_within (s ∷ ss) = within_plus 1 (length ss) (suc (length ss)) (source_sheet s) (total_of ss) (own s) (total_within ss) (omega arith)

  one_more : (n : ℕ) (t : Totals) (s : Text) → Within n t → n < max_sources → add_source t s ≡ accepted (plus t (source_sheet s))
  unfolding add_source sources refuse_if
  one_more n t s w h =
      let f : t.accepted_sources + t.refused_sources < max_sources = omega (arith, w.count) in
      rw (lt-leb max_sources (t.accepted_sources + t.refused_sources) f, none_over n t w (omega arith))

  too_many : (n : ℕ) (t : Totals) (s : Text) → Within n t → max_sources ≤ n → add_source t s ≡ refused 20 max_sources
  unfolding add_source sources refuse_if
  too_many n t s w h =
      let f : max_sources ≤ t.accepted_sources + t.refused_sources = omega (arith, w.count) in
      rw (le-leb max_sources (t.accepted_sources + t.refused_sources) f)

  adds : (n : ℕ) (t : Totals) (ss : List Text) → Within n t → n + length ss ≤ max_sources → add_all t ss ≡ accepted (plus t (total_of ss))
  unfolding add_all total_of and_then
  adds n t [] w h = ap accepted (sym (plus_none t))
  adds n t (s ∷ ss) w h =
      rw (one_more n t s w (omega arith))
      (adds (suc n) (plus t (source_sheet s)) ss (within_plus n 1 (suc n) t (source_sheet s) w (own s) (omega arith)) (omega arith) ∙ ap accepted (plus_assoc t (source_sheet s) (total_of ss)))

  stops : (n : ℕ) (t : Totals) (ss : List Text) → Within n t → n ≤ max_sources → max_sources < n + length ss → add_all t ss ≡ refused 20 max_sources
  unfolding add_all and_then
  stops n t [] w l h = absurd (omega arith)
  stops n t (s ∷ ss) w l h = go (compared n max_sources) (λ u x. stops (suc n) u ss x)
    where
      go : Compared n max_sources → ((u : Totals) → Within (suc n) u → suc n ≤ max_sources → max_sources < suc n + length ss → add_all u ss ≡ refused 20 max_sources)
          → add_all t (s ∷ ss) ≡ refused 20 max_sources
      go (less k) ih = rw (add_all, one_more n t s w k) (ih (plus t (source_sheet s)) (within_plus n 1 (suc n) t (source_sheet s) w (own s) (omega arith)) (omega arith) (omega arith))
      go (more k) ih = absurd (omega arith)
      go (equal k) ih = rw (add_all, too_many n t s w (omega arith))

  pub sheet_of : (ss : List Text) → length ss ≤ max_sources → plant_sheet ss ≡ accepted (total_of ss)
  unfolding plant_sheet
  sheet_of ss h = adds 0 no_totals ss within_none (omega arith) ∙ ap accepted (none_plus (total_of ss))

  pub sheet_refused : (ss : List Text) → max_sources < length ss → plant_sheet ss ≡ refused 20 max_sources
  unfolding plant_sheet
  sheet_refused ss h = stops 0 no_totals ss within_none (omega arith) (omega arith)

  -- two sheets
  both_low : (ss ts : List Text) → length ss + length ts ≤ max_sources → add_sheet (total_of ss) (total_of ts) ≡ accepted (total_of (ss ++ ts))
  unfolding add_sheet sources refuse_if
  both_low ss ts h =
      let w = total_within ss in
      let x = total_within ts in
      let f = le-ltb max_sources ((total_of ss).accepted_sources + (total_of ss).refused_sources + ((total_of ts).accepted_sources + (total_of ts).refused_sources)) (omega (arith, w.count, x.count)) in
      rw (f, none_over (length ss) (total_of ss) w (omega arith), none_over (length ts) (total_of ts) x (omega arith), total_append ss ts)

  both_high : (ss ts : List Text) → max_sources < length ss + length ts → add_sheet (total_of ss) (total_of ts) ≡ refused 20 max_sources
  unfolding add_sheet sources refuse_if
  both_high ss ts h =
      let w = total_within ss in
      let x = total_within ts in
      rw (lt-ltb max_sources ((total_of ss).accepted_sources + (total_of ss).refused_sources + ((total_of ts).accepted_sources + (total_of ts).refused_sources)) (omega (arith, w.count, x.count)))

  pub sheet_parts : (ss ts : List Text) → and_then (plant_sheet ss) (λ t. and_then (plant_sheet ts) (add_sheet t)) ≡ plant_sheet (ss ++ ts)
  unfolding and_then
  sheet_parts ss ts = go (compared max_sources (length ss)) (compared max_sources (length ts)) (compared max_sources (length ss + length ts))
    where
      long : length (ss ++ ts) ≡ length ss + length ts
      long = length-append ss ts

      high : length ss ≤ max_sources → length ts ≤ max_sources → max_sources < length ss + length ts → and_then (plant_sheet ss) (λ t. and_then (plant_sheet ts) (add_sheet t)) ≡ plant_sheet (ss ++ ts)
      high a b c = rw (sheet_of ss a, sheet_of ts b) (both_high ss ts c ∙ sym (sheet_refused (ss ++ ts) (omega (arith, long))))

      low_sum : length ss + length ts ≤ max_sources → and_then (plant_sheet ss) (λ t. and_then (plant_sheet ts) (add_sheet t)) ≡ plant_sheet (ss ++ ts)
      low_sum c = rw (sheet_of ss (omega arith), sheet_of ts (omega arith)) (both_low ss ts c ∙ sym (sheet_of (ss ++ ts) (omega (arith, long))))

      second : length ss ≤ max_sources → Compared max_sources (length ts) → Compared max_sources (length ss + length ts) → and_then (plant_sheet ss) (λ t. and_then (plant_sheet ts) (add_sheet t)) ≡ plant_sheet (ss ++ ts)
      second a (less b) c = rw (sheet_of ss a, sheet_refused ts b) (sym (sheet_refused (ss ++ ts) (omega (arith, long))))
      second a (more b) (less c) = high a (omega arith) c
      second a (equal b) (less c) = high a (omega arith) c
      second a (more b) (more c) = low_sum (omega arith)
      second a (equal b) (more c) = low_sum (omega arith)
      second a (more b) (equal c) = low_sum (omega arith)
      second a (equal b) (equal c) = low_sum (omega arith)

      go : Compared max_sources (length ss) → Compared max_sources (length ts) → Compared max_sources (length ss + length ts) → and_then (plant_sheet ss) (λ t. and_then (plant_sheet ts) (add_sheet t)) ≡ plant_sheet (ss ++ ts)
      go (less a) b c = rw (sheet_refused ss a) (sym (sheet_refused (ss ++ ts) (omega (arith, long))))
      go (more a) b c = second (omega arith) b c
      go (equal a) b c = second (omega arith) b c

  -- another order
  swapped : (s t : Text) (front back : List Text) → total_of (front ++ (s ∷ t ∷ back)) ≡ total_of (front ++ (t ∷ s ∷ back))
  unfolding total_of
  swapped s t [] back = plus_swap (source_sheet s) (source_sheet t) (total_of back)
  swapped s t (f ∷ front) back = ap (plus (source_sheet f)) (swapped s t front back)

  as_long : (s t : Text) (front back : List Text) → length (front ++ (s ∷ t ∷ back)) ≡ length (front ++ (t ∷ s ∷ back))
  as_long s t [] back = refl
  as_long s t (f ∷ front) back = ap suc (as_long s t front back)

  sheet_swapped : (s t : Text) (front back : List Text) → plant_sheet (front ++ (s ∷ t ∷ back)) ≡ plant_sheet (front ++ (t ∷ s ∷ back))
  sheet_swapped s t front back = go (compared max_sources (length (front ++ (s ∷ t ∷ back))))
    where
      long : length (front ++ (s ∷ t ∷ back)) ≡ length (front ++ (t ∷ s ∷ back))
      long = as_long s t front back

      fits : length (front ++ (s ∷ t ∷ back)) ≤ max_sources → plant_sheet (front ++ (s ∷ t ∷ back)) ≡ plant_sheet (front ++ (t ∷ s ∷ back))
      fits h = sheet_of _ h ∙ ap accepted (swapped s t front back) ∙ sym (sheet_of (front ++ (t ∷ s ∷ back)) (omega (arith, long)))

      go : Compared max_sources (length (front ++ (s ∷ t ∷ back))) → plant_sheet (front ++ (s ∷ t ∷ back)) ≡ plant_sheet (front ++ (t ∷ s ∷ back))
      go (less h) = sheet_refused _ h ∙ sym (sheet_refused (front ++ (t ∷ s ∷ back)) (omega (arith, long)))
      go (more h) = fits (omega arith)
      go (equal h) = fits (omega arith)

  pub sheet_reordered : (ss ts : List Text) → Reordered ss ts → plant_sheet ss ≡ plant_sheet ts
  sheet_reordered ss _ as_it_is = refl
  sheet_reordered ss _ (exchanged x y front back r) = sheet_reordered ss _ r ∙ sheet_swapped x y front back
