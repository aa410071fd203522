-- A line's copy has the line's kind and reads as the line does. Assumes nothing.
use Prim.Native.Nat.{ℕ, ◌<◌}
use mathlib.Core.Path.{◌≡◌, refl, sym, ap, ◌∙◌}
use mathlib.Core.Bool.{Bool, true, false, cond}
use mathlib.Core.List.{List, [], ◌∷◌, ◌++◌, map, map-append}
use native.Mathlib.Omega.{arith}
use lib.ListN.{length, length-append}
use Rattle.rules.specs.Text.{Text, bytes, blank, uppers, leading, trim_start, trim_end, trim, cut_where, drop_empty, pieces, joined, uncut, around, first_cut}
use Rattle.rules.specs.Line.{Name, name, Task, Line, line, instruction, operands_of, instruction_of, data_size, data_value, data_task, is_directive, data_pieces, nonempty, data_line, is_data, rest_line, after_label, label_line, line_of}
use Rattle.text.proofs.Trim.{leading_none, first_none, drop_leading, leading_trim, trim_trim}
use Rattle.text.proofs.Pieces.{pieces_trim}
use Rattle.requests.specs.Tidy.{squeezed, around_colon, tidy_rest, tidy_line}
use Rattle.promises.specs.Refusals.{names_of}
use Rattle.promises.specs.Tidy.{Kind, skip, fin, origin, step4, kind_of, CopyReadsAlike}
use Rattle.tidylaws.proofs.Hits.{leads, Clean, sign, sign_of, free, Holds, Leads, leads_same, leads_beside, leads_trim_end}
use Rattle.tidylaws.proofs.Neat.{Neat, neat_is, neat_trim, neat_squeezed, neat_colon, pieces_squeezed, some_squeezed}
use Rattle.tidylaws.proofs.Cuts.{uncut_same, around_of, cut_around}
use Rattle.tidylaws.proofs.Shapes.{Rest, code, data_whole, data_parts, neat_rest, some_rest, holds_rest, Open, open_whole, open_parts, open_of, by_kind, kind_same, copy_by, line_by, copy_by_lem}

-- ---- what leads a line leads its copy
leads_squeezed : (s : Text) → leading s ≡ 0 → Leads s (squeezed s)
leads_squeezed s z p (sign b c) = leads_same b (squeezed s) s (neat_squeezed s).front z (pieces_squeezed s)

front_part : (l y : Text) → leading (l ++ y) ≡ 0 → leading l ≡ 0
unfolding leading
front_part [] y z = refl
front_part (b ∷ l) y z = leading_none b l (first_none b (l ++ y) z)

leads_trim : (l : Text) → leading l ≡ 0 → {p : Text} → Clean blank p → leads p (trim l) ≡ leads p l
unfolding trim
leads_trim l z c = let e : trim_start l ≡ l = sym (drop_leading l) ∙ rw z in rw e (leads_trim_end c l)

leads_open : {s t : Text} → Neat s → Open s t → Leads s t
leads_open {s} n (open_whole e) p g = leads_squeezed s n.front p g
leads_open {s} n (open_parts {l} {r} {t} e q) p (sign b c) =
    let z : leading l ≡ 0 = front_part l (58 ∷ r) (rw (around_of s l r e).whole at n.front) in
    rw ((around_of s l r e).whole, leads_beside c l r, leads_beside c (trim l) t) (leads_trim l z b)

neat_open : {s t : Text} → Open s t → Neat t
neat_open {s} (open_whole e) = neat_squeezed s
neat_open (open_parts {l} {r} {t} e q) = neat_colon (trim l) t (leading_trim l) (neat_rest q).back

pub some_open : {s t : Text} → Open s t → leading s ≡ 0 → 0 < length s → 0 < length t
some_open {s} (open_whole e) z h = some_squeezed s z h
some_open (open_parts {l} {r} {t} e q) z h = rw (length-append (trim l) (58 ∷ t)) (omega arith)

-- ---- the kind of a copy
kind_copy : (s : Text) → Neat s → 0 < length s → (k : Kind) → kind_of s ≡ k → kind_of (copy_by k s) ≡ k
unfolding kind_of copy_by
kind_copy s n h skip e = refl
kind_copy s n h fin e = kind_same s (squeezed s) h (some_squeezed s n.front h) (leads_squeezed s n.front) ∙ e
kind_copy s n h origin e = kind_same s (squeezed s) h (some_squeezed s n.front h) (leads_squeezed s n.front) ∙ e
kind_copy s n h step4 e = kind_same s (around_colon tidy_rest s) h (some_open (open_of s) n.front h) (leads_open n (open_of s)) ∙ e

neat_nil : Neat []
unfolding leading trim_end
neat_nil = record { front = refl; back = refl }

neat_copy : (k : Kind) (s : Text) → Neat (copy_by k s)
unfolding copy_by
neat_copy skip s = neat_nil
neat_copy fin s = neat_squeezed s
neat_copy origin s = neat_squeezed s
neat_copy step4 s = neat_open (open_of s)

-- of a line without outer blanks
pub record Copied (s t : Text) : Type 0 where
  pub neat : Neat t
  pub kind : kind_of t ≡ kind_of s

pub copied : (s : Text) → Neat s → Copied s (copy_by (kind_of s) s)
unfolding kind_of copy_by
copied [] n = record { neat = neat_nil; kind = refl }
copied (b ∷ s) n = record { neat = neat_copy (kind_of (b ∷ s)) (b ∷ s); kind = kind_copy (b ∷ s) n (omega arith) (kind_of (b ∷ s)) refl }

-- ---- tasks
module _ (s t : Text) (h : Holds s t) where
  pub held_data : is_data t ≡ is_data s
  unfolding is_data bytes free blank
  held_data = rw (h (bytes "DC.") (sign_of _ _ refl refl), h (bytes "DS.") (sign_of _ _ refl refl))

  held_size : data_size (uppers t) ≡ data_size (uppers s)
  unfolding data_size bytes free blank
  held_size = rw (
    h (bytes "DC.L") (sign_of _ _ refl refl),
    h (bytes "DS.L") (sign_of _ _ refl refl),
    h (bytes "DC.W") (sign_of _ _ refl refl),
    h (bytes "DS.W") (sign_of _ _ refl refl),
    h (bytes "DC.B") (sign_of _ _ refl refl),
    h (bytes "DS.B") (sign_of _ _ refl refl),
  )

  held_task : (d e : Text) → pieces e ≡ pieces d → data_task t e ≡ data_task s d
  unfolding data_task data_value bytes free blank
  held_task d e f = rw (held_size, h (bytes "DC.") (sign_of _ _ refl refl), f)

instruction_same : (s t : Text) → pieces t ≡ pieces s → instruction_of t ≡ instruction_of s
unfolding instruction_of operands_of
instruction_same s t e = rw e

-- ---- names without their places
abbrev texts : List Name → List Text
texts ns = map (λ n. n.text) ns

abbrev alike : List Name → List Name → Type 0
alike ns ms = texts ns ≡ texts ms

-- lines with the same names and the same task
pub record Same (x y : Line) : Type 0 where
  pub names : names_of x ≡ names_of y
  pub task : x.task ≡ y.task

alike_more : (ns ms xs ys : List Name) → alike ns ms → alike xs ys → alike (ns ++ xs) (ms ++ ys)
alike_more ns ms xs ys e f = simp map-append (rw (e, f))

alike_nonempty : (i j : ℕ) (s : Text) → alike (nonempty i s) (nonempty j s)
unfolding nonempty
alike_nonempty i j [] = refl
alike_nonempty i j (b ∷ s) = refl

alike_line : (ns ms : List Name) (k c : Task) → alike ns ms → k ≡ c → Same (line ns k) (line ms c)
alike_line ns ms k c e f = record { names = e; task = f }

-- ---- steps 5 and 6
module _ (ns ms : List Name) (a : alike ms ns) (i j : ℕ) where
  pieces_read : (s t : Text) → Holds s t → pieces t ≡ pieces s → (ps : List Text) → Same (data_pieces ms j t ps) (data_pieces ns i s ps)
  unfolding data_pieces
  pieces_read s t h e [] = alike_line ms ns _ _ a (held_task s t h s t e)
  pieces_read s t h e (p ∷ []) = alike_line ms ns _ _ a (held_task s t h s t e)
  pieces_read s t h e (p ∷ q ∷ ps) = go (is_directive p)
    where
      go : (y : Bool) → Same (cond y (line ms (data_task t t)) (line (ms ++ (name j p ∷ [])) (data_task t (joined (q ∷ ps)))))
          (cond y (line ns (data_task s s)) (line (ns ++ (name i p ∷ [])) (data_task s (joined (q ∷ ps)))))
      go true = alike_line ms ns _ _ a (held_task s t h s t e)
      go false = alike_line (ms ++ (name j p ∷ [])) (ns ++ (name i p ∷ [])) _ _ (alike_more ms ns _ _ a refl) (held_task s t h (joined (q ∷ ps)) (joined (q ∷ ps)) refl)

  -- the text after the labels of step 4
  rest_read : {s t : Text} → Rest s t → Same (rest_line ms j t) (rest_line ns i s)
  unfolding rest_line data_line
  rest_read {s} (code e) =
      let f : is_data (squeezed s) ≡ false = held_data s (squeezed s) (holds_rest (code e)) ∙ e in
      rw (rest_line, e, f) (alike_line ms ns _ _ a (ap instruction (instruction_same s (squeezed s) (pieces_squeezed s))))
  rest_read {s} (data_whole e f) =
      let h : Holds s (squeezed s) = holds_rest (data_whole e f) in
      let g : is_data (squeezed s) ≡ true = held_data s (squeezed s) h ∙ e in
      let k : first_cut 58 (squeezed s) ≡ uncut = uncut_same (squeezed s) s (pieces_squeezed s) f in
      rw (rest_line, e, g, data_line, f, k, pieces_squeezed s) (pieces_read s (squeezed s) h (pieces_squeezed s) (pieces s))
  rest_read {s} (data_parts {l} {r} e f) =
      let t : Text = trim l ++ (58 ∷ squeezed (trim r)) in
      let h : Holds s t = holds_rest (data_parts e f) in
      let g : is_data t ≡ true = held_data s t h ∙ e in
      let k : first_cut 58 t ≡ around (trim l) (squeezed (trim r)) = cut_around (trim l) (squeezed (trim r)) (uncut_same (trim l) l (pieces_trim l) (around_of s l r f).none) in
      let p : pieces (trim (squeezed (trim r))) ≡ pieces (trim r) = pieces_trim (squeezed (trim r)) ∙ pieces_squeezed (trim r) in
      rw (rest_line, e, g, data_line, f, k, trim_trim l) (alike_line (ms ++ nonempty j (trim l)) (ns ++ nonempty i (trim l)) _ _ (alike_more ms ns _ _ a (alike_nonempty j i (trim l))) (held_task s t h (trim r) (trim (squeezed (trim r))) p))

-- ---- step 4
empty_rest : {t : Text} → Rest [] t → t ≡ []
unfolding squeezed pieces cut_where drop_empty joined first_cut
empty_rest (code e) = refl
empty_rest (data_whole e f) = refl
empty_rest (data_parts e f) = let z : ◌≡◌ {A = ℕ} 0 1 = cc in absurd (omega arith)

after_read : (x : Text) (i i' j j' : ℕ) (s t : Text) → leading s ≡ 0 → Rest s t → Same (after_label (name j x) j' t) (after_label (name i x) i' s)
unfolding after_label
after_read x i i' j j' [] [] z q = record { names = refl; task = refl }
after_read x i i' j j' [] (c ∷ t) z q = let y : ◌≡◌ {A = ℕ} 0 1 = cc (empty_rest q) in absurd (omega arith)
after_read x i i' j j' (b ∷ s) [] z q = absurd (omega (arith, some_rest q z (omega arith)))
after_read x i i' j j' (b ∷ s) (c ∷ t) z q = rest_read (name i x ∷ []) (name j x ∷ []) refl i' j' q

label_read : (i j : ℕ) {s t : Text} → Open s t → Same (label_line j t) (label_line i s)
unfolding label_line
label_read i j {s} (open_whole f) =
    let k : first_cut 58 (squeezed s) ≡ uncut = uncut_same (squeezed s) s (pieces_squeezed s) f in
    rw (label_line, f, k) (go (is_data s) refl)
  where
    go : (y : Bool) → is_data s ≡ y → Same (rest_line [] j (squeezed s)) (rest_line [] i s)
    go false e = rest_read [] [] refl i j (code e)
    go true e = rest_read [] [] refl i j (data_whole e f)
label_read i j {s} (open_parts {l} {r} {t} f q) =
    let k : first_cut 58 (trim l ++ (58 ∷ t)) ≡ around (trim l) t = cut_around (trim l) t (uncut_same (trim l) l (pieces_trim l) (around_of s l r f).none) in
    rw (label_line, f, k, trim_trim l, neat_is t (neat_rest q)) (after_read (trim l) i _ j _ (trim r) t (leading_trim r) q)

-- ---- the line
kind_read : (k : Kind) (i j : ℕ) (s : Text) → Same (by_kind k j (copy_by k s)) (by_kind k i s)
unfolding by_kind copy_by
kind_read skip i j s = record { names = refl; task = refl }
kind_read fin i j s = record { names = refl; task = refl }
kind_read origin i j s = rw (pieces_squeezed s) (record { names = refl; task = refl })
kind_read step4 i j s = label_read i j (open_of s)

-- a copy's kind, and its text trimmed
pub line_copied : (l : Text) → Copied (trim l) (tidy_line l)
line_copied l = rw (copy_by_lem l) (copied (trim l) (neat_trim l))

pub line_same : (l : Text) → Same (line_of (tidy_line l)) (line_of l)
line_same l =
    let c : Copied (trim l) (tidy_line l) = line_copied l in
    rw (line_by (tidy_line l), line_by l, neat_is (tidy_line l) c.neat, c.kind, copy_by_lem l) (kind_read (kind_of (trim l)) (leading l) _ (trim l))

pub copy_reads_alike : CopyReadsAlike
unfolding CopyReadsAlike
copy_reads_alike l = record { names = (line_same l).names; task = (line_same l).task }
