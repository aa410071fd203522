-- The words that the second pass puts in the list for one line: what it asks for has words exactly if the list without that line is
-- shorter by them. Assumes nothing.
use Prim.Native.Nat.{ℕ, suc, ◌+◌, ◌/◌, ◌%◌}
use mathlib.Core.Path.{◌≡◌, refl, sym, ap, ap₂, ◌∙◌}
use mathlib.Core.Logic.{◌⊎◌, inl, inr}
use mathlib.Core.List.{List, [], ◌∷◌, ◌++◌, flat_map, append-nil, append_assoc}
use native.Mathlib.Omega.{arith}
use lib.ListN.{length, take, drop, length-append}
use Rattle.rules.specs.Line.{Task}
use Rattle.rules.specs.Label.{Table}
use Rattle.rules.specs.Encode.{Content, literal, address, long_address, Mnemonic, encode_by}
use Rattle.rules.specs.Assemble.{Put, Pass, Place, place, places_at, data_contents, code_contents_by, data_places, code_places_by, second_pass_by, Encoder}
use Rattle.promises.specs.Explain.{without, PutsWords, PutsNone}
use Rattle.promises.proofs.Compared.{clash}
use Rattle.promises.proofs.Lists.{flat_map_append}
use Rattle.promises.proofs.Tasks.{Worded, silent, codes, holds, worded}
use Rattle.promises.proofs.LineVerdicts.{contents}

-- the first place of a list that begins with a content, and those after it
first_place : ℕ → Content → Place
first_place a (literal w) = place a w 0
first_place a (address x) = place a (x % 65536) 1
first_place a (long_address x) = place a (x / 65536 % 65536) 2

other_places : ℕ → Content → List Content → List Place
other_places a (literal w) cs = places_at (a + 2) cs
other_places a (address x) cs = places_at (a + 2) cs
other_places a (long_address x) cs = place (a + 2) (x % 65536) 3 ∷ places_at (a + 4) cs

placed : (a : ℕ) (c : Content) (cs : List Content) → places_at a (c ∷ cs) ≡ first_place a c ∷ other_places a c cs
unfolding places_at first_place other_places
placed a (literal w) cs = refl
placed a (address x) cs = refl
placed a (long_address x) cs = refl

placed_at : (a : ℕ) (c : Content) → (first_place a c).address ≡ a
unfolding first_place
placed_at a (literal w) = refl
placed_at a (address x) = refl
placed_at a (long_address x) = refl

-- a list is not itself with more in it
pub words_or_none : {e : Encoder} {p : Pass} {j a : ℕ} → PutsWords e p j a → ¬ PutsNone e p j
words_or_none w n =
    let h = simp length-append at (ap length (sym w.absent ∙ n ∙ w.held)) in
    omega arith

-- the list, and the list without the line that asks k at address a
module _ (e : Encoder) (p : Pass) (j a : ℕ) (k : Task) (cut : p.puts ≡ take j p.puts ++ (record { address = a; task = k } ∷ drop (suc j) p.puts)) where
  abbrev here : Put
  here = record { address = a; task = k }

  abbrev front : (Put → List Place) → List Place
  front f = flat_map f (take j p.puts)

  abbrev back : (Put → List Place) → List Place
  back f = flat_map f (drop (suc j) p.puts)

  abbrev code : Put → List Place
  code = code_places_by e p.labels

  whole : second_pass_by e p ≡ (front data_places ++ (data_places here ++ back data_places)) ++ (front code ++ (code here ++ back code))
  unfolding second_pass_by flat_map
  whole = ap₂ ◌++◌ (part data_places) (part code)
    where
      part : (f : Put → List Place) → flat_map f p.puts ≡ front f ++ (f here ++ back f)
      part f = ap (flat_map f) cut ∙ flat_map_append f (take j p.puts) (here ∷ drop (suc j) p.puts)

  less : second_pass_by e (without j p) ≡ (front data_places ++ back data_places) ++ (front code ++ back code)
  unfolding second_pass_by without
  less = ap₂ ◌++◌ (flat_map_append data_places (take j p.puts) (drop (suc j) p.puts)) (flat_map_append code (take j p.puts) (drop (suc j) p.puts))

  -- nothing is put
  puts_none : data_contents k ≡ [] → code_contents_by e p.labels a k ≡ [] → PutsNone e p j
  unfolding data_places code_places_by places_at
  puts_none d c = less ∙ sym (whole ∙ rw (d, c))

  -- a first word is put, by data or by an instruction
  puts_data : (c : Content) (cs : List Content) → data_contents k ≡ c ∷ cs → code_contents_by e p.labels a k ≡ [] → PutsWords e p j a
  unfolding data_places code_places_by places_at
  puts_data c cs d n =
      record {
        before = front data_places;
        first = first_place a c;
        more = other_places a c cs;
        after = back data_places ++ (front code ++ back code);
        address = placed_at a c;
        held = whole ∙ rw (d, n, placed a c cs) (simp append_assoc);
        absent = less ∙ append_assoc (front data_places) (back data_places) (front code ++ back code);
      }

  puts_code : (c : Content) (cs : List Content) → data_contents k ≡ [] → code_contents_by e p.labels a k ≡ c ∷ cs → PutsWords e p j a
  unfolding data_places code_places_by places_at
  puts_code c cs d n =
      record {
        before = (front data_places ++ back data_places) ++ front code;
        first = first_place a c;
        more = other_places a c cs;
        after = back code;
        address = placed_at a c;
        held = whole ∙ rw (d, n, placed a c cs) (simp append_assoc);
        absent = less ∙ simp append_assoc;
      }

-- data or an instruction, never both
one_kind : (e : Encoder) (t : Table) (a : ℕ) {k : Task} → Worded k → (data_contents k ≡ []) ⊎ (code_contents_by e t a k ≡ [])
unfolding data_contents code_contents_by
one_kind e t a (silent d c) = inl d
one_kind e t a (codes i) = inl refl
one_kind e t a (holds n v) = inr refl

both_empty : {A : Type 0} (xs ys : List A) → xs ++ ys ≡ [] → (xs ≡ []) × (ys ≡ [])
both_empty [] ys e = (refl, e)
both_empty (x ∷ xs) ys e = clash cc

-- what a line asks, by the words that it has
module _ (names : List Mnemonic) (p : Pass) (j a : ℕ) (k : Task) (cut : p.puts ≡ take j p.puts ++ (record { address = a; task = k } ∷ drop (suc j) p.puts)) where
  pub line_puts : (c : Content) (cs : List Content) → contents names p.labels a k ≡ c ∷ cs → PutsWords (encode_by names) p j a
  unfolding contents
  line_puts c cs e = go (one_kind (encode_by names) p.labels a (worded k))
    where
      go : (data_contents k ≡ []) ⊎ (code_contents_by (encode_by names) p.labels a k ≡ []) → PutsWords (encode_by names) p j a
      go (inl d) = puts_code (encode_by names) p j a k cut c cs d (rw d at e)
      go (inr n) = puts_data (encode_by names) p j a k cut c cs (rw (n, append-nil) at e) n

  pub line_silent : contents names p.labels a k ≡ [] → PutsNone (encode_by names) p j
  unfolding contents
  line_silent e = let h = both_empty (data_contents k) (code_contents_by (encode_by names) p.labels a k) e in puts_none (encode_by names) p j a k cut h.0 h.1
