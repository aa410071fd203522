-- The places of a list in three lent slices: room for them, and places put into them. Assumes nothing.
use Rattle.std.specs.Prelude.{◌≡◌, List, map, ℕ, ◌+◌, ◌≤◌, length}
use Rattle.std.specs.Borrow.{MutBor}
use Rattle.std.proofs.lemmas.List.Edits.{sets}
use Rattle.rules.specs.Assemble.{Place, Slices, slices, holding}
use Rattle.emit.specs.declared.places.Places.{Places}

-- what stands in the slices
abbrev pub placed : Places → Slices
placed p = slices p.addresses.now p.words.now p.marks.now

-- the slices with a list put into them from place n on
unfoldable pub put_from : ℕ → List Place → Slices → Slices
put_from n l x =
    record {
      addresses = sets x.addresses n (map (λ p. p.address) l);
      words = sets x.words n (map (λ p. p.word) l);
      marks = sets x.marks n (map (λ p. p.mark) l);
    }

-- n words fit into each slice
pub record Room (n : ℕ) (x : Slices) : Type 0 where
  pub addresses : n ≤ length x.addresses
  pub words : n ≤ length x.words
  pub marks : n ≤ length x.marks

-- p is of the three slices that were lent
pub record Lent (addresses words marks : MutBor (List ℕ)) (p : Places) : Type 0 where
  pub same_addresses : p.addresses.ghost_name ≡ addresses.ghost_name
  pub same_words : p.words.ghost_name ≡ words.ghost_name
  pub same_marks : p.marks.ghost_name ≡ marks.ghost_name
  pub now : placed p ≡ slices addresses.now words.now marks.now

-- q is of the slices of p
pub record SameSlices (p q : Places) : Type 0 where
  pub addresses : q.addresses.ghost_name ≡ p.addresses.ghost_name
  pub words : q.words.ghost_name ≡ p.words.ghost_name
  pub marks : q.marks.ghost_name ≡ p.marks.ghost_name

-- q is what p becomes when the list l is put from place n on
pub record Puts (n : ℕ) (l : List Place) (p q : Places) : Type 0 where
  pub same : SameSlices p q
  pub put : placed q ≡ put_from n l (placed p)

-- the same, and the place after it
pub record Taken (n : ℕ) (l : List Place) (p : Places) (r : ℕ) (q : Places) : Type 0 where
  pub count : r ≡ n + length l
  pub puts : Puts n l p q

-- the same of slices
pub record Stored (n : ℕ) (l : List Place) (x : Slices) (r : ℕ) (y : Slices) : Type 0 where
  pub count : r ≡ n + length l
  pub put : y ≡ put_from n l x

-- q is what p becomes when its slices hold the list l in their first places
pub record Holds (l : List Place) (p q : Places) : Type 0 where
  pub same : SameSlices p q
  pub holds : placed q ≡ holding l (placed p)
