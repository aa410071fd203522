-- What was read of a file is what it holds, and the texts of one file more. Assumes nothing.
use Rattle.std.proofs.Common.{ℕ, ◌≡◌, refl, sym, ap, ◌∙◌, List, [], ◌∷◌, ◌++◌, append-nil, append_assoc, length, take}
use Rattle.std.specs.Prelude.{Option, None, Some, suc}
use Rattle.std.specs.Io.KnownBytes.{Consumes, IsAtEnd}
use Rattle.rules.specs.Text.{Text}
use Rattle.serving.specs.Served.{Held}
use Rattle.make_sheet.specs.Held.{Hold}

-- ---- a text that is read chunk by chunk: before the first read, and after each
pub none_read : (old : Option (List ℕ)) → Consumes old old []
none_read None = tt
none_read (Some xs) = refl

pub more_read : (old mid new : Option (List ℕ)) (s t : Text) → Consumes old mid s → Consumes mid new t → Consumes old new (s ++ t)
more_read None mid new s t a b = tt
more_read (Some xs) None new s t a b = absurd a
more_read (Some xs) (Some ys) None s t a b = absurd b
more_read (Some xs) (Some ys) (Some zs) s t a b = a ∙ ap (λ (u : Text). s ++ u) b ∙ sym (append_assoc s t zs)

-- so far: something follows
pub all_of : (old new : Option (List ℕ)) (s : Text) → Consumes old new s → (rest : Text) × Held old (s ++ rest)
all_of None new s r = ([], tt)
all_of (Some xs) None s r = absurd r
all_of (Some xs) (Some ys) s r = (ys, sym r)

-- to its end, by a read that gave nothing
ended : (old new : Option (List ℕ)) (s : Text) → Consumes old new s → IsAtEnd new → Held old s
ended None new s r e = tt
ended (Some xs) None s r e = absurd r
ended (Some xs) (Some ys) s r e = sym (r ∙ (ap (λ (z : Text). s ++ z) e ∙ append-nil s))

pub all_read : (old mid new : Option (List ℕ)) (s chunk : Text) (n : ℕ) → n ≡ 0 → Consumes old mid s → Consumes mid new (take n chunk) → IsAtEnd new → Held old s
all_read old mid new s chunk n e a b c =
    let none : s ++ take n chunk ≡ s = rw e (append-nil s) in
    ended old new s (rw none at (more_read old mid new s (take n chunk) a b)) c

-- ---- a file more
module _ (f : Option Text → Option (List ℕ)) where
  pub hold_none : Hold f [] []
  unfolding Hold
  hold_none = tt

  pub hold_more : (ns ss : List Text) (n s : Text) → Hold f ns ss → Held (f (Some n)) s → Hold f (ns ++ (n ∷ [])) (ss ++ (s ∷ []))
  unfolding Hold
  hold_more [] [] n s h k = (k, tt)
  hold_more [] (x ∷ ss) n s h k = absurd h
  hold_more (m ∷ ns) [] n s h k = absurd h
  hold_more (m ∷ ns) (x ∷ ss) n s h k = (h.0, hold_more ns ss n s h.1 k)

  pub hold_length : (ns ss : List Text) → Hold f ns ss → length ss ≡ length ns
  unfolding Hold
  hold_length [] [] h = refl
  hold_length [] (x ∷ ss) h = absurd h
  hold_length (m ∷ ns) [] h = absurd h
  hold_length (m ∷ ns) (x ∷ ss) h = ap suc (hold_length ns ss h.1)
