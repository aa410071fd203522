-- A list in the places that were made for it, whatever room there was at first. Assumes nothing.
use Rattle.std.proofs.Common.{◌≡◌, ◌≤◌, ◌*◌, ◌||◌, ℕ, zero, suc, Bool, true, false, List, [], ◌∷◌, length, eqb, ltb, ltb-false, le-ltb, arith, refl, sym, ap, ◌∙◌}
use mathlib.Core.Bool.{false≢true}
use mathlib.Core.List.{append-nil}
use lib.ListN.{drop_of_length-le}
use Rattle.rules.specs.Answer.{Answer, accepted, refused, refuse_if, and_then}
use Rattle.rules.specs.Assemble.{Place, Slices, slices, short, room, over, write_list}
use Rattle.rules.specs.Tally.{held, list_in}
use Rattle.promises.proofs.Compared.{clash}
use Rattle.promises.proofs.Refusals.{written}
use Rattle.listing.specs.Listing.{list_text}
use Rattle.listing.proofs.RoundTrip.{length_list}
use Rattle.std.specs.Prelude.{Result, Ok, Err, IfOk}
use Rattle.std.specs.declared.alloc.AllocError.{AllocError}
use Rattle.answer.specs.declared.Refusal.{Refusal}
use Rattle.answer.specs.Refusal.{number_of, place_of}
use Rattle.cli_lists.specs.Listed.{Few, fitted, within, places_of, Fits, Left, Kept, Answers, AllFit, is_short}
use Rattle.cli_lists.specs.declared.listed.Listed.{Listed}

fits_in : (m : ℕ) (l : List Place) → ltb m (length l) ≡ false → within m (accepted l) ≡ accepted l
unfolding and_then fitted refuse_if
fits_in m l f = rw f

fits_not : (m : ℕ) (l : List Place) → ltb m (length l) ≡ true → within m (accepted l) ≡ refused 7 (length l)
unfolding and_then fitted refuse_if
fits_not m l f = rw f

count_of : (n k : ℕ) → ◌≡◌ {A = Answer ℕ} (accepted n) (accepted k) → n ≡ k
count_of n k e = cc

-- ---- what a call answers with so many places lent
module _ (m : ℕ) (x : Slices) (a : length x.addresses ≡ m) (b : length x.words ≡ m) (c : length x.marks ≡ m) where
  thrice : (y : Bool) → (y || y || y) ≡ y
  thrice true = refl
  thrice false = refl

  same_short : (n : ℕ) → short x n ≡ ltb m n
  unfolding short
  same_short n = rw (a, b, c) (thrice (ltb m n))

  room_by : (l : List Place) (y : Bool) → ltb m (length l) ≡ y → room x l ≡ refuse_if y 7 (length l) (accepted (length l))
  unfolding room
  room_by l y e = ap (λ (z : Bool). refuse_if z 7 (length l) (accepted (length l))) (same_short (length l) ∙ e)

  holds : (l : List Place) (n : ℕ) → n ≡ length l → short x (length l) ≡ false → held n (write_list (accepted l) x) ≡ l
  unfolding write_list
  holds l n k s = rw (k, s, write_list) (written l x).0

  pub list_held : (d : Answer (List Place)) (n : ℕ) (y : Slices) → accepted n ≡ and_then d (room x) → y ≡ write_list d x → (within m d ≡ accepted (held n y)) × (n ≤ m)
  unfolding and_then refuse_if
  list_held (refused r p) n y e g = clash cc
  list_held (accepted l) n y e g = go (ltb m (length l)) refl
    where
      go : (z : Bool) → ltb m (length l) ≡ z → (within m (accepted l) ≡ accepted (held n y)) × (n ≤ m)
      go true f = let h : ◌≡◌ {A = Answer ℕ} (accepted n) (refused 7 (length l)) = e ∙ room_by l true f in clash cc
      go false f =
          let k : n ≡ length l = count_of n (length l) (e ∙ room_by l false f) in
          (fits_in m l f ∙ ap accepted (sym (ap (held n) g ∙ holds l n k (same_short (length l) ∙ f))), omega (arith, ltb-false m (length l) f))

  pub list_refused : (d : Answer (List Place)) (r p : ℕ) → refused r p ≡ and_then d (room x) → within m d ≡ refused r p
  unfolding and_then refuse_if
  list_refused (refused q s) r p e = let h : ◌≡◌ {A = Answer ℕ} (refused r p) (refused q s) = e in cc
  list_refused (accepted l) r p e = go (ltb m (length l)) refl
    where
      go : (z : Bool) → ltb m (length l) ≡ z → within m (accepted l) ≡ refused r p
      go true f = let h : ◌≡◌ {A = Answer ℕ} (refused r p) (refused 7 (length l)) = e ∙ room_by l true f in fits_not m l f ∙ cc
      go false f = let h : ◌≡◌ {A = Answer ℕ} (refused r p) (accepted (length l)) = e ∙ room_by l false f in clash cc

-- ---- what a call left in the places that were made
module _ {m : ℕ} {d : Answer (List Place)} where
  pub left_list : {n : ℕ} {xs ws ms : List ℕ} → Left m d (Ok n) xs ws ms → (within m d ≡ accepted (held n (slices xs ws ms))) × (n ≤ m)
  left_list {n} {xs} {ws} {ms} h = list_held m h.before h.addresses h.words h.marks d n (slices xs ws ms) h.answer h.after

  pub left_fits : (l : Listed) → Left m d (Ok l.count) l.addresses.items l.words.items l.marks.items → Fits l
  left_fits l h =
      let n : l.count ≤ m = (left_list h).1 in
      record {
        most = omega (arith, n, h.most);
        room = record { addresses = omega (arith, n, h.places); words = omega (arith, n, h.places); marks = omega (arith, n, h.places) };
      }

  pub left_refusal : {e : Refusal} {xs ws ms : List ℕ} → Left m d (Err e) xs ws ms → within m d ≡ refused (number_of e) (place_of e)
  left_refusal {e} h = list_refused m h.before h.addresses h.words h.marks d (number_of e) (place_of e) h.answer

pub kept_fit : (a : Answer (List Place)) (r : Result (Result Listed Refusal) AllocError) → Kept a r → AllFit r
kept_fit a (Ok r) k = k.0
kept_fit a (Err e) k = tt

pub kept_answers : (a : Answer (List Place)) (r : Result (Result Listed Refusal) AllocError) → Kept a r → Answers a r
kept_answers a (Ok r) k = k.1
kept_answers a (Err e) k = tt

-- ---- the room that was made does not show
most : (d : Answer (List Place)) → Few d → within 12288 d ≡ d
unfolding and_then
most (refused r p) f = refl
most (accepted l) f = fits_in 12288 l (le-ltb 12288 (length l) (f l refl))

pub had_room : (m : ℕ) (d : Answer (List Place)) (l : List Place) → within m d ≡ accepted l → d ≡ accepted l
unfolding and_then
had_room m (refused r p) l e = e
had_room m (accepted k) l e = go (ltb m (length k)) refl
  where
    go : (z : Bool) → ltb m (length k) ≡ z → accepted k ≡ accepted l
    go true f = let h : ◌≡◌ {A = Answer (List Place)} (refused 7 (length k)) (accepted l) = sym (fits_not m k f) ∙ e in clash cc
    go false f = sym (fits_in m k f) ∙ e

pub other_refusal : (m : ℕ) (d : Answer (List Place)) (r p : ℕ) → within m d ≡ refused r p → eqb r 7 ≡ false → d ≡ refused r p
unfolding and_then
other_refusal m (refused q s) r p e g = e
other_refusal m (accepted k) r p e g = go (ltb m (length k)) refl
  where
    go : (z : Bool) → ltb m (length k) ≡ z → accepted k ≡ refused r p
    go true f =
        let h : ◌≡◌ {A = Answer (List Place)} (refused 7 (length k)) (refused r p) = sym (fits_not m k f) ∙ e in
        let s : 7 ≡ r = cc in
        absurd (false≢true (sym (rw (← s) at g)))
    go false f = sym (fits_in m k f) ∙ e

-- ---- the text of a list in an array of its length
length_in : (n : ℕ) (xs ws ms : List ℕ) → n ≤ length xs → n ≤ length ws → n ≤ length ms → length (list_in n xs ws ms) ≡ n
unfolding list_in
length_in zero xs ws ms a b c = refl
length_in (suc n) [] ws ms a b c = absurd (omega arith)
length_in (suc n) (x ∷ xs) [] ms a b c = absurd (omega arith)
length_in (suc n) (x ∷ xs) (w ∷ ws) [] a b c = absurd (omega arith)
length_in (suc n) (x ∷ xs) (w ∷ ws) (m ∷ ms) a b c = ap suc (length_in n xs ws ms (omega arith) (omega arith) (omega arith))

pub whole_text : (n : ℕ) (xs ws ms out : List ℕ) → n ≤ length xs → n ≤ length ws → n ≤ length ms → length out ≡ 16 * n
    → over (list_text (list_in n xs ws ms)) out ≡ list_text (list_in n xs ws ms)
unfolding over
whole_text n xs ws ms out a b c e =
    let s : length out ≤ length (list_text (list_in n xs ws ms)) = omega (arith, length_list (list_in n xs ws ms), length_in n xs ws ms a b c) in
    rw (drop_of_length-le out s) (append-nil _)

-- where they were enough, for a list or another refusal
pub not_short : (m : ℕ) (d : Answer (List Place)) (r : Result (Result Listed Refusal) AllocError) → Kept (within m d) r → is_short r ≡ false → Answers d r
not_short m d (Ok (Ok l)) h g = had_room m d _ h.1
not_short m d (Ok (Err e)) h g = other_refusal m d _ _ h.1 g
not_short m d (Err e) h g = tt

-- and where there was room for every list
pub enough : (d : Answer (List Place)) → Few d → (r : Result (Result Listed Refusal) AllocError) → Kept (within 12288 d) r → Answers d r
enough d f r h = rw (most d f) at (kept_answers _ r h)
