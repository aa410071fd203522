-- What is kept of an input is its front, whatever chunks it is read in. Assumes nothing.
use Prim.Native.Nat.{ℕ, ◌+◌, ◌-◌, ◌^◌, ◌<◌, ◌≤◌, min}
use mathlib.Core.Path.{◌≡◌, refl, sym, ap, ◌∙◌}
use mathlib.Core.Bool.{Bool, true, false}
use mathlib.Core.List.{List, [], ◌++◌, append-nil}
use native.Mathlib.Omega.{arith}
use Rattle.std.specs.Prelude.{Some}
use lib.Dec.{leb, eqb}
use lib.ListN.{length, take, drop, length-append, length-take}
use lib.Seq.{take-nil, take_all, take_at, take-append-le, take-append-add, length-take-le, drop-length}
use borrow.Author.Tests.{leb-true, leb-false, lt-ltb, eqb-true}
use Rattle.rules.specs.Text.{Text}
use Rattle.text.specs.Spans.{over_from}
use Rattle.text.proofs.Over.{put_both, put_nil, length_put}
use Rattle.station.specs.Reads.{after_read, kept, Reads, ReadsOn}
use Rattle.station.specs.declared.input.Input.{Input}

-- the lesser of two lengths, one of them the list's
pub take_lesser : (n k : ℕ) (l : List ℕ) → n ≡ min (length l) k → take n l ≡ take k l
take_lesser n k l e = go (leb k (length l)) refl
  where
    go : (y : Bool) → leb k (length l) ≡ y → take n l ≡ take k l
    go true p = let same : n ≡ k = omega (arith, leb-true k (length l) p) in rw same
    go false p = take_all n l (omega (arith, leb-false k (length l) p)) ∙ sym (take_all k l (omega (arith, leb-false k (length l) p)))

-- with no room left nothing changes
pub kept_full : (n : ℕ) (c : Text) (buffer : List ℕ) → length buffer ≤ n → kept n c buffer ≡ buffer
unfolding kept
kept_full n c buffer h = let none : length buffer - n ≡ 0 = omega arith in rw none (put_nil n buffer)

-- the part of a chunk that there is room for is put
pub kept_part : (n m : ℕ) (c : Text) (x y : List ℕ) → m ≡ min (length c) (length x - n) → y ≡ over_from n (take m c) x → y ≡ kept n c x
unfolding kept
kept_part n m c x y e f = f ∙ ap (λ (s : Text). over_from n s x) (take_lesser m (length x - n) c e)

-- after a read of so many bytes the total has grown
total_after : (n : ℕ) (i : Input) → i.total + n < 2 ^ 64 → (after_read (Some n) i).total ≡ i.total + n
unfolding after_read
total_after n i h = go (eqb n 0) refl
  where
    go : (y : Bool) → eqb n 0 ≡ y → (after_read (Some n) i).total ≡ i.total + n
    go true e = rw e (omega (arith, eqb-true n 0 e))
    go false e = rw (e, lt-ltb (i.total + n) (2 ^ 64) h)

-- what there is room for, and what stands after it
chunk_front : (n k : ℕ) (c : Text) (buffer : List ℕ) → n + k ≡ length buffer → take (length c) (take k c ++ drop (n + length (take k c)) buffer) ≡ take k c
chunk_front n k c buffer e = go (leb (length c) k) refl
  where
    go : (y : Bool) → leb (length c) k ≡ y → take (length c) (take k c ++ drop (n + length (take k c)) buffer) ≡ take k c
    go true p = rw (take_all k c (leb-true (length c) k p)) (take_at c (drop (n + length c) buffer) (length c) refl)
    go false p =
        let size : length (take k c) ≡ k = length-take-le k c (omega (arith, leb-false (length c) k p)) in
        rw (size, e, drop-length buffer, append-nil (take k c)) (take_all (length c) (take k c) (omega (arith, leb-false (length c) k p)))

pub length_kept : (n : ℕ) (c : Text) (buffer : List ℕ) → length (kept n c buffer) ≡ length buffer
unfolding kept
length_kept n c buffer = go (leb n (length buffer)) refl
  where
    go : (y : Bool) → leb n (length buffer) ≡ y → length (over_from n (take (length buffer - n) c) buffer) ≡ length buffer
    go true p = length_put n (take (length buffer - n) c) buffer (omega (arith, leb-true n (length buffer) p, length-take (length buffer - n) c))
    go false p = ap length (kept_full n c buffer (omega (arith, leb-false n (length buffer) p)))

-- two chunks one after the other are kept as the two together
pub kept_on : (t c : Text) (x : List ℕ) → kept (length t) c (kept 0 t x) ≡ kept 0 (t ++ c) x
unfolding kept
kept_on t c x = go (leb (length t) (length x)) refl
  where
    go : (y : Bool) → leb (length t) (length x) ≡ y → kept (length t) c (kept 0 t x) ≡ kept 0 (t ++ c) x
    go true p =
        let fits = leb-true (length t) (length x) p in
        let room : length x - 0 ≡ length t + (length x - length t) = omega (arith, fits) in
        let rest : take (length x - 0) (t ++ c) ≡ t ++ take (length x - length t) c = ap (λ (m : ℕ). take m (t ++ c)) room ∙ take-append-add t c (length x - length t) in
        ap (λ (m : ℕ). over_from (length t) (take (m - length t) c) (kept 0 t x)) (length_kept 0 t x)
        ∙ ap (λ (s : Text). over_from (length t) (take (length x - length t) c) (over_from 0 s x)) (take_all (length x - 0) t (omega (arith, fits)))
        ∙ sym (put_both 0 (length t) t x (omega arith) (omega arith) (take (length x - length t) c))
        ∙ sym (ap (λ (s : Text). over_from 0 s x) rest)
    go false p =
        let less = leb-false (length t) (length x) p in
        kept_full (length t) c (kept 0 t x) (omega (arith, less, length_kept 0 t x))
        ∙ sym (ap (λ (s : Text). over_from 0 s x) (take-append-le (length x - 0) t c (omega (arith, less))))

pub kept_nil : (n : ℕ) (x : List ℕ) → kept n [] x ≡ x
unfolding kept
kept_nil n x = rw (take-nil (length x - n)) (put_nil n x)

-- the front before, t, and the chunk after it
module _ (t c : Text) (buffer : List ℕ) (f : take (length buffer) t ≡ take (length t) buffer) where
  grows_within : length t ≤ length buffer → take (length buffer) (t ++ c) ≡ take (length t + length c) (kept (length t) c buffer)
  unfolding kept over_from
  grows_within h =
      let room : length buffer ≡ length t + (length buffer - length t) = omega arith in
      let same : t ≡ take (length t) buffer = sym (take_all (length buffer) t h) ∙ f in
      ap (λ (m : ℕ). take m (t ++ c)) room
      ∙ take-append-add t c (length buffer - length t)
      ∙ ap (λ (s : Text). t ++ s) (sym (chunk_front (length t) (length buffer - length t) c buffer (sym room)))
      ∙ sym (take-append-add t (take (length buffer - length t) c ++ drop (length t + length (take (length buffer - length t) c)) buffer) (length c))
      ∙ ap (λ (s : Text). take (length t + length c) (s ++ (take (length buffer - length t) c ++ drop (length t + length (take (length buffer - length t) c)) buffer))) same

  grows_past : length buffer < length t → take (length buffer) (t ++ c) ≡ take (length t + length c) (kept (length t) c buffer)
  grows_past h =
      rw (kept_full (length t) c buffer (omega arith), take-append-le (length buffer) t c (omega arith), f)
      (take_all (length t) buffer (omega arith) ∙ sym (take_all (length t + length c) buffer (omega arith)))

  pub front_grows : take (length buffer) (t ++ c) ≡ take (length t + length c) (kept (length t) c buffer)
  front_grows = go (leb (length t) (length buffer)) refl
    where
      go : (y : Bool) → leb (length t) (length buffer) ≡ y → take (length buffer) (t ++ c) ≡ take (length t + length c) (kept (length t) c buffer)
      go true p = grows_within (leb-true (length t) (length buffer) p)
      go false p = grows_past (leb-false (length t) (length buffer) p)

reads_more : (t c : Text) (buffer : List ℕ) (i : Input) → length t + length c < 2 ^ 64 → Reads t buffer i
    → Reads (t ++ c) (kept i.total c buffer) (after_read (Some (length c)) i)
reads_more t c buffer i h r =
    let total = total_after (length c) i (omega (arith, r.total)) in
    record {
      total = total ∙ (ap (λ (m : ℕ). m + length c) r.total ∙ sym (length-append t c));
      front = rw (total, r.total, length_kept (length t) c buffer) (front_grows t c buffer (rw r.total at r.front));
    }

pub reads_on : ReadsOn
reads_on = record { none = λ buffer. record { total = refl; front = take-nil (length buffer) }; more = reads_more }
