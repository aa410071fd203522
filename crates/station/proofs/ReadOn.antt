-- An input read chunk by chunk: before the first read, after each, and at the end. Assumes nothing.
use Rattle.std.proofs.Common.{ℕ, ◌+◌, ◌^◌, ◌<◌, ◌≤◌, ◌≡◌, refl, sym, ap, ◌∙◌, Bool, true, false, cond, List, [], ◌++◌, append_assoc, append-nil, arith, length, take, length-append}
use Rattle.std.specs.Prelude.{Option, None, Some, Result, Ok, Err, unwrap_or}
use Rattle.std.specs.Result.{result_ok}
use Rattle.std.specs.Io.{ReadsAtMost}
use Rattle.std.specs.Io.KnownBytes.{Consumes, IsAtEnd, Keeps, ReadConsumes}
use mathlib.Core.Bool.{false≢true}
use lib.Dec.{eqb, ltb}
use lib.Seq.{length-take-le}
use Rattle.std.proofs.lemmas.Bool.{ltb-true, ltb-false, eqb-true}
use Rattle.rules.specs.Text.{Text}
use Rattle.station.specs.Reads.{at_start, failed_at, after_read, kept, Reads, ReadFrom}
use Rattle.station.specs.declared.input.Input.{Input}
use Rattle.station.proofs.Kept.{kept_on, kept_nil, reads_on}

-- ---- known bytes
none_consumed : (old : Option (List ℕ)) → Consumes old old []
none_consumed None = tt
none_consumed (Some xs) = refl

both_consumed : (old mid new : Option (List ℕ)) (s t : Text) → Consumes old mid s → Consumes mid new t → Consumes old new (s ++ t)
both_consumed None mid new s t a b = tt
both_consumed (Some xs) None new s t a b = absurd a
both_consumed (Some xs) (Some ys) None s t a b = absurd b
both_consumed (Some xs) (Some ys) (Some zs) s t a b = a ∙ ap (λ (u : Text). s ++ u) b ∙ sym (append_assoc s t zs)

kept_consumed : (old mid new : Option (List ℕ)) (s : Text) → Consumes old mid s → Keeps mid new → Consumes old new s
kept_consumed None mid new s a k = tt
kept_consumed (Some xs) None new s a k = absurd a
kept_consumed (Some xs) (Some ys) None s a k = absurd k
kept_consumed (Some xs) (Some ys) (Some zs) s a k = a ∙ ap (λ (u : Text). s ++ u) (sym k)

-- ---- before the first read
pub read_none : (old : Option (List ℕ)) (x : List ℕ) → ReadFrom old x old x at_start
read_none old x =
    record {
      text = [];
      consumed = none_consumed old;
      at_end = λ f m. absurd (false≢true (sym m));
      reads = λ f. reads_on.none x;
      after = λ f. sym (kept_nil 0 x);
      none_lost = λ h. reads_on.none x;
      front_kept = λ h. sym (kept_nil 0 x);
    }

-- ---- a chunk more
length_front : (t c : Text) → length (t ++ c) < 2 ^ 64 → length t < 2 ^ 64
length_front t c h = omega (arith, length-append t c)

module _ {t : Text} {y : List ℕ} {i : Input} (c : Text) where
  reads_both : i.total + length c < 2 ^ 64 → Reads t y i → Reads (t ++ c) (kept i.total c y) (record { total = i.total + length c; more = true; failed = i.failed })
  reads_both h r =
      let q = reads_on.more t c y i (omega (arith, r.total)) r in
      let whole : i.total + length c ≡ length (t ++ c) = rw (length-append t c) (omega (arith, r.total)) in
      record { total = whole; front = q.front ∙ ap (λ (m : ℕ). take m (kept i.total c y)) (q.total ∙ sym whole) }

  kept_both : (x : List ℕ) → Reads t y i → y ≡ kept 0 t x → kept i.total c y ≡ kept 0 (t ++ c) x
  kept_both x r e = ap (kept i.total c) e ∙ ap (λ (m : ℕ). kept m c (kept 0 t x)) r.total ∙ kept_on t c x

module _ {old mid new : Option (List ℕ)} {x y : List ℕ} {i : Input} where
  module _ (p : ReadFrom old x mid y i) where
    -- ---- after a read that failed
    failed_read : Keeps mid new → ReadFrom old x new (kept i.total [] y) (failed_at i.total)
    failed_read k =
        rw (kept_nil i.total y)
        (record {
          text = p.text;
          consumed = kept_consumed old mid new p.text p.consumed k;
          at_end = λ f. absurd (false≢true (sym f));
          reads = λ f. absurd (false≢true (sym f));
          after = λ f. absurd (false≢true (sym f));
          none_lost = λ h. let r = p.none_lost h in record { total = r.total; front = r.front };
          front_kept = p.front_kept;
        })

    -- ---- after one that gave nothing
    ended_read : Consumes mid new [] → IsAtEnd new → ReadFrom old x new (kept i.total [] y) (record { total = i.total; more = false; failed = i.failed })
    ended_read a e =
        rw (kept_nil i.total y)
        (record {
          text = p.text;
          consumed = rw (append-nil p.text) at (both_consumed old mid new p.text [] p.consumed a);
          at_end = λ f m. e;
          reads = λ f. let r = p.reads f in record { total = r.total; front = r.front };
          after = p.after;
          none_lost = λ h. let r = p.none_lost h in record { total = r.total; front = r.front };
          front_kept = p.front_kept;
        })

    -- ---- and after one that gave some bytes
    some_read : (c : Text) → i.total + length c < 2 ^ 64 → Consumes mid new c
        → ReadFrom old x new (kept i.total c y) (record { total = i.total + length c; more = true; failed = i.failed })
    some_read c h a =
        record {
          text = p.text ++ c;
          consumed = both_consumed old mid new p.text c p.consumed a;
          at_end = λ f m. absurd (false≢true (sym m));
          reads = λ f. reads_both c h (p.reads f);
          after = λ f. kept_both c x (p.reads f) (p.after f);
          none_lost = λ l. let m = length_front p.text c l in reads_both c h (p.none_lost m);
          front_kept = λ l. let m = length_front p.text c l in kept_both c x (p.none_lost m) (p.front_kept m);
        }

    -- more than a usize counts
    too_many : (c : Text) → 2 ^ 64 ≤ i.total + length c → Consumes mid new c → ReadFrom old x new (kept i.total c y) (failed_at i.total)
    too_many c h a =
        record {
          text = p.text ++ c;
          consumed = both_consumed old mid new p.text c p.consumed a;
          at_end = λ f. absurd (false≢true (sym f));
          reads = λ f. absurd (false≢true (sym f));
          after = λ f. absurd (false≢true (sym f));
          none_lost = λ l. absurd (uncounted l);
          front_kept = λ l. absurd (uncounted l);
        }
      where
        uncounted : length (p.text ++ c) < 2 ^ 64 → ⊥
        uncounted l = let r = p.none_lost (length_front p.text c l) in omega (arith, r.total, length-append p.text c)

    counted_read : (n : ℕ) (chunk : Text) → 0 < length chunk → n ≤ length chunk → Consumes mid new (take n chunk) → (n ≡ 0 → 0 < length chunk → IsAtEnd new)
        → ReadFrom old x new (kept i.total (take n chunk) y) (after_read (Some n) i)
    unfolding after_read
    counted_read n chunk h k a e = go (eqb n 0) refl
      where
        long : length (take n chunk) ≡ n
        long = length-take-le n chunk k

        more : (y' : Bool) → ltb (i.total + n) (2 ^ 64) ≡ y'
            → ReadFrom old x new (kept i.total (take n chunk) y) (cond y' (record { total = i.total + n; more = true; failed = i.failed }) (failed_at i.total))
        more true q = rw long at (some_read (take n chunk) (rw long (ltb-true (i.total + n) (2 ^ 64) q)) a)
        more false q = too_many (take n chunk) (rw long (ltb-false (i.total + n) (2 ^ 64) q)) a

        go : (z : Bool) → eqb n 0 ≡ z
            → ReadFrom old x new (kept i.total (take n chunk) y)
            (cond z (record { total = i.total; more = false; failed = i.failed }) (cond (ltb (i.total + n) (2 ^ 64)) (record { total = i.total + n; more = true; failed = i.failed }) (failed_at i.total)))
        go true q = let n0 : n ≡ 0 = eqb-true n 0 q in rw n0 (ended_read (rw n0 at a) (e n0 h))
        go false q = more (ltb (i.total + n) (2 ^ 64)) refl

-- ---- a turn: the read answered r, of which g is the count, and chunk is what it was read into
pub read_on : {E : Type 0} {old mid new : Option (List ℕ)} {x y : List ℕ} {i : Input} → ReadFrom old x mid y i → (r : Result ℕ E) (g : Option ℕ) (chunk : Text) → g ≡ result_ok r
    → 0 < length chunk → ReadsAtMost r chunk → ReadConsumes mid new r chunk → ReadFrom old x new (kept i.total (take (unwrap_or g 0) chunk) y) (after_read g i)
unfolding after_read
read_on p (Err e) g chunk h k b a = rw h (failed_read p a)
read_on p (Ok n) g chunk h k b a = rw h (counted_read p n chunk k b.0 a.0 a.1)

-- what a read that did not fail adds to the count
pub counted : (g : Option ℕ) (k : ℕ) (i : Input) → k ≡ unwrap_or g 0 → (after_read g i).failed ≡ false → (i.failed ≡ false) × ((after_read g i).total ≡ i.total + k)
unfolding after_read
counted None k i l f = absurd (false≢true (sym f))
counted (Some n) k i l f = go (eqb n 0) refl f
  where
    more : (z : Bool) → ltb (i.total + n) (2 ^ 64) ≡ z
        → (cond z (record { total = i.total + n; more = true; failed = i.failed }) (failed_at i.total)).failed ≡ false
        → (i.failed ≡ false) × ((cond z (record { total = i.total + n; more = true; failed = i.failed }) (failed_at i.total)).total ≡ i.total + k)
    more true e h = (h, omega (arith, l))
    more false e h = absurd (false≢true (sym h))

    go : (y : Bool) → eqb n 0 ≡ y
        → (cond y (record { total = i.total; more = false; failed = i.failed }) (cond (ltb (i.total + n) (2 ^ 64)) (record { total = i.total + n; more = true; failed = i.failed }) (failed_at i.total))).failed ≡ false
        → (i.failed ≡ false) × ((cond y (record { total = i.total; more = false; failed = i.failed }) (cond (ltb (i.total + n) (2 ^ 64)) (record { total = i.total + n; more = true; failed = i.failed }) (failed_at i.total))).total ≡ i.total + k)
    go true e h = (h, omega (arith, l, eqb-true n 0 e))
    go false e h = more (ltb (i.total + n) (2 ^ 64)) refl h
