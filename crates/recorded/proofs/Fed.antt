-- A replay byte by byte: one byte taken, and a chunk. Assumes nothing.
use Rattle.std.proofs.Common.{◌≡◌, ℕ, ◌+◌, ◌%◌, ◌^◌, ◌<◌, ◌≤◌, min, List, [], ◌∷◌, length, get_or, take, drop, set, sym, refl, ◌∙◌, drop_of_length-le, le-ltb, lt-ltb}
use Rattle.rules.specs.Text.{Text}
use Rattle.text.proofs.Over.{drop_more}
use Rattle.recorded.specs.Replay.{verdict_in, verdict_by, size_by, counted_by, Replay, replay, took, took_byte, fed, ChunksJoin}
use Rattle.std.specs.Prelude.{Option, None}
use Rattle.recorded.specs.declared.Tally.{Tally}

pub chunks_join : ChunksJoin
unfolding ChunksJoin fed
chunks_join [] t x = refl
chunks_join (b ∷ s) t x = chunks_join s t (took_byte b x)

-- ---- one byte, put at an index: n bytes are there now, of a record that has k
module _ (b : ℕ) (t : List ℕ) (s : Tally) (index : ℕ) (e : index ≡ min s.length 103029) (n : ℕ) (next : n ≡ (s.length + 1) % 2 ^ 64) (k : ℕ) (size : k ≡ size_by n (set t index b)) where
  pub byte_part : n < k
      → replay (set t index b) (record { length = n; records = s.records; agreed = s.agreed; words = s.words; first = s.first }) ≡ took_byte b (replay t s)
  unfolding took_byte took
  byte_part h = rw (← e, ← next, ← size, lt-ltb n k h)

  byte_judged : k ≤ n → (r : Tally) → r ≡ counted_by (verdict_by n (set t index b)) s → replay (set t index b) r ≡ took_byte b (replay t s)
  unfolding took_byte took
  byte_judged h r g = rw (← e, ← next, ← size, le-ltb n k h, g)

  pub byte_long : k ≤ n → 103030 < n → (r : Tally) → r ≡ counted_by None s → replay (set t index b) r ≡ took_byte b (replay t s)
  unfolding verdict_by
  byte_long h l r g = byte_judged h r (rw (lt-ltb 103030 n l) g)

  pub byte_last : k ≤ n → n ≤ 103030 → (v : Option ℕ) → v ≡ verdict_in (take n (set t index b)) → (r : Tally) → r ≡ counted_by v s → replay (set t index b) r ≡ took_byte b (replay t s)
  unfolding verdict_by
  byte_last h l v f r g = byte_judged h r (rw (le-ltb 103030 n l, ← f) g)

-- ---- a chunk, of which i bytes are taken: from x the replay has come to y
pub record Feeding (c : Text) (x : Replay) (i : ℕ) (y : Replay) : Type 0 where
  pub within : i ≤ length c
  pub same : fed c x ≡ fed (drop i c) y

pub feeding_none : (c : Text) (x : Replay) → 0 ≤ length c → Feeding c x 0 x
feeding_none c x h = record { within = h; same = refl }

module _ {c : Text} {x : Replay} {i : ℕ} {y : Replay} (f : Feeding c x i y) where
  pub feeding_more : (z : Replay) → i < length c → i + 1 ≤ length c → z ≡ took_byte (get_or c i 0) y → Feeding c x (i + 1) z
  unfolding fed
  feeding_more z h k e = record { within = k; same = f.same ∙ rw (drop_more c i h, e) }

  pub feeding_all : length c ≤ i → y ≡ fed c x
  unfolding fed
  feeding_all h = sym (rw (drop_of_length-le c h) at f.same)
