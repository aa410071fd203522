-- Records one after another: the verdict on each, what a replay counts, and what it prints. Assumes nothing.
use Rattle.std.specs.Prelude.{◌≡◌, ℕ, ◌+◌, ◌-◌, ◌*◌, ◌%◌, ◌^◌, min, Bool, cond, not, ◌&&◌, List, [], ◌∷◌, ◌++◌, length, take, drop, ◌==◌, nat_le, nat_lt, slice_set, Option, None, Some}
use Rattle.std.specs.Option.{option_or}
use Rattle.rules.specs.Text.{Text, bytes, same}
use Rattle.rules.specs.Assemble.{Slices, holding, assemble_answer, assemble_slices}
use Rattle.answer.specs.Told.{told_number, told_place}
use Rattle.listing.specs.Listing.{decimal}
use Rattle.calls.specs.Calls.{call_text, is_call}
use Rattle.station.specs.declared.input.Input.{Input}
use Rattle.station.specs.Station.{unless_failed}
use Rattle.recorded.specs.Recorded.{number_at, rows_in, Terms, terms_in, count_of, old, onto, lent}
use Rattle.recorded.specs.declared.Tally.{Tally}

-- ---- agreement as a test: that it is one is `agrees_decided` and `call_decided`

unfoldable pub whole_in : Text → Text → Text → Bool
whole_in s t l =
    (length t == 25) && (length s == (terms_in t).size && (nat_le (count_of (terms_in t)) 9000 && (length l == 7 * count_of (terms_in t) && (nat_le (terms_in t).addresses 9000 && (nat_le (terms_in t).words 9000 && nat_le (terms_in t).marks 9000)))))

unfoldable pub same_slices : Slices → Slices → Bool
same_slices x y = same x.addresses y.addresses && (same x.words y.words && same x.marks y.marks)

unfoldable pub same_in : Terms → Text → Text → Bool
same_in r s l =
    (told_number (assemble_answer r.base s (lent r)) == r.number) && (told_place (assemble_answer r.base s (lent r)) == r.place && same_slices (onto (assemble_slices r.base s (lent r)) old) (holding (rows_in (count_of r) l) old))

unfoldable pub agrees_in : Text → Text → Text → Bool
agrees_in s t l = whole_in s t l && same_in (terms_in t) s l

unfoldable pub call_agrees_in : ℕ → ℕ → ℕ → Text → Text → Bool
call_agrees_in call x y s t = is_call call && same (call_text call x y s) t

-- ---- a record, which agrees in so many places, or differs: its head is the call's number and how many bytes follow

-- the bytes from a to before e
abbrev pub part : ℕ → ℕ → Text → Text
part a e t = take (e - a) (drop a t)

-- a record whose source ends at `end`: whether it agrees, and in how many places
unfoldable pub judged : ℕ → Text → Bool → ℕ → Option ℕ
judged end t agrees places = cond (nat_lt (length t) end) None (cond agrees (Some places) None)

-- call 1: the terms, the source, the rows
unfoldable pub assemble_verdict : ℕ → Text → Option ℕ
assemble_verdict end t = judged end t (agrees_in (part 30 end t) (part 5 30 t) (part end (length t) t)) (count_of (terms_in (part 5 30 t)))

-- a call beside assembling: two numbers, the source's length, the source, the text that must be answered
unfoldable pub call_verdict : ℕ → Text → Option ℕ
call_verdict end t = judged end t (call_agrees_in (number_at 0 1 t) (number_at 5 4 t) (number_at 9 4 t) (part 17 end t) (part end (length t) t)) 0

-- a record that ends before its source starts differs
unfoldable pub verdict_in : Text → Option ℕ
verdict_in t =
    cond (nat_lt (length t) 17) None
    (cond (number_at 0 1 t == 1) (cond (nat_lt (length t) 30) None (assemble_verdict (30 + number_at 5 4 t) t)) (call_verdict (17 + number_at 13 4 t) t))

-- the bytes of a record of which the first n are there: the head's until it is whole
unfoldable pub size_by : ℕ → Text → ℕ
size_by n t = cond (nat_lt n 5) 5 (5 + number_at 1 4 t)

-- one of n bytes that is too long to be kept differs
unfoldable pub verdict_by : ℕ → Text → Option ℕ
verdict_by n t = cond (nat_lt 103030 n) None (verdict_in (take n t))

-- ---- a replay: the bytes of the record that is not yet whole stand at the front of an array

unfoldable pub counted_by : Option ℕ → Tally → Tally
counted_by (Some n) s =
    record {
      length = 0;
      records = (s.records + 1) % 2 ^ 64;
      agreed = (s.agreed + 1) % 2 ^ 64;
      words = (s.words + n) % 2 ^ 64;
      first = s.first;
    }
counted_by None s =
    record {
      length = 0;
      records = (s.records + 1) % 2 ^ 64;
      agreed = s.agreed;
      words = s.words;
      first = option_or s.first (cond ((s.records + 1) % 2 ^ 64 == 0) None (Some ((s.records + 1) % 2 ^ 64)));
    }

pub record Replay : Type 0 where
  pub array : List ℕ
  pub tally : Tally

abbrev pub replay : List ℕ → Tally → Replay
replay t s = record { array = t; tally = s }

-- n bytes of a record are there: it is not yet whole, or it is judged
unfoldable pub took : ℕ → List ℕ → Tally → Replay
took n t s =
    cond (nat_lt n (size_by n t))
    (replay t (record { length = n; records = s.records; agreed = s.agreed; words = s.words; first = s.first }))
    (replay t (counted_by (verdict_by n t) s))

-- one byte of the input
unfoldable pub took_byte : ℕ → Replay → Replay
took_byte b x = took ((x.tally.length + 1) % 2 ^ 64) (slice_set x.array (min x.tally.length 103029) b) x.tally

unfoldable pub fed : Text → Replay → Replay
fed [] x = x
fed (b ∷ t) x = fed t (took_byte b x)

-- in what chunks the input comes makes no difference
unfoldable pub ChunksJoin : Type 0
ChunksJoin = (s t : Text) (x : Replay) → fed (s ++ t) x ≡ fed t (fed s x)

-- ---- what is printed

unfoldable pub counts_text : Tally → Text
counts_text s =
    decimal s.agreed ++ (bytes " of " ++ (decimal s.records ++ (bytes " records agree, " ++ (decimal s.words ++ bytes " words compared\n"))))

unfoldable pub first_text : Option ℕ → Text → Text
first_text None t = t
first_text (Some first) t = t ++ (bytes "the first that differs is record " ++ (decimal first ++ (10 ∷ [])))

unfoldable pub replay_text : Tally → Input → Text
replay_text s i = unless_failed i (first_text s.first (counts_text s))

-- the input was read, and ended within a record
unfoldable pub is_cut_off : Tally → Input → Bool
is_cut_off s i = not i.failed && not (s.length == 0)
