-- A file that was read to its end, and one that was not opened. Assumes nothing.
use Rattle.std.proofs.Common.{ℕ, ◌≡◌, sym, ◌∙◌, List, []}
use Rattle.std.specs.Prelude.{Option}
use Rattle.station.specs.Reads.{failed_at, ReadWhole}
use Rattle.station.specs.declared.input.Input.{Input}
use Rattle.station.proofs.Kept.{kept_nil, reads_on}
use Rattle.file.specs.FileRead.{Partly, FileRead}

-- nothing is read
pub nothing_read : (x : List ℕ) (i : Input) → i.total ≡ 0 → Partly x x i
nothing_read x i e =
    record {
      text = [];
      reads = λ f. record { total = e; front = (reads_on.none x).front ∙ rw e };
      after = λ f. sym (kept_nil 0 x);
    }

-- a file that is not opened is at its end
pub not_opened : (x : List ℕ) (i : Input) → i ≡ failed_at 0 → FileRead x x i
not_opened x i e = record { part = nothing_read x i (rw e); over = rw e }

pub opened : {old new : Option (List ℕ)} {x y : List ℕ} {i : Input} → ReadWhole old x new y i → FileRead x y i
opened r = record { part = record { text = r.part.text; reads = r.part.reads; after = r.part.after }; over = r.over }
