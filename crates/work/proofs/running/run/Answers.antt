-- The words are those that are known; where they are not read any will do.
use Rattle.std.proofs.Common.{◌≡◌, refl, map, string_bytes, inr}
use Rattle.work.specs.Ran.{Runs}
use Rattle.work.proofs.Known.{any}
use Rattle.work.proofs.running.run.Goals as goal

pub returns-in-Ok : goal.returns-in-Ok
returns-in-Ok g c = (map (λ w. string_bytes w) c.in-Ok.words.items, c.in-Ok.ensures, rw c.as_slice.ensures.value at c.run_words.ensures)

pub returns-in-Err : goal.returns-in-Err
returns-in-Err g c =
    any (g.A.Arguments.known c.args.arguments.now)
    (λ ws. Runs ws (λ n. g.F.Opening.holds c.args.files.now n) c.args.disk c.args.disk (λ d. g.D.Disk.settled d) (λ d. g.D.Disk.stays d) (λ d. g.D.Disk.known d)
    (λ s r. g.O.Output.puts c.args.out.now c.args.out.now s r) (c.args.out.now ≡ c.args.out.now) (g.E.Write.contents c.args.errors.now) (g.E.Write.contents c.no_room.new.errors) c.no_room.result)
    (λ ws. inr (c.no_room.ensures.0, c.no_room.ensures.1, refl, refl))
