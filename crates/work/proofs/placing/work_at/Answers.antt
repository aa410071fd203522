-- The file is the one that is named, and the disk the one it was put on.
use Rattle.std.proofs.Common.{ap, option_map, refl}
use Rattle.work.proofs.Where.{in_file}
use Rattle.work.proofs.placing.work_at.Goals as goal

pub returns-in-Some : goal.returns-in-Some
returns-in-Some g c =
    in_file _ _ _ _ _ _ _ _ _ _ _ _ _ _ (ap (λ n. option_map (λ s. s.now) n) c.in-Some.is)
    ((record { disk = c.args.disk; alloc = c.args.alloc; path = c.in-Some.path }, c.perform-outcome-in-Some.new.out, refl, refl, refl, c.perform-outcome-in-Some.ensures), refl)
