-- The list fits its places.
use Rattle.cli_lists.proofs.Places.{left_list, left_fits, left_refusal}
use Rattle.cli_lists.proofs.listed.keep_list.Goals as goal

pub returns-in-Ok : goal.returns-in-Ok
returns-in-Ok c = λ m d h. let k = rw c.in-Ok.is at h in (left_fits _ k, (left_list k).0)

pub returns-in-Err : goal.returns-in-Err
returns-in-Err c = λ m d h. let k = rw c.in-Err.is at h in (tt, left_refusal k)
