-- A run more. Assumes nothing.
use Rattle.std.proofs.Common.{refl, []}
use Rattle.machine.specs.Machine.{ran_of}
use Rattle.jsontext.specs.Runs.{tried}
use Rattle.jsontext.proofs.Writing.{added}
use Rattle.jsontext.proofs.runs.RunList.add.Goals as goal

pub returns : goal.returns
returns c = λ ts h.
    added ts (tried c.args.value (ran_of c.args.d.now [] c.args.ran [])) c.args.self.now _ h
    (rw (c.in_ok-extend_from_slice.ensures.items, c.in_ok-push_comma.ensures, c.as_bytes.ensures.value, c.in_ok-run.ensures) refl) refl
