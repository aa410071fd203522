use Rattle.pages.proofs.trying.try_one.Goals as goal

pub returns : goal.returns
returns g c = (c.in_ok-got.got.items, c.in_ok-got.ensures, c.in_ok-judge.ensures)
