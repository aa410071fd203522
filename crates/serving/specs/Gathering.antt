-- The texts of several inputs, as they are joined one after another. Assumes nothing.
use Rattle.std.specs.Prelude.{ℕ, ◌≡◌, Bool, List, [], ◌∷◌, ◌++◌, Option}
use Rattle.std.specs.List.{list_all}
use Rattle.rules.specs.Text.{Text}
use Rattle.outcome.specs.Made.{Made}
use Rattle.outcome.specs.Joined.{between}
use Rattle.outcome.specs.declared.making.Joining.{Joining}
use Rattle.serving.specs.Gathered.{Taken, Takes, parts}
use Rattle.serving.specs.declared.gathering.Gathered.{Gathered}

-- what is to stand in front of the next part
abbrev pub lead : Text → List Text → Text
lead j [] = []
lead j (p ∷ ps) = j

-- h, what the files hold; f, what has to be made of an input's name and text, and ok, whether it is accepted; ns, the names of the inputs so far
pub record Gathering (h : Option Text → Option (List ℕ)) (f : Text → Text → Made) (ok : Text → Bool) (x : Joining) (ns : List (Option Text)) (g : Gathered) : Type 0 where
  pub taken : List Taken
  pub takes : Takes h f ns taken
  pub text : g.text.items ≡ x.front.now ++ between x.between.now (parts taken)
  pub led : g.lead.now ≡ lead x.between.now (parts taken)
  pub all : g.all ≡ list_all (λ t. ok t.input) taken
