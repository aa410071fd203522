-- Several texts as one. Assumes nothing.
use Rattle.std.specs.Prelude.{List, [], ◌∷◌, ◌++◌, flat_map}
use Rattle.rules.specs.Text.{Text}
use Rattle.outcome.specs.declared.making.Joining.{Joining}

-- the parts, with a text between each and the next
unfoldable pub between : Text → List Text → Text
between j [] = []
between j (p ∷ ps) = p ++ flat_map (λ q. j ++ q) ps

-- and what stands in front of the first and after the last
unfoldable pub joined : Joining → List Text → Text
joined x ps = (x.front.now ++ between x.between.now ps) ++ x.behind.now
