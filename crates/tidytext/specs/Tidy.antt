-- What `tidy` prints for a script, and what it says on standard error of one that is refused. Assumes nothing.
use Rattle.std.specs.Prelude.{ℕ, cond, List, [], ltb, take}
use Rattle.rules.specs.Limits.{max_source}
use Rattle.rules.specs.Text.{Text}
use Rattle.rules.specs.Answer.{Answer, accepted, refused}
use Rattle.requests.specs.Tidy.{tidy, tidy_answer}
use Rattle.listing.specs.Listing.{refused_text}
use Rattle.station.specs.Station.{unless_failed}
use Rattle.station.specs.declared.input.Input.{Input}

-- where a copy t is answered: the copy itself, and of a refusal nothing, so that no file is overwritten with one
unfoldable pub answered_copy : Answer ℕ → Text → Text
answered_copy (accepted n) t = t
answered_copy (refused n p) t = []

-- and what is said: the line of a refusal
unfoldable pub answered_refusal : Answer ℕ → Text
answered_refusal (accepted n) = []
answered_refusal (refused n p) = refused_text n p

-- of a script, with room for every copy
unfoldable pub copy_text : Text → Text
copy_text t = answered_copy (tidy_answer max_source t) (tidy t)

unfoldable pub refusal_text : Text → Text
refusal_text t = answered_refusal (tidy_answer max_source t)

-- what is printed for an input of which a buffer keeps the front: nothing if it could not be read to its end, or is over the limit
unfoldable pub copy_input_text : Input → List ℕ → Text
copy_input_text i buffer = unless_failed i (cond (ltb max_source i.total) [] (copy_text (take i.total buffer)))

-- a call's answer as a text, with so much room lent: the copy, or the line of a refusal
unfoldable pub answered_text : Answer ℕ → Text → Text
answered_text (accepted n) t = t
answered_text (refused n p) t = refused_text n p

unfoldable pub tidied_text : ℕ → Text → Text
tidied_text room t = answered_text (tidy_answer room t) (tidy t)
