-- What a call makes of the texts that it read: a text, or why there is none. Assumes nothing.
use Rattle.std.specs.Prelude.{ℕ, ◌||◌, cond, eqb}
use Rattle.rules.specs.Text.{Text}
use Rattle.rules.specs.Answer.{Answer, accepted, refused}
use Rattle.answer.specs.Refusal.{number_of, place_of}
use Rattle.outcome.specs.declared.Which.{Which}
use Rattle.outcome.specs.declared.Which.TheVariants.{Input, Table}
use Rattle.outcome.specs.declared.Stop.{Stop}
use Rattle.outcome.specs.declared.Stop.TheVariants.{Refused, NotAList, NotASheet}

-- the text; a refusal of a file with its number and place; the first line that no list has, or no sheet
pub data Made : Type 0 where
  made : Text → Made
  refuses : Which → ℕ → ℕ → Made
  no_list : ℕ → Made
  no_sheet : ℕ → Made

-- 16 and 17 are of the branch table, all others of the input
unfoldable pub of_which : ℕ → Which
of_which n = cond (eqb n 16 || eqb n 17) Table Input

-- an answer whose refusals are all of one file, and a text for what is accepted
abbrev pub told_of : {A : Type 0} → Which → (A → Text) → Answer A → Made
told_of w f (accepted a) = made (f a)
told_of w f (refused n p) = refuses w n p

-- an answer to an input, and a branch table if one is lent
abbrev pub told : {A : Type 0} → (A → Text) → Answer A → Made
told f (accepted a) = made (f a)
told f (refused n p) = refuses (of_which n) n p

-- an answer that is a text already
abbrev pub told_text : Answer Text → Made
told_text a = told (λ s. s) a

-- why there is no text, as it is told
abbrev pub stopped : Stop → Made
stopped (Refused w e) = refuses w (number_of e) (place_of e)
stopped (NotAList n) = no_list n
stopped (NotASheet n) = no_sheet n
