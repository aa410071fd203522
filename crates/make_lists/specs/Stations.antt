-- The commands make the texts that the station's programs print. Assumes nothing.
use Rattle.std.specs.Prelude.{ℕ, ◌≡◌, ℤ, []}
use Rattle.rules.specs.Text.{Text}
use Rattle.rules.specs.Assemble.{assemble}
use Rattle.requests.specs.Branches.{assemble_under}
use Rattle.requests.specs.ManualAssemble.{assemble_manual}
use Rattle.listing.specs.Listing.{list_text, refused_text}
use Rattle.station.specs.Station.{script_text, moved_text, wrong_line_text}
use Rattle.mantext.specs.Manlist.{manual_text}
use Rattle.branchtext.specs.BranchText.{list_under_text}
use Rattle.outcome.specs.Made.{Made, made, refuses, no_list, no_sheet, told}
use Rattle.make_lists.specs.Moved.{moved}

-- what such a program prints, which prints a refusal too
abbrev pub printed : Made → Text
printed (made s) = s
printed (refuses w n p) = refused_text n p
printed (no_list n) = wrong_line_text n
printed (no_sheet n) = []

pub record SameTexts : Type 0 where
  pub asmlist : (s : Text) → printed (told (λ l. list_text l) (assemble 0 s)) ≡ script_text s
  pub asmlist_under : (t : Text) (base : ℕ) (s : Text) → printed (told (λ l. list_text l) (assemble_under t base s)) ≡ list_under_text t base s
  pub manlist : (base : ℕ) (s : Text) → printed (told (λ l. list_text l) (assemble_manual base s)) ≡ manual_text base s
  pub movelist : (d : ℤ) (t : Text) → printed (moved d t) ≡ moved_text d t
