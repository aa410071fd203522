-- The commands make the texts that the station's programs print. Assumes nothing.
use Rattle.std.specs.Prelude.{ℕ, ◌≡◌, ℤ, [], false, None, Some}
use Rattle.rules.specs.Text.{Text}
use Rattle.listing.specs.Listing.{refused_text}
use Rattle.station.specs.Station.{script_text, moved_text, wrong_line_text}
use Rattle.mantext.specs.Manlist.{manual_text}
use Rattle.branchtext.specs.BranchText.{list_under_text}
use Rattle.cli_error.specs.Fault.{Fault, refused, no_list, no_sheet, failed, misused}
use Rattle.cli_error.specs.Answered.{Made, made, fails}
use Rattle.cli_run.specs.Input.{Named}
use Rattle.cli_lists.specs.Assembled.{assembled, assembled_manual}
use Rattle.cli_lists.specs.Moved.{moved}

-- what such a program prints, which prints a refusal too
abbrev pub printed_fault : Fault → Text
printed_fault (refused name n p s) = refused_text n p
printed_fault (no_list name line) = wrong_line_text line
printed_fault (no_sheet name line) = []
printed_fault (failed what name reason) = []
printed_fault (misused command wrong) = []

abbrev pub printed : Made → Text
printed (made s) = s
printed (fails f) = printed_fault f

pub record SameTexts : Type 0 where
  pub asmlist : (b : Named) → printed (assembled false 0 None b) ≡ script_text b.text
  pub asmlist_under : (t b : Named) (base : ℕ) → printed (assembled false base (Some t) b) ≡ list_under_text t.text base b.text
  pub manlist : (base : ℕ) (b : Named) → printed (assembled_manual base b) ≡ manual_text base b.text
  pub movelist : (d : ℤ) (b : Named) → printed (moved d b) ≡ moved_text d b.text
