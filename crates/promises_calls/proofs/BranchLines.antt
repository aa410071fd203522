-- Of each of the eleven there is a line whose word says its condition, by a label and by a number. Assumes nothing.
use Rattle.rules.specs.Option.{bind}
use mathlib.Core.Path.{◌≡◌, refl}
use mathlib.Core.List.{[], ◌∷◌}
use native.Mathlib.Omega.{arith}
use lib.IntN.{pos, negsuc}
use Rattle.std.specs.Prelude.{ℕ, true, Option, None, Some}
use Rattle.rules.specs.Text.{Text, bytes, blank, upper, uppers, leading, trim_start, keep_end, trim_end, trim, on_first, cut_where, cut_at, drop_empty, pieces, join_more, joined, in_front, first_cut, same, starts, contains, after, nth, first_text, other_texts, last_text}
use Rattle.rules.specs.Number.{digit_value, read, digits, some_digits, ranged, within, without, signed_reading}
use Rattle.rules.specs.Encode.{written_reading}
use Rattle.rules.specs.Line.{Instruction, instruction, numbered, lines_of, operands_of, instruction_of, is_data, rest_line, after_label, label_line, trimmed_line, line_of, is_l, is_plain, is_long, instruction_size, size}
use Rattle.rules.specs.Label.{find, recorded, has_room, record_all}
use Rattle.rules.specs.Answer.{accepted, refuse_if, refuse_at, and_then}
use Rattle.rules.specs.Assemble.{Pass, address_after, is_end, leaving, step_by, putting, first_pass_by, first_high, checks, pass_at_by, pass_at}
use Rattle.manual.specs.Manual.{Condition, T, CC, CS, NE, EQ, PL, MI, GE, LT, GT, LE}
use Rattle.promises.specs.Refusals.{IsLine, start}
use Rattle.promises.specs.Nearest.{FoundIsLast, RecordedAtBy}
use Rattle.promises.specs.Readings.{Means, MeansWritten, Signed}
use Rattle.promises.specs.ManualWritten.{branch_named}
use Rattle.promises.specs.Lands.{back, back_said}
use Rattle.promises.proofs.Compared.{clash}
use Rattle.promises.proofs.Records.{found_is_last}
use Rattle.promises.proofs.LandsExamples.{every_branch_is_asked}
use Rattle.promises.proofs.Readings.{readings_mean}
use Rattle.promises_calls.specs.BranchWords.{BranchLine, as_label, signed_operand}
use Rattle.promises_calls.specs.BranchLines.{ahead, ahead_said, EveryBranchSays}

-- by the label, 2 bytes back
by_label : (c : Condition) → BranchLine 0 (back c) 0 0 (back_said c) (negsuc 1)
by_label c =
    let m = every_branch_is_asked.rules c in
    let a = m.1 in
    record {
      names = a.names;
      reached = a.reached;
      line = a.line;
      is = a.is;
      asks = a.asks;
      first = bytes "X";
      others = [];
      operands = refl;
      displaces = as_label a.last a.leads (omega arith);
    }

-- what the first pass comes to for a script of one line without a label
abbrev bare_line : Instruction → Pass
bare_line i = record { labels = []; puts = record { address = 0; task = instruction i } ∷ [] }

record Read (s : Text) (i : Instruction) : Type 0 where
  line : IsLine s 0 s
  asks : (line_of s).task ≡ instruction i
  rules : pass_at 0 s ≡ accepted (bare_line i)

is_read : (c : Condition) → Read (ahead c) (ahead_said c)
unfolding bind bytes blank upper uppers leading trim_start keep_end trim_end trim on_first cut_where cut_at drop_empty pieces join_more joined in_front first_cut same starts contains after nth first_text other_texts last_text digit_value operands_of instruction_of is_data rest_line after_label label_line trimmed_line line_of numbered lines_of is_l is_plain is_long instruction_size size find recorded has_room record_all refuse_if refuse_at and_then address_after is_end leaving step_by putting first_pass_by first_high checks pass_at_by branch_named
is_read T = record { line = refl; asks = refl; rules = refl }
is_read CC = record { line = refl; asks = refl; rules = refl }
is_read CS = record { line = refl; asks = refl; rules = refl }
is_read NE = record { line = refl; asks = refl; rules = refl }
is_read EQ = record { line = refl; asks = refl; rules = refl }
is_read PL = record { line = refl; asks = refl; rules = refl }
is_read MI = record { line = refl; asks = refl; rules = refl }
is_read GE = record { line = refl; asks = refl; rules = refl }
is_read LT = record { line = refl; asks = refl; rules = refl }
is_read GT = record { line = refl; asks = refl; rules = refl }
is_read LE = record { line = refl; asks = refl; rules = refl }

no_label : (s : Text) (i : Instruction) → pass_at 0 s ≡ accepted (bare_line i) → {o : Text} {t : ℕ} → RecordedAtBy size 0 s o t → ⊥
unfolding FoundIsLast find
no_label s i h {o} {t} r = let e : ◌≡◌ {A = Option ℕ} None (Some t) = (found_is_last size 0 s (bare_line i) h o t).1 r in clash cc

five : MeansWritten (Means true (Signed 128) 10) (bytes "+5") (Some (read (pos 5)))
unfolding bytes starts written_reading signed_reading digits some_digits ranged within without digit_value
five = (readings_mean.of_branches (bytes "+5") (Some (read (pos 5)))).0 refl

by_number : (c : Condition) → BranchLine 0 (ahead c) 0 0 (ahead_said c) (pos 5)
by_number c =
    let k = is_read c in
    record {
      names = [];
      reached = start;
      line = ahead c;
      is = k.line;
      asks = k.asks;
      first = bytes "+5";
      others = [];
      operands = refl;
      displaces = signed_operand (λ t e r l n. no_label (ahead c) (ahead_said c) k.rules r) five;
    }

pub every_branch_says : EveryBranchSays
every_branch_says =
    record {
      by_label = λ c. (by_label c, record { condition = c; named = refl; number = refl });
      by_number = λ c. (by_number c, record { condition = c; named = refl; number = refl });
    }
