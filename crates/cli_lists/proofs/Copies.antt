-- The tidy copy in an array of its script's length. Assumes nothing.
use Rattle.std.proofs.Common.{◌≡◌, ◌<◌, ℕ, length, take, false, ltb, ltb-false, le-ltb, arith, sym, ap, ◌∙◌}
use Rattle.rules.specs.Text.{Text, cut_at}
use Rattle.rules.specs.Limits.{max_source, max_lines}
use Rattle.rules.specs.Answer.{accepted, refused, refuse_if}
use Rattle.rules.specs.Assemble.{checks}
use Rattle.requests.specs.Tidy.{tidy, room_for, tidy_answer, tidy_slice}
use Rattle.promises.specs.Tidy.{CopyIsShort}
use Rattle.promises.proofs.Accepted.{checks_passed}
use Rattle.tidylaws.proofs.Short.{copy_is_short}
use Rattle.tidylaws.proofs.Call.{tidy_writes}
use Rattle.source.specs.Clear.{Clear}
use Rattle.source.proofs.Callers.{checks_clear, stopped}
use Rattle.station.proofs.ScriptInput.{checks_long}
use Rattle.cli_lists.specs.Tidied.{tidied}

module _ (s out : Text) (l : length out ≡ length s) where
  has_room : tidy_answer (length out) s ≡ checks s (accepted (length (tidy s)))
  unfolding tidy_answer room_for refuse_if CopyIsShort
  has_room = let e : ltb (length out) (length (tidy s)) ≡ false = le-ltb (length out) (length (tidy s)) (omega (arith, copy_is_short s)) in rw e

  pub copy_refused : {n p : ℕ} → refused n p ≡ tidy_answer (length out) s → tidied s ≡ refused n p
  unfolding tidied
  copy_refused {n} {p} e = sym (stopped s (length (tidy s)) n p (e ∙ has_room) (accepted (tidy s)))

  pub copied : {n : ℕ} → accepted n ≡ tidy_answer (length out) s → tidied s ≡ accepted (take n (tidy_slice s out))
  unfolding tidied
  copied {n} e =
      let through = (checks_passed s (accepted (length (tidy s))) n (sym has_room ∙ sym e)).0 in
      let clear : Clear s = record {
        short = ltb-false max_source (length s) through.size;
        ascii = through.ascii;
        few = ltb-false max_lines (length (cut_at 10 s)) through.lines;
      } in
      checks_clear s clear (accepted (tidy s)) ∙ ap accepted (sym (tidy_writes.copied s out n (sym e)).1)

pub copy_long : (s : Text) → 32768 < length s → (total : ℕ) → total ≡ length s → tidied s ≡ refused 1 total
unfolding tidied
copy_long s h total e = rw (e, checks_long s (accepted (tidy s)) h)
