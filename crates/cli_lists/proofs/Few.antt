-- No list has more than 12,288 places; and a script over the limit is refused by its length, after its branch table. Assumes nothing.
use Rattle.std.proofs.Common.{◌≡◌, ◌<◌, ℕ, length, take, arith, sym, ◌∙◌}
use Rattle.rules.specs.Text.{Text}
use Rattle.rules.specs.Line.{size}
use Rattle.rules.specs.Encode.{encode_by}
use Rattle.rules.specs.Answer.{Answer, accepted, refused, and_then}
use Rattle.rules.specs.Assemble.{assemble, assemble_by, pass_at_by}
use Rattle.requests.specs.Branches.{assemble_under, checked, under, loaded, rows, names_with}
use Rattle.requests.specs.ManualAssemble.{assemble_manual}
use Rattle.promises.specs.Lawful.{RulesAreLawful}
use Rattle.promises.specs.Longest.{AtMostALine, AtMostTwoALine}
use Rattle.promises.specs.ManualCall.{AtMostThree}
use Rattle.promises.proofs.Lawful.{rules_are_lawful}
use Rattle.promises.proofs.Longest.{at_most_a_line, at_most_two_a_line}
use Rattle.promises.proofs.ManualMovedLists.{at_most_three}
use Rattle.promises.proofs.BranchCalls.{front_is_enough}
use Rattle.branchtext.proofs.Under.{accepted_by}
use Rattle.station.proofs.ScriptInput.{checks_long}
use Rattle.cli_lists.specs.Listed.{Few, list_by}
use Rattle.cli_lists.specs.declared.call.Call.{Call}
use Rattle.cli_lists.specs.declared.call.Call.TheVariants as By

pub plain_few : (base : ℕ) (s : Text) → Few (assemble base s)
unfolding AtMostTwoALine
plain_few base s l e = omega (arith, (at_most_two_a_line s base l e).1)

pub under_few : (t : Text) (base : ℕ) (s : Text) → Few (assemble_under t base s)
unfolding AtMostALine RulesAreLawful
under_few t base s l e =
    let c = accepted_by t (λ names. assemble_by size (encode_by names) base s) l e in
    let h = at_most_a_line size (encode_by c.0) 2 (rules_are_lawful c.0) s base l c.1 in
    omega (arith, h.0, h.1)

pub manual_few : (base : ℕ) (s : Text) → Few (assemble_manual base s)
unfolding AtMostThree
manual_few base s l e = omega (arith, (at_most_three s base l e).1)

pub few_by : (call : Call) (s : Text) → Few (list_by call s)
few_by (By.Plain base) s = plain_few base s
few_by (By.Under names base) s = under_few names.now base s
few_by (By.Manual base) s = manual_few base s

-- 97 bytes of a table are enough
pub table_front : (t : Text) (base : ℕ) (s : Text) → assemble_under (take 97 t) base s ≡ assemble_under t base s
table_front t base s = (front_is_enough t).list base s

-- ---- a script over the limit
module _ (base total : ℕ) (s : Text) (e : total ≡ length s) (h : 32768 < length s) where
  pub plain_long : assemble base s ≡ refused 1 total
  unfolding assemble_by pass_at_by and_then
  plain_long = rw (e, checks_long s _ h)

  pub manual_long : assemble_manual base s ≡ refused 1 total
  unfolding assemble_manual pass_at_by and_then
  manual_long = rw (e, checks_long s _ h)

module _ (t : Text) (base : ℕ) (s : Text) where
  under_table : (r : Answer ℕ) → checked t ≡ r → assemble_under t base s ≡ and_then (and_then r (λ n. accepted (rows t))) (λ rs. assemble_by size (encode_by (names_with rs)) base s)
  unfolding under loaded
  under_table r e = rw e

  pub under_refused : {n p : ℕ} → refused n p ≡ checked t → assemble_under t base s ≡ refused n p
  unfolding and_then
  under_refused {n} {p} e = under_table (refused n p) (sym e)

  pub under_long : {n : ℕ} → accepted n ≡ checked t → (total : ℕ) → total ≡ length s → 32768 < length s → assemble_under t base s ≡ refused 1 total
  unfolding and_then assemble_by pass_at_by
  under_long {n} e total f h = under_table (accepted n) (sym e) ∙ rw (f, checks_long s _ h)
