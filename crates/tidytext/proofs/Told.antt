-- From the call's answer to what is printed and said; and an input that is a script, by where its reader stands. Assumes nothing.
use Prim.Native.Nat.{ℕ, ◌+◌, ◌-◌, ◌<◌, ◌≤◌, min}
use mathlib.Core.Path.{◌≡◌, refl, sym, ap, ◌∙◌}
use mathlib.Core.Bool.{Bool, true, false, false≢true, cond}
use mathlib.Core.List.{List, [], ◌++◌, append_assoc}
use native.Mathlib.Nat.{min-eq_left, min-eq_right}
use native.Mathlib.Omega.{arith}
use borrow.Author.Tests.{lt-ltb, le-ltb, ltb-true, ltb-false}
use lib.Dec.{ltb}
use lib.ListN.{length, take, drop, take-append-drop}
use lib.Seq.{take_all, drop-drop, length-take-le}
use Rattle.std.proofs.lemmas.List.{drop-take}
use Rattle.rules.specs.Text.{Text}
use Rattle.rules.specs.Answer.{Answer, accepted, refused, refuse_if}
use Rattle.rules.specs.Assemble.{checks, over}
use Rattle.requests.specs.Tidy.{tidy, room_for, tidy_answer, write_copy, tidy_slice}
use Rattle.promises.specs.Tidy.{CopyIsShort}
use Rattle.promises.proofs.Accepted.{not_refused, checks_passed}
use Rattle.tidylaws.proofs.Short.{copy_is_short}
use Rattle.tidylaws.proofs.Call.{tidy_writes}
use Rattle.std.specs.Prelude.{Result, Ok, Err}
use Rattle.std.specs.Result.{result_unwrap_or}
use Rattle.answer.specs.declared.Refusal.{Refusal}
use Rattle.answer.specs.Refusal.{number_of, place_of, answer_of}
use Rattle.source.specs.Clear.{Clear}
use Rattle.source.proofs.Callers.{checks_clear, stopped}
use Rattle.listing.specs.Listing.{refused_text}
use Rattle.station.specs.Station.{unless_failed}
use Rattle.station.specs.Printed.{Printed}
use Rattle.station.specs.Reads.{Reads}
use Rattle.station.specs.declared.input.Input.{Input}
use Rattle.station.proofs.Printed.{printed, printed_none}
use Rattle.station.proofs.ScriptInput.{RefusesLong, checks_long}
use Rattle.tidytext.specs.Tidy.{answered_copy, answered_refusal, copy_text, refusal_text, copy_input_text, answered_text, tidied_text}

-- ---- `write_copy`
module _ (s out : Text) (l : length out ≡ 32768) {last : Text} (g : last ≡ tidy_slice s out) where
  pub copy_printed : (r : Result ℕ Refusal) → answer_of r ≡ tidy_answer (length out) s → Printed (copy_text s) (result_unwrap_or r 0) out last
  unfolding copy_text answered_copy tidy_slice write_copy
  copy_printed (Ok n) e =
      let b : tidy_answer 32768 s ≡ accepted n = rw (← l) (sym e) in
      rw (sym (ap (λ (k : ℕ). tidy_answer k s) l) ∙ sym e) (printed (tidy s) n out last (tidy_writes.copied s out n (sym e)).0 (g ∙ rw (sym e)))
  copy_printed (Err f) e =
      let b : tidy_answer 32768 s ≡ refused (number_of f) (place_of f) = rw (← l) (sym e) in
      let same : last ≡ out = g ∙ tidy_writes.refusal s out (number_of f) (place_of f) (sym e) in
      rw (b, same) (printed_none out)

-- ---- `write_checked`
pub refusal_none : (s : Text) → Clear s → refusal_text s ≡ []
unfolding refusal_text answered_refusal tidy_answer room_for refuse_if CopyIsShort
refusal_none s c = rw (checks_clear s c (room_for 32768 (tidy s)), le-ltb 32768 (length (tidy s)) (omega (arith, c.short, copy_is_short s)))

pub refusal_told : (s : Text) (n p k : ℕ) → refused n p ≡ checks s (accepted k) → refused_text n p ≡ refusal_text s
unfolding refusal_text answered_refusal tidy_answer
refusal_told s n p k e = rw (← (stopped s k n p e (room_for 32768 (tidy s))))

pub refusal_long : RefusesLong refusal_text
unfolding refusal_text answered_refusal tidy_answer
refusal_long t h = rw (checks_long t (room_for 32768 (tidy t)) h)

-- ---- `copy_text`
copy_long : (t : Text) → 32768 < length t → copy_text t ≡ []
unfolding copy_text answered_copy tidy_answer
copy_long t h = rw (checks_long t (room_for 32768 (tidy t)) h)

module _ (i : Input) (buffer : List ℕ) where
  -- 32,768 bytes of a script are enough to print what the whole comes to
  copy_front : (t : Text) → (i.failed ≡ false → i.total ≤ 32768 → 32768 ≤ length buffer) → Reads t buffer i → copy_input_text i buffer ≡ unless_failed i (copy_text t)
  unfolding copy_input_text unless_failed
  copy_front t k r = rw r.total (go i.failed refl (ltb 32768 (length t)) refl)
    where
      go : (g : Bool) → i.failed ≡ g → (b : Bool) → ltb 32768 (length t) ≡ b
          → cond g [] (cond b [] (copy_text (take (length t) buffer))) ≡ cond g [] (copy_text t)
      go true g b e = refl
      go false g true e = sym (copy_long t (ltb-true 32768 (length t) e))
      go false g false e =
          let short = ltb-false 32768 (length t) e in
          ap copy_text (sym (rw r.total at r.front) ∙ take_all (length buffer) t (omega (arith, short, k g (omega (arith, short, r.total)))))

  abbrev Owed : ℕ → List ℕ → List ℕ → Type 0
  Owed r x y = Printed (copy_input_text i buffer) r x y × ((t : Text) → Reads t buffer i → copy_input_text i buffer ≡ unless_failed i (copy_text t))

  pub copy_failed : i.failed ≡ true → (x : List ℕ) → Owed 0 x x
  unfolding copy_input_text unless_failed
  copy_failed e x = (rw e (printed_none x), λ t r. copy_front t (λ g h. absurd (false≢true (sym g ∙ e))) r)

  pub copy_over : i.failed ≡ false → 32768 < i.total → (x : List ℕ) → Owed 0 x x
  unfolding copy_input_text unless_failed
  copy_over e h x = (rw (e, lt-ltb 32768 i.total h) (printed_none x), λ t r. copy_front t (λ g k. absurd (omega arith)) r)

  pub copy_read : i.failed ≡ false → i.total ≤ 32768 → 32768 ≤ length buffer → {r : ℕ} {x y : List ℕ} → Printed (copy_text (take i.total buffer)) r x y → Owed r x y
  unfolding copy_input_text unless_failed
  copy_read e h l p = (rw (e, le-ltb 32768 i.total h) p, λ t r. copy_front t (λ g k. l) r)

-- ---- `write_tidied`: no copy wants more room than the array has
room_capped : (room : ℕ) (s : Text) → length s ≤ 32768 → room_for (min room 32768) (tidy s) ≡ room_for room (tidy s)
unfolding room_for CopyIsShort
room_capped room s h = go (ltb room 32768) refl
  where
    go : (y : Bool) → ltb room 32768 ≡ y → room_for (min room 32768) (tidy s) ≡ room_for room (tidy s)
    go true e = let k : room ≤ 32768 = omega (arith, ltb-true room 32768 e) in rw (min-eq_left k)
    go false e =
        let k = ltb-false room 32768 e in
        let short = copy_is_short s in
        rw (min-eq_right k, le-ltb 32768 (length (tidy s)) (omega arith), le-ltb room (length (tidy s)) (omega arith))

capped : (room : ℕ) (s : Text) → tidy_answer (min room 32768) s ≡ tidy_answer room s
unfolding tidy_answer
capped room s = go (ltb 32768 (length s)) refl
  where
    go : (y : Bool) → ltb 32768 (length s) ≡ y → checks s (room_for (min room 32768) (tidy s)) ≡ checks s (room_for room (tidy s))
    go true e = let k = ltb-true 32768 (length s) e in checks_long s (room_for (min room 32768) (tidy s)) k ∙ sym (checks_long s (room_for room (tidy s)) k)
    go false e = ap (checks s) (room_capped room s (ltb-false 32768 (length s) e))

-- a text over a part is over the whole
rest_of_part : (m j : ℕ) (l : Text) → drop m (take (m + j) l) ++ drop (m + j) l ≡ drop m l
rest_of_part m j l = rw (drop-take m j l, ← (drop-drop j m l)) (take-append-drop j (drop m l))

over_part : (t l : Text) (k : ℕ) → length t ≤ k → over t (take k l) ++ drop k l ≡ over t l
unfolding over
over_part t l k h =
    let e : length t + (k - length t) ≡ k = omega arith in
    append_assoc t (drop (length t) (take k l)) (drop k l) ∙ ap (λ (x : Text). t ++ x) (rw e at (rest_of_part (length t) (k - length t) l))

-- the first k bytes of the array are lent, and are z after the call
module _ (room k : ℕ) (s out z : Text) {r : Answer ℕ} (g : r ≡ tidy_answer (length (take k out)) s) (f : z ≡ tidy_slice s (take k out))
    (m : k ≡ min room 32768) (h : k ≤ length out) where
  lent : length (take k out) ≡ k
  lent = length-take-le k out h

  answer_is : r ≡ tidy_answer room s
  answer_is = g ∙ ap (λ (n : ℕ). tidy_answer n s) (lent ∙ m) ∙ capped room s

  pub tidied_refused : (n p : ℕ) → r ≡ refused n p → {q : ℕ} {last : Text} → Printed (refused_text n p) q (z ++ drop k out) last → Printed (tidied_text room s) q out last
  unfolding tidied_text answered_text
  tidied_refused n p e {q} {last} w =
      let same : z ++ drop k out ≡ out = ap (λ (x : Text). x ++ drop k out) (f ∙ tidy_writes.refusal s (take k out) n p (sym g ∙ e)) ∙ take-append-drop k out in
      rw (sym answer_is ∙ e) (rw same at w)

  -- accepted
  module _ (n : ℕ) (e : r ≡ accepted n) where
    accepts : tidy_answer (length (take k out)) s ≡ accepted n
    accepts = sym g ∙ e

    after_is : z ≡ over (tidy s) (take k out)
    unfolding tidy_slice write_copy
    after_is = f ∙ rw accepts

    fits : length (tidy s) ≤ k
    unfolding tidy_answer room_for
    fits = omega (arith, lent, ltb-false (length (take k out)) (length (tidy s)) (not_refused _ _ _ _ n (checks_passed s _ n accepts).1).0)

    pub tidied_printed : Printed (tidied_text room s) n out (z ++ drop k out)
    unfolding tidied_text answered_text
    tidied_printed =
        rw (sym answer_is ∙ e)
        (printed (tidy s) n out (z ++ drop k out) (tidy_writes.copied s (take k out) n accepts).0 (ap (λ (x : Text). x ++ drop k out) after_is ∙ over_part (tidy s) out k fits))
