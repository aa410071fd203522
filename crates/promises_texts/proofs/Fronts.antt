-- What a buffer keeps of an input is enough. Assumes nothing.
use Prim.Native.Nat.{ℕ, ◌^◌, ◌<◌}
use mathlib.Core.Path.{◌≡◌, refl, sym, ap, ◌∙◌}
use mathlib.Core.Bool.{Bool, true, false, cond}
use mathlib.Core.List.{List, [], ◌∷◌, ◌++◌, append-nil, append_assoc}
use native.Mathlib.Omega.{arith}
use borrow.Author.Tests.{ltb-true, ltb-false}
use lib.Dec.{ltb}
use lib.ListN.{length, take, length-append}
use lib.Seq.{take_all}
use Rattle.std.specs.Prelude.{Some}
use Rattle.rules.specs.Text.{Text}
use Rattle.station.specs.Station.{unless_failed, script_text}
use Rattle.station.specs.Reads.{at_start, after_read, kept, Reads}
use Rattle.station.specs.declared.input.Input.{Input}
use Rattle.station.proofs.Kept.{reads_on}
use Rattle.station.proofs.Script.{script_refuses_long}
use Rattle.station.proofs.ScriptInput.{RefusesLong, front_is_enough}
use Rattle.station.proofs.Front.{list_front_is_enough}
use Rattle.neartext.proofs.Told.{near_refuses_long}
use Rattle.mantext.proofs.Listed.{manual_refuses_long}
use Rattle.symtext.proofs.Told.{symbols_refuse_long}
use Rattle.whytext.specs.WhyLine.{why_text}
use Rattle.whytext.proofs.Told.{why_refuses_long}
use Rattle.tidytext.specs.Tidy.{copy_text, copy_input_text, answered_copy}
use Rattle.tidytext.proofs.Told.{refusal_long}
use Rattle.promises.proofs.Compared.{clash}
use Rattle.requests.specs.Branches.{checked}
use Rattle.requests.specs.Tidy.{tidy, tidy_answer, room_for}
use Rattle.station.proofs.ScriptInput.{checks_long}
use Rattle.branchtext.specs.BranchText.{script_under_text, why_under_text, long_text, under_input_text, tabled_input_text}
use Rattle.branchtext.proofs.TableInput.{Loads}
use Rattle.branchtext.proofs.Under.{script_loads, why_loads}
use Rattle.promises_texts.specs.Inputs.{joined, input_after, buffer_after, ChunksAreRead, SaysWhole, KeepsScript, PrintsWhole, ScriptFrontIsEnough, ListFrontIsEnough, SaysBoth, PrintsBoth, TableFrontIsEnough}

-- ---- chunks one after another
chunks_on : (cs : List Text) (t : Text) (i : Input) (buffer : List ℕ) → length (t ++ joined cs) < 2 ^ 64 → Reads t buffer i
    → Reads (t ++ joined cs) (buffer_after cs i buffer) (input_after cs i)
unfolding joined input_after buffer_after
chunks_on [] t i buffer h r = rw (append-nil t) r
chunks_on (c ∷ cs) t i buffer h r =
    let same = append_assoc t c (joined cs) in
    let long = length-append t (c ++ joined cs) in
    let more = length-append c (joined cs) in
    let next = reads_on.more t c buffer i (omega (arith, h, long, more)) r in
    rw same at (chunks_on cs (t ++ c) (after_read (Some (length c)) i) (kept i.total c buffer) (rw same h) next)

pub chunks_are_read : ChunksAreRead
unfolding ChunksAreRead
chunks_are_read cs buffer h = chunks_on cs [] at_start buffer h (reads_on.none buffer)

-- ---- what is printed
says : (i : Input) {a t : Text} → a ≡ unless_failed i t → SaysWhole i a t
unfolding unless_failed
says i {a} {t} e = record { failed = λ f. rw f at e; read = λ f. rw f at e }

-- ---- a script
whole : (f : Text → Text) → RefusesLong f → PrintsWhole f
unfolding PrintsWhole
whole f long i buffer t k r = says i (front_is_enough f long i buffer t k r)

copy_long : (t : Text) → 32768 < length t → copy_text t ≡ []
unfolding copy_text answered_copy tidy_answer
copy_long t h = rw (checks_long t (room_for 32768 (tidy t)) h) refl

copy_whole : (i : Input) (buffer : List ℕ) (t : Text) → KeepsScript i buffer → Reads t buffer i → copy_input_text i buffer ≡ unless_failed i (copy_text t)
unfolding copy_input_text unless_failed
copy_whole i buffer t k r = rw r.total (go i.failed refl (ltb 32768 (length t)) refl)
  where
    go : (g : Bool) → i.failed ≡ g → (b : Bool) → ltb 32768 (length t) ≡ b → cond g [] (cond b [] (copy_text (take (length t) buffer))) ≡ cond g [] (copy_text t)
    go true g b e = refl
    go false g true e = sym (copy_long t (ltb-true 32768 (length t) e))
    go false g false e =
        let short = ltb-false 32768 (length t) e in
        ap copy_text (sym (rw r.total at r.front) ∙ take_all (length buffer) t (omega (arith, short, k g (omega (arith, short, r.total)))))

pub script_front_is_enough : ScriptFrontIsEnough
script_front_is_enough =
    record {
      any = whole;
      list = whole script_text script_refuses_long;
      manual = λ base. whole _ (manual_refuses_long base);
      nearest = λ base a. whole _ (near_refuses_long base a);
      labels = λ base. whole _ (symbols_refuse_long base);
      verdicts = λ asked. whole _ (why_refuses_long asked);
      refusal = whole _ refusal_long;
      copy = λ i buffer t k r. says i (copy_whole i buffer t k r);
    }

-- ---- a list
pub moved_front_is_enough : ListFrontIsEnough
unfolding ListFrontIsEnough
moved_front_is_enough d i buffer t k r = says i (list_front_is_enough d i buffer t k r)

-- ---- a table and a script
module _ (f : Text → Text) (g : Text → Text → Text) (long : RefusesLong f) (loads : Loads g) (b : Input) (x : List ℕ) (t : Text) (i : Input) (y : List ℕ) (s : Text)
    (l : length x ≡ 97) (k : KeepsScript i y) (m : Reads t x b) (n : Reads s y i) where
  enough : g (take b.total x) s ≡ g t s
  enough = ap (λ (u : Text). g u s) (sym (rw l at m.front)) ∙ loads.front t s

  with_table : under_input_text g b x i y ≡ unless_failed b (unless_failed i (g t s))
  unfolding under_input_text unless_failed
  with_table = rw n.total (go b.failed i.failed refl (ltb 32768 (length s)) refl)
    where
      go : (p q : Bool) → i.failed ≡ q → (z : Bool) → ltb 32768 (length s) ≡ z
          → cond p [] (cond q [] (cond z (long_text (checked (take b.total x)) (length s)) (g (take b.total x) (take (length s) y)))) ≡ cond p [] (cond q [] (g t s))
      go true q e z h = refl
      go false true e z h = refl
      go false false e true h = sym (loads.long (take b.total x) s (ltb-true 32768 (length s) h)) ∙ enough
      go false false e false h =
          let short = ltb-false 32768 (length s) h in
          let same : take (length s) y ≡ s = sym (rw n.total at n.front) ∙ take_all (length y) s (omega (arith, short, k e (omega (arith, short, n.total)))) in
          ap (g (take b.total x)) same ∙ enough

  both : (lent : Bool) → SaysBoth lent b i (tabled_input_text lent f g b x i y) (f s) (g t s)
  unfolding tabled_input_text unless_failed
  both true =
      record {
        no_table = λ e. clash (ap (λ (z : Bool). cond z 0 1) e);
        table_failed = λ e h. (says b with_table).failed h;
        table_read = λ e h. says i ((says b with_table).read h);
      }
  both false =
      record {
        no_table = λ e. says i (front_is_enough f long i y s k n);
        table_failed = λ e h. clash (ap (λ (z : Bool). cond z 1 0) e);
        table_read = λ e h. clash (ap (λ (z : Bool). cond z 1 0) e);
      }

pub table_front_is_enough : TableFrontIsEnough
unfolding PrintsBoth
table_front_is_enough =
    record {
      list = λ lent b x t i y s l k m n. both script_text script_under_text script_refuses_long script_loads b x t i y s l k m n lent;
      verdicts = λ asked lent b x t i y s l k m n. both (why_text asked) (why_under_text asked) (why_refuses_long asked) (why_loads asked) b x t i y s l k m n lent;
    }
