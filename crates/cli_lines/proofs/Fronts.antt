-- What is kept of a table and a script is enough. Assumes nothing.
use Rattle.std.proofs.Common.{ℕ, ◌≡◌, ◌<◌, ◌≤◌, List, [], ◌∷◌, length, take, refl, sym, ap, ◌∙◌}
use Rattle.std.specs.Prelude.{Option, None, Some, Result, Ok, Err, IfOk}
use Rattle.rules.specs.Text.{Text}
use Rattle.rules.specs.Answer.{Answer, accepted, refused, and_then}
use Rattle.rules.specs.Encode.{Mnemonic, mnemonics}
use Rattle.rules.specs.Assemble.{pass_at_by}
use Rattle.requests.specs.Branches.{checked, loaded, names_with, under}
use Rattle.answer.specs.declared.Refusal.{Refusal}
use Rattle.station.specs.Puts.{Puts}
use Rattle.requests.specs.Explain.{explain_all_by, explain_by}
use Rattle.requests.specs.Explain.{Verdict as Said}
use Rattle.promises.specs.Branches.{FrontOfATable}
use Rattle.promises.proofs.BranchFront.{front_of_a_table}
use Rattle.station.proofs.ScriptInput.{checks_long}
use Rattle.printout.specs.Printout.{printout_by, printout_of}
use Rattle.cli_run.specs.Input.{Named}
use Rattle.cli_lines.specs.Lines.{by_names, table_text, table_front, long_answer, answer_map, verdicts_on}

-- ---- a script over the limit: what is reported goes by the table first
pub long_accepted : (t : Text) (m n : ℕ) → accepted n ≡ checked t → long_answer (Some t) m ≡ refused 1 m
unfolding by_names under loaded and_then
long_accepted t m n h = rw (← h) refl

pub long_refused : (t : Text) (m n p : ℕ) → refused n p ≡ checked t → long_answer (Some t) m ≡ refused n p
unfolding by_names under loaded and_then
long_refused t m n p h = rw (← h) refl

pub long_alone : (m : ℕ) → long_answer None m ≡ refused 1 m
unfolding by_names
long_alone m = refl

-- what g is made of a table and a script goes by the table before it looks at a script over the limit, and 97 bytes of the table are enough for it
pub record Loads {A : Type 0} (g : Option Text → Text → Answer A) : Type 0 where
  pub long : (o : Option Text) (s : Text) → 32768 < length s → (n p : ℕ) → long_answer o (length s) ≡ refused n p → g o s ≡ refused n p
  pub front : (t s : Text) → g (Some (take 97 t)) s ≡ g (Some t) s

abbrev no : (B : Type 0) → ℕ → ℕ → Answer B
no B n p = refused n p

same_refusal : (B : Type 0) (m q n p : ℕ) → no Text m q ≡ no Text n p → no B m q ≡ no B n p
same_refusal B m q n p e = let a : m ≡ n = cc in let b : q ≡ p = cc in rw (a, b) refl

-- a call that refuses a long script, whatever the names
module _ {A B : Type 0} (f : A → B) (call : List Mnemonic → Answer A) (m : ℕ) (l : (names : List Mnemonic) → call names ≡ refused 1 m) where
  long_by : (o : Option Text) (n p : ℕ) → long_answer o m ≡ refused n p → answer_map f (by_names o call) ≡ refused n p
  unfolding by_names under and_then
  long_by None n p e = ap (answer_map f) (l mnemonics) ∙ same_refusal B 1 m n p e
  long_by (Some t) n p e = go (loaded t) e
    where
      go : (x : Answer (List Mnemonic)) → and_then {B = Text} x (λ rs. refused 1 m) ≡ refused n p → answer_map f (and_then x (λ rs. call (names_with rs))) ≡ refused n p
      go (accepted rs) q = ap (answer_map f) (l (names_with rs)) ∙ same_refusal B 1 m n p q
      go (refused a b) q = same_refusal B a b n p q

same : {A : Type 0} (a : Answer A) → answer_map (λ x. x) a ≡ a
same (accepted t) = refl
same (refused n p) = refl

explains_long : (names : List Mnemonic) (base : ℕ) (s : Text) → 32768 < length s → explain_all_by names base s ≡ refused 1 (length s)
unfolding explain_all_by pass_at_by and_then
explains_long names base s h = rw (checks_long s _ h) refl

explain_long : (names : List Mnemonic) (base k : ℕ) (s : Text) → 32768 < length s → explain_by names base s k ≡ refused 1 (length s)
unfolding explain_by and_then
explain_long names base k s h = rw (explains_long names base s h) refl

print_long : (names : List Mnemonic) (base : ℕ) (s : Text) → 32768 < length s → printout_by names base s ≡ refused 1 (length s)
unfolding printout_by pass_at_by and_then
print_long names base s h = rw (checks_long s _ h) refl

-- 97 bytes of a table are enough
front_by : {A : Type 0} (t : Text) (call : List Mnemonic → Answer A) → by_names (Some (take 97 t)) call ≡ by_names (Some t) call
unfolding by_names under FrontOfATable
front_by t call = ap (λ (r : Answer (List Mnemonic)). and_then r (λ ns. call (names_with ns))) (front_of_a_table t)

pub verdicts_load : (line : Option ℕ) (base : ℕ) → Loads (verdicts_on line base)
unfolding verdicts_on
verdicts_load None base =
    record {
      long = λ o s h n p e.
          let call : List Mnemonic → Answer (List Said) = λ names. explain_all_by names base s in
          sym (same (by_names o call)) ∙ long_by (λ x. x) call (length s) (λ names. explains_long names base s h) o n p e;
      front = λ t s. front_by t (λ names. explain_all_by names base s);
    }
verdicts_load (Some k) base =
    record {
      long = λ o s h n p e. long_by (λ v. v ∷ []) (λ names. explain_by names base s k) (length s) (λ names. explain_long names base k s h) o n p e;
      front = λ t s. ap (answer_map _) (front_by t (λ names. explain_by names base s k));
    }

print_by : (o : Option Text) (base : ℕ) (s : Text) → printout_of o base s ≡ by_names o (λ names. printout_by names base s)
unfolding printout_of by_names
print_by None base s = refl
print_by (Some t) base s = refl

pub pages_load : (base : ℕ) → Loads (λ o s. printout_of o base s)
pages_load base =
    record {
      long = λ o s h n p e.
          let call : List Mnemonic → Answer Text = λ names. printout_by names base s in
          print_by o base s ∙ sym (same (by_names o call)) ∙ long_by (λ x. x) call (length s) (λ names. print_long names base s h) o n p e;
      front = λ t s. print_by (Some (take 97 t)) base s ∙ front_by t (λ names. printout_by names base s) ∙ sym (print_by (Some t) base s);
    }

-- ---- a table t of which o is kept
module _ {A : Type 0} (g : Option Text → Text → Answer A) (loads : Loads g) (t : Option Named) (o : Option Text) (e : o ≡ table_front t) where
  front_enough : (s : Text) → g o s ≡ g (table_text t) s
  front_enough s = rw e (go t)
    where
      go : (u : Option Named) → g (table_front u) s ≡ g (table_text u) s
      go None = refl
      go (Some n) = loads.front n.text s

  -- and a script that is kept whole, or is too long
  pub both_read : (x s : Text) → x ≡ s → g o x ≡ g (table_text t) s
  both_read x s f = ap (g o) f ∙ front_enough s

  pub too_long : (s : Text) (m : ℕ) → m ≡ length s → 32768 < length s → (n p : ℕ) → long_answer o m ≡ refused n p → g (table_text t) s ≡ refused n p
  too_long s m l h n p r = sym (front_enough s) ∙ loads.long o s h n p (rw l at r)

pub put_within : (a : Answer Text) (r : Result ℕ Refusal) (x y : List ℕ) → Puts a r x y → IfOk r (λ n. n ≤ length y)
put_within a (Ok n) x y h = h.2.within
put_within a (Err e) x y h = tt
