-- What is kept of a table and a script is enough. Assumes nothing.
use Rattle.std.proofs.Common.{ℕ, ◌≡◌, ◌<◌, ◌≤◌, min, Bool, true, false, cond, List, length, take, refl, sym, ap, ◌∙◌, arith}
use Rattle.std.specs.Prelude.{Option, None, Some}
use lib.Seq.{take_all}
use Rattle.rules.specs.Text.{Text}
use Rattle.rules.specs.Answer.{Answer, accepted, refused, and_then}
use Rattle.rules.specs.Encode.{Mnemonic, mnemonics}
use Rattle.rules.specs.Assemble.{pass_at_by}
use Rattle.requests.specs.Branches.{loaded, names_with, under}
use Rattle.requests.specs.Explain.{explain_all_by, explain_by}
use Rattle.promises.specs.Branches.{FrontOfATable}
use Rattle.promises.proofs.BranchFront.{front_of_a_table}
use Rattle.station.specs.Puts.{texts}
use Rattle.station.specs.Reads.{Reads}
use Rattle.station.specs.declared.input.Input.{Input}
use Rattle.station.proofs.Kept.{take_lesser}
use Rattle.station.proofs.ScriptInput.{checks_long}
use Rattle.printout.specs.Printout.{printout_by, printout_of}
use Rattle.make_lines.specs.Lines.{by_names, lent_of, why_answer, json_answer}

same : (a : Answer Text) → a ≡ texts (λ t. t) a
same (accepted t) = refl
same (refused n p) = refl

-- what g is made of a table and a script goes by the table before it looks at a script over the limit, and 97 bytes of the table are enough for it
pub record Loads (g : Option Text → Text → Answer Text) : Type 0 where
  pub long : (o : Option Text) (s : Text) → 32768 < length s → g o s ≡ by_names o (λ names. refused 1 (length s))
  pub front : (t s : Text) → g (Some (take 97 t)) s ≡ g (Some t) s

-- a call that refuses a long script, whatever the names
long_by : {A : Type 0} (f : A → Text) (o : Option Text) (call : List Mnemonic → Answer A) (n : ℕ) → ((names : List Mnemonic) → call names ≡ refused 1 n)
    → texts f (by_names o call) ≡ by_names o (λ names. refused 1 n)
unfolding by_names under and_then
long_by f None call n l = ap (texts f) (l mnemonics)
long_by f (Some t) call n l = go (loaded t)
  where
    go : (x : Answer (List Mnemonic)) → texts f (and_then x (λ rs. call (names_with rs))) ≡ and_then x (λ rs. refused 1 n)
    go (accepted rs) = ap (texts f) (l (names_with rs))
    go (refused m p) = refl

explains_long : (names : List Mnemonic) (base : ℕ) (s : Text) → 32768 < length s → explain_all_by names base s ≡ refused 1 (length s)
unfolding explain_all_by pass_at_by and_then
explains_long names base s h = rw (checks_long s _ h) refl

explain_long : (names : List Mnemonic) (base k : ℕ) (s : Text) → 32768 < length s → explain_by names base s k ≡ refused 1 (length s)
unfolding explain_by and_then
explain_long names base k s h = rw (explains_long names base s h) refl

print_long : (names : List Mnemonic) (base : ℕ) (s : Text) → 32768 < length s → printout_by names base s ≡ refused 1 (length s)
unfolding printout_by pass_at_by and_then
print_long names base s h = rw (checks_long s _ h) refl

-- 97 bytes of a table are enough
front_by : {A : Type 0} (t : Text) (call : List Mnemonic → Answer A) → by_names (Some (take 97 t)) call ≡ by_names (Some t) call
unfolding by_names under FrontOfATable
front_by t call = ap (λ (r : Answer (List Mnemonic)). and_then r (λ ns. call (names_with ns))) (front_of_a_table t)

pub why_loads : (line : Option ℕ) (base : ℕ) → Loads (why_answer line base)
unfolding why_answer
why_loads None base =
    record {
      long = λ o s h. long_by _ o (λ names. explain_all_by names base s) (length s) (λ names. explains_long names base s h);
      front = λ t s. ap (texts _) (front_by t (λ names. explain_all_by names base s));
    }
why_loads (Some k) base =
    record {
      long = λ o s h. long_by _ o (λ names. explain_by names base s k) (length s) (λ names. explain_long names base k s h);
      front = λ t s. ap (texts _) (front_by t (λ names. explain_by names base s k));
    }

pub json_loads : (line : Option ℕ) (base : ℕ) (name : Text) → Loads (json_answer line base name)
unfolding json_answer
json_loads None base name =
    record {
      long = λ o s h. long_by _ o (λ names. explain_all_by names base s) (length s) (λ names. explains_long names base s h);
      front = λ t s. ap (texts _) (front_by t (λ names. explain_all_by names base s));
    }
json_loads (Some k) base name =
    record {
      long = λ o s h. long_by _ o (λ names. explain_by names base s k) (length s) (λ names. explain_long names base k s h);
      front = λ t s. ap (texts _) (front_by t (λ names. explain_by names base s k));
    }

print_by : (o : Option Text) (base : ℕ) (s : Text) → printout_of o base s ≡ texts (λ t. t) (by_names o (λ names. printout_by names base s))
unfolding printout_of by_names
print_by None base s = same (printout_by mnemonics base s)
print_by (Some t) base s = same (under t (λ names. printout_by names base s))

pub list_loads : (base : ℕ) → Loads (λ o s. printout_of o base s)
list_loads base =
    record {
      long = λ o s h. print_by o base s ∙ long_by (λ t. t) o (λ names. printout_by names base s) (length s) (λ names. print_long names base s h);
      front = λ t s. print_by (Some (take 97 t)) base s ∙ ap (texts (λ t. t)) (front_by t (λ names. printout_by names base s)) ∙ sym (print_by (Some t) base s);
    }

-- ---- a table and a script of which the buffers x and y keep the fronts
module _ (g : Option Text → Text → Answer Text) (loads : Loads g) (lent : Bool) (a b : Text) (x y : List ℕ) (i j : Input) (k : ℕ) (p : Reads a x i) (q : Reads b y j) (l : length x ≡ 97) (e : k ≡ min i.total 97) where
  kept : take k x ≡ take 97 a
  kept = take_lesser k i.total x (rw l (omega arith)) ∙ sym (rw l at p.front)

  table_front : (s : Text) → g (lent_of lent (take k x)) s ≡ g (lent_of lent a) s
  unfolding lent_of
  table_front s = go lent
    where
      go : (z : Bool) → g (cond z (Some (take k x)) None) s ≡ g (cond z (Some a) None) s
      go false = refl
      go true = ap (λ (t : Text). g (Some t) s) kept ∙ loads.front a s

  pub both_read : j.total ≤ 32768 → length y ≡ 32768 → g (lent_of lent (take k x)) (take j.total y) ≡ g (lent_of lent a) b
  both_read h m =
      let whole : take j.total y ≡ b = sym q.front ∙ take_all (length y) b (omega (arith, q.total)) in
      ap (g (lent_of lent (take k x))) whole ∙ table_front b

  pub too_long : 32768 < j.total → (n c : ℕ) → by_names {A = Text} (lent_of lent (take k x)) (λ names. refused 1 j.total) ≡ refused n c → g (lent_of lent a) b ≡ refused n c
  too_long h n c r =
      sym (table_front b) ∙ loads.long (lent_of lent (take k x)) b (omega (arith, q.total)) ∙ (rw q.total at r)
