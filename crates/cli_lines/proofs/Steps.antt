-- One script more, or the end of the call. Assumes nothing.
use Rattle.std.proofs.Common.{ℕ, ◌≡◌, List, [], ◌∷◌, ◌++◌, refl, sym, ap, ◌∙◌, subst, append_assoc, append-nil}
use Rattle.std.specs.Prelude.{Option, None, Some}
use Rattle.rules.specs.Text.{Text}
use Rattle.rules.specs.Answer.{Answer, accepted, refused}
use Rattle.jsontext.specs.Lines.{Explained}
use Rattle.jsontext.specs.Lines.{explained as entry}
use Rattle.requests.specs.Explain.{Verdict as Said}
use Rattle.cli_error.specs.Answered.{Answered, Made, made, fails, answer_of, output_of, failure_of}
use Rattle.cli_error.specs.Gives.{Fails, Gives}
use Rattle.cli_error.specs.declared.Failure.{Failure}
use Rattle.cli_error.specs.declared.Failure.TheVariants as F
use Rattle.cli_error.specs.declared.Answer as Code
use Rattle.cli_error.specs.declared.Answer.TheVariants as A
use Rattle.cli_run.specs.Input.{Named}
use Rattle.cli_run.specs.Items.{Item, item, Rest, rest_of, Settles}
use Rattle.cli_run.specs.Told.{blamed, told}
use Rattle.cli_lines.specs.Lines.{answer_map}
use Rattle.cli_lines.specs.Folded.{on_script, each_of, Continues}

-- ---- a text that was made, or a failure
pub text_told : {A : Type 0} (w : A → Text) (t : Option Named) (b : Named) (a : Answer A) (s : Text) → told w 32768 t b a ≡ made s → (x : A) × (a ≡ accepted x) × (s ≡ w x)
text_told w t b (accepted x) s e = let f : s ≡ w x = cc in (x, refl, f)
text_told w t b (refused n p) s e = absurd cc

-- an answer that is given whatever was made says nothing
two_texts : (o : Option Text) → o ≡ Some [] → o ≡ Some (0 ∷ []) → ⊥
two_texts o e f = cc

some_none : (o : Option Text) (s : Text) → o ≡ Some s → o ≡ None → ⊥
some_none o s e f = cc

nothing_given : (r : Code.Answer) → ((m : Made) → Gives (answer_of m) r) → (a : Answered) → Gives a r
nothing_given (A.Output s c) h a =
    absurd (two_texts (Some s.items) (sym (ap (λ (x : Answered). x.output) (h (made [])))) (sym (ap (λ (x : Answered). x.output) (h (made (0 ∷ []))))))
nothing_given (A.Failure s c) h a = absurd (some_none None [] (sym (ap (λ (x : Answered). x.output) (h (made [])))) refl)
nothing_given A.NoMemory h a = tt

none_made : (s : Text) (e : Failure) (r : Code.Answer) → Fails (made s) e → ((m : Made) → Fails m e → Gives (answer_of m) r) → (a : Answered) → Gives a r
none_made s (F.Refused n f l) r h g a = absurd cc
none_made s (F.NotAList n l) r h g a = absurd cc
none_made s (F.NotASheet n l) r h g a = absurd cc
none_made s (F.Failed w n f) r h g a = absurd cc
none_made s (F.Misused c w) r h g a = absurd cc
none_made s F.NoMemory r h g a = nothing_given r (λ m. g m tt) a

module _ {A : Type 0} (names : Option Named) (part : Named → Answer A) (whole : List A → Answered) (done : List A) (f : Rest) (so : Continues names part whole done f) (b : Named) where
  next : (a : Answer A) → part b ≡ a → (left : List Item) → f (item b ∷ left) ≡ on_script names part b a (λ x. each_of names part (λ xs. so.of_left (x ∷ xs)) left)
  next a e left = so.rest (item b ∷ left) ∙ ap (λ (y : Answer A). on_script names part b y (λ x. each_of names part (λ xs. so.of_left (x ∷ xs)) left)) e

  pub goes_on : (x : A) → part b ≡ accepted x → Continues names part whole (done ++ (x ∷ [])) (rest_of f b)
  goes_on x e =
      record {
        of_left = λ xs. so.of_left (x ∷ xs);
        all = λ xs. so.all (x ∷ xs) ∙ ap whole (sym (append_assoc done (x ∷ []) xs));
        rest = λ is. next (accepted x) e is;
      }

  pub ends : (w : A → Text) (e : Failure) (r : Code.Answer) → Fails (told w 32768 names b (part b)) e → ((m : Made) → Fails m e → Gives (answer_of m) r) → Settles (rest_of f b) r
  ends w e r h g left = go (part b) refl h
    where
      go : (a : Answer A) → part b ≡ a → Fails (told w 32768 names b a) e → Gives (f (item b ∷ left)) r
      go (accepted x) q k = none_made (w x) e r k g (f (item b ∷ left))
      go (refused n p) q k = subst (λ (y : Answered). Gives y r) (sym (next (refused n p) q left)) (g (fails (blamed 32768 names b n p)) k)

pub all_done : {A : Type 0} (names : Option Named) (part : Named → Answer A) (whole : List A → Answered) (done : List A) (f : Rest) → Continues names part whole done f → f [] ≡ whole done
all_done names part whole done f so = so.rest [] ∙ so.all [] ∙ ap whole (append-nil done)

pub begins : {A : Type 0} (names : Option Named) (part : Named → Answer A) (whole : List A → Answered) → Continues names part whole [] (each_of names part whole)
begins names part whole = record { of_left = whole; all = λ xs. refl; rest = λ is. refl }

-- ---- what is made of a script
module _ (w : Explained → Text) (k : ℕ) (names : Option Named) (b : Named) (o : Answer (List Said)) where
  pub entry_told : (vs : List Said) (n s : Text) → o ≡ accepted vs → n ≡ b.name → s ≡ w (entry n k vs) → told w 32768 names b (answer_map (λ us. entry b.name k us) o) ≡ made s
  entry_told vs n s e f g = rw (e, g, f) refl

  pub entry_refused : (n p : ℕ) (x : Failure) → o ≡ refused n p → Fails (fails (blamed 32768 names b n p)) x → Fails (told w 32768 names b (answer_map (λ us. entry b.name k us) o)) x
  entry_refused n p x e h = rw e h

module _ (h : Text → Text → Text) (names : Option Named) (b : Named) (o : Answer Text) where
  pub page_told : (page n s : Text) → o ≡ accepted page → n ≡ b.name → s ≡ h n page → told (λ p. p) 32768 names b (answer_map (h b.name) o) ≡ made s
  page_told page n s e f g = rw (e, g, f) refl

  pub page_refused : (n p : ℕ) (x : Failure) → o ≡ refused n p → Fails (fails (blamed 32768 names b n p)) x → Fails (told (λ p. p) 32768 names b (answer_map (h b.name) o)) x
  page_refused n p x e k = rw e k
