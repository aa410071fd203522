-- Forms tried in order: operands joined to a form, and the verdict by all forms. Assumes nothing.
use Rattle.std.specs.Prelude.{Option, None, Some, ℕ, ◌≡◌, Bool, true, false, ◌&&◌, ◌||◌, cond, List, [], ◌∷◌, map}
use Rattle.std.specs.List.{list_any, find}
use Rattle.std.specs.Option.{option_or, unwrap_or}
use Rattle.rules.specs.Option.{or_else}
use mathlib.Core.Path.{refl, ap}
use Rattle.rules.specs.Text.{Text}
use Rattle.rules.specs.Label.{Table}
use Rattle.rules.specs.Forms.{stand, form_with}
use Rattle.rules.specs.Forms.{Operand as Ruled}
use Rattle.requests.specs.Explain.{Reason, emitted, met, one_met, fault_in, unless, why_kinds, why_forms}
use Rattle.explain.specs.Verdict.{verdict_of, fault_of}
use Rattle.explain.specs.Operand.{place_at}
use Rattle.explain.specs.Form.{form_at, blamed, told}
use Rattle.explain.specs.declared.Verdict.TheVariants.{Emitted}
use Rattle.explain.specs.declared.operand.Place.{Place}

or_fault : (o p : Option Reason) → option_or (fault_of o) (fault_of p) ≡ fault_of (or_else o p)
unfolding or_else
or_fault None p = refl
or_fault (Some r) p = refl

else_none : (o : Option Reason) → or_else o None ≡ o
unfolding or_else
else_none None = refl
else_none (Some r) = refl

and_true : (y : Bool) → (y && true) ≡ y
and_true true = refl
and_true false = refl

unless_fault : (o : Option Reason) → unwrap_or (fault_of o) Emitted ≡ verdict_of (unless o)
unfolding unless
unless_fault None = refl
unless_fault (Some r) = refl

-- ---- a form of one place, and one of two
module _ (ls : Table) (a : ℕ) (x : Ruled) (s : Text) where
  pub one_place : (ps : List Text) → place_at ls a x s ≡ form_at ls a (s ∷ ps) (x ∷ [])
  unfolding met stand fault_in
  one_place ps = simp (and_true, else_none)

  pub two_places : (y : Ruled) (t : Text) {p q : Place} → p ≡ place_at ls a x s → q ≡ place_at ls a y t
      → record { met = p.met && q.met; stands = p.stands && q.stands; fault = option_or p.fault q.fault } ≡ form_at ls a (s ∷ t ∷ []) (x ∷ y ∷ [])
  unfolding met stand fault_in
  two_places y t e f = rw (e, f) (simp (and_true, else_none, or_fault))

-- ---- all forms
module _ (ls : Table) (a : ℕ) (ps : List Text) where
  any_met : (fs : List (List Ruled)) → list_any (λ f. f.met) (map (form_at ls a ps) fs) ≡ one_met ls a fs ps
  unfolding one_met
  any_met [] = refl
  any_met (f ∷ fs) = ap (λ (y : Bool). met ls a f ps || y) (any_met fs)

  by_kinds : (fs : List (List Ruled)) → blamed (find (λ f. f.stands) (map (form_at ls a ps) fs)) ≡ verdict_of (why_kinds ls a fs ps)
  unfolding why_kinds form_with
  by_kinds [] = refl
  by_kinds (f ∷ fs) = go (stand f ps) refl (by_kinds fs)
    where
      found : Option Place
      found = find (λ f. f.stands) (map (form_at ls a ps) fs)

      go : (b : Bool) → stand f ps ≡ b → blamed found ≡ verdict_of (why_kinds ls a fs ps) → blamed (cond (stand f ps) (Some (form_at ls a ps f)) found) ≡ verdict_of (why_kinds ls a (f ∷ fs) ps)
      go true h ih = rw (h, why_kinds) (unless_fault (fault_in ls a f ps))
      go false h ih = rw (h, why_kinds) ih

  pub told_all : (fs : List (List Ruled)) → told (map (form_at ls a ps) fs) ≡ verdict_of (why_forms ls a fs ps)
  unfolding why_forms
  told_all fs = rw (any_met fs) (go (one_met ls a fs ps))
    where
      go : (b : Bool) → cond b Emitted (blamed (find (λ f. f.stands) (map (form_at ls a ps) fs))) ≡ verdict_of (cond b emitted (why_kinds ls a fs ps))
      go true = refl
      go false = by_kinds fs
