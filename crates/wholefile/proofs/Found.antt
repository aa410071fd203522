-- Where a path leads once its file was replaced. Assumes nothing.
use Rattle.std.proofs.Common.{ℕ, zero, suc, ◌≡◌, Bool, true, false, cond, refl, sym, ap, ◌∙◌}
use Rattle.std.specs.Prelude.{Option, Some, None}
use Rattle.rules.specs.Text.{Text, same}
use Rattle.text.proofs.Compare.{same_is}
use Rattle.wholefile.specs.Shelf.{File, Node, file, device, link, Shelf, linked, leads_by, leads, found, standing}
use Rattle.wholefile.specs.Put.{whole, target, IsPlain, LeadsToTheFile, ChangesNoOther}
use Rattle.wholefile.proofs.Steps.{at_itself}
use Rattle.wholefile.proofs.Places.{leads_none, leads_some}

-- x, which is no link, is put under r
module _ (h : Text → Option Node) (r : Text) (x : Option Node) (l : linked x ≡ None) where
  abbrev changed : Text → Option Node
  changed n = cond (same n r) x (h n)

  here : linked (changed r) ≡ None
  here = ap linked (at_itself r x (h r)) ∙ l

  elsewhere : (p : Text) → same p r ≡ false → changed p ≡ h p
  elsewhere p q = rw q refl

  leads_still : (k : ℕ) (p : Text) → leads_by k h p ≡ r → leads_by k changed p ≡ r
  unfolding leads_by
  leads_still zero p e = e
  leads_still (suc k) p e = go (same p r) refl (linked (h p)) refl (λ q. leads_still k q)
    where
      go : (y : Bool) → same p r ≡ y → (o : Option Text) → linked (h p) ≡ o → ((q : Text) → leads_by k h q ≡ r → leads_by k changed q ≡ r) → leads_by (suc k) changed p ≡ r
      go true a o b ih = ap (leads_by (suc k) changed) (same_is p r a) ∙ leads_none k changed r here
      go false a (Some q) b ih = leads_some k changed p q (ap linked (elsewhere p a) ∙ b) ∙ ih q (sym (leads_some k h p q b) ∙ e)
      go false a None b ih = leads_none k changed p (ap linked (elsewhere p a) ∙ b) ∙ (sym (leads_none k h p b) ∙ e)

leads_there : (s : Shelf) (path : Text) (f : File) (o : Option Node) → IsPlain o
    → found (standing (target o path s) (Some (file f)) s) path ≡ Some (file f)
unfolding leads
leads_there s path f (Some (file g)) p =
    ap (changed s.holds (leads_by 40 s.holds path) (Some (file f)) refl) (leads_still s.holds (leads_by 40 s.holds path) (Some (file f)) refl 40 path refl)
    ∙ at_itself (leads_by 40 s.holds path) (Some (file f)) (s.holds (leads_by 40 s.holds path))
leads_there s path f (Some (device t)) p = absurd p
leads_there s path f (Some (link t)) p = absurd p
leads_there s path f None p =
    ap (changed s.holds path (Some (file f)) refl) (leads_none 39 (changed s.holds path (Some (file f)) refl) path (here s.holds path (Some (file f)) refl))
    ∙ at_itself path (Some (file f)) (s.holds path)

pub leads_to_the_file : LeadsToTheFile
leads_to_the_file kept path t s p = leads_there s path (whole kept t s (found s path)) (found s path) p

pub changes_no_other : ChangesNoOther
changes_no_other kept path t s n q = rw q refl
