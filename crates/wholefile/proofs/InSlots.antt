-- The small disk in memory after a step. Assumes nothing.
use Rattle.std.proofs.Common.{ℕ, ◌≡◌, Bool, true, false, cond, [], ◌++◌, take, drop, take-append-drop, refl, sym, ap, ◌∙◌}
use Rattle.std.specs.Prelude.{Option, Some, None, unwrap_or, Result, Ok, Err, OnOk, OnErr, ⊤}
use Rattle.wholefile.specs.declared.Seen.{Seen}
use Rattle.std.proofs.lemmas.List.{append-nil}
use Rattle.rules.specs.Text.{Text, bytes, same}
use Rattle.text.proofs.Compare.{same_is}
use Rattle.wholefile.specs.Shelf.{File, Node, file, device, link, Shelf, linked, leads, found, made, added, given, on_file, on_device, standing, alter, moved, poured, with_names}
use Rattle.wholefile.specs.Put.{Sees, Does, Pours}
use Rattle.wholefile.specs.Slots.{new_name, device_name, out_name, link_name, stored, node, slots, shelf_of, shelf}
use Rattle.wholefile.specs.declared.memory.Stored.{Stored}
use Rattle.wholefile.specs.declared.memory.Memory.{Memory}
use Rattle.wholefile.proofs.Steps.{names, twice, standing_same}
use Rattle.wholefile.proofs.Places.{leads_none, leads_some}

-- ---- names

linked_node : (o : Option Stored) → linked (node o) ≡ None
linked_node (Some f) = refl
linked_node None = refl

module _ (new out : Option Node) (given : Text) where
  abbrev h : Text → Option Node
  h = slots new out given

  pub holds_new : h new_name ≡ new
  unfolding same bytes
  holds_new = refl

  pub holds_device : h device_name ≡ Some (device given)
  unfolding same bytes
  holds_device = refl

  pub holds_out : h out_name ≡ out
  unfolding same bytes
  holds_out = refl

  holds_link : h link_name ≡ Some (link out_name)
  unfolding same bytes
  holds_link = refl

  pub holds_none : (n : Text) → same n new_name ≡ false → same n device_name ≡ false → same n out_name ≡ false → same n link_name ≡ false → h n ≡ None
  holds_none n a b c d = rw (a, b, c, d) refl

module _ (m : Memory) where
  leads_at : (n : Text) → linked ((shelf m).holds n) ≡ None → leads (shelf m) n ≡ n
  unfolding leads
  leads_at n e = leads_none 39 (shelf m).holds n e

  pub leads_out : leads (shelf m) out_name ≡ out_name
  leads_out = leads_at out_name (ap linked (holds_out (node m.fresh) (node m.out) m.given.items) ∙ linked_node m.out)

  pub leads_link : leads (shelf m) link_name ≡ out_name
  unfolding leads
  leads_link =
      leads_some 39 (shelf m).holds link_name out_name (ap linked (holds_link (node m.fresh) (node m.out) m.given.items))
      ∙ leads_none 38 (shelf m).holds out_name (ap linked (holds_out (node m.fresh) (node m.out) m.given.items) ∙ linked_node m.out)

  leads_device : leads (shelf m) device_name ≡ device_name
  leads_device = leads_at device_name (ap linked (holds_device (node m.fresh) (node m.out) m.given.items))

  pub found_new : (n : Text) → n ≡ new_name → found (shelf m) n ≡ node m.fresh
  found_new n e =
      ap (found (shelf m)) e
      ∙ ap (shelf m).holds (leads_at new_name (ap linked (holds_new (node m.fresh) (node m.out) m.given.items) ∙ linked_node m.fresh)) ∙ holds_new (node m.fresh) (node m.out) m.given.items

  pub found_device : (n : Text) → n ≡ device_name → found (shelf m) n ≡ Some (device m.given.items)
  found_device n e = ap (found (shelf m)) e ∙ ap (shelf m).holds leads_device ∙ holds_device (node m.fresh) (node m.out) m.given.items

  pub found_out : (n : Text) → n ≡ out_name → found (shelf m) n ≡ node m.out
  found_out n e = ap (found (shelf m)) e ∙ ap (shelf m).holds leads_out ∙ holds_out (node m.fresh) (node m.out) m.given.items

  pub found_link : (n : Text) → n ≡ link_name → found (shelf m) n ≡ node m.out
  found_link n e = ap (found (shelf m)) e ∙ ap (shelf m).holds leads_link ∙ holds_out (node m.fresh) (node m.out) m.given.items

  pub found_none : (n : Text) → same n new_name ≡ false → same n device_name ≡ false → same n out_name ≡ false → same n link_name ≡ false → found (shelf m) n ≡ None
  found_none n a b c d =
      let e : (shelf m).holds n ≡ None = holds_none (node m.fresh) (node m.out) m.given.items n a b c d in
      ap (shelf m).holds (leads_at n (ap linked e)) ∙ e

-- ---- steps
module _ (new out : Option Node) (given : Text) (owner group mask limit : ℕ) (w : Bool) where
  abbrev s : Shelf
  s = shelf_of new out given owner group mask limit w

  abbrev rest : Text → Option Node
  rest n = cond (same n device_name) (Some (device given)) (cond (same n out_name) out (cond (same n link_name) (Some (link out_name)) None))

  pub standing_new : (x : Option Node) → standing new_name x s ≡ shelf_of x out given owner group mask limit w
  standing_new x = names (λ n. cond (same n new_name) x (cond (same n new_name) new (rest n))) (λ n. cond (same n new_name) x (rest n)) s (λ n. twice (same n new_name) x new (rest n))

  pub alter_new : (g : File → File) → alter new_name g s ≡ shelf_of (on_file g new) out given owner group mask limit w
  alter_new g = ap (λ (o : Option Node). standing new_name (on_file g o) s) (holds_new new out given) ∙ standing_new (on_file g new)

  moves_at : (n : Text) (y : Bool) → same n out_name ≡ y
      → cond (same n out_name) new (cond (same n new_name) None (slots new out given n)) ≡ slots None new given n
  unfolding same bytes
  moves_at n true q = rw (same_is n out_name q) refl
  moves_at n false q = rw q (twice (same n new_name) None new (cond (same n device_name) (Some (device given)) (cond (same n link_name) (Some (link out_name)) None)))

  pub moved_out : moved new_name out_name s ≡ shelf_of None new given owner group mask limit w
  moved_out =
      ap (λ (o : Option Node). with_names (λ n. cond (same n out_name) o (cond (same n new_name) None (slots new out given n))) s) (holds_new new out given)
      ∙ names (λ n. cond (same n out_name) new (cond (same n new_name) None (slots new out given n))) (slots None new given) s (λ n. moves_at n (same n out_name) refl)

  pours_at : (t : Text) (n : Text) (y : Bool) → same n device_name ≡ y
      → cond (same n device_name) (Some (device (given ++ t))) (slots new out given n) ≡ slots new out (given ++ t) n
  unfolding same bytes
  pours_at t n true q = rw (same_is n device_name q) refl
  pours_at t n false q = rw q refl

  pub given_device : (t : Text) → standing device_name (Some (device (given ++ t))) s ≡ shelf_of new out (given ++ t) owner group mask limit w
  given_device t = names (λ n. cond (same n device_name) (Some (device (given ++ t))) (slots new out given n)) (slots new out (given ++ t)) s (λ n. pours_at t n (same n device_name) refl)

-- ---- as the steps say it
module _ (m : Memory) where
  pub changed : (f : Stored) (x : File) (g : File → File) → m.fresh ≡ Some f → x ≡ g (stored f)
      → shelf_of (Some (file x)) (node m.out) m.given.items m.owner m.group m.mask m.limit m.is_writable ≡ alter new_name g (shelf m)
  changed f x g e k =
      ap (λ (o : Option Node). shelf_of o (node m.out) m.given.items m.owner m.group m.mask m.limit m.is_writable) (ap (λ (y : File). Some (file y)) k ∙ sym (ap (λ (o : Option Stored). on_file g (node o)) e))
      ∙ sym (alter_new (node m.fresh) (node m.out) m.given.items m.owner m.group m.mask m.limit m.is_writable g)

  pub created : (n : Text) (x : File) → n ≡ new_name
      → shelf_of (Some (file x)) (node m.out) m.given.items m.owner m.group m.mask m.limit m.is_writable ≡ standing n (Some (file x)) (shelf m)
  created n x e = sym (ap (λ (b : Text). standing b (Some (file x)) (shelf m)) e ∙ standing_new (node m.fresh) (node m.out) m.given.items m.owner m.group m.mask m.limit m.is_writable (Some (file x)))

  pub free : (n : Text) → n ≡ new_name → m.fresh ≡ None → (shelf m).holds n ≡ None
  free n e k = ap (shelf m).holds e ∙ holds_new (node m.fresh) (node m.out) m.given.items ∙ ap node k

  pub gone : (n : Text) → n ≡ new_name → shelf_of None (node m.out) m.given.items m.owner m.group m.mask m.limit m.is_writable ≡ standing n None (shelf m)
  gone n e = sym (ap (λ (b : Text). standing b None (shelf m)) e ∙ standing_new (node m.fresh) (node m.out) m.given.items m.owner m.group m.mask m.limit m.is_writable None)

  pub moved_there : (n to : Text) (f : Stored) → n ≡ new_name → to ≡ out_name → m.fresh ≡ Some f
      → shelf_of None (Some (file (stored f))) m.given.items m.owner m.group m.mask m.limit m.is_writable ≡ moved n to (shelf m)
  moved_there n to f e k j =
      ap (λ (o : Option Stored). shelf_of None (node o) m.given.items m.owner m.group m.mask m.limit m.is_writable) (sym j)
      ∙ sym (moved_out (node m.fresh) (node m.out) m.given.items m.owner m.group m.mask m.limit m.is_writable)
      ∙ (λ i. moved (sym e i) (sym k i) (shelf m))

  pub poured_there : (n t : Text) → n ≡ device_name
      → shelf_of (node m.fresh) (node m.out) (m.given.items ++ t) m.owner m.group m.mask m.limit m.is_writable ≡ poured n t (shelf m)
  poured_there n t e =
      sym (ap (λ (b : Text). poured b t (shelf m)) e
      ∙ ap (λ (b : Text). standing b (on_device t ((shelf m).holds b)) (shelf m)) (leads_device m)
      ∙ ap (λ (o : Option Node). standing device_name (on_device t o) (shelf m)) (holds_device (node m.fresh) (node m.out) m.given.items)
      ∙ given_device (node m.fresh) (node m.out) m.given.items m.owner m.group m.mask m.limit m.is_writable t)

-- nothing was given
pours_none : (o : Option Node) → on_device [] o ≡ o
pours_none (Some (file f)) = refl
pours_none (Some (device t)) = ap (λ (u : Text). Some (device u)) (append-nil t)
pours_none (Some (link n)) = refl
pours_none None = refl

pub poured_none : (n : Text) (s : Shelf) → s ≡ poured n [] s
poured_none n s = sym (standing_same (leads s n) (on_device [] (found s n)) s (pours_none (found s n)))

-- ---- what the answers put together

pub text_added : (f : Stored) (l t : Text) → l ≡ f.text.items ++ t
    → record { text = l; synced = false; owner = f.kept.owner; group = f.kept.group; rights = f.kept.rights } ≡ added t (stored f)
text_added f l t e = λ i. record { text = e i; synced = false; owner = f.kept.owner; group = f.kept.group; rights = f.kept.rights }

pub none_added : (l : Text) (x : Text) → l ≡ x → l ≡ x ++ []
none_added l x e = e ∙ sym (append-nil x)

pub handed : (f : Stored) (o : Option ℕ) (g n : ℕ) → n ≡ unwrap_or o f.kept.owner
    → record { text = f.text.items; synced = false; owner = n; group = g; rights = f.kept.rights } ≡ given o g (stored f)
handed f (Some k) g n e = λ i. record { text = f.text.items; synced = false; owner = e i; group = g; rights = f.kept.rights }
handed f None g n e = λ i. record { text = f.text.items; synced = false; owner = e i; group = g; rights = f.kept.rights }

pub as_it_stood : (m : Memory) (o : Option Stored) → o ≡ m.fresh
    → shelf_of (node o) (node m.out) m.given.items m.owner m.group m.mask m.limit m.is_writable ≡ shelf m
as_it_stood m o e = ap (λ (x : Option Stored). shelf_of (node x) (node m.out) m.given.items m.owner m.group m.mask m.limit m.is_writable) e

pub taken_there : (m : Memory) (n to : Text) (f : Stored) (x : Option Stored) → n ≡ new_name → to ≡ out_name → m.fresh ≡ Some f → x ≡ None
    → shelf_of (node x) (Some (file (stored f))) m.given.items m.owner m.group m.mask m.limit m.is_writable ≡ moved n to (shelf m)
taken_there m n to f x e k j z =
    ap (λ (o : Option Stored). shelf_of (node o) (Some (file (stored f))) m.given.items m.owner m.group m.mask m.limit m.is_writable) z ∙ moved_there m n to f e k j

pub given_there : (m : Memory) (n t l : Text) → n ≡ device_name → l ≡ m.given.items ++ t
    → shelf_of (node m.fresh) (node m.out) l m.owner m.group m.mask m.limit m.is_writable ≡ poured n t (shelf m)
given_there m n t l e k =
    ap (λ (x : Text). shelf_of (node m.fresh) (node m.out) x m.owner m.group m.mask m.limit m.is_writable) k ∙ poured_there m n t e

pub on_ok : {E P Q : Type 0} (r : Result ⊤ E) → (P → Q) → OnOk r P → OnOk r Q
on_ok (Ok x) f p = f p
on_ok (Err e) f p = p

pub leads_to : (m : Memory) (n x : Text) → n ≡ out_name → x ≡ out_name → x ≡ leads (shelf m) n
leads_to m n x e k = k ∙ sym (ap (leads (shelf m)) e ∙ leads_out m)

pub link_leads : (m : Memory) (n x : Text) → n ≡ link_name → x ≡ out_name → x ≡ leads (shelf m) n
link_leads m n x e k = k ∙ sym (ap (leads (shelf m)) e ∙ leads_link m)

pub sees_as : (s t : Shelf) (n : Text) (o : Option Node) (r : Option Seen) → t ≡ s → found t n ≡ o → Sees o r → Sees (found s n) r
sees_as s t n o r e k h = rw (← e) (rw k h)

pub poured_all : {E : Type 0} (n t : Text) (old mid new : Shelf) (r : Result ⊤ E) → mid ≡ old → OnOk r (new ≡ poured n t mid) → OnErr r (new ≡ mid) → Pours n t (Some old) (Some new) r
poured_all n t old mid new (Ok x) e p q = ap Some (p ∙ ap (poured n t) e)
poured_all n t old mid new (Err x) e p q = ([], t, refl, ap Some (q ∙ e ∙ poured_none n old))

pub poured_half : {E : Type 0} (n t half : Text) (k : ℕ) (old mid new : Shelf) (r : Result ⊤ E) → half ≡ take k t → mid ≡ old → OnOk r (new ≡ poured n half mid) → OnErr r (new ≡ mid)
    → (done rest : Text) × (t ≡ done ++ rest) × (◌≡◌ {A = Option Shelf} (Some new) (Some (poured n done old)))
poured_half n t half k old mid new (Ok x) z e p q = (half, drop k t, sym (ap (λ (h : Text). h ++ drop k t) z ∙ take-append-drop k t), ap Some (p ∙ ap (poured n half) e))
poured_half n t half k old mid new (Err x) z e p q = ([], t, refl, ap Some (q ∙ e ∙ poured_none n old))

-- the step that a disk counts first changes nothing
pub free_before : (s t : Shelf) (n : Text) → t ≡ s → t.holds n ≡ None → s.holds n ≡ None
free_before s t n e q = ap (λ (x : Shelf). x.holds n) (sym e) ∙ q

pub made_before : (s t u : Shelf) (n : Text) (r : ℕ) → t ≡ s → u ≡ standing n (Some (file (made r t))) t → ◌≡◌ {A = Option Shelf} (Some u) (Some (standing n (Some (file (made r s))) s))
made_before s t u n r e q = ap Some (q ∙ ap (λ (x : Shelf). standing n (Some (file (made r x))) x) e)

pub does_before : {E : Type 0} (b : Text) (g : File → File) (s t u : Shelf) (r : Result ⊤ E) → t ≡ s → Does b g (Some t) (Some u) r
    → (h : File → File) × (◌≡◌ {A = Option Shelf} (Some u) (Some (alter b h s)))
does_before b g s t u (Ok x) e q = (g, q ∙ ap (λ (x : Shelf). Some (alter b g x)) e)
does_before b g s t u (Err x) e (h, q) = (h, q ∙ ap (λ (x : Shelf). Some (alter b h x)) e)
