-- A new file that takes the place of the old one. Assumes nothing.
use Rattle.std.proofs.Common.{ℕ, suc, ◌≡◌, ◌≤◌, Bool, true, false, refl, sym, ap, ◌∙◌, inl}
use Rattle.std.specs.Prelude.{Option, Some, None, option_map, IfSome, Result, Ok, Err, ⊤}
use Rattle.std.proofs.lemmas.Option.{none-some}
use Rattle.rules.specs.Text.{Text}
use Rattle.wholefile.specs.Shelf.{File, Node, file, device, link, Shelf, linked, leads_by, leads, found, made, standing, alter, moved}
use Rattle.wholefile.specs.Put.{Sees, New, Undone, removed, left, Takes, finished, rights_for, Unplaced, as_it_was, left_beside, replaced, PutsNew, Replaces, Allowed, whole, target, IsPlain, placed, Put}
use Rattle.wholefile.specs.declared.Kept.{Kept}
use Rattle.wholefile.specs.declared.Seen.TheVariants as Is
use Rattle.wholefile.specs.declared.Placed.{Placed}
use Rattle.wholefile.specs.declared.Placed.TheVariants as Was
use Rattle.wholefile.proofs.Steps.{alter_standing, moved_standing, removed_standing, at_itself, other}

-- a file that was made under the name b of old, which had none
module _ (b to : Text) (rights : ℕ) where
  pub made_new : (n : ℕ) (old mid : Option Shelf) → mid ≡ option_map (λ s. standing b (Some (file (made rights s))) s) old
      → IfSome old (Allowed to) → IfSome old (λ s. n ≤ s.limit) → IfSome mid (New b to n)
  made_new n None mid e a r = rw e tt
  made_new n (Some s) mid e a r =
      rw e (record {
        new = made rights s;
        there = at_itself b (Some (file (made rights s))) (s.holds b);
        room = r;
        allowed = λ f q k. a f (other to b (Some (file (made rights s))) (s.holds to) f q k);
      })

  pub took_place : (g : File → File) (old mid new : Option Shelf) → IfSome old (λ s. s.holds b ≡ None)
      → mid ≡ option_map (λ s. standing b (Some (file (made rights s))) s) old → new ≡ option_map (λ s. moved b to (alter b g s)) mid
      → new ≡ option_map (λ s. standing to (Some (file (g (made rights s)))) s) old
  took_place g None mid new h e q = rw e at q
  took_place g (Some s) mid new h e q =
      let x : new ≡ Some (moved b to (alter b g (standing b (Some (file (made rights s))) s))) = rw e at q in
      x ∙ ap (λ (l : Shelf). Some (moved b to l)) (alter_standing b g (Some (file (made rights s))) s)
      ∙ ap Some (moved_standing b to (Some (file (g (made rights s)))) s h)

  pub was_removed : (g : File → File) (old mid new : Option Shelf) → IfSome old (λ s. s.holds b ≡ None)
      → mid ≡ option_map (λ s. standing b (Some (file (made rights s))) s) old → new ≡ option_map (λ s. standing b None (alter b g s)) mid → new ≡ old
  was_removed g None mid new h e q = rw e at q
  was_removed g (Some s) mid new h e q =
      let x : new ≡ Some (standing b None (alter b g (standing b (Some (file (made rights s))) s))) = rw e at q in
      x ∙ ap (λ (l : Shelf). Some (standing b None l)) (alter_standing b g (Some (file (made rights s))) s)
      ∙ ap Some (removed_standing b (Some (file (g (made rights s)))) s h)

  pub was_left : (g : File → File) (old mid new : Option Shelf)
      → mid ≡ option_map (λ s. standing b (Some (file (made rights s))) s) old → new ≡ option_map (alter b g) mid
      → new ≡ option_map (λ s. standing b (Some (file (g (made rights s)))) s) old
  was_left g None mid new e q = rw e at q
  was_left g (Some s) mid new e q =
      let x : new ≡ Some (alter b g (standing b (Some (file (made rights s))) s)) = rw e at q in
      x ∙ ap Some (alter_standing b g (Some (file (made rights s))) s)

  pub undone : (stays : Text → Type 0) (old mid new : Option Shelf) → IfSome old (λ s. s.holds b ≡ None)
      → mid ≡ option_map (λ s. standing b (Some (file (made rights s))) s) old → Undone (stays b) b mid new → Unplaced stays old new
  undone stays old mid new h e (removed g q) = as_it_was (was_removed g old mid new h e q)
  undone stays old mid new h e (left g q s) = left_beside b (λ s. g (made rights s)) h (was_left g old mid new e q) s

pub puts_new : {E : Type 0} (stays : Text → Type 0) (b to : Text) (o : Option Kept) (t : Text) (rights : ℕ) (old mid new : Option Shelf) (r : Result ⊤ E)
    → rights ≡ rights_for o → IfSome old (λ s. s.holds b ≡ None) → mid ≡ option_map (λ s. standing b (Some (file (made rights s))) s) old
    → Takes (stays b) b to (finished o t) mid new r → PutsNew stays to o t old new r
puts_new stays b to o t rights old mid new (Ok x) w h e (kept, q) =
    (kept, took_place b to rights (finished o t kept) old mid new h e q ∙ ap (λ (n : ℕ). option_map (λ s. standing to (Some (file (finished o t kept (made n s)))) s) old) w)
puts_new stays b to o t rights old mid new (Err x) w h e u = undone b to rights stays old mid new h e u

-- ---- what was before the same

pub unplaced_after : (stays : Text → Type 0) (old mid new : Option Shelf) → mid ≡ old → Unplaced stays mid new → Unplaced stays old new
unplaced_after stays old mid new e (as_it_was q) = as_it_was (q ∙ e)
unplaced_after stays old mid new e (left_beside b f h q s) = rw (← e) (left_beside b f h q s)

-- ---- a path

pub leads_none : (n : ℕ) (h : Text → Option Node) (p : Text) → linked (h p) ≡ None → leads_by (suc n) h p ≡ p
unfolding leads_by
leads_none n h p e = rw (leads_by, e) refl

pub leads_some : (n : ℕ) (h : Text → Option Node) (p q : Text) → linked (h p) ≡ Some q → leads_by (suc n) h p ≡ leads_by n h q
unfolding leads_by
leads_some n h p q e = rw (e, leads_by) refl

-- the name of a file leads to it
leads_file : (s : Shelf) (p : Text) (f : File) → s.holds p ≡ Some (file f) → leads s p ≡ p
unfolding leads
leads_file s p f e = leads_none 39 s.holds p (ap linked e)

sees_none : (o : Option Node) → Sees o None → o ≡ None
sees_none (Some (file f)) h = absurd h
sees_none (Some (device d)) h = absurd h
sees_none (Some (link l)) h = absurd h
sees_none None h = refl

allowed_none : (s : Shelf) (p : Text) → Sees (found s p) None → Allowed p s
allowed_none s p h = λ f e. absurd (none-some (file f) (sym (sees_none (found s p) h) ∙ ap s.holds (leads_file s p f e) ∙ e))

-- where a path leads to nothing no file is replaced
pub none_replaced : (p : Text) (old mid : Option Shelf) → mid ≡ old → IfSome old (λ s. Sees (found s p) None) → IfSome mid (Allowed p)
none_replaced p None mid e h = rw e tt
none_replaced p (Some s) mid e h = rw e (allowed_none s p h)

new_at : (path t : Text) (kept : Bool) (s : Shelf) (o : Option Node) → Sees o None
    → replaced path None t kept s ≡ standing (target o path s) (Some (file (whole kept t s o))) s
new_at path t kept s (Some (file f)) h = absurd h
new_at path t kept s (Some (device d)) h = absurd h
new_at path t kept s (Some (link l)) h = absurd h
new_at path t kept s None h = refl

over_at : (path real t : Text) (k : Kept) (kept : Bool) (s : Shelf) (o : Option Node) → Sees o (Some (Is.File k)) → real ≡ leads s path
    → replaced real (Some k) t kept s ≡ standing (target o path s) (Some (file (whole kept t s o))) s
over_at path real t k true s (Some (file f)) (p, q, r) e =
    λ i. standing (e i) (Some (file (record { text = t; synced = true; owner = p i; group = q i; rights = r i }))) s
over_at path real t k false s (Some (file f)) (p, q, r) e =
    λ i. standing (e i) (Some (file (record { text = t; synced = true; owner = s.owner; group = q i; rights = r i }))) s
over_at path real t k kept s (Some (device d)) h e = absurd h
over_at path real t k kept s (Some (link l)) h e = absurd h
over_at path real t k kept s None h e = absurd h

new_known : (path t : Text) (kept : Bool) (old mid new : Option Shelf) → mid ≡ old → IfSome old (λ s. Sees (found s path) None)
    → new ≡ option_map (replaced path None t kept) mid → new ≡ option_map (placed kept path t) old
new_known path t kept None mid new e h q = rw e at q
new_known path t kept (Some s) mid new e h q =
    let x : new ≡ Some (replaced path None t kept s) = rw e at q in
    x ∙ ap Some (new_at path t kept s (found s path) h)

over_known : (path real t : Text) (k : Kept) (kept : Bool) (old mid new : Option Shelf) → mid ≡ old → IfSome old (λ s. Sees (found s path) (Some (Is.File k)))
    → IfSome old (λ s. real ≡ leads s path) → new ≡ option_map (replaced real (Some k) t kept) mid → new ≡ option_map (placed kept path t) old
over_known path real t k kept None mid new e h l q = rw e at q
over_known path real t k kept (Some s) mid new e h l q =
    let x : new ≡ Some (replaced real (Some k) t kept s) = rw e at q in
    x ∙ ap Some (over_at path real t k kept s (found s path) h l)

-- where it is put
new_target : (path : Text) (s : Shelf) (o : Option Node) → Sees o None → path ≡ target o path s
new_target path s (Some (file f)) h = absurd h
new_target path s (Some (device d)) h = absurd h
new_target path s (Some (link l)) h = absurd h
new_target path s None h = refl

over_target : (path real : Text) (k : Kept) (s : Shelf) (o : Option Node) → Sees o (Some (Is.File k)) → real ≡ leads s path → real ≡ target o path s
over_target path real k s (Some n) h e = e
over_target path real k s None h e = absurd h

new_targets : (path : Text) (old : Option Shelf) → IfSome old (λ s. Sees (found s path) None) → IfSome old (λ s. path ≡ target (found s path) path s)
new_targets path None h = tt
new_targets path (Some s) h = new_target path s (found s path) h

over_targets : (path real : Text) (k : Kept) (old : Option Shelf) → IfSome old (λ s. Sees (found s path) (Some (Is.File k))) → IfSome old (λ s. real ≡ leads s path)
    → IfSome old (λ s. real ≡ target (found s path) path s)
over_targets path real k None h e = tt
over_targets path real k (Some s) h e = over_target path real k s (found s path) h e

none_plain : (o : Option Node) → Sees o None → IsPlain o
none_plain (Some (file f)) h = absurd h
none_plain (Some (device d)) h = absurd h
none_plain (Some (link l)) h = absurd h
none_plain None h = tt

file_plain : (k : Kept) (o : Option Node) → Sees o (Some (Is.File k)) → IsPlain o
file_plain k (Some (file f)) h = tt
file_plain k (Some (device d)) h = absurd h
file_plain k (Some (link l)) h = absurd h
file_plain k None h = absurd h

new_plain : (path : Text) (old : Option Shelf) → IfSome old (λ s. Sees (found s path) None) → IfSome old (λ s. IsPlain (found s path))
new_plain path None h = tt
new_plain path (Some s) h = none_plain (found s path) h

over_plain : (path : Text) (k : Kept) (old : Option Shelf) → IfSome old (λ s. Sees (found s path) (Some (Is.File k))) → IfSome old (λ s. IsPlain (found s path))
over_plain path k None h = tt
over_plain path k (Some s) h = file_plain k (found s path) h

pub put_none : {E : Type 0} (settled stays : Text → Type 0) (path t : Text) (old mid new : Option Shelf) (r : Result Placed E) → mid ≡ old
    → IfSome old (λ s. Sees (found s path) None) → Replaces settled stays path None t mid new r → Put settled stays path t old new r
put_none settled stays path t old mid new (Ok Was.Settled) e h (kept, q, w) = ((kept, new_known path t kept old mid new e h q, new_plain path old h), (path, w, new_targets path old h))
put_none settled stays path t old mid new (Ok (Was.Unsettled x)) e h (kept, q) = (kept, new_known path t kept old mid new e h q, new_plain path old h)
put_none settled stays path t old mid new (Ok Was.Poured) e h q = absurd q
put_none settled stays path t old mid new (Err x) e h u = inl (unplaced_after stays old mid new e u)

pub put_file : {E : Type 0} (settled stays : Text → Type 0) (path real t : Text) (k : Kept) (old mid new : Option Shelf) (r : Result Placed E) → mid ≡ old
    → IfSome old (λ s. Sees (found s path) (Some (Is.File k))) → IfSome old (λ s. real ≡ leads s path) → Replaces settled stays real (Some k) t mid new r
    → Put settled stays path t old new r
put_file settled stays path real t k old mid new (Ok Was.Settled) e h l (kept, q, w) = ((kept, over_known path real t k kept old mid new e h l q, over_plain path k old h), (real, w, over_targets path real k old h l))
put_file settled stays path real t k old mid new (Ok (Was.Unsettled x)) e h l (kept, q) = (kept, over_known path real t k kept old mid new e h l q, over_plain path k old h)
put_file settled stays path real t k old mid new (Ok Was.Poured) e h l q = absurd q
put_file settled stays path real t k old mid new (Err x) e h l u = inl (unplaced_after stays old mid new e u)

-- a name that is the same
pub named_as : (path x y : Text) (old : Option Shelf) → x ≡ y → IfSome old (λ s. y ≡ leads s path) → IfSome old (λ s. x ≡ leads s path)
named_as path x y None e h = tt
named_as path x y (Some s) e h = e ∙ h
