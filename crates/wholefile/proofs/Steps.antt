-- Steps on a shelf, one after another. Assumes nothing.
use Rattle.std.proofs.Common.{ℕ, ◌≡◌, ◌≤◌, Bool, true, false, cond, refl, sym, ap, ◌∙◌}
use mathlib.Core.Path.{fun_ext}
use Rattle.std.specs.Prelude.{Option, Some, None, option_map, IfSome, Result, Ok, Err, ⊤}
use Rattle.rules.specs.Text.{Text, same}
use Rattle.text.proofs.Compare.{same_is, same_self}
use Rattle.wholefile.specs.Shelf.{File, Node, file, device, link, Shelf, with_names, on_file, standing, alter, moved}
use Rattle.wholefile.specs.Put.{Does, Ends, finished, New, Ready}
use Rattle.wholefile.specs.declared.Kept.{Kept}

-- shelves that hold the same
pub names : (h k : Text → Option Node) (s : Shelf) → ((n : Text) → h n ≡ k n) → with_names h s ≡ with_names k s
names h k s p = ap (λ (l : Text → Option Node). with_names l s) (fun_ext p)

pub twice : (b : Bool) (x y z : Option Node) → cond b x (cond b y z) ≡ cond b x z
twice true x y z = refl
twice false x y z = refl

on_file_twice : (g h : File → File) (o : Option Node) → on_file g (on_file h o) ≡ on_file (λ f. g (h f)) o
on_file_twice g h (Some (file f)) = refl
on_file_twice g h (Some (device t)) = refl
on_file_twice g h (Some (link t)) = refl
on_file_twice g h None = refl

on_file_same : (o : Option Node) → on_file (λ f. f) o ≡ o
on_file_same (Some (file f)) = refl
on_file_same (Some (device t)) = refl
on_file_same (Some (link t)) = refl
on_file_same None = refl

-- what stands under the name itself
pub at_itself : (b : Text) (x y : Option Node) → cond (same b b) x y ≡ x
at_itself b x y = rw (same_self b) refl

-- o under the name that it stands under already
stands_there : (h : Text → Option Node) (b n : Text) (o : Option Node) → o ≡ h b → (y : Bool) → same n b ≡ y → cond y o (h n) ≡ h n
stands_there h b n o e true q = e ∙ ap h (sym (same_is n b q))
stands_there h b n o e false q = refl

pub standing_same : (b : Text) (o : Option Node) (s : Shelf) → o ≡ s.holds b → standing b o s ≡ s
standing_same b o s e = names (λ n. cond (same n b) o (s.holds n)) s.holds s (λ n. stands_there s.holds b n o e (same n b) refl)

pub standing_twice : (b : Text) (x y : Option Node) (s : Shelf) → standing b x (standing b y s) ≡ standing b x s
standing_twice b x y s = names (λ n. cond (same n b) x (cond (same n b) y (s.holds n))) (λ n. cond (same n b) x (s.holds n)) s (λ n. twice (same n b) x y (s.holds n))

-- a change after a change
pub alter_alter : (b : Text) (g h : File → File) (s : Shelf) → alter b g (alter b h s) ≡ alter b (λ f. g (h f)) s
alter_alter b g h s =
    let o : Option Node = on_file h (s.holds b) in
    standing_twice b (on_file g (cond (same b b) o (s.holds b))) o s
    ∙ ap (λ (x : Option Node). standing b x s) (ap (on_file g) (at_itself b o (s.holds b)) ∙ on_file_twice g h (s.holds b))

pub alter_same : (b : Text) (s : Shelf) → alter b (λ f. f) s ≡ s
alter_same b s = standing_same b (on_file (λ f. f) (s.holds b)) s (on_file_same (s.holds b))

-- a change of what was put there
pub alter_standing : (b : Text) (g : File → File) (o : Option Node) (s : Shelf) → alter b g (standing b o s) ≡ standing b (on_file g o) s
alter_standing b g o s =
    standing_twice b (on_file g (cond (same b b) o (s.holds b))) o s ∙ ap (λ (x : Option Node). standing b (on_file g x) s) (at_itself b o (s.holds b))

-- what was put under a free name, and moved
moves_at : (h : Text → Option Node) (b n : Text) (o : Option Node) → h b ≡ None → (y : Bool) → same n b ≡ y → cond y None (cond y o (h n)) ≡ h n
moves_at h b n o e true q = sym (ap h (same_is n b q) ∙ e)
moves_at h b n o e false q = refl

pub moved_standing : (b to : Text) (o : Option Node) (s : Shelf) → s.holds b ≡ None → moved b to (standing b o s) ≡ standing to o s
moved_standing b to o s e = names (λ n. cond (same n to) (cond (same b b) o (s.holds b)) (cond (same n b) None (cond (same n b) o (s.holds n)))) (λ n. cond (same n to) o (s.holds n)) s
    (λ n. ap (λ (x : Option Node). cond (same n to) x (cond (same n b) None (cond (same n b) o (s.holds n)))) (at_itself b o (s.holds b))
    ∙ ap (λ (x : Option Node). cond (same n to) o x) (moves_at s.holds b n o e (same n b) refl))

pub removed_standing : (b : Text) (o : Option Node) (s : Shelf) → s.holds b ≡ None → standing b None (standing b o s) ≡ s
removed_standing b o s e = standing_twice b None o s ∙ standing_same b None s (sym e)

-- ---- where the shelf may not be known

pub twice_altered : (b : Text) (g h : File → File) (x : Option Shelf) → option_map (alter b g) (option_map (alter b h) x) ≡ option_map (alter b (λ f. g (h f))) x
twice_altered b g h None = refl
twice_altered b g h (Some s) = ap Some (alter_alter b g h s)

pub not_altered : (b : Text) (x : Option Shelf) → option_map (alter b (λ f. f)) x ≡ x
not_altered b None = refl
not_altered b (Some s) = ap Some (alter_same b s)

-- a change, and then another
pub then_altered : (b : Text) (g h : File → File) (old mid new : Option Shelf) → mid ≡ option_map (alter b h) old → new ≡ option_map (alter b g) mid → new ≡ option_map (alter b (λ f. g (h f))) old
then_altered b g h old mid new p q = q ∙ ap (option_map (alter b g)) p ∙ twice_altered b g h old

-- no change
pub as_before : (b : Text) (old new : Option Shelf) → new ≡ old → new ≡ option_map (alter b (λ f. f)) old
as_before b old new p = p ∙ sym (not_altered b old)

-- ---- several steps on an open file

pub ends_then : {E : Type 0} (b : Text) (g : Bool → File → File) (h : File → File) (old mid new : Option Shelf) (r : Result ⊤ E) (kept : Bool)
    → mid ≡ option_map (alter b (g kept)) old → Does b h mid new r → Ends b (λ k f. h (g k f)) old new r
ends_then b g h old mid new (Ok x) kept p q = (kept, then_altered b h (g kept) old mid new p q)
ends_then b g h old mid new (Err e) kept p (j, q) = (λ f. j (g kept f), then_altered b j (g kept) old mid new p q)

-- ---- a new file under its own name

-- what is put there stands there
itself : (b : Text) (g : File → File) (f : File) (o : Option Node) (x : Option Node) → o ≡ Some (file f) → cond (same b b) (on_file g o) x ≡ Some (file (g f))
itself b g f o x e = at_itself b (on_file g o) x ∙ ap (on_file g) e

pub other : (to b : Text) (o x : Option Node) (f : File) → same to b ≡ false → cond (same to b) o x ≡ Some (file f) → x ≡ Some (file f)
other to b o x f q h = rw q at h

pub ready : (b to : Text) (n : ℕ) (o : Option Kept) (t : Text) (kept : Bool) (old new : Option Shelf)
    → IfSome old (New b to n) → new ≡ option_map (alter b (finished o t kept)) old → IfSome new (Ready b to)
ready b to n o t kept None new h e = rw e tt
ready b to n o t kept (Some s) new h e =
    rw e (record {
      new = finished o t kept h.new;
      there = itself b (finished o t kept) h.new (s.holds b) (s.holds b) h.there;
      synced = refl;
      allowed = λ f q k. h.allowed f q (other to b (on_file (finished o t kept) (s.holds b)) (s.holds to) f q k);
    })

pub room : (b to : Text) (n : ℕ) (x : Option Shelf) → IfSome x (New b to n) → IfSome x (λ s. n ≤ s.limit)
room b to n None h = tt
room b to n (Some s) h = h.room

map_twice : (f g : Shelf → Shelf) (x : Option Shelf) → option_map f (option_map g x) ≡ option_map (λ s. f (g s)) x
map_twice f g None = refl
map_twice f g (Some s) = refl

then_mapped : (f g : Shelf → Shelf) (old mid new : Option Shelf) → mid ≡ option_map g old → new ≡ option_map f mid → new ≡ option_map (λ s. f (g s)) old
then_mapped f g old mid new p q = q ∙ ap (option_map f) p ∙ map_twice f g old

pub then_moved : (b to : Text) (g : File → File) (old mid new : Option Shelf) → mid ≡ option_map (alter b g) old → new ≡ option_map (moved b to) mid
    → new ≡ option_map (λ s. moved b to (alter b g s)) old
then_moved b to g old mid new p q = then_mapped (moved b to) (alter b g) old mid new p q

pub then_removed : (b : Text) (g : File → File) (old mid new : Option Shelf) → mid ≡ option_map (alter b g) old → new ≡ option_map (standing b None) mid
    → new ≡ option_map (λ s. standing b None (alter b g s)) old
then_removed b g old mid new p q = then_mapped (standing b None) (alter b g) old mid new p q

pub unchanged : (b : Text) (g : File → File) (old mid new : Option Shelf) → mid ≡ option_map (alter b g) old → new ≡ mid → new ≡ option_map (alter b g) old
unchanged b g old mid new p q = q ∙ p
