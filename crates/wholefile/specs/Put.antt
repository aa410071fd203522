-- What the steps of a disk owe, and what comes of a file that is put whole. Where it is not known what stands on the disk nothing is claimed
-- of it. Assumes nothing.
use Rattle.std.specs.Prelude.{ℕ, ◌≡◌, ◌≤◌, Bool, true, false, cond, ◌++◌, ◌⊎◌, Option, Some, None, option_map, Result, Ok, Err, IfSome, ⊤}
use Rattle.rules.specs.Text.{Text, same}
use Rattle.wholefile.specs.Shelf.{File, Node, file, device, Shelf, leads, found, made, added, given, with_rights, sure, standing, alter, moved, poured}
use Rattle.wholefile.specs.declared.Kept.{Kept}
use Rattle.wholefile.specs.declared.Seen.{Seen}
use Rattle.wholefile.specs.declared.Seen.TheVariants as Is
use Rattle.wholefile.specs.declared.Placed.{Placed}
use Rattle.wholefile.specs.declared.Placed.TheVariants as Was

-- ---- steps

-- what a look-up of a name says of what it leads to
abbrev pub Sees : Option Node → Option Seen → Type 0
Sees (Some (file f)) (Some (Is.File k)) = (k.owner ≡ f.owner) × (k.group ≡ f.group) × (k.rights ≡ f.rights)
Sees (Some (device t)) (Some Is.Device) = ⊤
Sees None None = ⊤
Sees o r = ⊥

-- a step on an open file of that name changes it by g; where it fails it may have changed the file otherwise
abbrev pub Does : {E : Type 0} → Text → (File → File) → Option Shelf → Option Shelf → Result ⊤ E → Type 0
Does name g old new (Ok r) = new ≡ option_map (alter name g) old
Does name g old new (Err e) = (h : File → File) × (new ≡ option_map (alter name h) old)

-- a device was given the text, or where that failed a front of it
abbrev pub Pours : {E : Type 0} → Text → Text → Option Shelf → Option Shelf → Result ⊤ E → Type 0
Pours name t old new (Ok r) = new ≡ option_map (poured name t) old
Pours name t old new (Err e) = (done rest : Text) × (t ≡ done ++ rest) × (new ≡ option_map (poured name done) old)

-- what is moved is a file that is sure to be kept, and what it replaces, if that is another file, may be written
pub record Ready (from to : Text) (s : Shelf) : Type 0 where
  pub new : File
  pub there : s.holds from ≡ Some (file new)
  pub synced : new.synced ≡ true
  pub allowed : (f : File) → same to from ≡ false → s.holds to ≡ Some (file f) → s.may_write to ≡ true

-- ---- several steps on a new file

-- the file is given to the old one's group, and to its owner if that is kept
abbrev pub given_back : Kept → Bool → File → File
given_back k true f = given (Some k.owner) k.group f
given_back k false f = given None k.group f

-- and has its rights; a file that replaces none stays whose it is
abbrev pub owned : Option Kept → Bool → File → File
owned (Some k) kept f = with_rights k.rights (given_back k kept f)
owned None kept f = f

-- it has the text, is whose the old one was, and is sure to be kept
abbrev pub finished : Option Kept → Text → Bool → File → File
finished o t kept f = sure (owned o kept (added t f))

-- the steps on an open file of that name change it by g, whether or not the owner is kept; where one fails it may have been changed otherwise
abbrev pub Ends : {E : Type 0} → Text → (Bool → File → File) → Option Shelf → Option Shelf → Result ⊤ E → Type 0
Ends name g old new (Ok r) = (kept : Bool) × (new ≡ option_map (alter name (g kept)) old)
Ends name g old new (Err e) = (h : File → File) × (new ≡ option_map (alter name h) old)

-- a new file, n bytes of text, and the name that it is to take
pub record New (name to : Text) (n : ℕ) (s : Shelf) : Type 0 where
  pub new : File
  pub there : s.holds name ≡ Some (file new)
  pub room : n ≤ s.limit
  pub allowed : (f : File) → same to name ≡ false → s.holds to ≡ Some (file f) → s.may_write to ≡ true

-- what is left of a new file that did not take its place: nothing, or the file, where it could not be removed
pub data Undone (stays : Type 0) (name : Text) (old new : Option Shelf) : Type 0 where
  removed : (h : File → File) → new ≡ option_map (λ s. standing name None (alter name h s)) old → Undone stays name old new
  left : (h : File → File) → new ≡ option_map (alter name h) old → stays → Undone stays name old new

-- the new file, changed by g, has taken the other name
abbrev pub Takes : {E : Type 0} → Type 0 → Text → Text → (Bool → File → File) → Option Shelf → Option Shelf → Result ⊤ E → Type 0
Takes stays name to g old new (Ok r) = (kept : Bool) × (new ≡ option_map (λ s. moved name to (alter name (g kept) s)) old)
Takes stays name to g old new (Err e) = Undone stays name old new

-- ---- a file put

-- the rights that a new file is made with: those of any new file, or, until it has the old one's, its owner's alone
abbrev pub rights_for : Option Kept → ℕ
rights_for (Some k) = 0o600
rights_for None = 0o666

-- what stands after a failure: all as it was, or also a new file at a name that had none, where that could not be removed
pub data Unplaced (stays : Text → Type 0) (old new : Option Shelf) : Type 0 where
  as_it_was : new ≡ old → Unplaced stays old new
  left_beside : (name : Text) (f : Shelf → File) → IfSome old (λ s. s.holds name ≡ None) → new ≡ option_map (λ s. standing name (Some (file (f s))) s) old → stays name → Unplaced stays old new

-- a new file, whose the old one was, in the place of what a name holds
abbrev pub replaced : Text → Option Kept → Text → Bool → Shelf → Shelf
replaced to o t kept s = standing to (Some (file (finished o t kept (made (rights_for o) s)))) s

abbrev pub PutsNew : {E : Type 0} → (Text → Type 0) → Text → Option Kept → Text → Option Shelf → Option Shelf → Result ⊤ E → Type 0
PutsNew stays to o t old new (Ok r) = (kept : Bool) × (new ≡ option_map (replaced to o t kept) old)
PutsNew stays to o t old new (Err e) = Unplaced stays old new

-- and its folder is sure to keep its name, or is not
abbrev pub Replaces : {E : Type 0} → (Text → Type 0) → (Text → Type 0) → Text → Option Kept → Text → Option Shelf → Option Shelf → Result Placed E → Type 0
Replaces settled stays to o t old new (Ok Was.Settled) = (kept : Bool) × (new ≡ option_map (replaced to o t kept) old) × settled to
Replaces settled stays to o t old new (Ok (Was.Unsettled e)) = (kept : Bool) × (new ≡ option_map (replaced to o t kept) old)
Replaces settled stays to o t old new (Ok Was.Poured) = ⊥
Replaces settled stays to o t old new (Err e) = Unplaced stays old new

-- what a name holds, if it is a file, may be written
abbrev pub Allowed : Text → Shelf → Type 0
Allowed to s = (f : File) → s.holds to ≡ Some (file f) → s.may_write to ≡ true

-- the file that is put, of what stood where the path leads: it has the old one's group and rights, and its owner if that was kept; or else those of
-- any new file
abbrev pub whole : Bool → Text → Shelf → Option Node → File
whole kept t s (Some (file f)) = record { text = t; synced = true; owner = cond kept f.owner s.owner; group = f.group; rights = f.rights }
whole kept t s o = record { text = t; synced = true; owner = s.owner; group = s.group; rights = s.masked 0o666 }

-- where it is put: where the path leads, or under the path itself, where that leads to nothing
abbrev pub target : Option Node → Text → Shelf → Text
target (Some n) path s = leads s path
target None path s = path

-- no device, nor a link that leads round
abbrev pub IsPlain : Option Node → Type 0
IsPlain (Some (file f)) = ⊤
IsPlain None = ⊤
IsPlain o = ⊥

-- it stands there, and all else is as it was
abbrev pub placed : Bool → Text → Text → Shelf → Shelf
placed kept path t s = standing (target (found s path) path s) (Some (file (whole kept t s (found s path)))) s

abbrev pub Stands : Text → Text → Option Shelf → Option Shelf → Type 0
Stands path t old new = (kept : Bool) × (new ≡ option_map (placed kept path t) old) × IfSome old (λ s. IsPlain (found s path))

-- the folder of the file is sure to be kept
abbrev pub Settles : (Text → Type 0) → Text → Option Shelf → Type 0
Settles settled path old = (name : Text) × settled name × IfSome old (λ s. name ≡ target (found s path) path s)

abbrev pub IsDevice : Option Node → Type 0
IsDevice (Some (device t)) = ⊤
IsDevice o = ⊥

-- a device that was given a front of a text
abbrev pub InPart : Text → Text → Option Shelf → Option Shelf → Type 0
InPart path t old new = (done rest : Text) × (t ≡ done ++ rest) × (new ≡ option_map (poured path done) old) × IfSome old (λ s. IsDevice (found s path))

-- settled and stays, what is known of names once their folders are sure to be kept, and once their files could not be removed; old and new, what
-- stands before and after
abbrev pub Put : {E : Type 0} → (Text → Type 0) → (Text → Type 0) → Text → Text → Option Shelf → Option Shelf → Result Placed E → Type 0
Put settled stays path t old new (Ok Was.Settled) = Stands path t old new × Settles settled path old
Put settled stays path t old new (Ok (Was.Unsettled e)) = Stands path t old new
Put settled stays path t old new (Ok Was.Poured) = (new ≡ option_map (poured path t) old) × IfSome old (λ s. IsDevice (found s path))
Put settled stays path t old new (Err e) = Unplaced stays old new ⊎ InPart path t old new

-- as an output: that the folder is not sure to be kept is an error, though the file stands
abbrev pub Whole : {E : Type 0} → (Text → Type 0) → (Text → Type 0) → Text → Text → Option Shelf → Option Shelf → Result ⊤ E → Type 0
Whole settled stays path t old new (Ok r) = Stands path t old new × Settles settled path old ⊎ (new ≡ option_map (poured path t) old) × IfSome old (λ s. IsDevice (found s path))
Whole settled stays path t old new (Err e) = Stands path t old new ⊎ (Unplaced stays old new ⊎ InPart path t old new)

-- ---- what this comes to: the path leads to the file, and nothing else is changed

abbrev pub LeadsToTheFile : Type 0
LeadsToTheFile = (kept : Bool) (path t : Text) (s : Shelf) → IsPlain (found s path) → found (placed kept path t s) path ≡ Some (file (whole kept t s (found s path)))

abbrev pub ChangesNoOther : Type 0
ChangesNoOther = (kept : Bool) (path t : Text) (s : Shelf) (n : Text) → same n (target (found s path) path s) ≡ false → (placed kept path t s).holds n ≡ s.holds n
