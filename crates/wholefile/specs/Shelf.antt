-- What stands on a disk under each name, and what a step makes of it. Assumes nothing.
use Rattle.std.specs.Prelude.{ℕ, zero, suc, Bool, true, false, cond, [], ◌++◌, Option, Some, None}
use Rattle.rules.specs.Text.{Text, same}

-- a file: what is in it, whether that is sure to be kept, and whose it is
pub record File : Type 0 where
  pub text : Text
  pub synced : Bool
  pub owner : ℕ
  pub group : ℕ
  pub rights : ℕ

-- what stands under a name: a device or a pipe keeps what it was given
pub data Node : Type 0 where
  file : File → Node
  device : Text → Node
  link : Text → Node

-- what stands under each name; the owner, the group and, of the rights that are asked for, those of a new file; how large a file may become; and
-- which files may be written
pub record Shelf : Type 0 where
  pub holds : Text → Option Node
  pub owner : ℕ
  pub group : ℕ
  pub masked : ℕ → ℕ
  pub limit : ℕ
  pub may_write : Text → Bool

-- ---- links

abbrev pub linked : Option Node → Option Text
linked (Some (link t)) = Some t
linked (Some (file f)) = None
linked (Some (device t)) = None
linked None = None

-- where n links lead at most, and where a name leads: no more than 40 are followed
unfoldable pub leads_by : ℕ → (Text → Option Node) → Text → Text
leads_by zero h name = name
leads_by (suc n) h name = elim (linked (h name)) [ Some t ↦ leads_by n h t | None ↦ name ]

unfoldable pub leads : Shelf → Text → Text
leads s name = leads_by 40 s.holds name

-- what stands where a name leads
abbrev pub found : Shelf → Text → Option Node
found s name = s.holds (leads s name)

-- ---- steps

-- a new file
abbrev pub made : ℕ → Shelf → File
made rights s = record { text = []; synced = false; owner = s.owner; group = s.group; rights = s.masked rights }

abbrev pub added : Text → File → File
added t f = record { text = f.text ++ t; synced = false; owner = f.owner; group = f.group; rights = f.rights }

abbrev pub with_owner : ℕ → File → File
with_owner n f = record { text = f.text; synced = false; owner = n; group = f.group; rights = f.rights }

abbrev pub with_group : ℕ → File → File
with_group n f = record { text = f.text; synced = false; owner = f.owner; group = n; rights = f.rights }

abbrev pub with_rights : ℕ → File → File
with_rights n f = record { text = f.text; synced = false; owner = f.owner; group = f.group; rights = n }

abbrev pub sure : File → File
sure f = record { text = f.text; synced = true; owner = f.owner; group = f.group; rights = f.rights }

-- the owner, where one is given, and the group
abbrev pub given : Option ℕ → ℕ → File → File
given (Some owner) group f = with_group group (with_owner owner f)
given None group f = with_group group f

abbrev pub on_file : (File → File) → Option Node → Option Node
on_file g (Some (file f)) = Some (file (g f))
on_file g (Some (device t)) = Some (device t)
on_file g (Some (link t)) = Some (link t)
on_file g None = None

abbrev pub on_device : Text → Option Node → Option Node
on_device t (Some (file f)) = Some (file f)
on_device t (Some (device old)) = Some (device (old ++ t))
on_device t (Some (link n)) = Some (link n)
on_device t None = None

-- a shelf with other names
abbrev pub with_names : (Text → Option Node) → Shelf → Shelf
with_names h s = record { holds = h; owner = s.owner; group = s.group; masked = s.masked; limit = s.limit; may_write = s.may_write }

-- o under a name, and all else as it was
abbrev pub standing : Text → Option Node → Shelf → Shelf
standing name o s = with_names (λ n. cond (same n name) o (s.holds n)) s

-- the file of a name changed by g
abbrev pub alter : Text → (File → File) → Shelf → Shelf
alter name g s = standing name (on_file g (s.holds name)) s

-- what stands under one name moved to another
abbrev pub moved : Text → Text → Shelf → Shelf
moved from to s = with_names (λ n. cond (same n to) (s.holds from) (cond (same n from) None (s.holds n))) s

-- a text given to a device
abbrev pub poured : Text → Text → Shelf → Shelf
poured name t s = standing (leads s name) (on_device t (found s name)) s
