-- The small disk in memory, as a shelf: a new file, a device, a file `out` and a link to it. Assumes nothing.
use Rattle.std.specs.Prelude.{ℕ, ◌≡◌, Bool, false, cond, Option, Some, None, bit_and}
use Rattle.rules.specs.Text.{Text, bytes, same}
use Rattle.wholefile.specs.Shelf.{File, Node, file, device, link, Shelf}
use Rattle.wholefile.specs.declared.memory.Stored.{Stored}
use Rattle.wholefile.specs.declared.memory.Memory.{Memory}
use Rattle.wholefile.specs.declared.memory.Place.{Place}
use Rattle.wholefile.specs.declared.memory.Place.TheVariants as At

abbrev pub new_name : Text
new_name = bytes ".lagvettu-aaaaaa"

abbrev pub device_name : Text
device_name = bytes "dev"

abbrev pub out_name : Text
out_name = bytes "out"

abbrev pub link_name : Text
link_name = bytes "link"

abbrev pub stored : Stored → File
stored f = record { text = f.text.items; synced = f.synced; owner = f.kept.owner; group = f.kept.group; rights = f.kept.rights }

abbrev pub node : Option Stored → Option Node
node (Some f) = Some (file (stored f))
node None = None

abbrev pub slots : Option Node → Option Node → Text → Text → Option Node
slots new out given n = cond (same n new_name) new (cond (same n device_name) (Some (device given)) (cond (same n out_name) out (cond (same n link_name) (Some (link out_name)) None)))

abbrev pub shelf_of : Option Node → Option Node → Text → ℕ → ℕ → ℕ → ℕ → Bool → Shelf
shelf_of new out given owner group mask limit w =
    record { holds = slots new out given; owner = owner; group = group; masked = λ r. bit_and r mask; limit = limit; may_write = λ n. w }

abbrev pub shelf : Memory → Shelf
shelf m = shelf_of (node m.fresh) (node m.out) m.given.items m.owner m.group m.mask m.limit m.is_writable

-- which of the names a text is
abbrev pub Leads : Text → Place → Type 0
Leads n At.New = n ≡ new_name
Leads n At.Device = n ≡ device_name
Leads n At.Out = n ≡ out_name
Leads n At.Link = n ≡ link_name
Leads n At.Nothing = (same n new_name ≡ false) × (same n device_name ≡ false) × (same n out_name ≡ false) × (same n link_name ≡ false)
