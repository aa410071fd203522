-- The labels of a line go into the rules' table exactly where the Rust's map has room for them by its keys. Assumes nothing.
use Rattle.std.specs.Prelude.{Option, None, Some}
use Prim.Native.Nat.{ℕ, suc, ◌^◌, ◌≤◌, ◌<◌}
use mathlib.Core.Path.{◌≡◌, refl, sym, ◌∙◌}
use mathlib.Core.Bool.{Bool, true, false, cond}
use mathlib.Core.List.{List, [], ◌∷◌}
use native.Mathlib.Omega.{arith}
use lib.ListN.{length}
use Rattle.rules.specs.Limits.{max_labels}
use Rattle.rules.specs.Text.{Text}
use Rattle.rules.specs.Line.{SourceLine, Name}
use Rattle.rules.specs.Label.{Label, Table, find, recorded, has_room, label_of, record_all}
use Rattle.rules.specs.Encode.{is_some}
use Rattle.promises_rust.specs.RustStr.{rust_is_some, HashMap, insert, look_up}
use Rattle.promises_rust.specs.RustAssembler.{State, insert_label}
use Rattle.promises_rust.specs.RustLists.{insert_all, keys}
use Rattle.promises.proofs.RefusalsLabels.{length_recorded, full_new, recorded_room}
use Rattle.promises_rust.proofs.RustOperand.{Agrees}
use Rattle.promises_rust.proofs.RustPass.{insert_agrees}

-- a key more, or as many
keys_insert : (m : HashMap) (k : Text) (v : ℕ) → keys (insert m k v) ≡ cond (rust_is_some (look_up m k)) (keys m) (suc (keys m))
unfolding insert keys
keys_insert m k v = refl

some_is : (o : Option ℕ) → rust_is_some o ≡ is_some o
unfolding rust_is_some is_some
some_is None = refl
some_is (Some v) = refl

no_fewer : (x : Bool) (n : ℕ) → n ≤ cond x n (suc n)
no_fewer true n = omega arith
no_fewer false n = omega arith

-- labels only add keys
keys_grow : (ns : List Name) (st : State) → keys st.labels ≤ keys (insert_all ns st).labels
unfolding insert_all insert_label
keys_grow [] st = omega arith
keys_grow (n ∷ ns) st =
    let h = keys_grow ns (insert_label n.text st) in
    let k : keys st.labels ≤ keys (insert st.labels n.text st.current_address) =
    rw (keys_insert st.labels n.text st.current_address) (no_fewer (rust_is_some (look_up st.labels n.text)) (keys st.labels)) in
    omega arith

-- a map and a table with the same labels, at most 256
pub record Level (m : HashMap) (t : Table) : Type 0 where
  pub agrees : Agrees m t
  pub count : keys m ≡ length t
  pub room : length t ≤ max_labels

-- the labels of a line: one too many, or all in both
pub data Inserted (m : HashMap) : Option Table → Type 0 where
  overflow : max_labels < keys m → Inserted m None
  fits : {t : Table} → Level m t → Inserted m (Some t)

count_insert : (m : HashMap) (t : Table) (x : Label) → Agrees m t → keys m ≡ length t → keys (insert m x.name x.address) ≡ length (recorded x t)
count_insert m t x g c =
    keys_insert m x.name x.address
    ∙ rw (some_is (look_up m x.name), g.finds x.name, c) (sym (length_recorded x t))

pub inserted : (l : SourceLine) (a : ℕ) → a < 2 ^ 30 → (ns : List Name) (t : Table) (st : State) → st.current_address ≡ a → Level st.labels t
    → Inserted (insert_all ns st).labels (record_all l a ns t)
unfolding record_all insert_all insert_label
inserted l a h [] t st c v = fits v
inserted l a h (n ∷ ns) t st c v = go (has_room (find n.text t) t) refl (inserted l a h ns (recorded x t) (insert_label n.text st) c)
  where
    x : Label
    x = label_of l a n

    more : keys (insert st.labels n.text st.current_address) ≡ length (recorded x t)
    more = rw c (count_insert st.labels t x v.agrees v.count)

    go : (y : Bool) → has_room (find n.text t) t ≡ y
        → (Level (insert st.labels n.text st.current_address) (recorded x t) → Inserted (insert_all ns (insert_label n.text st)).labels (record_all l a ns (recorded x t)))
        → Inserted (insert_all ns (insert_label n.text st)).labels (record_all l a (n ∷ ns) t)
    go true f ih =
        rw (record_all, f)
        (ih (record { agrees = rw c (insert_agrees x h v.agrees); count = more; room = recorded_room x t (find n.text t) refl v.room f }))
    go false f ih =
        let new = full_new (find n.text t) t f in
        let one : length (recorded x t) ≡ suc (length t) = length_recorded x t ∙ rw new.0 in
        let grown = keys_grow ns (insert_label n.text st) in
        rw (record_all, f) (overflow (omega (arith, new.1, more)))
