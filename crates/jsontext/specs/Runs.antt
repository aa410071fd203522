-- Runs of the bench as a value: `{"runs":[{"data_registers":[7,0,0,0,0,0,0,0],"end":"halt","flags":{"carry":false,"extend":false,
-- "negative":false,"overflow":false,"zero":true},"program_counter":4098,"steps":1,"value":12}]}`. Assumes nothing.
use Rattle.std.specs.Prelude.{ℕ, ◌≡◌, false, List, [], ◌∷◌, ◌++◌, map, Option, None, Some, codes}
use Rattle.machine.specs.Machine.{Run}
use Rattle.machine.specs.declared.Flags.{Flags}
use Rattle.benchtext.specs.BenchText.{end_text}
use Rattle.serde_json.specs.Data.{Data, boolean, object, array, string, Items, item, Members, member, no_members}
use Rattle.serde_json.specs.Written.{items_text}
use Rattle.serde_json.specs.View.{items_of}
use Rattle.jsontext.specs.Line.{whole}
use Rattle.jsontext.specs.declared.runs.RunList.{RunList}

unfoldable pub flags_data : Flags → Data
flags_data f =
    object (member (codes "carry") (boolean f.c) (member (codes "extend") (boolean f.x) (member (codes "negative") (boolean f.n)
    (member (codes "overflow") (boolean f.v) (member (codes "zero") (boolean f.z) no_members)))))

abbrev pub registers_data : List ℕ → Data
registers_data d = array (items_of (map whole d))

-- the value of a threshold that is tried
abbrev pub value_member : Option ℕ → Members
value_member None = no_members
value_member (Some v) = member (codes "value") (whole v) no_members

-- a run, and the value with which it was made, if one was tried
pub record Tried : Type 0 where
  pub value : Option ℕ
  pub run : Run

abbrev pub tried : Option ℕ → Run → Tried
tried o r = record { value = o; run = r }

unfoldable pub run_data : Tried → Data
run_data t =
    object (member (codes "data_registers") (registers_data t.run.state.d) (member (codes "end") (string (end_text t.run.end))
    (member (codes "flags") (flags_data t.run.state.flags) (member (codes "program_counter") (whole t.run.state.pc)
    (member (codes "steps") (whole t.run.steps) (value_member t.value))))))

abbrev pub runs_data : List Tried → Data
runs_data ts = object (member (codes "runs") (array (items_of (map run_data ts))) no_members)

-- ---- a text that is being written

-- items, and more of them after
unfoldable pub items_onto : List Data → Items → Items
items_onto [] more = more
items_onto (d ∷ ds) more = item d (items_onto ds more)

-- so far it has these runs: with any more of them after it is the text of all, from the bracket on
unfoldable pub Holds : List Tried → RunList → Type 0
Holds ts r = (more : Items) → r.text.items ++ items_text r.later more ≡ codes "{\"runs\":[" ++ items_text false (items_onto (map run_data ts) more)
