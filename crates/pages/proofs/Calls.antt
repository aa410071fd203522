-- Laws of a call on an example. Assumes nothing.
use Rattle.std.proofs.Common.{◌≡◌, List, [], map, refl}
use Rattle.rules.specs.Text.{Text}
use Rattle.outcome.specs.declared.Outcome.{Outcome}
use Rattle.wholefile.specs.declared.memory.Memory.{Memory}
use Rattle.pages.specs.declared.calling.Printed.{Printed}
use Rattle.pages.specs.Page.{Sample}
use Rattle.pages.specs.Texts.{input_text}
use Rattle.pages.specs.Files.{Named, file}
use Rattle.pages.specs.Called.{words, Ran, Comes}

pub comes_of : (e : Sample) (ws : List Text) (fs : List Named) (input : Text) (first last : Printed) (before after : Memory) (o : Outcome) (old said : Text) → ws ≡ words e → fs ≡ map file e.files → input ≡ input_text e → old ≡ [] → first.text.items ≡ [] → Ran ws fs input first last before after old said o → Comes e last.text.items said
comes_of e ws fs input first last before after o old said p q r s t x =
    record { first = first; last = last; before = before; after = after; outcome = o; empty = t; whole = refl; ran = rw (p, q, r, s) at x }
