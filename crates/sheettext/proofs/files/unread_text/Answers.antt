-- `unread_text` puts the words, the name after them, and byte 10. Assumes nothing.
use Rattle.std.proofs.Common.{rules}
use borrow.Author.Tests.{not-true, not-false}
use Rattle.rules.specs.Text.{bytes}
use Rattle.listing.proofs.Adding.{adds_both, adds_all}
use Rattle.station.proofs.Printed.{printed, printed_none}
use Rattle.sheettext.specs.Files.{unread_text}
use Rattle.sheettext.proofs.Filing.{name_front}
use Rattle.sheettext.proofs.files.unread_text.Goals as goal

pub returns-then-not-input : goal.returns-then-not-input
unfolding unread_text
returns-then-not-input c = rw (not-true c.args.input.failed c.if-not-input.true) (printed_none _)

pub returns : goal.returns
unfolding unread_text bytes
returns c =
    let h = adds_all c.new-text.ensures (adds_both (adds_both c.push_bytes.ensures (rw (name_front c.args.name.now _ c.min.ensures) at c.push_bytes-2.ensures)) c.push.ensures) in
    rw (not-false c.args.input.failed c.if-not-input.false) (printed _ _ _ _ h.0 (search rules))
