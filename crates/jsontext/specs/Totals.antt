-- A sheet's totals as a value, by the names of the sheet's text. Assumes nothing.
use Rattle.std.specs.Prelude.{codes}
use Rattle.requests.specs.Sheet.{Totals}
use Rattle.serde_json.specs.Data.{Data, object, member, no_members}
use Rattle.jsontext.specs.Line.{whole}

unfoldable pub totals_data : Totals → Data
totals_data t =
    object (member (codes "accepted") (whole t.accepted_sources) (member (codes "data") (whole t.data_lines) (member (codes "end") (whole t.end_lines)
    (member (codes "label") (whole t.label_lines) (member (codes "labels") (whole t.labels) (member (codes "marked") (whole t.marked)
    (member (codes "org") (whole t.org_lines) (member (codes "refused") (whole t.refused_sources) (member (codes "skipped") (whole t.skipped_lines)
    (member (codes "word") (whole t.word_lines) (member (codes "wordless") (whole t.wordless_lines) (member (codes "words") (whole t.words)
    no_members))))))))))))
