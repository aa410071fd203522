-- What FILE names. Assumes nothing.
use Rattle.rules.specs.Text.{Text}
use Rattle.cli_run.specs.declared.source.Source.{Source}
use Rattle.cli_run.specs.declared.source.Source.TheVariants.{Standard, File, Again}

-- standard input; a file; or standard input that an earlier FILE named already
pub data From : Type 0 where
  standard : From
  file : Text → From
  again : From

abbrev pub from_of : Source → From
from_of Standard = standard
from_of (File name) = file name.now
from_of Again = again
