-- The labels of the script, or its refusal.
use Rattle.requests.specs.Symbols.{symbols}
use Rattle.cli_labels.specs.Labels.{symbols_text_by}
use Rattle.cli_labels.proofs.Told.{texts_told}
use Rattle.cli_labels.proofs.SymbolsOne.make.Goals as goal

pub returns : goal.returns
returns c = λ t b h i.
    let w = c.args.self.now in
    rw (texts_told (symbols_text_by w.json) b (symbols w.base b.text)) at (c.text_or_failure.ensures _ (c.symbols_of.ensures b.text i.text) b i)
