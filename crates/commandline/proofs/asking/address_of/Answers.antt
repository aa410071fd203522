-- A word that is no address is wrong at its option.
use Rattle.std.proofs.Common.{rules, ◌≡◌}
use Rattle.std.specs.Prelude.{Err}
use Rattle.clap.specs.Words.{found_of}
use Rattle.commandline.specs.Asked.{address_found, at_option}
use Rattle.commandline.specs.declared.Wrong.TheVariants.{Takes}
use Rattle.commandline.proofs.asking.address_of.Goals as goal

pub returns-in-None-read_address-clause-err : goal.returns-in-None-read_address-clause-err
returns-in-None-read_address-clause-err c =
    let a = c.args in
    let e : Err (Takes a.command a.setting) ≡ address_found a.command (found_of a.matches.now) a.setting = search rules in
    at_option a.setting c.requires e
