-- `judge::listed::is_kept` meets its contract. Assumes nothing.
use Rattle.judge.specs.File.{certificate_of}
use Rattle.judge.proofs.Stages.Numbers.{kept-says}
use Rattle.judge.proofs.listed.is_kept.Goals as goal

pub returns : goal.returns
returns c =
    let args = c.args in let pre = c.requires in kept-says (certificate_of args.file.now) pre.0.term pre.1 c.value.ensures.0 c.inverse_of.ensures.0
    c.is_listed_atom.result c.is_listed_atom.ensures
