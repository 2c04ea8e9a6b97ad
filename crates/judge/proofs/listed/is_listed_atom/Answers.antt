-- `judge::listed::is_listed_atom` meets its contract. Assumes nothing.
use mathlib.Core.Path.{refl}
use Rattle.blocks.proofs.KindLaws.{secret-lists}
use Rattle.terms.proofs.EntryLaws.{begins}
use Rattle.judge.specs.File.{certificate_of}
use Rattle.judge.proofs.Stages.Numbers.{one-atom, atom-bytes, atom-says}
use borrow.Author.Rules.{rules}
use Rattle.judge.proofs.listed.is_listed_atom.Goals as goal

pub is_listed_secret-requires : goal.is_listed_secret-requires
is_listed_secret-requires c =
    let pre = c.requires in
    record { laid = pre.0; lists = secret-lists refl; term = rw (atom-bytes c.args.a pre.1 c.to_le_bytes.ensures) (begins (one-atom c.args.a)); short = search rules }

pub returns : goal.returns
returns c =
    let args = c.args in atom-says (certificate_of args.file.now) args.a (atom-bytes args.a c.requires.1 c.to_le_bytes.ensures) c.is_listed_secret.result c.is_listed_secret.ensures
