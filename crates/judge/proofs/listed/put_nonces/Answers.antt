-- `judge::listed::put_nonces` meets its contract. Assumes nothing.
use Rattle.judge.proofs.Stages.Nonces.{nonces-put, atoms-told, atoms-few}
use borrow.Author.Rules.{rules}
use Rattle.judge.proofs.listed.put_nonces.Goals as goal

pub nonces-flags-requires : goal.nonces-flags-requires
nonces-flags-requires c = atoms-few c.requires c.first.ensures c.more.ensures

pub returns : goal.returns
returns c =
    nonces-put c.args.sizes.now _ (atoms-told c.args.file.now c.first.ensures c.more.ensures c.nonces-flags.ensures) (search rules) (search rules) c.copy_from_slice.ensures.after
