-- `judge::line::put_refused` meets its contract. Assumes nothing.
use Rattle.judge.specs.Line.{refused_line}
use Rattle.judge.proofs.line.put_refused.Goals as goal

pub put_three-requires : goal.put_three-requires
unfolding refused_line
put_three-requires c = c.requires

pub returns : goal.returns
unfolding refused_line
returns c = c.put_three.ensures
