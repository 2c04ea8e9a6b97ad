-- `terms::matching::matches_behind` meets its contract. Assumes nothing.
use Rattle.terms.proofs.RunLaws.{run-ready, none-nonces, run-answer}
use Rattle.terms.proofs.matching.matches_behind.Goals as goal

pub match_front-requires : goal.match_front-requires
match_front-requires c = run-ready c.requires.3 c.requires.2

pub returns : goal.returns
returns c =
    λ atoms told. run-answer atoms c.requires.0 c.requires.1 c.requires.3 c.match_front.result (c.match_front.ensures atoms told (none-nonces atoms c.args.t.now))
