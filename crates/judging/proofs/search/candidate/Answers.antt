-- A sync's length that was answered bounds what is read.
use Rattle.judging.proofs.SearchWays.{sync_is}
use Rattle.judging.proofs.search.candidate.Goals as goal

pub judge-requires : goal.judge-requires
judge-requires c = sync_is c.args.u.now _ c.sync_length.ensures c.in_ok-sync_length.was
