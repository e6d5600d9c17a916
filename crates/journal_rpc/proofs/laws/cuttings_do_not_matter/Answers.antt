use Rattle.journal_rpc.proofs.Streams.{after-append, too_long_stays}
use Rattle.journal_rpc.proofs.Cutting.{cut_comes}
use Rattle.journal_rpc.proofs.laws.cuttings_do_not_matter.Goals as goal

pub returns : goal.returns
returns c = record { fragments = λ m records cut room fits. cut_comes m room records cut fits; pieces = after-append; lasts = too_long_stays }
