use Rattle.journal_rpc.proofs.Cutting.{spelled_comes}
use Rattle.journal_rpc.proofs.Parting.{is_spelled}
use Rattle.journal_rpc.proofs.laws.streams_are_spelled.Goals as goal

pub returns : goal.returns
returns c = record { spelled = is_spelled; only = spelled_comes }
