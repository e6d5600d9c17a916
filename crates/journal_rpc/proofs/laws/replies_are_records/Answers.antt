use Rattle.std.proofs.Common.{[], arith}
use Rattle.journal_rpc.specs.Markings.{record_marking}
use Rattle.journal_rpc.proofs.Cutting.{cut_comes}
use Rattle.journal_rpc.proofs.laws.replies_are_records.Goals as goal

pub returns : goal.returns
returns c = λ reply fits. cut_comes record_marking (omega arith) [] (record { before = []; last = reply }) (fits, tt)
