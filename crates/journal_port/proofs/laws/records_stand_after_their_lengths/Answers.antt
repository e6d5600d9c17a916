use Rattle.journal_rpc.specs.Markings.{whole_records}
use Rattle.journal_rpc.proofs.Parting.{is_spelled}
use Rattle.journal_records.specs.declared.limits.TheConstants.{RECORD_BYTES}
use Rattle.journal_port.proofs.Standing.{records_stand}
use Rattle.journal_port.proofs.laws.records_stand_after_their_lengths.Goals as goal

pub returns : goal.returns
returns c = λ bytes fits. records_stand bytes (is_spelled (whole_records RECORD_BYTES) bytes fits)
