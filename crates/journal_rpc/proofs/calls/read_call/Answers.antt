use Rattle.journal_rpc.proofs.CallLaws.{found, none_found}
use Rattle.journal_rpc.proofs.calls.read_call.Goals as goal

pub returns-clause-found : goal.returns-clause-found
returns-clause-found c = found c.args.bytes.now c.read_message.result c.read_message.ensures

pub returns-clause-none : goal.returns-clause-none
returns-clause-none c = none_found c.args.bytes.now c.read_message.result c.read_message.ensures
