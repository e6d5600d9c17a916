use Rattle.journal_rpc.proofs.CallLaws.{beginning_laws, auth_laws, target_laws, message_again}
use Rattle.journal_rpc.proofs.laws.calls_are_spelled.Goals as goal

pub returns : goal.returns
returns c = record {
  beginning = beginning_laws;
  auth = auth_laws;
  target = target_laws;
  single = λ bytes first second a b. cc (message_again bytes first a, message_again bytes second b);
}
