use Rattle.std.proofs.Common.{refl, subst, ◌∙◌}
use Rattle.journal_rpc.proofs.Streams.{on_err}
use Rattle.journal_protocol.specs.declared.connection.Progress.{Progress}
use Rattle.journal_protocol.specs.Serving.{Progresses, IsFencedAsTold}
use Rattle.journal_protocol.proofs.Serving.{pauses_at_once, progresses, is_told}
use Rattle.journal_protocol.proofs.connection.serve_in_turns.Goals as goal

pub loop-init : goal.loop-init
loop-init g c = (pauses_at_once _ _ _ _ _ 0, refl)

pub returns-in_err-progress-clause-given_up : goal.returns-in_err-progress-clause-given_up
returns-in_err-progress-clause-given_up g c = on_err _ _ (c.in_err-progress.ensures.given_up _ c.loop.invariant.0)

pub loop-preserved : goal.loop-preserved
loop-preserved g c = (progresses _ _ c.in_ok-progress.progress _ _ _ _ _ _ c.in-Paused.is (c.in_ok-progress.ensures.served _ c.loop.invariant.0), c.serve_to_pause.ensures.buffer ∙ c.loop.invariant.1)

pub returns-in-Ended-clause-served : goal.returns-in-Ended-clause-served
returns-in-Ended-clause-served g c = progresses _ _ c.in_ok-progress.progress _ _ _ _ _ _ c.in-Ended.is (c.in_ok-progress.ensures.served _ c.loop.invariant.0)

pub returns-in-Ended-clause-fenced : goal.returns-in-Ended-clause-fenced
returns-in-Ended-clause-fenced g c = is_told c.in_ok-progress.progress _ _ c.in-Ended.is c.in_ok-progress.ensures.fenced
