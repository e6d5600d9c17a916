use Rattle.journal_core.specs.TwoLocks.{mounted, history_of}
use Rattle.journal_core.specs.TwoLocks.Machine.{up}
use Rattle.journal_core.proofs.HoldRuns.{runs, runs_up, has_history, first_holds, undisturbed, all_stay, has_own, stands_once}
use Rattle.journal_core.proofs.law_of_holds.every_order_of_holds.Goals as goal

pub returns-clause-told : goal.returns-clause-told
returns-clause-told g c = λ layout disk first events answers last honest begins run.
    let rule = g.R.MapRule.statement in
    let ran = runs rule (mounted first) (history_of first) events answers last run (first_holds rule layout disk first honest begins) in
    (ran.0, has_history rule last ran.0 ran.1, ran.2)

pub returns-clause-legal : goal.returns-clause-legal
returns-clause-legal g c = λ layout disk first events answers last honest begins run.
    let rule = g.R.MapRule.statement in
    (runs rule (mounted first) (history_of first) events answers (up last) run (first_holds rule layout disk first honest begins)).1.1.runs.legal

pub returns-clause-between : goal.returns-clause-between
returns-clause-between g c = λ layout disk first events answers last honest begins run.
    let rule = g.R.MapRule.statement in
    (runs rule (mounted first) (history_of first) events answers (up last) run (first_holds rule layout disk first honest begins)).1.1.runs.between

pub returns-clause-two_phase : goal.returns-clause-two_phase
returns-clause-two_phase g c = λ layout disk first events answers last actor draft honest begins run at.
    let rule = g.R.MapRule.statement in
    let is = (runs rule (mounted first) (history_of first) events answers (up last) run (first_holds rule layout disk first honest begins)).1.1 in
    undisturbed (history_of last.parts) last.holders actor draft (is.sound actor draft at)

pub returns-clause-fetched : goal.returns-clause-fetched
returns-clause-fetched g c = λ layout disk first events answers last actor honest begins run.
    let rule = g.R.MapRule.statement in
    all_stay rule last actor (runs rule (mounted first) (history_of first) events answers (up last) run (first_holds rule layout disk first honest begins)).1.1

pub returns-clause-own : goal.returns-clause-own
returns-clause-own g c = λ layout disk first events answers last number session honest begins run at.
    let rule = g.R.MapRule.statement in
    has_own rule last number session (runs rule (mounted first) (history_of first) events answers (up last) run (first_holds rule layout disk first honest begins)).1.1 at

pub returns-clause-once : goal.returns-clause-once
returns-clause-once g c = λ layout disk first events answers old new actor number t honest begins run happens.
    let rule = g.R.MapRule.statement in
    stands_once rule old new actor number t happens (runs rule (mounted first) (history_of first) events answers (up old) run (first_holds rule layout disk first honest begins)).1.1

pub returns-clause-grows : goal.returns-clause-grows
returns-clause-grows g c = λ layout disk first events answers old more later new honest begins run on.
    let rule = g.R.MapRule.statement in
    runs_up rule old more later new on (runs rule (mounted first) (history_of first) events answers (up old) run (first_holds rule layout disk first honest begins)).1.1
