use Rattle.std.proofs.Common.{◌≡◌, List, Result, Ok, Err, IfErr, IsErrAnd, OnErr, rules, sym, subst, ◌∙◌}
use Rattle.journal_world.specs.declared.refusal.Refusal.{Refusal}
use Rattle.journal_history.specs.Tokens.{CommitPlace, OnlyExtends}
use Rattle.journal_lockmap.specs.Numbers.{HeldState, AreApart, HoldsSlots}
use Rattle.journal_memory.specs.Causes.{CauseState}
use Rattle.journal_memory.specs.SlotCounts.{AreUnder}
use Rattle.journal_memory.specs.declared.volatile_commit.CommitStep.{CommitStep}
use Rattle.journal_twophase.specs.Transactions.{KeepsHeld}
use Rattle.journal_twophase.specs.Commits.{IsCommitted, ShowsFence, IsAwaited}
use Rattle.journal_twophase.proofs.Knowing.{known}
use Rattle.journal_twophase.proofs.Committing.{committed, committed_later, session_later, of_refused}
use Rattle.journal_twophase.proofs.Fencing.{shows_fence}
use Rattle.journal_twophase.proofs.locked_parts.LockedParts.commit_under.Goals.{in-Ok-Done, in-Ok-Missing, in-Err}
use Rattle.journal_twophase.proofs.locked_parts.LockedParts.commit_under.Goals as goal

pub commit-step-requires-clause-under : goal.commit-step-requires-clause-under
commit-step-requires-clause-under g c =
    let same : c.loop.held ≡ c.args.held.now = search rules in
    subst (λ (l : List HeldState). AreUnder g.J.Naming.layout l c.args.transaction.seen c.args.transaction.reads) (sym same) c.requires.held.reads

pub commit-step-requires-clause-covered : goal.commit-step-requires-clause-covered
commit-step-requires-clause-covered g c =
    let same : c.loop.held ≡ c.args.held.now = search rules in
    subst (λ (l : List HeldState). HoldsSlots g.J.Naming.layout l c.args.transaction.writes) (sym same) c.requires.held.writes

pub commit-step-requires-clause-apart : goal.commit-step-requires-clause-apart
commit-step-requires-clause-apart g c =
    let same : c.loop.held ≡ c.args.held.now = search rules in
    subst AreApart (sym same) c.requires.held.apart

pub commit_fetched-requires-clause-held : goal.commit_fetched-requires-clause-held
commit_fetched-requires-clause-held g c =
    let same : c.commit-step.new.held ≡ c.args.held.now = search rules in
    subst (λ (l : List HeldState). KeepsHeld g.J.Naming.layout l c.args.transaction) (sym same) c.requires.held

pub returns-else-waits-clause-committed : goal.returns-else-waits-clause-committed
returns-else-waits-clause-committed g c =
    let rule = g.R.MapRule.statement in
    let layout = g.J.Naming.layout in
    let t = c.args.transaction in
    let first = c.args.session.now in
    let before = c.loop.session in
    let step = c.commit-step in
    let after = step.new.session in
    let seen = c.seen-seen.ensures in
    let extends : OnlyExtends first before = search rules in
    let done = committed rule layout t before after _ step.new.self step.result step.ensures.commit.committed step.ensures.commit.receipt step.ensures.commit.can step.ensures.commit.agrees
    (known rule layout after.seen seen.on_disk seen.sound seen.legal) in
    elim c.match-step.branch [
      | in-Ok-Done w ↦
          let it : IsCommitted rule layout t.seen t before after w.in-Ok-Done.receipt = search (rules, done) in
          rw (w.guard-is, w.session-is) (committed_later rule layout t.seen t first before after (Ok w.in-Ok-Done.receipt) extends it)
      | in-Ok-Missing w ↦
          let waits : OnlyExtends before after = search rules in
          let last = w.commit_fetched.new.session in
          rw (w.guard-is, w.session-is)
          (committed_later rule layout t.seen t first before last w.commit_fetched.result.1 extends
          (committed_later rule layout t.seen t before after last w.commit_fetched.result.1 waits w.commit_fetched.ensures.committed))
      | in-Err w ↦ rw w.guard-is tt
    ]

pub returns-else-waits-clause-fenced : goal.returns-else-waits-clause-fenced
returns-else-waits-clause-fenced g c =
    let step = c.commit-step in
    let shown : IfErr step.result (ShowsFence step.new.session) = shows_fence _ step.new.session step.result step.ensures.commit.longer in
    elim c.match-step.branch [
      | in-Ok-Done w ↦ rw w.guard-is tt
      | in-Ok-Missing w ↦ rw (w.guard-is, w.session-is) w.commit_fetched.ensures.fenced
      | in-Err w ↦
          rw (w.guard-is, w.session-is)
          (subst (λ (r : Result (CommitStep CommitPlace) (Refusal CauseState)). IfErr r (ShowsFence step.new.session)) w.in-Err.is shown)
    ]

pub returns-else-waits-clause-session : goal.returns-else-waits-clause-session
returns-else-waits-clause-session g c =
    let first = c.args.session.now in
    let before = c.loop.session in
    let step = c.commit-step in
    let after = step.new.session in
    let extends : OnlyExtends first before = search rules in
    elim c.match-step.branch [
      | in-Ok-Done w ↦ rw w.guard-is tt
      | in-Ok-Missing w ↦
          let waits : OnlyExtends before after = search rules in
          let last = w.commit_fetched.new.session in
          rw (w.guard-is, w.session-is)
          (session_later w.commit_fetched.result.1 first before last extends (session_later w.commit_fetched.result.1 before after last waits w.commit_fetched.ensures.session))
      | in-Err w ↦
          rw (w.guard-is, w.session-is)
          (session_later {T = CommitPlace} (Err w.in-Err.why) first before after extends
          (subst (λ (r : Result (CommitStep CommitPlace) (Refusal CauseState)). OnErr r (OnlyExtends before after)) w.in-Err.is step.ensures.commit.extends))
    ]

pub loop-preserved : goal.loop-preserved
loop-preserved g c =
    let first = c.args.session.now in
    let before = c.loop.session in
    let step = c.commit-step in
    let after = step.new.session in
    let extends : OnlyExtends first before = search rules in
    let same : c.loop.held ≡ c.args.held.now = search rules in
    let is : IsErrAnd c.match-step.guard.1 (IsAwaited c.args.when_full) = search rules in
    let session : OnErr c.match-step.guard.1 (OnlyExtends first c.match-step.session) = elim c.match-step.branch [
      | in-Ok-Done w ↦ rw w.guard-is tt
      | in-Ok-Missing w ↦
          let waits : OnlyExtends before after = search rules in
          let last = w.commit_fetched.new.session in
          rw (w.guard-is, w.session-is)
          (session_later w.commit_fetched.result.1 first before last extends (session_later w.commit_fetched.result.1 before after last waits w.commit_fetched.ensures.session))
      | in-Err w ↦
          rw (w.guard-is, w.session-is)
          (session_later {T = CommitPlace} (Err w.in-Err.why) first before after extends
          (subst (λ (r : Result (CommitStep CommitPlace) (Refusal CauseState)). OnErr r (OnlyExtends before after)) w.in-Err.is step.ensures.commit.extends))
    ] in
    let held : OnErr c.match-step.guard.1 (c.match-step.held ≡ c.args.held.now) = elim c.match-step.branch [
      | in-Ok-Done w ↦ rw w.guard-is tt
      | in-Ok-Missing w ↦
          let stays : step.new.held ≡ c.loop.held = search rules in
          rw (w.guard-is, w.held-is) (subst (λ (l : List HeldState). OnErr w.commit_fetched.result.1 (w.commit_fetched.new.held ≡ l)) (stays ∙ same) w.commit_fetched.ensures.held)
      | in-Err w ↦
          rw (w.guard-is, w.held-is)
          (subst (λ (r : Result (CommitStep CommitPlace) (Refusal CauseState)). OnErr r (step.new.held ≡ c.loop.held)) w.in-Err.is step.ensures.held ∙ same)
    ] in
    (tt, tt, of_refused (IsAwaited c.args.when_full) c.match-step.guard.1 is session, of_refused (IsAwaited c.args.when_full) c.match-step.guard.1 is held)
