use Rattle.std.proofs.Common.{◌≡◌, List, Ok, rules, sym, subst}
use Rattle.journal_lockmap.specs.Numbers.{HeldState, AreApart, HoldsSlots}
use Rattle.journal_memory.specs.SlotCounts.{AreUnder}
use Rattle.journal_history.specs.Tokens.{OnlyExtends}
use Rattle.journal_twophase.specs.Commits.{IsCommitted}
use Rattle.journal_twophase.proofs.Knowing.{known}
use Rattle.journal_twophase.proofs.Committing.{committed, committed_later}
use Rattle.journal_twophase.proofs.locked_parts.LockedParts.commit_fetched.Goals as goal

pub commit-answer-requires-clause-under : goal.commit-answer-requires-clause-under
commit-answer-requires-clause-under g c =
    let same : c.loop.held ≡ c.args.held.now = search rules in
    subst (λ (l : List HeldState). AreUnder g.J.Naming.layout l c.args.transaction.now.seen c.args.transaction.now.reads) (sym same) c.requires.held.reads

pub commit-answer-requires-clause-covered : goal.commit-answer-requires-clause-covered
commit-answer-requires-clause-covered g c =
    let same : c.loop.held ≡ c.args.held.now = search rules in
    subst (λ (l : List HeldState). HoldsSlots g.J.Naming.layout l c.args.transaction.now.writes) (sym same) c.requires.held.writes

pub commit-answer-requires-clause-apart : goal.commit-answer-requires-clause-apart
commit-answer-requires-clause-apart g c =
    let same : c.loop.held ≡ c.args.held.now = search rules in
    subst AreApart (sym same) c.requires.held.apart

pub returns-in-Ok-Done-clause-committed : goal.returns-in-Ok-Done-clause-committed
returns-in-Ok-Done-clause-committed g c =
    let rule = g.R.MapRule.statement in
    let layout = g.J.Naming.layout in
    let t = c.args.transaction.now in
    let before = c.loop.session in
    let step = c.commit-answer in
    let seen = c.seen-seen.ensures in
    let extends : OnlyExtends c.args.session.now before = search rules in
    let done = committed rule layout t before step.new.session _ step.new.self step.result step.ensures.commit.committed step.ensures.commit.receipt step.ensures.commit.can step.ensures.commit.agrees
    (known rule layout step.new.session.seen seen.on_disk seen.sound seen.legal) in
    let it : IsCommitted rule layout t.seen t before step.new.session c.in-Ok-Done.receipt = search (rules, done) in
    committed_later rule layout t.seen t c.args.session.now before step.new.session (Ok c.in-Ok-Done.receipt) extends it
