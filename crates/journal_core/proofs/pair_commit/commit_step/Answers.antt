use Rattle.std.proofs.Common.{◌≡◌, ◌<◌, All, map, IfErr, refl, sym, ap, subst, ◌∙◌, rules}
use Rattle.journal_block.specs.declared.update.Update.{Update}
use Rattle.journal_objlog.proofs.Openings.{OnlyReads-refl}
use Rattle.journal_history.specs.Tokens.{OnlyExtends}
use Rattle.journal_memory.specs.Outsets.{Outset, CanCommit}
use Rattle.journal_memory.specs.Rules.{KeepsMapRule}
use Rattle.journal_memory.specs.Volatiles.{VolatileState, outset_of}
use Rattle.journal_memory.specs.VolatileCommits.{IsCommitted as IsCommittedIn, with_room}
use Rattle.journal_parts.specs.CoreStates.{CoreState, IsRunning}
use Rattle.journal_parts.specs.CoreParts.{IsPair, core_of, outset}
use Rattle.journal_core.specs.Commits.{IsCommitRefusal}
use Rattle.journal_memory.proofs.Committing.{err_extends}
use Rattle.journal_core.proofs.Joining.{same_outset, crashes_memory}
use Rattle.journal_core.proofs.Admitting.{committed_as, pair_committed, pair_roomed, refused_first, refused_fetched, roomed_is, fails_same}
use Rattle.journal_memory.proofs.Fetching.{all_of_map}
use Rattle.journal_core.proofs.pair_commit.commit_step.Goals as goal

pub returns-in-Ok-Done-clause-pair : goal.returns-in-Ok-Done-clause-pair
returns-in-Ok-Done-clause-pair g c =
    let it : IsCommittedIn c.args.transaction.now.reads c.args.transaction.now.writes c.args.session.now c.commit_verified-answer.new.session c.args.volatile.now c.commit_verified-answer.new.self = search rules in
    pair_committed g.J.Naming.layout c.args.volatile.now c.args.durable.now c.requires.pair c.commit_verified-answer.new.self c.args.transaction.now.reads
    c.args.transaction.now.writes c.args.session.now c.commit_verified-answer.new.session c.prove_invariant.ensures it

pub returns-in-Ok-Done-clause-committed : goal.returns-in-Ok-Done-clause-committed
returns-in-Ok-Done-clause-committed g c =
    let it : IsCommittedIn c.args.transaction.now.reads c.args.transaction.now.writes c.args.session.now c.commit_verified-answer.new.session c.args.volatile.now c.commit_verified-answer.new.self = search rules in
    committed_as g.J.Naming.layout c.args.volatile.now c.args.durable.now c.requires.pair c.commit_verified-answer.new.self c.args.durable.now c.args.transaction.now.reads
    c.args.transaction.now.writes c.args.session.now c.commit_verified-answer.new.session (OnlyReads-refl c.args.durable.now.objects) refl it

pub returns-in-Ok-Done-clause-crash : goal.returns-in-Ok-Done-clause-crash
returns-in-Ok-Done-clause-crash g c =
    crashes_memory g.J.Naming.layout c.args.volatile.now c.commit_verified-answer.new.self c.args.durable.now c.requires.pair (returns-in-Ok-Done-clause-pair g c)

pub returns-in_err-rooms-in-Ok-Missing-clause-crash : goal.returns-in_err-rooms-in-Ok-Missing-clause-crash
returns-in_err-rooms-in-Ok-Missing-clause-crash g c =
    let same : c.commit_verified-answer.new.self ≡ with_room c.args.volatile.now c.commit_verified-answer.new.self.tail.log.room = search rules in
    crashes_memory g.J.Naming.layout c.args.volatile.now c.commit_verified-answer.new.self c.args.durable.now c.requires.pair
    (pair_roomed g.J.Naming.layout c.args.volatile.now c.args.durable.now c.requires.pair c.commit_verified-answer.new.self c.commit_verified-answer.new.self.tail.log.room c.prove_invariant.ensures same)

pub commit_fetched-requires-clause-rule : goal.commit_fetched-requires-clause-rule
commit_fetched-requires-clause-rule g c =
    let same : c.commit_verified-answer.new.self ≡ with_room c.args.volatile.now c.commit_verified-answer.new.self.tail.log.room = search rules in
    subst (λ (v : VolatileState). KeepsMapRule g.R.MapRule.statement v.ledger.history c.args.transaction.now) (sym same) c.requires.rule

pub commit_fetched-requires-clause-blocks : goal.commit_fetched-requires-clause-blocks
commit_fetched-requires-clause-blocks g c =
    let below : All (λ b. b < g.J.Naming.layout.blocks) c.in-Ok-Missing.blocks.items = search rules in
    let named : map (λ (u : Update). u.block) c.in_ok-rooms-in-Ok-Missing.rooms.items ≡ c.in-Ok-Missing.blocks.items = search rules in
    all_of_map (λ b. b < g.J.Naming.layout.blocks) c.in_ok-rooms-in-Ok-Missing.rooms.items (subst (λ bs. All (λ b. b < g.J.Naming.layout.blocks) bs) (sym named) below)

pub returns-in-Ok-Missing-clause-refusal : goal.returns-in-Ok-Missing-clause-refusal
returns-in-Ok-Missing-clause-refusal g c =
    let n = g.J.Naming.layout in
    let v = c.args.volatile.now in
    let d = c.args.durable.now in
    let w = c.commit_verified-answer.new.self in
    let s = c.args.session.now in
    let t = c.args.transaction.now in
    let r = c.commit_fetched.result in
    let same : w ≡ with_room v w.tail.log.room = search rules in
    let extends : OnlyExtends s c.commit_verified-answer.new.session = search rules in
    let can : CanCommit (outset_of v) s t = search rules in
    let pair : IsPair n w d = pair_roomed n v d c.requires.pair w w.tail.log.room c.prove_invariant.ensures same in
    let is : core_of w d ≡ core_of v d = roomed_is v d (core_of v d) refl w w.tail.log.room same in
    let judged : outset_of v ≡ outset (core_of w d) = same_outset n v d c.requires.pair ∙ sym (ap outset is) in
    let running : IsRunning (core_of w d) = subst (λ (k : CoreState). IsRunning k) (sym is) (can.may.running.0, sym c.requires.pair.fault ∙ can.may.running.1) in
    subst (λ (k : CoreState). IfErr r (IsCommitRefusal k s t (core_of c.commit_fetched.new.volatile c.commit_fetched.new.durable))) is
    (refused_fetched n w d pair running c.commit_fetched.new.durable s t (subst (λ (o : Outset). CanCommit o s t) judged can) c.commit_fetched.new.volatile c.commit_verified-answer.new.session
    (outset_of w) r extends (same_outset n w d pair)
    (fails_same w d c.commit_fetched.new.volatile c.commit_fetched.new.durable r c.commit_fetched.ensures.same c.commit_fetched.ensures.left)
    c.commit_fetched.ensures.refusal)

pub returns-in-Ok-Missing-clause-session : goal.returns-in-Ok-Missing-clause-session
returns-in-Ok-Missing-clause-session g c =
    let extends : OnlyExtends c.args.session.now c.commit_verified-answer.new.session = search rules in
    err_extends c.commit_fetched.result c.args.session.now c.commit_verified-answer.new.session c.commit_fetched.new.session extends c.commit_fetched.ensures.session

pub returns-clause-refusal : goal.returns-clause-refusal
returns-clause-refusal g c =
    let v = c.args.volatile.now in
    let d = c.args.durable.now in
    let w = c.commit_verified-answer.new.self in
    let same : w ≡ with_room v w.tail.log.room = search rules in
    refused_first (core_of v d) (core_of w d) (outset_of v) c.args.session.now c.args.transaction.now c.in-Err.why (same_outset g.J.Naming.layout v d c.requires.pair)
    (roomed_is v d (core_of v d) refl w w.tail.log.room same) (search rules)

pub returns-clause-crash : goal.returns-clause-crash
returns-clause-crash g c =
    let same : c.commit_verified-answer.new.self ≡ with_room c.args.volatile.now c.commit_verified-answer.new.self.tail.log.room = search rules in
    crashes_memory g.J.Naming.layout c.args.volatile.now c.commit_verified-answer.new.self c.args.durable.now c.requires.pair
    (pair_roomed g.J.Naming.layout c.args.volatile.now c.args.durable.now c.requires.pair c.commit_verified-answer.new.self c.commit_verified-answer.new.self.tail.log.room c.prove_invariant.ensures same)
