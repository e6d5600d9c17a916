use Rattle.std.proofs.Common.{◌≡◌, ◌≢◌, ◌≤◌, ◌++◌, [], map, refl, sym, ap, subst, ◌∙◌, arith, rules}
use Rattle.journal_world.proofs.Prefixes.{IsPrefix-refl}
use Rattle.journal_block.specs.declared.update.Update.{Update}
use Rattle.journal_tail.specs.Tails.{known_blocks}
use Rattle.journal_tail.specs.ObjectTails.{known_updates, missing_blocks}
use Rattle.journal_memory.specs.Rules.{KeepsMapRule}
use Rattle.journal_memory.specs.Volatiles.{VolatileState, usable}
use Rattle.journal_memory.specs.VolatileCommits.{IsCommitted as IsCommittedIn}
use Rattle.journal_parts.specs.CoreParts.{IsPair}
use Rattle.journal_memory.proofs.Committing.{OnErr-any}
use Rattle.journal_core.proofs.Joining.{crashes_pair}
use Rattle.journal_core.proofs.Admitting.{pair_committed, pair_roomed}
use Rattle.journal_memory.proofs.Fetching.{fetched_all, all_usable}
use Rattle.journal_core.proofs.pair_commit.commit_fetched.Goals as goal

pub commit_verified-answer-requires-clause-rule : goal.commit_verified-answer-requires-clause-rule
commit_verified-answer-requires-clause-rule g c =
    subst (λ (v : VolatileState). KeepsMapRule g.R.MapRule.statement v.ledger.history c.args.transaction.now) (sym c.in_ok-fetched.ensures.volatile) c.requires.rule

pub returns-in_err-fetched-clause-session : goal.returns-in_err-fetched-clause-session
returns-in_err-fetched-clause-session g c =
    OnErr-any c.from_residual.result (record { number = refl; mine = refl; seen = IsPrefix-refl c.args.session.now.seen })

pub returns-in_err-fetched-clause-crash : goal.returns-in_err-fetched-clause-crash
returns-in_err-fetched-clause-crash g c =
    crashes_pair g.J.Naming.layout c.args.volatile.now c.fetch_step.new.volatile c.args.durable.now c.fetch_step.new.durable c.requires.pair c.fetch_step.ensures.pair c.fetch_step.ensures.crash

pub returns-in-Ok-Done-clause-pair : goal.returns-in-Ok-Done-clause-pair
returns-in-Ok-Done-clause-pair g c =
    let it : IsCommittedIn c.args.transaction.now.reads c.args.transaction.now.writes c.args.session.now c.commit_verified-answer.new.session c.fetch_step.new.volatile c.commit_verified-answer.new.self = search rules in
    pair_committed g.J.Naming.layout c.fetch_step.new.volatile c.fetch_step.new.durable c.fetch_step.ensures.pair c.commit_verified-answer.new.self c.args.transaction.now.reads
    c.args.transaction.now.writes c.args.session.now c.commit_verified-answer.new.session c.prove_invariant.ensures it

pub returns-in-Ok-Done-clause-crash : goal.returns-in-Ok-Done-clause-crash
returns-in-Ok-Done-clause-crash g c =
    crashes_pair g.J.Naming.layout c.args.volatile.now c.commit_verified-answer.new.self c.args.durable.now c.fetch_step.new.durable c.requires.pair (returns-in-Ok-Done-clause-pair g c) c.fetch_step.ensures.crash

pub unreachable-requires : goal.unreachable-requires
unreachable-requires g c =
    let n = g.J.Naming.layout in
    let v = c.fetch_step.new.volatile in
    let f = c.in_ok-fetched.fetched in
    let writes = c.args.transaction.now.writes in
    let fresh : v.tail.trimmed ≤ f.commits = omega (arith, c.fetch_step.ensures.pair.tied.trimmed, c.in_ok-fetched.ensures.commits) in
    let missing : c.in-Ok-Missing.field-0-0.items ≡ missing_blocks n (known_updates (usable v f) v.tail) writes = search rules in
    let some : c.in-Ok-Missing.field-0-0.items ≢ [] = search rules in
    let none : missing_blocks n (f.updates ++ known_blocks v.tail) writes ≡ [] =
    fetched_all n f.updates (known_blocks v.tail) (map (λ (u : Update). u.block) c.args.rooms.items) writes c.in_ok-fetched.ensures.named
    (subst (λ (x : VolatileState). map (λ (u : Update). u.block) c.args.rooms.items ≡ missing_blocks n (known_updates [] x.tail) writes) (sym c.in_ok-fetched.ensures.volatile) c.requires.named) in
    some (missing ∙ ap (λ us. missing_blocks n (known_updates us v.tail) writes) (all_usable v f fresh) ∙ none)

pub returns-clause-crash : goal.returns-clause-crash
returns-clause-crash g c =
    let pair : IsPair g.J.Naming.layout c.commit_verified-answer.new.self c.fetch_step.new.durable =
    pair_roomed g.J.Naming.layout c.fetch_step.new.volatile c.fetch_step.new.durable c.fetch_step.ensures.pair c.commit_verified-answer.new.self c.commit_verified-answer.new.self.tail.log.room c.prove_invariant.ensures
    (search rules) in
    crashes_pair g.J.Naming.layout c.args.volatile.now c.commit_verified-answer.new.self c.args.durable.now c.fetch_step.new.durable c.requires.pair pair c.fetch_step.ensures.crash
