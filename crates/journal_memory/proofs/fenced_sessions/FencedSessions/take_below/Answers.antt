use Rattle.std.proofs.Common.{◌≡◌, ◌<◌, List, length, ap, subst, ◌∙◌, arith, rules}
use Rattle.journal_memory.specs.declared.fenced_sessions.Run.{Run}
use Rattle.journal_memory.specs.Sessions.{FencedState, TakesBelow}
use Rattle.journal_memory.proofs.Fenced.{takes_below}
use Rattle.journal_memory.proofs.fenced_sessions.FencedSessions.take_below.Goals as goal

pub returns-then-lt-clause-takes : goal.returns-then-lt-clause-takes
returns-then-lt-clause-takes c =
    let ends : c.index-in-loop-index.result.now.end ≡ c.args.session = search rules in
    let below : c.loop-index.index < length c.loop-index.self-inside.runs.items = omega arith in
    let same : c.loop-index.self-inside.runs.items ≡ c.args.self.now.runs = ap (λ v. v.runs.items) c.loop-index.invariant ∙ ap (λ (f : FencedState). f.runs) c.self.view_is in
    subst (λ (runs : List Run). TakesBelow c.args.session c.index.result.now.first runs c.remove.new.self.items) same
    (takes_below c.loop-index.self-inside.runs.items c.remove.new.self.items c.loop-index.index c.args.session c.index.result.now c.index-in-loop-index.result.now below
    c.index.ensures c.index-in-loop-index.ensures c.remove.ensures.by_index.2 ends)
