use Rattle.std.proofs.Common.{◌++◌, ◌∷◌, [], List, ap, ◌∙◌}
use Rattle.journal_memory.specs.declared.fenced_sessions.Run.{Run}
use Rattle.journal_memory.specs.Sessions.{FencedState, is_in_runs}
use Rattle.journal_memory.proofs.Fenced.{noted}
use Rattle.journal_memory.proofs.fenced_sessions.FencedSessions.insert.Goals as goal

pub returns : goal.returns
returns c = λ s.
    ap (λ (runs : List Run). is_in_runs runs s)
    (c.push_reserved.ensures.items
    ∙ ap (λ (f : FencedState). f.runs ++ record { first = c.take_below-first.result; end = c.take_above-end.result } ∷ []) c.self.view_is)
    ∙ noted c.args.session c.take_below-first.result c.take_above-end.result c.args.self.now.runs c.take_below-first.new.self.runs c.take_above-end.new.self.runs
    c.take_below-first.ensures.first c.take_above-end.ensures.end c.take_below-first.ensures.takes c.take_above-end.ensures.takes s
