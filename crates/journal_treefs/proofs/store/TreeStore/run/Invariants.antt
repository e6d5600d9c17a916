use Rattle.journal_history.specs.Tokens.{OnlyExtends}
use Rattle.journal_treefs.proofs.store.TreeStore.run.Given as goal

-- attempts that were undone only let the session see more
abbrev pub invariant-loop : goal.invariant-loop
invariant-loop g l = OnlyExtends l.fn.session l.session
