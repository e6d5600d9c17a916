use Rattle.journal_history.specs.Tokens.{OnlyExtends}
use Rattle.journal_filestore.proofs.store.FileStore.run_no_wait.Given as goal

abbrev pub invariant-loop : goal.invariant-loop
invariant-loop g l = OnlyExtends l.fn.session l.session
