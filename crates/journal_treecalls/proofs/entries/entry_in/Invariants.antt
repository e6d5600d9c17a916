use Rattle.journal_treecalls.specs.Directories.{HasNoneBelow}
use Rattle.journal_treecalls.proofs.entries.entry_in.Given as goal

-- no place before this one has an entry
abbrev pub invariant-loop-at : goal.invariant-loop-at
invariant-loop-at l = HasNoneBelow l.block l.at
