use Rattle.std.proofs.Common.{◌*◌, ◌≤◌, take}
use Rattle.journal_treewire.proofs.LineTexts.{Counted}
use Rattle.journal_treewire.proofs.length.room_of.Given as goal

abbrev pub invariant-loop-line : goal.invariant-loop-line
invariant-loop-line l = Counted l.disk (take l.line-index l.lines) l.room × (l.room ≤ 403 * l.line-index)
