use Rattle.std.proofs.Common.{◌≡◌, ◌≤◌, [], length, get_or}
use Rattle.journal_treecalls.specs.Disks.{Learns}
use Rattle.journal_treecalls.specs.Fetches.{FillsBlocks}
use Rattle.journal_treecalls.proofs.fetch.fetch_direct.Given as goal

-- the bytes of the blocks before this one were put
abbrev pub invariant-loop-j : goal.invariant-loop-j
invariant-loop-j g l = record {
  first : g.T.TreeDisk.writes l.disk ≡ [];
  long : length l.bytes ≡ length l.fn.bytes;
  few : l.j ≤ 48;
  learns : Learns (g.T.TreeDisk.may_be l.fn.disk) (g.T.TreeDisk.may_be l.disk) (λ V. FillsBlocks V (λ j. get_or l.blocks j 0) l.but 0 l.j l.offset l.fn.bytes l.bytes);
}
