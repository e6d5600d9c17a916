use Rattle.std.proofs.Common.{◌≡◌, ◌≤◌, [], length}
use Rattle.journal_treecalls.specs.Disks.{Learns}
use Rattle.journal_treecalls.specs.Fetches.{file_blocks, leaf_begin, IsFetched}
use Rattle.journal_treecalls.proofs.fetch.fetch.Given as goal

-- the bytes of the blocks before those of this index block were put
abbrev pub invariant-loop-i : goal.invariant-loop-i
invariant-loop-i g l = record {
  first : g.T.TreeDisk.writes l.disk ≡ [];
  long : length l.bytes ≡ length l.fn.bytes;
  few : l.i ≤ 1024;
  learns : Learns (g.T.TreeDisk.may_be l.fn.disk) (g.T.TreeDisk.may_be l.disk) (λ V. IsFetched V (file_blocks V l.head) l.but l.offset (leaf_begin l.i) l.bytes);
}
