use Rattle.std.proofs.Common.{◌≡◌, ◌≤◌, ◌+◌, ◌-◌, [], length}
use Rattle.journal_treecalls.specs.Disks.{Learns}
use Rattle.journal_treecalls.specs.Fetches.{number_at, leaf_begin, FillsBlocks}
use Rattle.journal_treecalls.proofs.fetch.fetch_numbers.Given as goal

-- the bytes of this index block's blocks before this one were put
abbrev pub invariant-loop-j : goal.invariant-loop-j
invariant-loop-j g l = record {
  first : g.T.TreeDisk.writes l.disk ≡ [];
  long : length l.bytes ≡ length l.fn.bytes;
  few : l.j ≤ leaf_begin l.i + 1024;
  learns : Learns (g.T.TreeDisk.may_be l.fn.disk) (g.T.TreeDisk.may_be l.disk) (λ V. FillsBlocks V (λ j. number_at l.leaf (j - leaf_begin l.i)) l.but (leaf_begin l.i) l.j l.offset l.fn.bytes l.bytes);
}
