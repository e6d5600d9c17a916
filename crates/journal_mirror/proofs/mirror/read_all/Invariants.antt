use Rattle.std.proofs.Common.{◌≡◌, ◌<◌, length, IsTrue, ℕ}
use Rattle.journal_disk.specs.Disks.{Keeps, block_at, read_of}
use Rattle.journal_mirror.proofs.mirror.read_all.Given as goal

abbrev pub invariant-loop-number : goal.invariant-loop-number
invariant-loop-number g l = Keeps (g.D.BlockDisk.state l.fn.disk) (g.D.BlockDisk.state l.disk)
    × (IsTrue (g.D.BlockDisk.state l.fn.disk).honest → (g.D.BlockDisk.state l.disk).past ≡ (g.D.BlockDisk.state l.fn.disk).past)
    × (length l.blocks.items ≡ l.number)
    × (IsTrue (g.D.BlockDisk.state l.fn.disk).honest → (b : ℕ) → b < l.number → block_at l.blocks.items b ≡ read_of (g.D.BlockDisk.state l.fn.disk).past b)
