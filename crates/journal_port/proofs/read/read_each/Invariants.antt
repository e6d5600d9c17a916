use Rattle.std.proofs.Common.{◌≡◌, IsTrue, [], length, take}
use Rattle.std.specs.List.{zip}
use mathlib.Core.List.{IsPrefix}
use Rattle.journal_world.specs.Histories.{is_trusted}
use Rattle.journal_port.specs.Reads.{AreRead}
use Rattle.journal_port.proofs.read.read_each.Given as goal

abbrev pub invariant-loop-addr : goal.invariant-loop-addr
invariant-loop-addr g l =
    (l.txn.writes ≡ []) × IsPrefix l.fn.txn.seen l.txn.seen × (l.txn.held ≡ l.fn.txn.held) × (length l.values.items ≡ l.addr-index)
    × (IsTrue (is_trusted l.fn.txn.seen) → AreRead l.txn.reads (zip (take l.addr-index l.addrs) l.values.items))
