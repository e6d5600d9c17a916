use Rattle.std.proofs.Common.{◌≡◌, ◌<◌, false, IsTrue, length, map, All}
use Rattle.std.specs.List.{AllWithin}
use Rattle.journal_world.specs.Histories.{is_trusted}
use Rattle.journal_objlog.specs.ObjectLogs.{OnlyReads, is_faulted}
use Rattle.journal_memory.specs.Fetches.{IsBlockAfter}
use Rattle.journal_parts.proofs.durable.Durable.fetch_blocks.Given as goal

-- the log was only read, without a fault, and the updates before the place have their blocks as
-- they are logged
abbrev pub invariant-loop-place : goal.invariant-loop-place
invariant-loop-place g l =
    (l.self ≡ record l.fn.self { objects = l.self.objects })
    × OnlyReads l.fn.self.objects l.self.objects
    × (is_faulted l.fn.self.objects ≡ false → is_faulted l.self.objects ≡ false)
    × (l.commits ≡ l.fn.self.logged)
    × (length l.updates.items ≡ l.place-end)
    × (map (λ u. u.block) l.updates.items ≡ map (λ u. u.block) l.fn.updates.items)
    × All (λ u. u.block < g.J.Naming.layout.blocks) l.updates.items
    × (IsTrue (is_trusted l.fn.self.front) → AllWithin (IsBlockAfter g.J.Naming.layout l.fn.self.front l.fn.self.logged) l.updates.items 0 l.place)
