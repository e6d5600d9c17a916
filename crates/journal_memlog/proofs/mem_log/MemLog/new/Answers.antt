use Rattle.std.proofs.Common.{refl, rules}
use Rattle.journal_memlog.specs.declared.entry.TheConstants.{BUCKETS}
use Rattle.journal_memlog.proofs.Entries.{indexed_new}
use Rattle.journal_memlog.proofs.mem_log.MemLog.new.Goals as goal

pub invariant_of-result : goal.invariant_of-result
invariant_of-result g c =
    indexed_new c.args.blocks c.args.start _ BUCKETS c.new.result.items c.in_ok-heads.heads.items c.new.ensures.items
    (c.in_ok-heads.ensures.items_if_clones_equal (search rules)) refl c.requires

pub returns-clause-sound : goal.returns-clause-sound
returns-clause-sound g c = (invariant_of-result g c).sound
