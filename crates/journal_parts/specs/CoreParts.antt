-- The core and its two parts: the core that a durable and a volatile part make, and what the two
-- keep.
use Rattle.std.specs.Prelude.{◌≡◌, false, List, length}
use Rattle.journal_world.specs.Addresses.{Shape}
use Rattle.journal_block.specs.declared.update.Update.{Update}
use Rattle.journal_memlog.specs.Logs.{tail_of}
use Rattle.journal_objlog.specs.ObjectLogs.{is_faulted as is_log_faulted}
use Rattle.journal_memory.specs.Outsets.{Outset}
use Rattle.journal_memory.specs.Volatiles.{VolatileState, IsVolatile}
use Rattle.journal_parts.specs.Durables.{DurableState, IsDurable}
use Rattle.journal_parts.specs.Pairs.{Tied}
use Rattle.journal_parts.specs.CoreStates.{CoreState, is_faulted, next_of}

-- the core of these two parts
abbrev pub core_of : VolatileState → DurableState → CoreState
core_of v d = record {
  objects = record { wal = d.objects; tail = tail_of v.tail.log };
  history = v.ledger.history;
  cut = v.ledger.cut;
  logged = d.logged;
  next = v.ledger.next;
  closed = v.ledger.closed;
}

-- the facts by which the core's reads and commits are judged
abbrev pub outset : CoreState → Outset
outset c = record { closed = c.closed; faulted = is_faulted c; history = c.history; tail = c.objects.tail; next = next_of c.objects }

-- The invariant of the pair, on a disk of a layout: each part's own invariant, the tie of the two,
-- and that both know of a fault
pub record IsPair (layout : Shape) (v : VolatileState) (d : DurableState) : Type 0 where
  pub volatile : IsVolatile layout v
  pub durable : IsDurable layout d
  pub tied : Tied v d
  pub fault : v.faulted ≡ is_log_faulted d.objects

-- The invariant of the core: while no device call has failed, also memory for a block that a read
-- fetches
pub record IsCore (layout : Shape) (v : VolatileState) (d : DurableState) (spare : List Update) : Type 0 where
  pub pair : IsPair layout v d
  pub room : is_log_faulted d.objects ≡ false → length spare ≡ 1
