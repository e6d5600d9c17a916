-- The volatile part, where it has noted a fault.
use Rattle.std.proofs.Common.{true}
use Rattle.journal_world.specs.Addresses.{Shape}
use Rattle.journal_memory.specs.Volatiles.{VolatileState, IsVolatile}

-- the volatile part has noted a fault
abbrev pub failed : VolatileState → VolatileState
failed v = record v { faulted = true }

pub volatile_failed : (layout : Shape) (v : VolatileState) → IsVolatile layout v → IsVolatile layout (failed v)
volatile_failed layout v kept = record {
  size = kept.size;
  begun = kept.begun;
  on_disk = kept.on_disk;
  made = kept.made;
  cut_to_next = kept.cut_to_next;
  small = kept.small;
  cuts = λ k c lt. let was = kept.cuts k c lt in record { above = was.above; below = was.below; earlier = was.earlier };
  updates = λ trusted. let has = kept.updates trusted in record { since = has.since; since_last = has.since_last };
  known = kept.known;
}
