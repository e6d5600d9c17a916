use Rattle.std.proofs.Common.{ap, ◌∙◌, rules}
use Rattle.journal_disk.specs.Records.{Recorded}
use Rattle.journal_disk.proofs.Links.{IsPlaceOf, kept_place, read_there, is_write_at, read_at}
use Rattle.journal_disk.proofs.events.Record.last_write.Goals as goal
use Rattle.journal_disk.proofs.events.Record.last_write.Goals.{After-index}

kept : (c : After-index) → IsPlaceOf c.self.inside.entries.items c.args.block c.index.result.now
kept c = kept_place c.args.block c.self.invariant (ap (λ (r : Recorded). r.events) c.self.view_is) (search rules) c.index.ensures

pub bytes_at-requires : goal.bytes_at-requires
bytes_at-requires c = λ lt. rw c.deref.ensures.value (is_write_at (kept (goal.at.bytes_at-requires c).After-index) lt)

pub returns : goal.returns
returns c = λ first.
    read_there c.args.block c.self.invariant (ap (λ (r : Recorded). r.events) c.self.view_is) (search rules) c.index.ensures first
    ∙ read_at _ (kept (goal.at.returns c).After-index) c.bytes_at.ensures.none (rw c.deref.ensures.value at c.bytes_at.ensures.some) first
