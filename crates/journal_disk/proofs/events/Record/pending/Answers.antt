use Rattle.std.proofs.Common.{length, ap, sym, ◌∙◌, rules, arith}
use Rattle.journal_disk.specs.Records.{Recorded}
use Rattle.journal_disk.proofs.Links.{Walks, walk_start, none_pending, some_pending, number_is, is_write_at}
use Rattle.journal_disk.proofs.events.Record.pending.Goals as goal
use Rattle.journal_disk.proofs.events.Record.pending.Goals.{After-index-place}

walks : (c : After-index-place) → Walks c.self.inside.entries.items c.self.inside.synced c.args.self.now.events c.args.block 0 c.index-place.result.now
walks c = walk_start c.args.block 0 c.self.invariant (ap (λ (r : Recorded). r.events) c.self.view_is) (search rules) c.index-place.ensures

pub returns-then-place-self : goal.returns-then-place-self
returns-then-place-self c = sym (ap length
    (none_pending c.args.block c.self.invariant (ap (λ (r : Recorded). r.events) c.self.view_is) (search rules) c.index-place.ensures c.if-place-self.true))

pub write_at-requires : goal.write_at-requires
write_at-requires c = rw c.deref.ensures.value (is_write_at (walks (goal.at.write_at-requires c).After-index-place).of (omega arith))

pub returns : goal.returns
returns c =
    number_is c.self.invariant (walks (goal.at.returns c).After-index-place) c.if-place-self.false (rw c.deref.ensures.value at c.write_at.ensures)
    ∙ sym (ap length (some_pending c.args.block c.self.invariant (ap (λ (r : Recorded). r.events) c.self.view_is) (search rules) c.index-place.ensures c.if-place-self.false))
