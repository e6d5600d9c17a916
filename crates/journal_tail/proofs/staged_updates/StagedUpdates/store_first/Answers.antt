use Rattle.std.proofs.Common.{rules, ◌-◌, reverse, slice_set, subst}
use Rattle.journal_world.specs.Files.{shape}
use Rattle.journal_block.specs.Block.{Bytes}
use Rattle.journal_object.specs.Objects.{ChangesOnly}
use Rattle.journal_tail.specs.Staging.{first_bytes}
use Rattle.journal_tail.proofs.StagedUpdates.{set_back, bytes_back}
use Rattle.journal_tail.proofs.staged_updates.StagedUpdates.store_first.Goals as goal

pub returns-clause-stored : goal.returns-clause-stored
returns-clause-stored c =
    set_back c.self.inside.updates.items (c.len-last.result - 1) c.index_mut-first.result.now c.store_valid.new.block c.args.self.now
    c.self.view_is (search rules) c.requires.some c.index_mut-first.ensures.value

pub returns-clause-only : goal.returns-clause-only
returns-clause-only c =
    let bytes = bytes_back c.self.inside.updates.items (c.len-last.result - 1) c.index_mut-first.result.now c.store_valid.new.block c.args.self.now
    c.self.view_is (search rules) c.requires.some c.index_mut-first.ensures.value in
    let changes : ChangesOnly (shape c.args.layout.now) c.index_mut-first.result.now.bytes c.store_valid.new.block c.args.addr c.args.value.now = search rules in
    subst (λ (old : Bytes). ChangesOnly (shape c.args.layout.now) old (first_bytes (reverse (slice_set c.self.inside.updates.items (c.len-last.result - 1) (record { block = c.index_mut-first.result.now.block; bytes = c.store_valid.new.block })))) c.args.addr c.args.value.now) bytes.0
    (subst (λ (new : Bytes). ChangesOnly (shape c.args.layout.now) c.index_mut-first.result.now.bytes new c.args.addr c.args.value.now) bytes.1 changes)
