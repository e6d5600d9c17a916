use Rattle.std.proofs.lemmas.Bool.{and_parts}
use Rattle.journal_world.specs.Addresses.{is_valid, kind_of}
use Rattle.journal_world.specs.Files.{shape}
use Rattle.journal_world.specs.Maps.{is_value_at}
use Rattle.journal_object.proofs.Lengths.{Stores-bit, Stores-range, ChangesOnly-stores}
use Rattle.journal_object.proofs.MapOfBlocks.{OverwritesMap-changes}
use Rattle.journal_object.proofs.object.store_valid.Goals as goal

pub returns-then-value-eq1-clause-stored : goal.returns-then-value-eq1-clause-stored
returns-then-value-eq1-clause-stored c =
    let n = shape c.args.layout.now in
    let object = and_parts (is_valid n c.args.addr) (is_value_at (kind_of n c.args.addr.block) c.args.value.now) c.requires.object in
    (Stores-bit (kind_of n c.args.addr.block) c.args.block.now c.set_bit.new.self c.args.addr.off c.args.value.now object.0 object.1
    c.if-value-eq1.true c.set_bit.ensures.contents c.set_bit.ensures.bit c.set_bit.ensures.others).stored

pub returns-then-value-eq1-clause-only : goal.returns-then-value-eq1-clause-only
returns-then-value-eq1-clause-only c =
    let n = shape c.args.layout.now in
    let object = and_parts (is_valid n c.args.addr) (is_value_at (kind_of n c.args.addr.block) c.args.value.now) c.requires.object in
    ChangesOnly-stores n _ _ c.args.addr c.args.value.now
    (Stores-bit (kind_of n c.args.addr.block) c.args.block.now c.set_bit.new.self c.args.addr.off c.args.value.now object.0 object.1
    c.if-value-eq1.true c.set_bit.ensures.contents c.set_bit.ensures.bit c.set_bit.ensures.others)

pub returns-then-value-eq1-clause-map : goal.returns-then-value-eq1-clause-map
returns-then-value-eq1-clause-map c =
    OverwritesMap-changes (shape c.args.layout.now) _ _ c.args.addr c.args.value.now (returns-then-value-eq1-clause-only c)

pub returns-else-value-eq1-clause-stored : goal.returns-else-value-eq1-clause-stored
returns-else-value-eq1-clause-stored c =
    let n = shape c.args.layout.now in
    let object = and_parts (is_valid n c.args.addr) (is_value_at (kind_of n c.args.addr.block) c.args.value.now) c.requires.object in
    (Stores-range (kind_of n c.args.addr.block) c.args.block.now c.copy_range.new.self c.args.addr.off c.args.value.now object.0 object.1
    c.if-value-eq1.false c.copy_range.ensures.contents c.copy_range.ensures.size c.copy_range.ensures.range c.copy_range.ensures.before c.copy_range.ensures.after).stored

pub returns-else-value-eq1-clause-only : goal.returns-else-value-eq1-clause-only
returns-else-value-eq1-clause-only c =
    let n = shape c.args.layout.now in
    let object = and_parts (is_valid n c.args.addr) (is_value_at (kind_of n c.args.addr.block) c.args.value.now) c.requires.object in
    ChangesOnly-stores n _ _ c.args.addr c.args.value.now
    (Stores-range (kind_of n c.args.addr.block) c.args.block.now c.copy_range.new.self c.args.addr.off c.args.value.now object.0 object.1
    c.if-value-eq1.false c.copy_range.ensures.contents c.copy_range.ensures.size c.copy_range.ensures.range c.copy_range.ensures.before c.copy_range.ensures.after)

pub returns-else-value-eq1-clause-map : goal.returns-else-value-eq1-clause-map
returns-else-value-eq1-clause-map c =
    OverwritesMap-changes (shape c.args.layout.now) _ _ c.args.addr c.args.value.now (returns-else-value-eq1-clause-only c)
