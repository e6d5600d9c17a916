use Rattle.std.proofs.Common.{length, slice_set, sym, ap, ◌∙◌}
use mir.Val.{bool_byte}
use Rattle.std.proofs.lemmas.Bool.{and_from}
use Rattle.journal_world.specs.Addresses.{is_valid, kind_of}
use Rattle.journal_world.specs.Files.{shape}
use Rattle.journal_world.specs.Maps.{is_value_at}
use Rattle.journal_block.specs.Block.{Bytes}
use Rattle.journal_object.specs.Objects.{object_at}
use Rattle.journal_object.proofs.Cuts.{is_value_at-object}
use Rattle.journal_object.proofs.Lengths.{object_of-bit, object_of-range, is_value_at-bit}
use Rattle.journal_object.proofs.object.load_valid.Goals as goal

pub returns-then-out-eq1-clause-loaded : goal.returns-then-out-eq1-clause-loaded
returns-then-out-eq1-clause-loaded c =
    object_of-bit (kind_of (shape c.args.layout.now) c.args.addr.block) c.args.block.now c.args.out.now c.args.addr.off c.from.result
    c.requires.valid c.requires.size c.if-out-eq1.true (c.from.ensures ∙ ap bool_byte c.bit.ensures)

pub returns-then-out-eq1-clause-object : goal.returns-then-out-eq1-clause-object
returns-then-out-eq1-clause-object c =
    let n = shape c.args.layout.now in
    let kind = kind_of n c.args.addr.block in
    and_from (is_valid n c.args.addr) (is_value_at kind (slice_set c.args.out.now 0 c.from.result)) c.requires.valid
    (rw (returns-then-out-eq1-clause-loaded c)
    (is_value_at-bit kind c.args.block.now c.args.addr.off c.requires.valid (sym c.requires.size ∙ c.if-out-eq1.true)))

pub returns-else-out-eq1-clause-loaded : goal.returns-else-out-eq1-clause-loaded
returns-else-out-eq1-clause-loaded c =
    let n = shape c.args.layout.now in
    c.copy_from_slice.ensures.after
    ∙ object_of-range (kind_of n c.args.addr.block) c.as_bytes.result.now c.args.addr.off (length c.args.out.now)
    c.requires.valid c.as_bytes.ensures.size c.requires.size c.if-out-eq1.false
    ∙ ap (λ (bytes : Bytes). object_at n bytes c.args.addr) c.as_bytes.ensures.contents

pub returns-else-out-eq1-clause-object : goal.returns-else-out-eq1-clause-object
returns-else-out-eq1-clause-object c =
    let n = shape c.args.layout.now in
    let kind = kind_of n c.args.addr.block in
    and_from (is_valid n c.args.addr) (is_value_at kind c.copy_from_slice.new.self) c.requires.valid
    (rw (returns-else-out-eq1-clause-loaded c)
    (is_value_at-object kind c.args.block.now c.args.addr.off c.requires.valid (rw c.as_bytes.ensures.contents at c.as_bytes.ensures.value)))
