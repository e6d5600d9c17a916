use Rattle.std.proofs.Common.{arith}
use Rattle.journal_treeform.proofs.AfterEnd.{after-none, reads-first, leaves-first}
use Rattle.journal_treeform.proofs.growing.move_records.Goals as goal

pub returns-in_err-room-clause-crash : goal.returns-in_err-room-clause-crash
returns-in_err-room-clause-crash g c = λ _ settled.
    let p = (g.D.BlockDisk.state c.args.disk.now).past in
    leaves-first c.args.new.blocks p p settled (omega (arith, c.requires.size, c.requires.growth.wider.cut.room.records)) (after-none c.args.new.blocks p)

pub returns-in-Ok-clause-first : goal.returns-in-Ok-clause-first
returns-in-Ok-clause-first g c = λ honest.
    reads-first c.args.new.blocks (g.D.BlockDisk.state c.args.disk.now).past (g.D.BlockDisk.state c.copy_records.new.disk).past (c.copy_records.ensures.after honest)

pub returns-in-Ok-clause-crash : goal.returns-in-Ok-clause-crash
returns-in-Ok-clause-crash g c = λ honest settled.
    leaves-first c.args.new.blocks (g.D.BlockDisk.state c.args.disk.now).past (g.D.BlockDisk.state c.copy_records.new.disk).past settled
    (omega (arith, c.requires.size, c.requires.growth.wider.cut.room.records)) (c.copy_records.ensures.after honest)

pub returns-clause-first : goal.returns-clause-first
returns-clause-first g c = λ honest.
    reads-first c.args.new.blocks (g.D.BlockDisk.state c.args.disk.now).past (g.D.BlockDisk.state c.copy_records.new.disk).past (c.copy_records.ensures.after honest)

pub returns-clause-crash : goal.returns-clause-crash
returns-clause-crash g c = λ honest settled.
    leaves-first c.args.new.blocks (g.D.BlockDisk.state c.args.disk.now).past (g.D.BlockDisk.state c.copy_records.new.disk).past settled
    (omega (arith, c.requires.size, c.requires.growth.wider.cut.room.records)) (c.copy_records.ensures.after honest)
