use Rattle.journal_world.specs.Files.{shape}
use Rattle.journal_objlog.proofs.Readings.{read_value}
use Rattle.journal_objlog.proofs.object_log.ObjectLog.object_in.Goals as goal

pub returns-clause-value : goal.returns-clause-value
returns-clause-value g c = λ honest block.
    read_value (shape c.args.layout.now) c.args.self.now.log c.args.addr c.args.block.now c.load_valid.new.out
    c.load_valid.ensures.object c.load_valid.ensures.loaded (block honest)
