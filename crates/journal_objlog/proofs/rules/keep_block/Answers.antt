use Rattle.journal_objlog.proofs.Readings.{read_on, held_read}
use Rattle.journal_objlog.proofs.rules.keep_block.Goals as goal

pub returns-in_err-read_block-clause-read : goal.returns-in_err-read_block-clause-read
returns-in_err-read_block-clause-read g c =
    read_on g.O.Opening.log c.args.objects.now.log c.read_block.new.self.log c.requires.read
    c.read_block.ensures.reads c.read_block.ensures.maps c.read_block.ensures.crash

pub returns-clause-read : goal.returns-clause-read
returns-clause-read g c =
    read_on g.O.Opening.log c.args.objects.now.log c.read_block.new.self.log c.requires.read
    c.read_block.ensures.reads c.read_block.ensures.maps c.read_block.ensures.crash

pub returns-in_err-read_block-clause-earlier : goal.returns-in_err-read_block-clause-earlier
returns-in_err-read_block-clause-earlier g c =
    rw c.swap.ensures.y_after
    (held_read c.args.objects.now.log c.read_block.new.self.log c.read_block.ensures.reads
    c.args.kept.now.last.number c.args.kept.now.last.block c.requires.last)

pub returns-clause-earlier : goal.returns-clause-earlier
returns-clause-earlier g c =
    rw c.swap.ensures.y_after
    (held_read c.args.objects.now.log c.read_block.new.self.log c.read_block.ensures.reads
    c.args.kept.now.last.number c.args.kept.now.last.block c.requires.last)
