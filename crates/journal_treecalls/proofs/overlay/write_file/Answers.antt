use Rattle.std.proofs.Common.{rules, length}
use Rattle.journal_treecalls.proofs.Writes.{file-written}
use Rattle.journal_treecalls.proofs.Learning.{one-longer}
use Rattle.journal_treecalls.proofs.Counting.{file-few}
use Rattle.journal_treecalls.proofs.overlay.write_file.Goals as goal

pub returns-clause-writes : goal.returns-clause-writes
returns-clause-writes g c = file-written _ _ _ _ _ _ _ _ _ c.args.caller.now c.args.data.now.offset c.args.data.now.bytes.now c.args.change.now c.args.now c.args.number c.args.target.now c.written_head-head.result c.in_ok-image.image.items _ _ _
    c.in_ok-image.ensures.first c.written_head-head.ensures c.in_ok-image.ensures.learns c.in_ok-image.ensures.long c.in_ok-clear_gap.ensures.clears c.in_ok-put_places.ensures.lays (search rules) c.in_ok-put_inode.ensures.same c.in_ok-put_inode.ensures.written c.used_bytes.ensures c.changed.ensures

pub returns-clause-few : goal.returns-clause-few
returns-clause-few g c =
    file-few c.args.data.now.offset (length c.args.data.now.bytes.now) c.args.change.now.reach _ _ _ c.requires.some c.requires.reach c.in_ok-clear_gap.ensures.few c.in_ok-put_places.ensures.few (one-longer _ _ _ c.in_ok-put_inode.ensures.written)
