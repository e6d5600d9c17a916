use Rattle.std.proofs.Common.{◌≡◌, rules}
use Rattle.journal_world.specs.Files.{shape}
use Rattle.journal_lockmap.proofs.Marking.{marked_none}
use Rattle.journal_lockmap.proofs.slot_set.mark_writes.Goals as goal

pub loop-addr-init : goal.loop-addr-init
loop-addr-init c =
    let all : c.into_iter-addr-iterator.result ≡ c.args.writes.now = search rules in
    marked_none (shape c.args.layout.now) c.args.writes.now _ c.args.flags.now c.requires.room c.requires.none all
