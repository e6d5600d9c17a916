use Rattle.std.proofs.Common.{rules, refl, sym, subst}
use Rattle.journal_world.specs.Addresses.{Shape}
use Rattle.journal_disk.specs.Disks.{read_of}
use Rattle.journal_inode.specs.Formats.{IsFormatted}
use Rattle.journal_inode.specs.Places.{HasFiles}
use Rattle.journal_inode.proofs.FormattedSound.{IsFormatted-Sound}
use Rattle.journal_inode.proofs.making.format.Goals as goal

pub returns-in-Ok-clause-sound : goal.returns-in-Ok-clause-sound
returns-in-Ok-clause-sound g c = λ honest m layout is.
    let has : HasFiles m.layout = subst HasFiles (sym layout) (refl, c.requires.blocks.0) in
    IsFormatted-Sound c.args.version m (record { secs = c.args.moment.secs; nanos = c.args.moment.nanos }) _ has (search rules, search rules) c.args.moment.in_second
    (subst (λ (s : Shape). IsFormatted c.args.version s.blocks (record { secs = c.args.moment.secs; nanos = c.args.moment.nanos }) (read_of (g.D.BlockDisk.state c.write_all.new.disk).past)) (sym layout)
    (c.in-Ok.ensures.blocks honest)) is
