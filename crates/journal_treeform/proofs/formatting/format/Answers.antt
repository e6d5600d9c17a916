use Rattle.std.proofs.Common.{rules}
use Rattle.journal_disk.specs.Disks.{read_of}
use Rattle.journal_treeform.specs.NewDisks.{IsPossible}
use Rattle.journal_treeform.proofs.Making.{new-disks}
use Rattle.journal_treeform.proofs.formatting.format.Goals as goal

pub returns-in-Ok-clause-sound : goal.returns-in-Ok-clause-sound
returns-in-Ok-clause-sound g c = λ honest m layout is.
    let possible : IsPossible c.args.tree = record {
      cut = c.requires.cut;
      whole = c.requires.whole;
      new = c.requires.new;
      disk = search rules;
      mode = c.requires.mode;
      owner = search rules;
      group = search rules;
      made = c.requires.made;
    } in
    new-disks c.args.tree (read_of (g.D.BlockDisk.state c.write_all.new.disk).past) m possible (c.in-Ok.ensures.blocks honest) layout is
