use Rattle.std.proofs.Common.{◌∙◌}
use Rattle.journal_twophase.proofs.locked_parts.LockedParts.open.Goals as goal

pub returns-clause-begun : goal.returns-clause-begun
returns-clause-begun g c =
    let begun = c.in_ok-durable.ensures.begun in
    record {
      map = begun.map;
      size = begun.size;
      on_disk = begun.on_disk;
      objects = begun.objects;
      holds = begun.holds;
      ruled = begun.ruled;
      start = c.front-start.ensures.history ∙ begun.history;
    }

pub returns-clause-well_formed : goal.returns-clause-well_formed
returns-clause-well_formed g c = c.in_ok-durable.ensures.well_formed
