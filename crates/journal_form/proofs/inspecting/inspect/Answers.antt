use Rattle.std.proofs.Common.{◌≡◌, ◌<◌, ◌∙◌, subst, arith, IsTrue}
use Rattle.journal_block.specs.Block.{Bytes}
use Rattle.journal_disk.specs.Disks.{Past}
use Rattle.journal_disk.specs.Images.{EveryImage}
use Rattle.journal_circ.specs.StandsFor.{StandsFor}
use Rattle.journal_wal.specs.Wal.{blocks_now}
use Rattle.journal_form.specs.Inspections.{HasFormat}
use Rattle.journal_form.proofs.Steps.{tells}
use Rattle.journal_form.proofs.inspecting.inspect.Goals as goal

pub returns-in-Ok-read-clause-files : goal.returns-in-Ok-read-clause-files
returns-in-Ok-read-clause-files g c honest =
    let p = (g.D.BlockDisk.state c.args.disk).past in
    let wal = c.in_ok-wal.wal in
    let large : 513 < p.size = omega (arith, c.requires.in_range) in
    let was : IsTrue wal.ring.disk.honest = c.in_ok-wal.ensures.keeps.honest ∙ honest in
    tells p (blocks_now wal) c.format_of.result large
    (subst (λ (q : Past). EveryImage q (StandsFor q.size (blocks_now wal))) (c.in_ok-wal.ensures.same honest) (c.in_ok-wal.ensures.images honest))
    (subst (λ (first : Bytes). HasFormat first c.format_of.result) (c.in-Ok-read.ensures.value was) c.format_of.ensures)
