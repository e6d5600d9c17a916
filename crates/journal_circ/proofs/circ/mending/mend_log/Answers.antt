use Rattle.std.proofs.Common.{◌∙◌, ℕ, IsTrue, sym, ap, subst, arith}
use Rattle.journal_block.specs.Block.{Bytes, u64_at}
use Rattle.journal_disk.specs.Disks.{Past, read_of}
use Rattle.journal_disk.specs.Images.{reading}
use Rattle.journal_disk.specs.Laws.{reading-at}
use Rattle.journal_circ.specs.Log.{start_in, end_in}
use Rattle.journal_circ.specs.Mending.{IsMendable}
use Rattle.journal_circ.proofs.circ.mending.mend_log.Goals as goal

pub returns-in-Ok-clause-settled : goal.returns-in-Ok-clause-settled
returns-in-Ok-clause-settled g c = λ honest.
    let was : Past = (g.D.BlockDisk.state c.args.device.now.disk).past in
    let same = c.read_headers.ensures.same honest in
    let honest_1 = subst IsTrue (sym c.read_headers.ensures.keeps.honest) honest in
    c.in-Ok.ensures.settled honest_1 (subst IsMendable (sym same) (c.requires.mendable honest)) (record {
      header_is = c.in_ok-header.ensures.header honest ∙ ap (λ (p : Past). read_of p 0) (sym same);
      start_is = c.in_ok-header.ensures.start honest
          ∙ ap (λ (b : Bytes). u64_at b 0) (sym (reading-at was 1 (omega (arith, c.requires.in_range))))
          ∙ ap (λ (p : Past). start_in (reading p)) (sym same);
      end_is = c.in_ok-header.ensures.end honest ∙ ap (λ (p : Past). end_in (reading p)) (sym same);
    })
