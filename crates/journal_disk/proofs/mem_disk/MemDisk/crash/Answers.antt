use Rattle.std.proofs.Common.{length, sym, ap, ◌∙◌, subst}
use Rattle.journal_disk.specs.Disks.{Past}
use Rattle.journal_disk.specs.Images.{IsImage}
use Rattle.journal_disk.specs.MemDisks.{MemState}
use Rattle.journal_disk.proofs.Choices.{image_of_is_image}
use Rattle.journal_disk.proofs.mem_disk.MemDisk.crash.Goals as goal

pub returns-clause-image : goal.returns-clause-image
returns-clause-image c =
    let s = c.self.inside in
    let p : Past = record { size = length s.device.items; first = s.first.items; device = s.device.items; events = s.events.events } in
    subst (λ (q : Past). IsImage q c.copy_blocks.new.blocks.items) (ap (λ (m : MemState). m.past) c.self.view_is)
    (subst (IsImage p) (sym (c.copy_blocks.ensures ∙ c.deref.ensures.value ∙ c.put_image.ensures.image s.first.items)) (image_of_is_image p c.args.choice.now))
