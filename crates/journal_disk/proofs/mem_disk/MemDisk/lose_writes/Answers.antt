use Rattle.std.proofs.Common.{length, refl, sym, ap, ◌∙◌, subst}
use Rattle.journal_disk.specs.Disks.{Past, read_of}
use Rattle.journal_disk.specs.Images.{IsImage, LosesWrites, reading}
use Rattle.journal_disk.specs.MemDisks.{MemState, image_of}
use Rattle.journal_disk.proofs.Choices.{image_of_is_image}
use Rattle.journal_disk.proofs.mem_disk.MemDisk.lose_writes.Goals as goal

pub returns-clause-loses : goal.returns-clause-loses
returns-clause-loses c =
    let s = c.self.inside in
    let p : Past = record { size = length s.device.items; first = s.first.items; device = s.device.items; events = s.events.events } in
    let new : Past = record { size = length c.put_image.new.blocks.items; first = c.put_reading.new.blocks.items; device = c.put_image.new.blocks.items; events = c.clear.new.self.events } in
    subst (λ (q : Past). LosesWrites q new) (ap (λ (m : MemState). m.past) c.self.view_is)
    (record {
      device = subst (IsImage p) (sym (c.put_image.ensures.image s.first.items)) (image_of_is_image p c.args.choice.now);
      is = λ i. record {
        size = c.put_image.ensures.size i;
        first = (c.put_reading.ensures.reads ∙ ap (λ n. reading (record p { size = n })) c.self.invariant.1) i;
        device = c.put_image.new.blocks.items;
        events = ap (λ r. r.events) c.clear.ensures i;
      };
    })

pub returns-clause-device : goal.returns-clause-device
returns-clause-device c = c.put_image.ensures.image c.self.inside.first.items ∙ ap (λ (m : MemState). image_of m.past c.args.choice.now) c.self.view_is
