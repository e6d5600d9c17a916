use Rattle.std.proofs.Common.{rules, sym, ap, subst, ◌∙◌, set, length-set}
use Rattle.std.proofs.lemmas.Bool.{false≢true}
use Rattle.journal_block.specs.Block.{Bytes}
use Rattle.journal_disk.specs.Disks.{Past, write, past_after}
use Rattle.journal_mirror.specs.Mirrors.{mirror_past, IsCurrent}
use Rattle.journal_mirror.proofs.Calls.{same_size, current_written, noted_may, noted_after}
use Rattle.journal_mirror.proofs.mirror.MirrorBlockDisk.write.Goals as goal

pub invariant_of-self-inside-then-is_err-2 : goal.invariant_of-self-inside-then-is_err-2
invariant_of-self-inside-then-is_err-2 g c =
    let old = g.D.BlockDisk.state c.self.inside.disk in
    let new = g.D.BlockDisk.state c.write-written.new.self in
    let first = c.self.inside.first.value.items in
    let calls = c.self.inside.calls.items in
    let after = c.push_reserved.new.self.items in
    let may = noted_may old new first calls c.reserve.new.self.items after c.write.result c.args.block c.args.from.now
    c.write-written.ensures.keeps.honest c.write.ensures.block c.write.ensures.bytes c.reserve.ensures.items c.push_reserved.ensures.items c.write-written.ensures.written_or_not in (
      search rules,
      (
        same_size (write c.args.block c.args.from.now) (mirror_past old first calls) (mirror_past new first after) may
            ∙ c.self.inside.past_sized ∙ sym (length-set c.self.inside.blocks.items c.args.block c.copy_from.new.self),
        ((λ never. absurd (false≢true (sym never))), tt),
      ),
    )

pub invariant_of-self-inside-else-is_err-2 : goal.invariant_of-self-inside-else-is_err-2
invariant_of-self-inside-else-is_err-2 g c =
    let old = g.D.BlockDisk.state c.self.inside.disk in
    let new = g.D.BlockDisk.state c.write-written.new.self in
    let first = c.self.inside.first.value.items in
    let calls = c.self.inside.calls.items in
    let after = c.push_reserved.new.self.items in
    let bytes = c.args.from.now in
    let before = mirror_past old first calls in
    let one = noted_after old new first calls c.reserve.new.self.items after c.write.result c.args.block bytes
    c.write-written.ensures.keeps.honest c.write.ensures.block c.write.ensures.bytes c.reserve.ensures.items c.push_reserved.ensures.items (search rules) in (
      search rules,
      (
        ap (λ (p : Past). p.size) one
            ∙ c.self.inside.past_sized ∙ sym (length-set c.self.inside.blocks.items c.args.block c.copy_from.new.self),
        (
          (λ going. subst (λ (p : Past). IsCurrent (set c.self.inside.blocks.items c.args.block c.copy_from.new.self) p) (sym one)
              (subst (λ (x : Bytes). IsCurrent (set c.self.inside.blocks.items c.args.block c.copy_from.new.self) (past_after (write c.args.block x) before)) c.copy_from.ensures.contents
              (current_written c.self.inside.blocks.items before c.args.block c.copy_from.new.self (search rules) (c.self.inside.current going)))),
          tt,
        ),
      ),
    )
