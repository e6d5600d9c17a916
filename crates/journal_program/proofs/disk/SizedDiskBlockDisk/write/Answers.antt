use Rattle.std.proofs.Common.{rules, IsTrue, subst}
use Rattle.journal_disk.specs.FileDisks.{file_state}
use Rattle.journal_program.proofs.Current.{current_noted, current_forgotten, current_written}
use Rattle.journal_program.proofs.disk.SizedDiskBlockDisk.write.Goals as goal

-- the write failed
pub invariant_of-self-inside : goal.invariant_of-self-inside
invariant_of-self-inside g c =
    let old = file_state c.self.inside.file in
    let new = file_state c.write.new.self in
    let noted = c.note_call.new.self.blocks.items in (
      search rules,
      (
        (λ keeps.
            let kept = subst IsTrue c.write.ensures.keeps.honest keeps in
            current_forgotten noted c.forget.new.self.blocks.items old.past new.past c.args.block c.args.from.now
            (current_noted c.self.inside.held.blocks.items noted c.self.inside.held.is_last old.past
            c.note_call.ensures.ends c.note_call.ensures.goes_on (c.self.inside.current kept))
            c.forget.ensures (c.write.ensures.written_or_not kept)),
        tt,
      ),
    )

-- it was made
pub invariant_of-self-inside-2 : goal.invariant_of-self-inside-2
invariant_of-self-inside-2 g c =
    let old = file_state c.self.inside.file in
    let new = file_state c.write.new.self in
    let noted = c.note_call.new.self.blocks.items in (
      search rules,
      (
        (λ keeps.
            let kept = subst IsTrue c.write.ensures.keeps.honest keeps in
            current_written noted c.forget.new.self.blocks.items c.hold.new.self.blocks.items old.past new.past c.args.block c.args.from.now
            (current_noted c.self.inside.held.blocks.items noted c.self.inside.held.is_last old.past
            c.note_call.ensures.ends c.note_call.ensures.goes_on (c.self.inside.current kept))
            c.forget.ensures (c.in_ok-write.ensures.written kept) c.hold.ensures),
        tt,
      ),
    )
