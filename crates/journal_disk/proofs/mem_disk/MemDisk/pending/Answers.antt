use Rattle.std.proofs.Common.{◌≡◌, ◌∙◌, sym, rules, arith}
use Rattle.journal_disk.proofs.Choices.{pending_added, pending_none}
use Rattle.journal_disk.proofs.mem_disk.MemDisk.pending.Goals as goal
use Rattle.journal_disk.proofs.mem_disk.MemDisk.pending.Goals.{then-count-gt0+in_ok-push, else-count-gt0}

pub loop-block-preserved : goal.loop-block-preserved
loop-block-preserved g c = elim c.if-count-gt0.branch [
  | then-count-gt0+in_ok-push w ↦
      pending_added c.args.self.now.past c.loop-block.block _ c.loop-block.pending.items _
      c.loop-block.invariant c.pending_count-count.ensures w.if-count-gt0.true (search rules)
  | else-count-gt0 w ↦
      let same : c.if-count-gt0.pending.items ≡ c.loop-block.pending.items = search rules in
      same ∙ c.loop-block.invariant
      ∙ sym (pending_none c.args.self.now.past c.loop-block.block (omega (arith, c.pending_count-count.ensures, w.if-count-gt0.false)))
]
