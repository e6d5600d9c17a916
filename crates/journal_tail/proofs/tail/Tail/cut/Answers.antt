use Rattle.std.proofs.Common.{ap, ◌∙◌}
use Rattle.journal_memlog.specs.declared.bounds.Bounds.{Bounds}
use Rattle.journal_tail.specs.Tails.{TailState}
use Rattle.journal_tail.proofs.Tailing.{tail_cut}
use Rattle.journal_tail.proofs.tail.Tail.cut.Goals as goal

-- whatever number of commits it remembers
pub invariant_of-self-2 : goal.invariant_of-self-2
invariant_of-self-2 c =
    let tail : TailState = record { log = c.self.inside.memory; trimmed = c.self.inside.trimmed; cuts = c.self.inside.cuts.items; cache = c.self.inside.cache } in
    tail_cut tail _ c.push_back.new.self.items c.cut.new.self c.self.invariant c.in_ok-push_back.ensures.items
    (c.new-end.ensures ∙ ap (λ (b : Bounds). b.next) c.bounds.ensures.bounds) c.cut.ensures.log c.cut.ensures.sound
