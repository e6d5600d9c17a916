use Rattle.std.proofs.Common.{◌≡◌, length, drop}
use Rattle.journal_treerule.specs.Walks.{waiting_after_all, queue_after_all}
use Rattle.journal_treerule.proofs.walk.Walk.meet_all.Given as goal

-- what is met so far and what is left make all
abbrev pub invariant-loop-child : goal.invariant-loop-child
invariant-loop-child l = record {
  long : length l.self.waiting.items ≡ length l.fn.self.waiting.items;
  waiting : waiting_after_all l.self.waiting.items (drop l.child-index l.children) ≡ waiting_after_all l.fn.self.waiting.items l.children;
  queue : queue_after_all l.self.waiting.items l.self.queue.items (drop l.child-index l.children) ≡ queue_after_all l.fn.self.waiting.items l.fn.self.queue.items l.children;
}
