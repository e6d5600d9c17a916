use Rattle.std.proofs.Common.{◌≡◌, ◌≤◌, ◌+◌, ◌-◌, ◌∷◌, ◌++◌, [], List, take, sym, ap, ◌∙◌, arith}
use Rattle.journal_block.specs.declared.update.Update.{Update}
use Rattle.journal_block.specs.Block.{Bytes}
use Rattle.journal_memlog.specs.Logs.{tail_of}
use Rattle.journal_memlog.specs.declared.bounds.Bounds.{Bounds}
use Rattle.journal_tail.proofs.Tailing.{tail_more}
use Rattle.journal_tail.proofs.tail.Tail.copy_tail.Goals as goal

pub loop-position-preserved : goal.loop-position-preserved
loop-position-preserved c =
    let log = c.self.inside.memory in
    let from : log.start ≤ log.cut = omega (arith, c.self.invariant.log.bounds.start_to_logged, c.self.invariant.log.bounds.logged_to_cut) in
    let above : log.cut ≤ c.loop-position.position = omega (arith, c.loop-position.auto.position, ap (λ (b : Bounds). b.cut) c.bounds-bounds.ensures.bounds) in
    let more : take (c.loop-position.position + 1 - log.cut) (tail_of log) ≡ take (c.loop-position.position - log.cut) (tail_of log) ++ c.at-update.result.now ∷ [] =
    tail_more log c.loop-position.position c.at-update.result.now from above c.at-update.ensures in
    c.in_ok-push.ensures.items
    ∙ ap (λ (us : List Update). us ++ record { block = c.at-update.result.now.block; bytes = c.in_ok-bytes.bytes } ∷ []) c.loop-position.invariant
    ∙ ap (λ (x : Bytes). take (c.loop-position.position - log.cut) (tail_of log) ++ record { block = c.at-update.result.now.block; bytes = x } ∷ []) c.in_ok-bytes.ensures.contents
    ∙ sym more
