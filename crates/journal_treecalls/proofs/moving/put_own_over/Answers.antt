use Rattle.std.proofs.Common.{Some, ap, arith, ◌∙◌}
use Rattle.journal_treecalls.specs.Moves.{placed_if}
use Rattle.journal_treecalls.proofs.Learned.{IfOk-like}
use Rattle.journal_treecalls.proofs.Learning.{one-longer}
use Rattle.journal_treecalls.proofs.Putting.{over-blocks, inside-if, inside-one, inside-over}
use Rattle.journal_treecalls.proofs.Going.{own-over, over-few}
use Rattle.journal_treecalls.proofs.moving.put_own_over.Goals as goal

pub put_changes-requires-clause-inside : goal.put_changes-requires-clause-inside
put_changes-requires-clause-inside g c = (
  inside-one c.in_ok-other.other.home _ _ c.placed.ensures c.in_ok-other.ensures.inside.home,
  (
    inside-if _ _ _ c.placed_if.ensures c.in_ok-other.ensures.inside.second,
    (
      inside-if _ _ _ c.placed_if-2.ensures c.in_ok-old.ensures.inside.second,
      (
        inside-one c.in_ok-old.old.home _ _ c.placed-2.ensures c.in_ok-old.ensures.inside.home,
        (inside-if _ _ _ c.placed_if-3.ensures (inside-over _ _ _ c.second_over.ensures c.in_ok-other.ensures.inside), tt),
      ),
    ),
  ),
)

pub returns-clause-moves : goal.returns-clause-moves
returns-clause-moves g c = IfOk-like c.put_two_heads.result _ _ (λ reply two. own-over _ _ _ _ c.args.way.now c.args.hit.now c.args.new_name.now c.args.now _ c.named_entry-entry.ensures _ c.in_ok-old.ensures.learns _ _ reply _ _ c.args.over.now _ c.in_ok-other.ensures.learns _ _ c.in_ok-put_inode.ensures.same c.in_ok-put_inode.ensures.written c.free_bytes.ensures
    c.args.needs _ _ _ _ _ _ (ap Some c.placed.ensures) c.placed_if.ensures c.placed_if-2.ensures (ap Some c.placed-2.ensures) (c.placed_if-3.ensures ∙ ap (λ o. placed_if o c.named_entry-entry.result) c.second_over.ensures) c.in_ok-put_changes.ensures.puts c.moved_heads-heads.ensures two) c.put_two_heads.ensures.puts

pub returns-clause-few : goal.returns-clause-few
returns-clause-few g c = IfOk-like c.put_two_heads.result _ _ (λ _ more.
    let few = over-few _ c.in_ok-other.other c.args.needs _ _ (Some c.placed.result) c.placed_if.result c.placed_if-2.result (Some c.placed-2.result) c.placed_if-3.result (ap Some c.placed.ensures) c.placed_if.ensures (c.placed_if-3.ensures ∙ ap (λ o. placed_if o c.named_entry-entry.result) c.second_over.ensures) c.in_ok-put_changes.ensures.few in
    let one = one-longer _ _ _ c.in_ok-put_inode.ensures.written in
    omega (arith, more, few, one)) c.put_two_heads.ensures.few
