use Rattle.std.proofs.Common.{Some, ap, arith}
use Rattle.journal_treecalls.proofs.Learned.{IfOk-like}
use Rattle.journal_treecalls.proofs.Putting.{two-blocks, inside-if, inside-one}
use Rattle.journal_treecalls.proofs.Going.{own-grown}
use Rattle.journal_treecalls.proofs.moving.put_grown.Goals as goal

pub put_changes-requires-clause-inside : goal.put_changes-requires-clause-inside
put_changes-requires-clause-inside g c = (inside-if _ _ _ c.placed_if.ensures c.in_ok-old.ensures.inside.second, (inside-one c.in_ok-old.old.home _ _ c.placed.ensures c.in_ok-old.ensures.inside.home, tt))

pub returns-clause-moves : goal.returns-clause-moves
returns-clause-moves g c = IfOk-like c.put_two_heads.result _ _ (λ reply two. own-grown _ _ _ _ c.args.way.now c.args.hit.now c.args.new_name.now c.args.now _ c.named_entry-entry.ensures _ c.in_ok-old.ensures.learns _ _ reply _ c.args.growth.now _ _ _ c.moved_heads.result _ _ _ _
    c.placed_if.ensures (ap Some c.placed.ensures) c.in_ok-put_changes.ensures.puts c.in_ok-put_first.ensures.puts c.moved_heads.ensures c.grown-source.ensures c.grown-goal.ensures c.moved.ensures c.moved-2.ensures two) c.put_two_heads.ensures.puts

pub returns-clause-few : goal.returns-clause-few
returns-clause-few g c = IfOk-like c.put_two_heads.result _ _ (λ _ more. let few = c.in_ok-put_changes.ensures.few in let b = two-blocks c.placed_if.result (Some c.placed.result) in let grown = c.in_ok-put_first.ensures.few in omega (arith, more, few, b, grown)) c.put_two_heads.ensures.few
