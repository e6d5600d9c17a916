use Rattle.std.proofs.Common.{Some, ap, arith, ◌∙◌}
use Rattle.journal_treecalls.specs.Moves.{placed_if}
use Rattle.journal_treecalls.proofs.Learned.{IfOk-like}
use Rattle.journal_treecalls.proofs.Putting.{three-blocks, inside-if, inside-one, inside-own}
use Rattle.journal_treecalls.proofs.Going.{into-here}
use Rattle.journal_treecalls.proofs.moving.put_here.Goals as goal

pub put_changes-requires-clause-inside : goal.put_changes-requires-clause-inside
put_changes-requires-clause-inside g c = (
  inside-one c.in_ok-old.old.home _ _ c.placed.ensures c.in_ok-old.ensures.inside.home,
  (inside-if _ _ _ c.placed_if.ensures c.in_ok-old.ensures.inside.second, (inside-if _ _ _ c.placed_if-2.ensures (inside-own (Some c.args.here) _ c.entry_place.ensures c.requires.there), tt)),
)

pub returns-clause-moves : goal.returns-clause-moves
returns-clause-moves g c = IfOk-like c.put_three_heads.result _ _ (λ reply three. into-here _ _ _ _ c.args.way.now c.args.hit.now c.args.new_name.now c.args.now _ c.named_entry-entry.ensures _ c.in_ok-old.ensures.learns _ _ reply c.args.here c.place_number-place.result _ _ _ _ c.place_number-place.ensures
    (ap Some c.placed.ensures) c.placed_if.ensures (c.placed_if-2.ensures ∙ ap (λ o. placed_if o c.named_entry-entry.result) c.entry_place.ensures) c.in_ok-put_changes.ensures.puts c.moved_heads-heads.ensures three) c.put_three_heads.ensures.puts

pub returns-clause-few : goal.returns-clause-few
returns-clause-few g c = IfOk-like c.put_three_heads.result _ _ (λ _ more. let few = c.in_ok-put_changes.ensures.few in let b = three-blocks (Some c.placed.result) c.placed_if.result c.placed_if-2.result in omega (arith, more, few, b)) c.put_three_heads.ensures.few
