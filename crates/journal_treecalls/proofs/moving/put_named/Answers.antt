use Rattle.std.proofs.Common.{Some, ap, arith, ◌∙◌}
use Rattle.journal_treecalls.specs.Moves.{placed_if}
use Rattle.journal_treecalls.proofs.Learned.{IfOk-like}
use Rattle.journal_treecalls.proofs.Putting.{three-blocks, inside-if, inside-one, inside-own}
use Rattle.journal_treecalls.proofs.Going.{own-named}
use Rattle.journal_treecalls.proofs.moving.put_named.Goals as goal

pub put_changes-requires-clause-inside : goal.put_changes-requires-clause-inside
put_changes-requires-clause-inside g c = (
  inside-if _ _ _ c.placed_if.ensures c.in_ok-old.ensures.inside.second,
  (inside-one c.in_ok-old.old.home _ _ c.placed.ensures c.in_ok-old.ensures.inside.home, (inside-if _ _ _ c.placed_if-2.ensures (inside-own _ _ c.entry_place.ensures c.requires.there), tt)),
)

pub returns-clause-moves : goal.returns-clause-moves
returns-clause-moves g c = IfOk-like c.put_two_heads.result _ _ (λ reply two. own-named _ _ _ _ c.args.way.now c.args.hit.now c.args.new_name.now c.args.now _ c.named_entry-entry.ensures _ c.in_ok-old.ensures.learns _ _ reply c.args.second _ _ _ _
    c.placed_if.ensures (ap Some c.placed.ensures) (c.placed_if-2.ensures ∙ ap (λ o. placed_if o c.named_entry-entry.result) c.entry_place.ensures) c.in_ok-put_changes.ensures.puts c.moved_heads-heads.ensures two) c.put_two_heads.ensures.puts

pub returns-clause-few : goal.returns-clause-few
returns-clause-few g c = IfOk-like c.put_two_heads.result _ _ (λ _ more. let few = c.in_ok-put_changes.ensures.few in let b = three-blocks c.placed_if.result (Some c.placed.result) c.placed_if-2.result in omega (arith, more, few, b)) c.put_two_heads.ensures.few
