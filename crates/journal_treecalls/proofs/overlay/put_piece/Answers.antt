use Rattle.std.proofs.Common.{arith}
use Rattle.journal_treecalls.proofs.Writes.{piece-old, piece-new}
use Rattle.journal_treecalls.proofs.Learning.{one-longer}
use Rattle.journal_treecalls.proofs.overlay.put_piece.Goals as goal

pub returns-then-blocks-eq0-clause-lays : goal.returns-then-blocks-eq0-clause-lays
returns-then-blocks-eq0-clause-lays g c = piece-new _ _ _ _ _ c.args.number c.args.blocks.0 c.args.blocks.1 c.args.place c.args.piece.now c.value_of-value.result _ c.if-blocks-eq0.true c.in_ok-put_block.ensures.written c.in_ok-put_owner.ensures.written c.value_of-value.ensures.is c.owner_at.ensures (λ V m. c.in_ok-put_block.ensures.same V (c.in_ok-put_owner.ensures.same V m))

pub returns-clause-lays : goal.returns-clause-lays
returns-clause-lays g c = piece-old _ _ _ _ c.args.number c.args.blocks.0 c.args.blocks.1 c.args.place c.args.piece.now c.value_of-value.result c.if-blocks-eq0.false c.in_ok-put_block.ensures.written c.value_of-value.ensures.is c.in_ok-put_block.ensures.same

pub returns-then-blocks-eq0-clause-few : goal.returns-then-blocks-eq0-clause-few
returns-then-blocks-eq0-clause-few g c = omega (arith, one-longer _ _ _ c.in_ok-put_block.ensures.written, one-longer _ _ _ c.in_ok-put_owner.ensures.written)

pub returns-clause-few : goal.returns-clause-few
returns-clause-few g c = omega (arith, one-longer _ _ _ c.in_ok-put_block.ensures.written)
