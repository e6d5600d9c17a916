use Rattle.std.proofs.Common.{ap, ◌∙◌, arith}
use Rattle.journal_treecalls.specs.Reaches.{numbered}
use Rattle.journal_treecalls.specs.Overlays.{laying_at}
use Rattle.journal_treecalls.proofs.Learned.{IfOk-like}
use Rattle.journal_treecalls.proofs.Writes.{place-kept, place-laid}
use Rattle.journal_treecalls.proofs.overlay.put_place.Goals as goal

pub returns-then-is_kept-clause-lays : goal.returns-then-is_kept-clause-lays
returns-then-is_kept-clause-lays g c = place-kept _ _ c.args.number (laying_at c.args.change.now c.args.image.now c.args.m) c.is_kept.result c.is_kept.ensures c.if-is_kept.true

pub returns-clause-lays : goal.returns-clause-lays
returns-clause-lays g c = IfOk-like c.put_piece.result _ _ (λ _ k. place-laid _ _ _ _ c.args.number (laying_at c.args.change.now c.args.image.now c.args.m) c.is_kept.result c.number-was.result c.number-block.result c.reach_place-place.result _ c.is_kept.ensures c.if-is_kept.false
    (c.number-was.ensures (λ p. 0) ∙ ap (numbered (λ p. 0) c.args.change.now.reach c.args.change.now.old) c.reach_place-place.ensures)
    (c.number-block.ensures (λ p. 0) ∙ ap (numbered (λ p. 0) c.args.change.now.reach c.args.change.now.new) c.reach_place-place.ensures)
    c.reach_place-place.ensures c.piece_at-piece.ensures.is k) c.put_piece.ensures.lays

pub returns-then-is_kept-clause-few : goal.returns-then-is_kept-clause-few
returns-then-is_kept-clause-few g c = omega arith
