use Rattle.std.proofs.Common.{◌≡◌, arith, ap, ◌∙◌}
use Rattle.journal_treerule.proofs.Scanning.{scanned-more, scanned-fails, scanned-all}
use Rattle.journal_world.specs.Maps.{Map}
use Rattle.journal_treerule.proofs.inodes.nodes_in_use.Goals as goal

pub right_inode-requires-clause-layout : goal.right_inode-requires-clause-layout
right_inode-requires-clause-layout g c = ap (λ (m : Map). m.layout) c.loop-number.invariant.same_map ∙ c.requires.layout

pub returns-in_default-clause-right : goal.returns-in_default-clause-right
returns-in_default-clause-right g c = λ trusted. scanned-fails _ _ _ _ _ _ _ _ _ c.loop-number.invariant _ c.in_ok-is_used.ensures.right (omega arith) c.in_default.is trusted

pub loop-number-preserved : goal.loop-number-preserved
loop-number-preserved g c =
    scanned-more _ _ _ _ _ _ _ _ _ c.loop-number.invariant _ c.in_ok-is_used.ensures.right _ _ _ _ (omega arith)
    c.right_inode.ensures.same_map c.right_inode.ensures.same_trust c.right_inode.ensures.stays_failed c.in-Some.is

pub returns-clause-right : goal.returns-clause-right
returns-clause-right g c = λ trusted.
    let all : c.loop-number.number ≡ c.args.cut.numbers = omega arith in
    scanned-all _ _ _ _ _ _ _ _ _ c.loop-number.invariant all trusted
