use Rattle.std.proofs.Common.{◌≡◌, arith}
use Rattle.journal_inode.specs.declared.place.TheConstants.{INODES}
use Rattle.journal_inode.proofs.Scanning.{scanned_more, scanned_twice, scanned_all}
use Rattle.journal_inode.proofs.rule.owners.Goals as goal

pub returns-then-not-claim-clause-sound : goal.returns-then-not-claim-clause-sound
returns-then-not-claim-clause-sound g c =
    scanned_twice _ _ _ _ _ _ _ _ _ _ _ _ c.loop-i.invariant c.in_ok-node.ensures.sound c.in-Some.is c.in_ok-node.ensures.in_range
    c.if-not-claim.ensures.claims c.loop-i-test.true

pub loop-i-preserved : goal.loop-i-preserved
loop-i-preserved g c =
    scanned_more _ _ _ _ _ _ _ _ _ _ _ _ _ _ _ c.loop-i.invariant c.sound_inode.ensures.same_map c.sound_inode.ensures.same_trust c.sound_inode.ensures.stays_failed
    c.in_ok-node.ensures.sound c.in-Some.is c.in_ok-node.ensures.in_range c.if-not-claim.ensures.claims c.claim.ensures.length

pub returns-clause-sound : goal.returns-clause-sound
returns-clause-sound g c =
    let all : c.loop-i.i ≡ INODES = omega arith in
    scanned_all _ _ _ _ _ _ _ _ _ c.loop-i.invariant all
