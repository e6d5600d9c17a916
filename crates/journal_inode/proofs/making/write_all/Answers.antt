use Rattle.std.proofs.Common.{ℕ, ◌-◌, sym, ap, subst, ◌∙◌}
use Rattle.std.specs.Prelude.{IsTrue, nat_le}
use Rattle.std.proofs.lemmas.Result.{on_ok_weaker}
use Rattle.journal_world.specs.declared.layout.TheConstants.{FIRST_DATA}
use Rattle.journal_inode.specs.declared.node.Time.{Time}
use Rattle.journal_inode.specs.declared.node.Node.TheVariants.{Root}
use Rattle.journal_inode.specs.Nodes.{inode_bytes}
use Rattle.journal_inode.specs.Sound.{superblock_of}
use Rattle.journal_inode.proofs.Formatted.{formatted, settled_after}
use Rattle.journal_inode.proofs.making.write_all.Goals as goal

pub returns-clause-blocks : goal.returns-clause-blocks
returns-clause-blocks g c = λ honest.
    let honest_1 = subst IsTrue (sym c.write.ensures.keeps.honest) honest in
    let honest_2 = subst IsTrue (sym c.write-2.ensures.keeps.honest) honest_1 in
    let honest_3 = subst IsTrue (sym c.write-3.ensures.keeps.honest) honest_2 in
    on_ok_weaker c.sync.result
    (λ synced. formatted _ _ _ _ _ _ _ _ _ _ _ c.requires.blocks.0 (c.requires.zeros honest)
    (record {
      superblock_is = c.in_ok-superblock.ensures.bytes ∙ ap (superblock_of c.args.version) c.size-blocks.ensures;
      bits = λ k low. c.in_ok-bitmap.ensures.bits k low ∙ ap (λ (n : ℕ). nat_le (n - FIRST_DATA) k) c.size-blocks.ensures;
      root = c.in_ok-inodes.ensures.root ∙ ap (λ (t : Time). inode_bytes (Root t)) c.at.ensures;
      others = c.in_ok-inodes.ensures.others;
    })
    (c.in_ok-write.ensures.written honest) (c.in_ok-write-2.ensures.written honest_1) (c.in_ok-write-3.ensures.written honest_2) synced)
    (c.sync.ensures.synced honest_3)

pub returns-clause-settled : goal.returns-clause-settled
returns-clause-settled g c = λ honest lost.
    let honest_1 = subst IsTrue (sym c.write.ensures.keeps.honest) honest in
    let honest_2 = subst IsTrue (sym c.write-2.ensures.keeps.honest) honest_1 in
    let honest_3 = subst IsTrue (sym c.write-3.ensures.keeps.honest) honest_2 in
    on_ok_weaker c.sync.result
    (λ synced. settled_after _ _ _ _ _ _ _ _ lost (c.in_ok-write.ensures.written honest) (c.in_ok-write-2.ensures.written honest_1) (c.in_ok-write-3.ensures.written honest_2) synced)
    (c.sync.ensures.synced honest_3)
