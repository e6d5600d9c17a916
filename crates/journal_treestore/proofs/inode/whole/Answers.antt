use Rattle.std.proofs.Common.{◌∙◌, ◌++◌, ◌∷◌, [], take, drop, ap, w32}
use Rattle.std.specs.Prelude.{flat_map}
use Rattle.std.specs.Int.{to_le_bytes}
use Rattle.journal_treestore.specs.Bytes.{with_piece}
use Rattle.journal_treestore.specs.Inodes.{verifier_bytes, verifier_flag}
use Rattle.journal_treestore.proofs.Whole.{whole_pieces}
use Rattle.journal_treestore.proofs.inode.whole.Goals as goal

pub returns-clause-is : goal.returns-clause-is
returns-clause-is c =
    c.put-5.ensures
    ∙ ap (λ f. with_piece c.put-4.new.bytes 511 (f ∷ [])) c.verifier_flag.ensures
    ∙ ap (λ v. with_piece v 511 (verifier_flag c.args.verifier ∷ [])) (c.put-4.ensures
    ∙ ap (λ v. with_piece v 256 c.args.name.now) (c.put-3.ensures
    ∙ ap (λ f. with_piece c.put-2.new.bytes 248 f) c.verifier_bytes.ensures.is
    ∙ ap (λ v. with_piece v 248 (verifier_bytes c.args.verifier)) (c.put-2.ensures
    ∙ ap (with_piece c.put_blocks.new.bytes 240) c.to_le_bytes.ensures
    ∙ ap (λ v. with_piece v 240 (to_le_bytes w32 c.args.index)) (c.put_blocks.ensures ∙ ap (λ v. take 48 v ++ flat_map (to_le_bytes w32) c.args.blocks.now ++ drop 240 v) c.put.ensures))))
    ∙ whole_pieces c.args.front.now c.args.blocks.now c.args.index c.args.verifier c.args.name.now c.told-front c.told-blocks c.requires
