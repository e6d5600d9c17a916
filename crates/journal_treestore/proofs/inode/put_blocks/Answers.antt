use Rattle.std.proofs.Common.{◌≡◌, ◌+◌, ◌*◌, ◌∙◌, ◌++◌, w32, take, drop, sym, ap, append-nil, arith}
use Rattle.std.specs.Prelude.{flat_map}
use Rattle.std.specs.Int.{to_le_bytes}
use Rattle.std.proofs.lemmas.List.{take-append-drop}
use Rattle.std.proofs.Math.Seq.{take-length}
use Rattle.journal_treestore.specs.Bytes.{with_piece}
use Rattle.journal_treestore.proofs.Splicing.{one_more}
use Rattle.journal_treestore.proofs.inode.put_blocks.Goals as goal

pub loop-j-init : goal.loop-j-init
loop-j-init c = sym (ap (λ front. front ++ drop 48 c.args.bytes.now) (append-nil (take 48 c.args.bytes.now)) ∙ take-append-drop 48 c.args.bytes.now)

pub loop-j-preserved : goal.loop-j-preserved
loop-j-preserved c =
    c.put.ensures
    ∙ ap (λ bytes. with_piece bytes (48 + 4 * c.loop-j.j) c.to_le_bytes.result) c.loop-j.invariant
    ∙ ap (with_piece _ (48 + 4 * c.loop-j.j)) c.to_le_bytes.ensures
    ∙ one_more c.args.bytes.now c.args.blocks.now 48 c.loop-j.j (omega (arith, c.told-bytes, c.told-blocks)) (omega (arith, c.loop-j-test.true, c.told-blocks))

pub returns : goal.returns
returns c =
    let last : c.loop-j.j ≡ 48 = omega (arith, c.loop-j.auto.j-end, c.loop-j-test.false) in
    c.loop-j.invariant
    ∙ ap (λ j. take 48 c.args.bytes.now ++ flat_map (to_le_bytes w32) (take j c.args.blocks.now) ++ drop (48 + 4 * j) c.args.bytes.now) last
    ∙ ap (λ blocks. take 48 c.args.bytes.now ++ flat_map (to_le_bytes w32) blocks ++ drop 240 c.args.bytes.now)
    (ap (λ n. take n c.args.blocks.now) (sym c.told-blocks) ∙ take-length c.args.blocks.now)
