use Rattle.std.proofs.Common.{◌≡◌, ◌+◌, ◌*◌, ◌∙◌, ◌++◌, w64, take, drop, sym, ap, append-nil, arith}
use Rattle.std.specs.Prelude.{flat_map}
use Rattle.std.specs.Int.{to_le_bytes}
use Rattle.std.proofs.lemmas.List.{take-append-drop}
use Rattle.std.proofs.Math.Seq.{take-length}
use Rattle.journal_inode.specs.Nodes.{with_piece}
use Rattle.journal_inode.proofs.Splicing.{one_more}
use Rattle.journal_inode.proofs.node.put_more.Goals as goal

pub loop-j-init : goal.loop-j-init
loop-j-init c = sym (ap (λ front. front ++ drop 32 c.args.bytes.now) (append-nil (take 32 c.args.bytes.now)) ∙ take-append-drop 32 c.args.bytes.now)

pub loop-j-preserved : goal.loop-j-preserved
loop-j-preserved c =
    c.put.ensures
    ∙ ap (λ bytes. with_piece bytes (32 + 8 * c.loop-j.j) c.to_le_bytes.result) c.loop-j.invariant
    ∙ ap (with_piece _ (32 + 8 * c.loop-j.j)) c.to_le_bytes.ensures
    ∙ one_more c.args.bytes.now c.args.more.now 32 c.loop-j.j (omega (arith, c.told-bytes)) (omega (arith, c.loop-j-test.true, c.told-more))

pub returns-clause-written : goal.returns-clause-written
returns-clause-written c =
    let last : c.loop-j.j ≡ 11 = omega (arith, c.loop-j.auto.j-end, c.loop-j-test.false) in
    c.loop-j.invariant
    ∙ ap (λ j. take 32 c.args.bytes.now ++ flat_map (to_le_bytes w64) (take j c.args.more.now) ++ drop (32 + 8 * j) c.args.bytes.now) last
    ∙ ap (λ more. take 32 c.args.bytes.now ++ flat_map (to_le_bytes w64) more ++ drop 120 c.args.bytes.now)
    (ap (λ n. take n c.args.more.now) (sym c.told-more) ∙ take-length c.args.more.now)
