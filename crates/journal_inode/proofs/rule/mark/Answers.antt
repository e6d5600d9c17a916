use Rattle.std.proofs.Common.{◌<◌, ◌+◌, ◌-◌, ◌∙◌, Some, length, take, get_or, refl, ap, sym, subst, arith}
use Rattle.std.specs.Prelude.{slice_set, true}
use Rattle.std.proofs.lemmas.List.{take_more}
use Rattle.std.proofs.lemmas.List.Elements.{All-get_or, All-from_recursion}
use Rattle.std.proofs.lemmas.Option.{slice_get-get_or}
use Rattle.journal_world.specs.declared.layout.TheConstants.{FIRST_DATA}
use Rattle.journal_inode.specs.Sound.{IsDataBlock}
use Rattle.journal_inode.specs.Admitting.{MarksBlocks}
use Rattle.journal_inode.proofs.Marking.{MarksBlocks-more, MarksBlocks-twice}
use Rattle.journal_inode.proofs.rule.mark.Goals as goal

pub returns-then-index-clause-marks : goal.returns-then-index-clause-marks
returns-then-index-clause-marks c =
    let range : IsDataBlock (FIRST_DATA + length c.args.owners.now.items) (get_or c.args.blocks.now c.loop-block.block-index 0) =
    All-get_or (IsDataBlock (FIRST_DATA + length c.args.owners.now.items)) c.args.blocks.now c.loop-block.block-index 0 c.loop-block-test.true (All-from_recursion (IsDataBlock (FIRST_DATA + length c.args.owners.now.items)) c.args.blocks.now c.requires) in
    let inside : get_or c.args.blocks.now c.loop-block.block-index 0 - FIRST_DATA < length c.loop-block.owners.items = omega (arith, range.0, range.1, c.loop-block.invariant.same_length) in
    MarksBlocks-twice c.args.blocks.now c.loop-block.block-index c.args.owners.now.items c.loop-block.owners.items c.loop-block.invariant c.loop-block-test.true range.0
    (slice_get-get_or _ _ c.index.result.now inside ∙ ap Some (sym c.index.ensures ∙ c.if-index.true))

pub loop-block-preserved : goal.loop-block-preserved
loop-block-preserved c =
    let range : IsDataBlock (FIRST_DATA + length c.args.owners.now.items) (get_or c.args.blocks.now c.loop-block.block-index 0) =
    All-get_or (IsDataBlock (FIRST_DATA + length c.args.owners.now.items)) c.args.blocks.now c.loop-block.block-index 0 c.loop-block-test.true (All-from_recursion (IsDataBlock (FIRST_DATA + length c.args.owners.now.items)) c.args.blocks.now c.requires) in
    let inside : get_or c.args.blocks.now c.loop-block.block-index 0 - FIRST_DATA < length c.loop-block.owners.items = omega (arith, range.0, range.1, c.loop-block.invariant.same_length) in
    subst (λ bs. MarksBlocks bs c.args.owners.now.items (slice_set c.loop-block.owners.items (get_or c.args.blocks.now c.loop-block.block-index 0 - FIRST_DATA) true))
    (sym (take_more c.args.blocks.now c.loop-block.block-index 0 c.loop-block-test.true))
    (MarksBlocks-more (take c.loop-block.block-index c.args.blocks.now) (get_or c.args.blocks.now c.loop-block.block-index 0) c.args.owners.now.items c.loop-block.owners.items _ c.loop-block.invariant range.0
    (slice_get-get_or _ _ c.index.result.now inside ∙ ap Some (sym c.index.ensures ∙ c.if-index.false)) refl)
