use Rattle.std.proofs.Common.{[], get_or, rules, arith, refl, ◌∙◌, sym}
use Rattle.std.proofs.lemmas.List.FromFn.{fill_by_all}
use Rattle.journal_disk.proofs.Fillings.{fills_none}
use Rattle.journal_disk.proofs.mem_disk.copy_blocks.Goals as goal

pub loop-block-init : goal.loop-block-init
loop-block-init c = fills_none _ _

pub returns : goal.returns
returns c =
    fill_by_all (λ b. get_or c.args.from.now b []) c.loop-block.blocks.items _ [] c.loop-block.invariant.size (λ k lt. c.loop-block.invariant.put k (omega (arith, lt, c.loop-block.invariant.size)))
    ∙ sym (fill_by_all (λ b. get_or c.args.from.now b []) c.args.from.now _ [] c.requires (λ k lt. refl))
