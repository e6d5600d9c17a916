use Rattle.std.proofs.Common.{refl, sym, ◌∙◌, arith}
use Rattle.std.proofs.lemmas.Bool.{false≢true}
use Rattle.std.proofs.lemmas.List.{take_rest, length-take-le}
use Rattle.journal_treestore.proofs.Describing.{block_begins, block_decides}
use Rattle.journal_treestore.proofs.description.Description.is_written_in.Goals as goal

pub slice_bounds-are_same-end : goal.slice_bounds-are_same-end
slice_bounds-are_same-end c = sym (length-take-le 40 c.args.block.now (omega (arith, c.requires)))

pub returns-then-not-are_same : goal.returns-then-not-are_same
returns-then-not-are_same c = (
  (λ no. absurd (false≢true no)),
  (λ is. sym c.if-not-are_same.true ∙ c.are_same.ensures.1 (block_begins c.args.block.now c.args.self.now is ∙ sym c.front-front.ensures)),
)

pub returns : goal.returns
returns c =
    block_decides c.args.block.now _ c.args.self.now c.are_zero.result c.requires (c.if-not-are_same.ensures.0 refl ∙ c.front-front.ensures)
    (take_rest c.args.block.now 40) c.are_zero.ensures
