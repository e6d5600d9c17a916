use Rattle.std.proofs.Common.{refl, sym, ◌∙◌, arith}
use Rattle.std.proofs.lemmas.Bool.{false≢true}
use Rattle.std.proofs.lemmas.List.{take_rest, length-take-le}
use Rattle.journal_inode.proofs.Tails.{superblock_begins, superblock_decides}
use Rattle.journal_inode.proofs.superblock.is_superblock.Goals as goal

pub slice_bounds-are_same-end : goal.slice_bounds-are_same-end
slice_bounds-are_same-end c = sym (length-take-le 24 c.args.bytes.now (omega (arith, c.requires)))

pub returns-then-not-are_same : goal.returns-then-not-are_same
returns-then-not-are_same c = (
  (λ no. absurd (false≢true no)),
  (λ is. sym c.if-not-are_same.true ∙ c.are_same.ensures.1 (superblock_begins c.args.bytes.now c.args.version c.args.blocks is ∙ sym c.front-front.ensures)),
)

pub returns : goal.returns
returns c =
    superblock_decides c.args.bytes.now _ c.args.version c.args.blocks c.are_zero.result c.requires (c.if-not-are_same.ensures.0 refl ∙ c.front-front.ensures)
    (take_rest c.args.bytes.now 24) c.are_zero.ensures
