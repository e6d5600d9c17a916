use Rattle.std.proofs.Common.{◌≡◌, [], Option, Some, None, IfSome, Bor, sym, ◌∙◌}
use Rattle.journal_tail.specs.Tails.{known_blocks}
use Rattle.journal_block.specs.Block.{Bytes}
use Rattle.journal_block.specs.Updates.{updated}
use Rattle.journal_tail.specs.ObjectTails.{known_updates}
use Rattle.journal_tail.proofs.Fetched.{known_later, known_later_bytes, known_before, known_before_bytes}
use Rattle.journal_tail.proofs.tail.Tail.get.Goals as goal

pub returns-in-Some-clause-found : goal.returns-in-Some-clause-found
returns-in-Some-clause-found c =
    sym (known_later c.args.fetched.now (known_blocks c.args.self.now) c.args.block
    (sym c.in-Some.ensures.found))

pub returns-in-Some-clause-content : goal.returns-in-Some-clause-content
returns-in-Some-clause-content c =
    known_later_bytes c.args.fetched.now (known_blocks c.args.self.now) c.args.block
    c.in-Some.found.now c.in-Some.ensures.content

pub returns-in-None-clause-found : goal.returns-in-None-clause-found
returns-in-None-clause-found c =
    c.newest.ensures.found
    ∙ sym (known_before c.args.fetched.now (known_blocks c.args.self.now) c.args.block
    (sym c.in-None.ensures.found))

pub returns-in-None-clause-content : goal.returns-in-None-clause-content
returns-in-None-clause-content c = by c.newest.result c.newest.ensures.content
  where
    by : (o : Option (Bor Bytes)) → IfSome o (λ found. updated c.args.fetched.now c.args.block [] ≡ found.now)
        → IfSome o (λ found. updated (known_updates c.args.fetched.now c.args.self.now) c.args.block [] ≡ found.now)
    by None is = tt
    by (Some found) is =
        known_before_bytes c.args.fetched.now (known_blocks c.args.self.now) c.args.block
        (sym c.in-None.ensures.found) ∙ is
