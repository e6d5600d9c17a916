use Rattle.std.proofs.Common.{ap, ◌∙◌}
use Rattle.journal_treecalls.specs.Targets.{told_of}
use Rattle.journal_treecalls.proofs.Learning.{one-more}
use Rattle.journal_treecalls.proofs.Removed.{without-hit}
use Rattle.journal_treecalls.proofs.removal.take_out.Goals as goal

pub returns-clause-takes : goal.returns-clause-takes
returns-clause-takes g c =
    record {
      same = λ V m. c.in_ok-numbers.ensures.learns.before V (c.in_ok-clear_entries.ensures.clears.same V (c.in_ok-put_inode.ensures.same V (c.in_ok-put_inode-2.ensures.same V m)));
      written_is = λ time V m. without-hit _ _ _ V c.args.number c.args.directory.now c.args.hit.now c.args.now c.in_ok-numbers.numbers c.places_of-places.result _ _ c.moved-head.result
          (c.in_ok-numbers.ensures.learns.now V (c.in_ok-clear_entries.ensures.clears.same V (c.in_ok-put_inode.ensures.same V (c.in_ok-put_inode-2.ensures.same V m))))
          c.places_of-places.ensures.is
          (c.in_ok-clear_entries.ensures.clears.is V (c.in_ok-put_inode.ensures.same V (c.in_ok-put_inode-2.ensures.same V m)))
          c.in_ok-put_inode.ensures.written c.in_ok-put_inode-2.ensures.written (c.moved-head.ensures time) c.used_bytes.ensures c.free_bytes.ensures;
      told = λ time i. record { before = c.told.ensures i; after = (c.told-2.ensures ∙ ap (told_of c.args.number) (c.moved-head.ensures time)) i };
    }

pub returns-clause-few : goal.returns-clause-few
returns-clause-few g c = one-more _ _ _ 3 c.in_ok-put_inode-2.ensures.written (one-more _ _ _ 2 c.in_ok-put_inode.ensures.written c.in_ok-clear_entries.ensures.few)
