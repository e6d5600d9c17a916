use Rattle.std.proofs.Common.{List, sym, subst, ◌∙◌}
use Rattle.std.proofs.lemmas.Bool.{false≢true}
use Rattle.journal_world.specs.Files.{shape}
use Rattle.journal_block.specs.declared.update.Update.{Update}
use Rattle.journal_tail.specs.ObjectTails.{tail_base}
use Rattle.journal_tail.specs.Staging.{IsOpen}
use Rattle.journal_tail.proofs.Staged.{open_first, open_more}
use Rattle.journal_tail.proofs.tail.Tail.open_block.Goals as goal

pub returns-then-has_first-clause-opened : goal.returns-then-has_first-clause-opened
returns-then-has_first-clause-opened c = λ writes staged ascending below.
    open_first (tail_base (shape c.args.layout.now) c.args.fetched.now c.args.self.now) writes c.args.updates.now c.args.addr staged
    (c.has_first.ensures.0 c.if-has_first.true)

pub returns-clause-opened : goal.returns-clause-opened
returns-clause-opened c = λ writes staged ascending below.
    subst (λ (us : List Update). IsOpen (tail_base (shape c.args.layout.now) c.args.fetched.now c.args.self.now) writes c.args.addr us) (sym c.in_ok-put_first.ensures.ok)
    (open_more (tail_base (shape c.args.layout.now) c.args.fetched.now c.args.self.now) writes c.args.updates.now c.args.addr c.in_ok-bytes.bytes c.requires.valid
    staged ascending below
    (λ first. false≢true (sym c.if-has_first.false ∙ c.has_first.ensures.1 first))
    c.in_ok-bytes.ensures.block)
