use Rattle.std.proofs.Common.{◌-◌, ◌<◌, ◌≤◌, refl, sym, ap, ◌∙◌, subst}
use Rattle.journal_memlog.specs.Logs.{next_position}
use Rattle.journal_memlog.specs.Buckets.{update_at}
use Rattle.journal_tail.specs.Lending.{with_block}
use Rattle.journal_tail.specs.Tails.{TailState}
use Rattle.journal_tail.proofs.Tailing.{tail_content}
use Rattle.journal_tail.proofs.tail.Tail.tail_block.Goals as goal

pub invariant_of-self-lent : goal.invariant_of-self-lent
invariant_of-self-lent c = λ w.
    tail_content (record { log = c.self.inside.memory; trimmed = c.self.inside.trimmed; cuts = c.self.inside.cuts.items; cache = c.self.inside.cache }) c.args.position w
    c.self.invariant
    (subst (λ (t : TailState). t.log.cut ≤ c.args.position) (sym c.self.view_is) c.requires.from_cut)
    (subst (λ (t : TailState). c.args.position < next_position t.log) (sym c.self.view_is) c.requires.to_next)

pub returns : goal.returns
returns c = (
  (refl, λ w. ap (λ (t : TailState). with_block t c.args.position w) c.self.view_is),
  record {
    lends = tt;
    content = c.tail_block.ensures.content
        ∙ ap (λ (t : TailState). (update_at t.log.updates (c.args.position - t.log.start)).bytes) c.self.view_is;
  },
)
