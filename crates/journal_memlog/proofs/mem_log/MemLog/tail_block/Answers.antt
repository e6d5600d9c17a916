use Rattle.std.proofs.Common.{◌≡◌, ◌-◌, ◌<◌, ◌≤◌, deque_len, deque_capacity, refl, sym, ap, ◌∙◌, subst}
use Rattle.journal_block.specs.declared.update.Update.{Update}
use Rattle.journal_memlog.specs.Logs.{LogState, next_position}
use Rattle.journal_memlog.specs.Buckets.{update_at}
use Rattle.journal_memlog.specs.Lending.{with_content}
use Rattle.journal_memlog.proofs.Places.{update_is}
use Rattle.journal_memlog.proofs.Entries.{entry_inside, content_changed, indexed_content}
use Rattle.journal_memlog.proofs.mem_log.MemLog.tail_block.Goals as goal

pub invariant_of-self-lent : goal.invariant_of-self-lent
invariant_of-self-lent c = λ w.
    let above = subst (λ (log : LogState). log.cut ≤ c.args.position) (sym c.self.view_is) c.requires.from_cut in
    let below = subst (λ (log : LogState). c.args.position < next_position log) (sym c.self.view_is) c.requires.to_next in
    indexed_content _ _ _ _ _ c.self.inside.entries.items c.self.inside.heads.items c.self.invariant c.args.position above below
    c.index_mut-entry.result.now c.index_mut-entry.ensures.value w

pub returns : goal.returns
returns c =
    let above = subst (λ (log : LogState). log.cut ≤ c.args.position) (sym c.self.view_is) c.requires.from_cut in
    let below = subst (λ (log : LogState). c.args.position < next_position log) (sym c.self.view_is) c.requires.to_next in (
      (
        refl,
        λ w.
            content_changed _ _ _ _ _ c.self.inside.entries.items c.self.inside.heads.items c.self.invariant c.args.position above below
            c.index_mut-entry.result.now c.index_mut-entry.ensures.value w
            ∙ ap (λ (log : LogState). with_content log c.args.position w) c.self.view_is,
      ),
      record { lends = tt; content = content },
    )
  where
    content : c.index_mut-entry.result.now.update.bytes ≡ (update_at c.args.self.now.updates (c.args.position - c.args.self.now.start)).bytes
    content = ap (λ (u : Update). u.bytes)
        (sym (update_is c.self.inside.entries.items (c.args.position - c.self.inside.start) c.index_mut-entry.result.now
        (entry_inside _ _ _ _ _ c.self.inside.entries.items c.self.inside.heads.items c.self.invariant c.args.position
        (subst (λ (log : LogState). log.cut ≤ c.args.position) (sym c.self.view_is) c.requires.from_cut)
        (subst (λ (log : LogState). c.args.position < next_position log) (sym c.self.view_is) c.requires.to_next))
        c.index_mut-entry.ensures.value))
        ∙ ap (λ (log : LogState). (update_at log.updates (c.args.position - log.start)).bytes) c.self.view_is
