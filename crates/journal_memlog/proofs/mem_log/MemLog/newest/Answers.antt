use Rattle.std.proofs.Common.{◌≡◌, ◌-◌, ◌<◌, length, sym, ap, ◌∙◌, arith}
use Rattle.std.proofs.lemmas.List.{length-map}
use Rattle.journal_block.specs.declared.update.Update.{Update}
use Rattle.journal_memlog.specs.declared.entry.Entry.{Entry}
use Rattle.journal_memlog.specs.Logs.{LogState, next_position}
use Rattle.journal_memlog.specs.Buckets.{update_at}
use Rattle.journal_memlog.proofs.Places.{update_is}
use Rattle.journal_memlog.proofs.Indexed.{walk_end, walk_stands}
use Rattle.journal_memlog.proofs.mem_log.MemLog.newest.Goals as goal

pub returns-then-entry-block-clause-found : goal.returns-then-entry-block-clause-found
returns-then-entry-block-clause-found c =
    let log = c.args.self.now in
    let entries = c.self.inside.entries.items in
    let place = c.loop-place.place in
    let within : place - 1 - c.self.inside.start < length entries =
    omega (arith, c.loop-place.invariant.within, ap next_position c.self.view_is, ap (λ (l : LogState). l.start) c.self.view_is, length-map entries (λ (e : Entry). e.update), c.loop-place-test.true, c.requires) in
    let read : (update_at log.updates (place - 1 - log.start)).block ≡ c.args.block =
    ap (λ (l : LogState). (update_at l.updates (place - 1 - l.start)).block) (sym c.self.view_is)
    ∙ ap (λ (u : Update). u.block) (update_is entries (place - 1 - c.self.inside.start) c.index-entry.result.now within c.index-entry.ensures)
    ∙ c.if-entry-block.true in
    sym (walk_stands log c.args.block c.args.floor place c.loop-place.invariant c.requires c.loop-place-test.true read)

pub returns-clause-found : goal.returns-clause-found
returns-clause-found c =
    sym (walk_end c.args.self.now c.args.block c.args.floor c.loop-place.place c.loop-place.invariant c.requires (omega (arith, c.loop-place-test.false)))
