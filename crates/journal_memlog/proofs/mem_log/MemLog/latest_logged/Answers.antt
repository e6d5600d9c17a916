use Rattle.std.proofs.Common.{◌≡◌, ◌+◌, ◌-◌, ◌<◌, ◌≤◌, length, sym, ap, subst, ◌∙◌, arith}
use Rattle.std.proofs.lemmas.List.{length-map}
use Rattle.journal_block.specs.declared.update.Update.{Update}
use Rattle.journal_memlog.specs.declared.entry.Entry.{Entry}
use Rattle.journal_memlog.specs.Logs.{LogState, IsMemLog, next_position}
use Rattle.journal_memlog.specs.Buckets.{update_at}
use Rattle.journal_memlog.proofs.Places.{update_is}
use Rattle.journal_memlog.proofs.Before.{before_end, before_stands, before_content}
use Rattle.journal_memlog.proofs.mem_log.MemLog.latest_logged.Goals as goal

pub returns-then-entry-block-clause-found : goal.returns-then-entry-block-clause-found
returns-then-entry-block-clause-found c =
    let log = c.args.self.now in
    let entries = c.self.inside.entries.items in
    let place = c.loop-place.place in
    let sound = subst IsMemLog c.self.view_is c.self.invariant.sound in
    let few : log.logged - log.start ≤ length log.updates = omega (arith, sound.bounds.logged_to_cut, sound.bounds.cut_to_next) in
    let some : log.start < place = omega (arith, c.loop-place-test.true, ap (λ (l : LogState). l.start) c.self.view_is) in
    let end : place ≤ log.start + (log.logged - log.start) = omega (arith, c.if-place-self.true, ap (λ (l : LogState). l.logged) c.self.view_is, sound.bounds.start_to_logged) in
    let within : place - 1 - c.self.inside.start < length entries =
    omega (arith, c.loop-place.invariant.within, ap next_position c.self.view_is, ap (λ (l : LogState). l.start) c.self.view_is, length-map entries (λ (e : Entry). e.update), c.loop-place-test.true) in
    let read : (update_at log.updates (place - 1 - log.start)).block ≡ c.args.block =
    ap (λ (l : LogState). (update_at l.updates (place - 1 - l.start)).block) (sym c.self.view_is)
    ∙ ap (λ (u : Update). u.block) (update_is entries (place - 1 - c.self.inside.start) c.index-entry.result.now within c.index-entry.ensures)
    ∙ c.if-entry-block.true in
    sym (before_stands log c.args.block (log.logged - log.start) place few c.loop-place.invariant some end read)

pub returns-then-entry-block-clause-content : goal.returns-then-entry-block-clause-content
returns-then-entry-block-clause-content c = λ before.
    let log = c.args.self.now in
    let entries = c.self.inside.entries.items in
    let place = c.loop-place.place in
    let sound = subst IsMemLog c.self.view_is c.self.invariant.sound in
    let few : log.logged - log.start ≤ length log.updates = omega (arith, sound.bounds.logged_to_cut, sound.bounds.cut_to_next) in
    let some : log.start < place = omega (arith, c.loop-place-test.true, ap (λ (l : LogState). l.start) c.self.view_is) in
    let end : place ≤ log.start + (log.logged - log.start) = omega (arith, c.if-place-self.true, ap (λ (l : LogState). l.logged) c.self.view_is, sound.bounds.start_to_logged) in
    let within : place - 1 - c.self.inside.start < length entries =
    omega (arith, c.loop-place.invariant.within, ap next_position c.self.view_is, ap (λ (l : LogState). l.start) c.self.view_is, length-map entries (λ (e : Entry). e.update), c.loop-place-test.true) in
    let read : update_at log.updates (place - 1 - log.start) ≡ c.index-entry.result.now.update =
    ap (λ (l : LogState). update_at l.updates (place - 1 - l.start)) (sym c.self.view_is)
    ∙ update_is entries (place - 1 - c.self.inside.start) c.index-entry.result.now within c.index-entry.ensures in
    before_content log c.args.block (log.logged - log.start) place few c.loop-place.invariant some end (ap (λ (u : Update). u.block) read ∙ c.if-entry-block.true) before
    ∙ ap (λ (u : Update). u.bytes) read

pub returns-clause-found : goal.returns-clause-found
returns-clause-found c =
    let log = c.args.self.now in
    let sound = subst IsMemLog c.self.view_is c.self.invariant.sound in
    let few : log.logged - log.start ≤ length log.updates = omega (arith, sound.bounds.logged_to_cut, sound.bounds.cut_to_next) in
    sym (before_end log c.args.block (log.logged - log.start) c.loop-place.place few c.loop-place.invariant
    (omega (arith, c.loop-place-test.false, ap (λ (l : LogState). l.start) c.self.view_is)))
