use Rattle.std.proofs.Common.{ℕ, ◌≤◌, ◌++◌, sym, subst}
use Rattle.journal_memlog.specs.Logs.{LogState, IsMemLog}
use Rattle.journal_tail.specs.Homes.{AreHomes}
use Rattle.journal_tail.specs.Tails.{TailState, IsTail, MakeTheSame, TakesUpdates, updates_from}
use Rattle.journal_tail.proofs.Tailing.{tail_appended, since_appended}
use Rattle.journal_tail.proofs.tail.Tail.append_reserved.Goals as goal

pub invariant_of-self : goal.invariant_of-self
invariant_of-self c =
    let tail : TailState = record { log = c.self.inside.memory; trimmed = c.self.inside.trimmed; cuts = c.self.inside.cuts.items; cache = c.self.inside.cache } in
    subst (λ (l : LogState). IsTail (record { log = l; trimmed = c.self.inside.trimmed; cuts = c.self.inside.cuts.items; cache = c.self.inside.cache })) (sym c.append.ensures.log)
    (tail_appended tail c.args.updates.items c.self.invariant
    (subst (λ (t : TailState). AreHomes t.log.blocks c.args.updates.items) (sym c.self.view_is) c.requires.homes)
    (subst (λ (t : TailState). TakesUpdates t.log c.args.updates.items) (sym c.self.view_is) c.requires.room)
    (subst (λ (l : LogState). IsMemLog l) c.append.ensures.log c.append.ensures.sound))

pub returns-clause-since : goal.returns-clause-since
returns-clause-since c =
    let log : LogState = c.self.inside.memory in
    subst (λ (t : TailState). (from : ℕ) → t.log.start ≤ from → from ≤ t.log.cut → MakeTheSame (updates_from c.append.new.self from) (updates_from t.log from ++ c.args.updates.items)) c.self.view_is
    (λ from above below. subst (λ (l : LogState). MakeTheSame (updates_from l from) (updates_from log from ++ c.args.updates.items)) (sym c.append.ensures.log)
    (since_appended log c.args.updates.items c.self.invariant.log from above below))
