use Rattle.std.proofs.Common.{◌≡◌, ◌≤◌, ◌++◌, ℕ, List, IsTrue, ap, sym, subst}
use Rattle.journal_world.specs.Addresses.{Shape}
use Rattle.journal_world.specs.Files.{shape}
use Rattle.journal_world.specs.Maps.{Pair, overwritten}
use Rattle.journal_world.specs.Histories.{is_trusted, latest}
use Rattle.journal_block.specs.Updates.{updates_block}
use Rattle.journal_memlog.specs.Logs.{appended}
use Rattle.journal_tail.specs.Tails.{MakeTheSame, updates_from}
use Rattle.journal_tail.specs.ObjectTails.{updates_with, TakesPrepared}
use Rattle.journal_tail.specs.Writes.{writes_block}
use Rattle.journal_history.specs.Tokens.{next_transaction}
use Rattle.journal_memory.specs.Transactions.{TransactionState}
use Rattle.journal_memory.specs.Updates.{AreObjectsOf}
use Rattle.journal_memory.specs.Volatiles.{VolatileState}
use Rattle.journal_memory.proofs.Staying.{kept_added}
use Rattle.journal_memory.proofs.volatile.Volatile.add.Goals as goal

pub apply-requires : goal.apply-requires
apply-requires g c =
    let ready : TakesPrepared g.J.Naming.layout c.self.inside.tail c.args.transaction.now.writes c.args.prepared =
    subst (λ (v : VolatileState). TakesPrepared g.J.Naming.layout v.tail c.args.transaction.now.writes c.args.prepared) (sym c.self.view_is) c.requires.ready in
    subst (λ (s : Shape). TakesPrepared s c.self.inside.tail c.transaction.inside.writes c.args.prepared) (sym c.get.ensures)
    (subst (λ (ws : List Pair). TakesPrepared g.J.Naming.layout c.self.inside.tail ws c.args.prepared) (sym (ap (λ (s : TransactionState). s.writes) c.transaction.view_is)) ready)

pub invariant_of-self-2 : goal.invariant_of-self-2
invariant_of-self-2 g c =
    let writes = c.args.transaction.now.writes in
    let t = c.self.inside.tail in
    let same = ap (λ (s : TransactionState). s.writes) c.transaction.view_is in
    kept_added g.J.Naming.layout _ (next_transaction c.args.session.now c.args.transaction.now.reads writes) (updates_with g.J.Naming.layout t writes c.args.prepared) c.commit.new.self c.apply.new.self
    c.self.invariant c.in_ok-receipt.ensures.committed.added c.commit.ensures.cut
    (subst (λ (s : Shape). c.apply.new.self ≡ record t { log = appended t.log (updates_with s t writes c.args.prepared) }) c.get.ensures
    (subst (λ (ws : List Pair). c.apply.new.self ≡ record t { log = appended t.log (updates_with (shape c.get.result.now) t ws c.args.prepared) }) same c.apply.ensures.log))
    (subst (λ (s : Shape). (from : ℕ) → t.log.start ≤ from → from ≤ t.log.cut
    → MakeTheSame (updates_from c.apply.new.self.log from) (updates_from t.log from ++ updates_with s t writes c.args.prepared)) c.get.ensures
    (subst (λ (ws : List Pair). (from : ℕ) → t.log.start ≤ from → from ≤ t.log.cut
    → MakeTheSame (updates_from c.apply.new.self.log from) (updates_from t.log from ++ updates_with (shape c.get.result.now) t ws c.args.prepared)) same c.apply.ensures.since))
    (subst (λ (v : VolatileState). TakesPrepared g.J.Naming.layout v.tail writes c.args.prepared) (sym c.self.view_is) c.requires.ready).room
    (subst (λ (v : VolatileState). (b : ℕ) → updates_block (updates_with g.J.Naming.layout v.tail writes c.args.prepared) b ≡ writes_block writes b) (sym c.self.view_is) c.requires.named)
    (subst (λ (v : VolatileState). IsTrue (is_trusted v.ledger.history)
    → AreObjectsOf g.J.Naming.layout (overwritten (latest v.ledger.history) writes) (updates_with g.J.Naming.layout v.tail writes c.args.prepared))
    (sym c.self.view_is) c.requires.written)
