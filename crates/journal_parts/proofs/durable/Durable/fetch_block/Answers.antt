use Rattle.std.proofs.Common.{◌≡◌, Result, Ok, Err, OnOk, IfOk, IsTrue, sym, subst}
use Rattle.journal_world.specs.Histories.{is_trusted}
use Rattle.journal_parts.specs.Durables.{DurableState}
use Rattle.journal_memory.specs.Fetches.{IsBlockAfter}
use Rattle.journal_objlog.specs.ObjectLogs.{OnlyReads}
use Rattle.journal_objlog.specs.StepLaws.{OnlyReads-from}
use Rattle.journal_parts.proofs.Enduring.{crashes_read, logged_block}
use Rattle.journal_parts.proofs.durable.Durable.fetch_block.Goals as goal

-- what follows from a fact of the lower answer holds of this one
on_raised : {T E F P Q : Type 0} (r : Result T E) (s : Result T F) → IfOk s (λ value. r ≡ Ok value) → OnOk r P → (P → Q) → OnOk s Q
on_raised {T} {E} {F} {P} r (Ok value) is holds then = then (subst (λ (x : Result T E). OnOk x P) is holds)
on_raised r (Err why) is holds then = tt

pub returns-clause-after : goal.returns-clause-after
returns-clause-after g c = λ trusted.
    let here : IsTrue (is_trusted c.self.inside.front) = subst (λ (d : DurableState). IsTrue (is_trusted d.front)) (sym c.self.view_is) trusted in
    on_raised c.read_logged.result c.raise.result c.raise.ensures.only_ok
    (c.read_logged.ensures.value (subst IsTrue c.self.invariant.trusted here))
    (λ is. subst (λ (d : DurableState). IsBlockAfter g.J.Naming.layout d.front d.logged (record { block = c.args.update.now.block; bytes = c.read_logged.new.into })) c.self.view_is
    (logged_block g.J.Naming.layout _ (record { block = c.args.update.now.block; bytes = c.read_logged.new.into }) c.self.invariant here is))

pub returns-clause-crash : goal.returns-clause-crash
returns-clause-crash g c =
    crashes_read g.J.Naming.layout _ _ c.read_logged.new.self c.self.invariant c.self.view_is
    (OnlyReads-from c.self.inside.objects.log c.read_logged.new.self c.read_logged.ensures.reads)

pub returns-clause-reads : goal.returns-clause-reads
returns-clause-reads g c =
    subst (λ (d : DurableState). OnlyReads d.objects c.read_logged.new.self) c.self.view_is
    (OnlyReads-from c.self.inside.objects.log c.read_logged.new.self c.read_logged.ensures.reads)
