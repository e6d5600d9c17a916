use Rattle.std.proofs.Common.{◌≡◌, IsTrue, IfOk, IfErr, OnOk, ap, sym, subst}
use Rattle.journal_world.specs.Maps.{value_at}
use Rattle.journal_world.specs.Histories.{is_trusted, latest}
use Rattle.journal_memory.specs.Transactions.{AreUnmoved}
use Rattle.journal_parts.specs.CoreStates.{CoreState, Crashes, OnlyReads}
use Rattle.journal_core.specs.Steps.{MayRead, IsReadRefusal}
use Rattle.journal_core.specs.Interleavings.{AnswersRead}
use Rattle.journal_memory.proofs.Verifying.{agree_still}
use Rattle.journal_memory.proofs.Remembering.{verified_under}
use Rattle.journal_core.proofs.state.Core.read_step.Goals as goal

pub read_verified-requires-clause-unmoved : goal.read_verified-requires-clause-unmoved
read_verified-requires-clause-unmoved g c =
    subst (λ (s : CoreState). AreUnmoved g.J.Naming.layout s.history c.args.transaction.now) (sym c.verify_tokens.ensures.same)
    (verified_under g.J.Naming.layout c.args.self.now.history c.args.held.now c.args.transaction.now c.verify_tokens.ensures.agree c.requires.under)

pub returns-clause-others : goal.returns-clause-others
returns-clause-others g c =
    subst (λ (s : CoreState). c.read_verified.new.self ≡ record s { objects = c.read_verified.new.self.objects }) c.verify_tokens.ensures.same c.read_verified.ensures.others

pub returns-clause-agree : goal.returns-clause-agree
returns-clause-agree g c =
    agree_still g.J.Naming.layout c.args.self.now.history c.read_verified.new.self.history c.args.held.now c.verify_tokens.new.held c.verify_tokens.ensures.agree
    (ap (λ (s : CoreState). s.history) (returns-clause-others g c)) c.verify_tokens.ensures.held

pub returns-clause-value : goal.returns-clause-value
returns-clause-value g c =
    subst (λ (s : CoreState). IsTrue (is_trusted s.history) → OnOk c.read_verified.result (c.read_verified.new.into ≡ value_at (latest s.history) c.args.addr))
    c.verify_tokens.ensures.same c.read_verified.ensures.value

pub returns-clause-found : goal.returns-clause-found
returns-clause-found g c =
    subst (λ (s : CoreState). IfOk c.read_verified.result (λ found. found ≡ record { addr = c.args.addr; seen = s.history })) c.verify_tokens.ensures.same c.read_verified.ensures.found

pub returns-clause-may : goal.returns-clause-may
returns-clause-may g c =
    subst (λ (s : CoreState). OnOk c.read_verified.result (MayRead g.J.Naming.layout s c.args.transaction.now c.args.addr)) c.verify_tokens.ensures.same c.read_verified.ensures.may

pub returns-clause-refusal : goal.returns-clause-refusal
returns-clause-refusal g c =
    subst (λ (s : CoreState). IfErr c.read_verified.result (IsReadRefusal g.J.Naming.layout s c.args.transaction.now c.args.addr c.read_verified.new.self)) c.verify_tokens.ensures.same
    c.read_verified.ensures.refusal

pub returns-clause-reads : goal.returns-clause-reads
returns-clause-reads g c = subst (λ (s : CoreState). OnlyReads s.objects c.read_verified.new.self.objects) c.verify_tokens.ensures.same c.read_verified.ensures.reads

pub returns-clause-crash : goal.returns-clause-crash
returns-clause-crash g c = subst (λ (s : CoreState). Crashes s c.read_verified.new.self) c.verify_tokens.ensures.same c.read_verified.ensures.crash

pub returns-clause-event : goal.returns-clause-event
returns-clause-event g c =
    subst (λ (s : CoreState). AnswersRead g.J.Naming.layout s c.args.transaction.now c.args.addr c.read_verified.result c.read_verified.new.into c.read_verified.new.self)
    c.verify_tokens.ensures.same c.read_verified.ensures.event
