use Rattle.std.proofs.Common.{IfErr, List, refl, sym, subst}
use Rattle.journal_lockmap.specs.Numbers.{HeldState}
use Rattle.journal_memory.specs.SlotCounts.{AgreeWith}
use Rattle.journal_memory.specs.Transactions.{AreUnmoved}
use Rattle.journal_memory.specs.Volatiles.{VolatileState, IsReadRefusal}
use Rattle.journal_memory.specs.VolatileHolds.{AnswersRead}
use Rattle.journal_memory.proofs.Answering.{answers_read}
use Rattle.journal_memory.proofs.Remembering.{verified_under}
use Rattle.journal_memory.proofs.volatile.Volatile.read.Goals as goal

pub read_verified-requires-clause-unmoved : goal.read_verified-requires-clause-unmoved
read_verified-requires-clause-unmoved g c =
    subst (λ (s : VolatileState). AreUnmoved g.J.Naming.layout s.ledger.history c.args.transaction.now) (sym c.verify_new_tokens.ensures.same)
    (verified_under g.J.Naming.layout c.args.self.now.ledger.history c.args.held.now c.args.transaction.now c.verify_new_tokens.ensures.agree c.requires.under)

pub returns-clause-agree : goal.returns-clause-agree
returns-clause-agree g c =
    subst (λ (s : VolatileState). AgreeWith g.J.Naming.layout s.ledger.history c.verify_new_tokens.new.held) (sym c.verify_new_tokens.ensures.same)
    (subst (λ (l : List HeldState). AgreeWith g.J.Naming.layout c.args.self.now.ledger.history l) (sym c.verify_new_tokens.ensures.held) c.verify_new_tokens.ensures.agree)

pub returns-clause-refusal : goal.returns-clause-refusal
returns-clause-refusal g c =
    subst (λ (s : VolatileState). IfErr c.read_verified.result (IsReadRefusal g.J.Naming.layout s c.args.transaction.now c.args.addr c.args.fetched.now)) c.verify_new_tokens.ensures.same
    c.read_verified.ensures.refusal

-- memory is as it was, so what was read after the tokens were verified is what the hold answers
pub returns-clause-event : goal.returns-clause-event
returns-clause-event g c =
    let n = g.J.Naming.layout in
    let t = c.args.transaction.now in
    let a = c.args.addr in
    let f = c.args.fetched.now in
    let r = c.read_verified.result in
    let x = c.read_verified.new.into in
    let w = c.verify_new_tokens.new.self in
    let answers : AnswersRead n w t a f r x w = answers_read n w w t a f r x refl
    c.read_verified.ensures.may c.read_verified.ensures.found c.read_verified.ensures.value c.read_verified.ensures.object c.read_verified.ensures.lacks c.read_verified.ensures.refusal in
    subst (λ (v : VolatileState). AnswersRead n v t a f r x w) c.verify_new_tokens.ensures.same answers
