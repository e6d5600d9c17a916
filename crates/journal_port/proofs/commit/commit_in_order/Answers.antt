use Rattle.std.proofs.Common.{◌≡◌, ◌≤◌, List, [], length, sym, subst, ◌∙◌}
use mathlib.Core.List.{IsPrefix}
use Rattle.journal_world.specs.Histories.{Entry}
use Rattle.journal_world.proofs.Prefixes.{IsPrefix-length}
use Rattle.journal_twophase.specs.Transactions.{TxnState}
use Rattle.journal_records.specs.declared.answer.Answer.{Answer}
use Rattle.journal_port.specs.Parts.{Does, IsPartsFault}
use Rattle.journal_port.specs.Answers.{IsCommitAnswer}
use Rattle.journal_port.proofs.Ending.{OnlyExtends-trans, IsCommitAnswer-ended, IsCommitAnswer-fault}
use Rattle.journal_port.proofs.commit.commit_in_order.Goals as goal

pub returns-in-Ok : goal.returns-in-Ok
returns-in-Ok g c =
    IsCommitAnswer-ended g.J.Naming.layout c.args.parts.now c.args.waits [] c.args.session.now c.begin-txn.new.session c.end.new.session c.do_parts.new.txn c.end.result c.begin-txn.ensures.session c.seen-seen.ensures.begun
    (subst (λ (t : TxnState). Does c.args.parts.now t c.do_parts.new.txn) c.begin-txn.ensures.begun c.in-Ok.ensures.does) c.end.ensures

pub returns-in-Err : goal.returns-in-Err
returns-in-Err g c =
    let pre : IsPrefix c.begin-txn.new.session.seen c.do_parts.new.txn.seen = subst (λ (t : TxnState). IsPrefix t.seen c.do_parts.new.txn.seen) c.begin-txn.ensures.begun c.in-Err.ensures.later in
    let le : length c.begin-txn.new.session.seen ≤ length c.front.result.now = subst (λ (h : List Entry). length c.begin-txn.new.session.seen ≤ length h) (sym c.front.ensures.seen) (IsPrefix-length _ _ pre) in
    let seen : c.see.new.self.seen ≡ c.do_parts.new.txn.seen = c.see.ensures.whole le ∙ c.front.ensures.seen in
    subst (λ (a : Answer). IsCommitAnswer g.J.Naming.layout c.args.parts.now c.args.waits [] c.args.session.now c.see.new.self a) (sym c.answer_of.ensures)
    (IsCommitAnswer-fault g.J.Naming.layout c.args.parts.now c.args.waits [] c.args.session.now c.see.new.self c.in-Err.fault
    (OnlyExtends-trans _ _ _ c.begin-txn.ensures.session c.see.ensures.extends)
    (subst (λ (h : List Entry). IsPartsFault g.J.Naming.layout c.args.parts.now h c.in-Err.fault) (sym seen) c.in-Err.ensures.fault))
