use Rattle.std.proofs.Common.{List, [], inr, refl, sym, subst}
use Rattle.std.specs.List.Sorted.{IsNonDecreasingBy}
use Rattle.journal_world.specs.declared.refusal.Refusal.TheVariants.{NoMemory}
use Rattle.journal_records.specs.declared.request.Part.{Part}
use Rattle.journal_port.specs.Requests.{order_of}
use Rattle.journal_port.specs.Answers.{IsCommitAnswer}
use Rattle.journal_port.proofs.Ending.{OnlyExtends-refl, IsCommitAnswer-sorted}
use Rattle.journal_port.proofs.commit.commit.Goals as goal

pub commit_in_order-requires : goal.commit_in_order-requires
commit_in_order-requires g c = subst (IsNonDecreasingBy (order_of g.J.Naming.layout)) (sym c.deref.ensures.value) c.in-Ok.ensures.ascending

pub returns-in-Ok : goal.returns-in-Ok
returns-in-Ok g c =
    IsCommitAnswer-sorted g.J.Naming.layout c.args.parts.items c.sort.new.parts.items c.args.waits [] c.args.session.now c.commit_in_order.new.session c.commit_in_order.result
    c.in-Ok.ensures.permutation c.in-Ok.ensures.compared c.in-Ok.ensures.written
    (subst (λ (ps : List Part). IsCommitAnswer g.J.Naming.layout ps c.args.waits [] c.args.session.now c.commit_in_order.new.session c.commit_in_order.result) c.deref.ensures.value c.commit_in_order.ensures)

pub returns : goal.returns
returns g c = (OnlyExtends-refl c.args.session.now, inr (NoMemory, refl, tt))
