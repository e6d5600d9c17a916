use Rattle.std.proofs.Common.{◌++◌, ◌∷◌, [], List, true, false, refl, inl, inr, ap, sym, drop, ◌∙◌}
use Rattle.std.proofs.lemmas.List.{append-nil}
use Rattle.journal_world.specs.Histories.{Entry}
use Rattle.journal_rpc.proofs.Streams.{on_err}
use Rattle.journal_protocol.specs.declared.reply_batch.BatchEntry.{BatchEntry}
use Rattle.journal_protocol.specs.Output.{IsReplyBy}
use Rattle.journal_protocol.specs.ReplyBatches.{held_of}
use Rattle.journal_protocol.specs.Sending.{LostOne}
use Rattle.journal_protocol.proofs.Sends.{order_same, answered_some, answered_none, cut_behind}
use Rattle.journal_protocol.proofs.Turning.{record_bad, record_added}
use Rattle.journal_protocol.proofs.replying.answer_record.Goals as goal

pub returns-in_default-clause-lost : goal.returns-in_default-clause-lost
returns-in_default-clause-lost g c = λ history. inl refl

pub returns-in_err-soon-clause-lost : goal.returns-in_err-soon-clause-lost
returns-in_err-soon-clause-lost g c =
    let s = g.P.Protocol.service c.args.answerer.now.protocol.now in
    let lost = c.in_err-soon.ensures.lost in
    let done = g.P.Protocol.seen c.answer_no_wait.new.session in
    let refused : (history : List Entry) → LostOne s.reads (IsReplyBy s.does (g.C.Clock.tells c.args.answerer.now.clock.now) history) c.args.record.now (g.P.Protocol.seen c.args.session.now) done = λ history.
    let last = lost.4 history in
    inr (lost.0, last.0, lost.2, record { moment = lost.1; told = lost.3; done = done; answers = last.1; later = record { number = refl; mine = refl; seen = ([], append-nil done.seen) } }) in
    on_err _ _ refused

pub returns-in_default-2-clause-answered : goal.returns-in_default-2-clause-answered
returns-in_default-2-clause-answered g c =
    let s = g.P.Protocol.service c.args.answerer.now.protocol.now in
    let replaces = g.P.Protocol.replaces c.args.answerer.now.protocol.now in
    let commits = g.P.Receipt.Counted.commits in
    let tells = g.C.Clock.tells c.args.answerer.now.clock.now in
    let none = answered_none s replaces commits tells _ _ _ _ _ c.in_ok-soon.field-0 c.in_ok-soon.ensures.held c.in_default-2.is in
    record_bad s replaces commits tells _ _ _ c.args.batch.now _ _ _ none c.make_room.ensures.bytes c.make_room.ensures.replies

pub returns-in_default-2-clause-in_order : goal.returns-in_default-2-clause-in_order
returns-in_default-2-clause-in_order g c =
    let s = g.P.Protocol.service c.args.answerer.now.protocol.now in
    let replaces = g.P.Protocol.replaces c.args.answerer.now.protocol.now in
    let commits = g.P.Receipt.Counted.commits in
    let tells = g.C.Clock.tells c.args.answerer.now.clock.now in
    let none = answered_none s replaces commits tells _ _ _ _ _ c.in_ok-soon.field-0 c.in_ok-soon.ensures.held c.in_default-2.is in
    order_same commits c.make_room.new.self _ refl none.2 refl refl (c.make_room.ensures.in_order c.requires.in_order)

pub returns-then-ends-clause-answered : goal.returns-then-ends-clause-answered
returns-then-ends-clause-answered g c =
    let s = g.P.Protocol.service c.args.answerer.now.protocol.now in
    let replaces = g.P.Protocol.replaces c.args.answerer.now.protocol.now in
    let commits = g.P.Receipt.Counted.commits in
    let tells = g.C.Clock.tells c.args.answerer.now.clock.now in
    let soon = c.in-Some.soon in
    let writes = c.answer_no_wait.new.writer in
    let some = answered_some s replaces commits tells _ _ _ _ _ c.in_ok-soon.field-0 c.in_ok-soon.ensures.held soon c.in-Some.is in
    record_added s replaces commits tells true _ _ _ c.args.batch.now _ soon c.make_room.new.self.bytes writes c.len-before.result _ _ some c.len-before.ensures c.make_room.ensures.bytes (sym c.if-ends.true) c.add_reply.ensures.bytes
    (c.add_reply.ensures.replies ∙ ap (λ (hs : List (BatchEntry _)). hs ++ held_of commits soon (drop c.len-before.result writes) ∷ []) c.make_room.ensures.replies) c.saturating_add.ensures

pub returns-then-ends-clause-in_order : goal.returns-then-ends-clause-in_order
returns-then-ends-clause-in_order g c =
    let s = g.P.Protocol.service c.args.answerer.now.protocol.now in
    let replaces = g.P.Protocol.replaces c.args.answerer.now.protocol.now in
    let commits = g.P.Receipt.Counted.commits in
    let tells = g.C.Clock.tells c.args.answerer.now.clock.now in
    let some = answered_some s replaces commits tells _ _ _ _ _ c.in_ok-soon.field-0 c.in_ok-soon.ensures.held c.in-Some.soon c.in-Some.is in
    c.add_reply.ensures.in_order (order_same commits c.make_room.new.self _ refl (cut_behind c.make_room.new.self.bytes some.1 c.answer_no_wait.new.writer c.len-before.result c.len-before.ensures some.3).1 refl refl (c.make_room.ensures.in_order c.requires.in_order))

pub returns-clause-answered : goal.returns-clause-answered
returns-clause-answered g c =
    let s = g.P.Protocol.service c.args.answerer.now.protocol.now in
    let replaces = g.P.Protocol.replaces c.args.answerer.now.protocol.now in
    let commits = g.P.Receipt.Counted.commits in
    let tells = g.C.Clock.tells c.args.answerer.now.clock.now in
    let soon = c.in-Some.soon in
    let writes = c.answer_no_wait.new.writer in
    let some = answered_some s replaces commits tells _ _ _ _ _ c.in_ok-soon.field-0 c.in_ok-soon.ensures.held soon c.in-Some.is in
    record_added s replaces commits tells false _ _ _ c.args.batch.now _ soon c.make_room.new.self.bytes writes c.len-before.result _ _ some c.len-before.ensures c.make_room.ensures.bytes (sym c.if-ends.false) c.add_reply.ensures.bytes
    (c.add_reply.ensures.replies ∙ ap (λ (hs : List (BatchEntry _)). hs ++ held_of commits soon (drop c.len-before.result writes) ∷ []) c.make_room.ensures.replies) c.saturating_add.ensures

pub returns-clause-in_order : goal.returns-clause-in_order
returns-clause-in_order g c =
    let s = g.P.Protocol.service c.args.answerer.now.protocol.now in
    let replaces = g.P.Protocol.replaces c.args.answerer.now.protocol.now in
    let commits = g.P.Receipt.Counted.commits in
    let tells = g.C.Clock.tells c.args.answerer.now.clock.now in
    let some = answered_some s replaces commits tells _ _ _ _ _ c.in_ok-soon.field-0 c.in_ok-soon.ensures.held c.in-Some.soon c.in-Some.is in
    c.add_reply.ensures.in_order (order_same commits c.make_room.new.self _ refl (cut_behind c.make_room.new.self.bytes some.1 c.answer_no_wait.new.writer c.len-before.result c.len-before.ensures some.3).1 refl refl (c.make_room.ensures.in_order c.requires.in_order))

pub add_reply-requires : goal.add_reply-requires
add_reply-requires g c =
    let s = g.P.Protocol.service c.args.answerer.now.protocol.now in
    let some = answered_some s (g.P.Protocol.replaces c.args.answerer.now.protocol.now) g.P.Receipt.Counted.commits (g.C.Clock.tells c.args.answerer.now.clock.now) _ _ _ _ _ c.in_ok-soon.field-0 c.in_ok-soon.ensures.held c.in-Some.soon c.in-Some.is in
    record { room = c.in-Ok.ensures.room; written = (cut_behind c.make_room.new.self.bytes some.1 c.answer_no_wait.new.writer c.len-before.result c.len-before.ensures some.3).0 }
