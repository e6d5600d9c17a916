use Rattle.std.proofs.Common.{ℕ, List, refl, sym, subst}
use Rattle.std.specs.Prelude.{IfOk, OnErr}
use Rattle.journal_world.specs.Histories.{Entry}
use Rattle.journal_protocol.specs.Moments.{time_of}
use Rattle.journal_treewire.specs.Requests.{request_of}
use Rattle.journal_treeserver.specs.Asking.{files}
use Rattle.journal_treeserver.specs.Answers.{marked, Replies}
use Rattle.journal_treeserver.specs.CodeViews.{served_as, IsHeld}
use Rattle.journal_treeserver.specs.Kept.{IsSentOnce}
use Rattle.journal_treeserver.proofs.Keeping.{once_of}
use Rattle.journal_treeserver.proofs.server.TreeServer.answer_sent.Goals as goal

pub answer_once-requires-clause-sent : goal.answer_once-requires-clause-sent
answer_once-requires-clause-sent g c =
    let S = served_as c.args.self.now.store.now.cut c.args.self.now.export in
    let asked = request_of c.args.requested.now in
    subst (λ (bytes : List ℕ). IsSentOnce S bytes c.in-Some.sent.xid c.args.caller asked) (sym c.in-Some.ensures.bytes)
    (subst (λ (xid : ℕ). IsSentOnce S c.args.bytes.now xid c.args.caller asked) (sym c.in-Some.ensures.xid)
    (once_of S c.args.bytes.now c.args.xid c.args.caller asked c.args.self.now.export.client refl c.in-Some.ensures.client c.requires c.in-Some.ensures.once c.in-Some.ensures.writable))

pub returns-in-Some-clause-held : goal.returns-in-Some-clause-held
returns-in-Some-clause-held g c =
    let S = served_as c.args.self.now.store.now.cut c.args.self.now.export in
    subst (λ (xid : ℕ). IfOk c.answer_once.result (IsHeld S (time_of c.args.moment) xid (files c.args.caller (request_of c.args.requested.now)) c.args.session.now c.answer_once.new.session c.args.writer.now c.answer_once.new.writer))
    c.in-Some.ensures.xid c.answer_once.ensures.held

pub returns-in-Some-clause-lost : goal.returns-in-Some-clause-lost
returns-in-Some-clause-lost g c =
    let S = served_as c.args.self.now.store.now.cut c.args.self.now.export in
    subst (λ (xid : ℕ). OnErr c.answer_once.result ((history : List Entry) → (reply : List ℕ) × Replies S (marked history) (time_of c.args.moment) xid (files c.args.caller (request_of c.args.requested.now)) c.args.session.now c.answer_once.new.session reply))
    c.in-Some.ensures.xid c.answer_once.ensures.lost
