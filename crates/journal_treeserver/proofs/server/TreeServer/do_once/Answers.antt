use Rattle.std.proofs.Common.{refl, subst}
use Rattle.journal_protocol.specs.Moments.{time_of}
use Rattle.journal_tree.specs.declared.time.Time.{Time}
use Rattle.journal_treewire.specs.Calls.{call_on}
use Rattle.journal_treewire.specs.CodeViews.{results_of}
use Rattle.journal_treewire.specs.Requests.{request_of}
use Rattle.journal_treeserver.specs.Asking.{files}
use Rattle.journal_treeserver.specs.Answers.{awaiting, ComesTo, told, outcome_text}
use Rattle.journal_treeserver.specs.CodeViews.{served_as}
use Rattle.journal_treeserver.proofs.Holding.{loses, on_err}
use Rattle.journal_treeserver.proofs.Keeping.{keeps, kept_as_sent, written-behind}
use Rattle.journal_treeserver.proofs.server.TreeServer.do_once.Goals as goal

pub returns-in_err-tell-clause-lost : goal.returns-in_err-tell-clause-lost
returns-in_err-tell-clause-lost g c =
    let S = served_as c.args.self.now.store.now.cut c.args.self.now.export in
    let asked = request_of c.args.requested.now in
    let results = results_of S.disk c.serve-done.result.results in
    let comes = subst (λ (now : Time). ComesTo S (awaiting c.serve-done.result.wait) asked c.args.caller now (call_on S.disk asked) c.args.session.now c.serve-done.new.session results) c.time_at.ensures.time c.serve-done.ensures in
    on_err _ (loses S c.serve-done.result.wait (time_of c.args.moment) c.args.sent.now.xid (files c.args.caller asked) c.args.session.now c.serve-done.new.session (told results) (results, refl, comes))

pub new-requires : goal.new-requires
new-requires g c =
    let cut = c.args.self.now.store.now.cut in
    let export = c.args.self.now.export in
    let S = served_as cut export in
    let asked = request_of c.args.requested.now in
    let results = results_of S.disk c.serve-done.result.results in
    let text = outcome_text S.disk c.args.sent.now.xid (told results) in
    kept_as_sent c.args.sent.now.cut cut c.args.sent.now.export export c.args.sent.now.bytes.now text _ c.front.result c.serve-done.new.session.seen
    c.requires.cut c.requires.export (written-behind c.args.writer.now c.tell.new.writer c.as_bytes.result.now text c.len-begun.result c.as_bytes.ensures c.len-begun.ensures c.in_ok-tell.ensures) c.front.ensures
    (keeps S c.serve-done.result.wait c.args.sent.now.bytes.now text c.args.sent.now.xid c.args.caller asked _ c.args.session.now c.serve-done.new.session results
    c.requires.sent c.serve-done.ensures (c.is_to_keep-is_kept.ensures.done c.if-is_kept.true) (c.is_to_keep-is_kept.ensures.call c.if-is_kept.true) refl)

pub returns-clause-held : goal.returns-clause-held
returns-clause-held g c =
    let S = served_as c.args.self.now.store.now.cut c.args.self.now.export in
    let asked = request_of c.args.requested.now in
    let results = results_of S.disk c.serve-done.result.results in
    let comes = subst (λ (now : Time). ComesTo S (awaiting c.serve-done.result.wait) asked c.args.caller now (call_on S.disk asked) c.args.session.now c.serve-done.new.session results) c.time_at.ensures.time c.serve-done.ensures in
    record {
      wait = c.serve-done.result.wait;
      text = outcome_text S.disk c.args.sent.now.xid (told results);
      written = c.in_ok-tell.ensures;
      replies = record { outcome = told results; comes = (results, refl, comes); is_sent = refl };
      held = c.held_wait.ensures;
      goes_on = refl;
    }
