use Rattle.std.proofs.Common.{◌≤◌, ◌++◌, List, ℕ, refl, ap, ◌∙◌}
use mathlib.Core.List.{IsPrefix}
use Rattle.journal_world.specs.Histories.{count, floor}
use Rattle.journal_history.specs.Tokens.{OnlyExtends}
use Rattle.journal_protocol.specs.Moments.{time_of}
use Rattle.journal_treewire.specs.Refusals.{refused_request}
use Rattle.journal_treewire.specs.Requests.{request_of}
use Rattle.journal_treewire.specs.Results.{Results}
use Rattle.journal_treeserver.specs.Asking.{files}
use Rattle.journal_treeserver.specs.Answers.{told, outcome_text}
use Rattle.journal_treeserver.specs.CodeViews.{served_as}
use Rattle.journal_treeserver.proofs.Copies.{prefix_trans, extends_trans, covered_by, repeats, repeats_lost, unsure_outcome, unsure_lost, held_again}
use Rattle.journal_treeserver.proofs.Doing.{told_wait_error_is}
use Rattle.journal_treeserver.proofs.Holding.{on_err}
use Rattle.journal_treeserver.proofs.server.TreeServer.repeat.Goals as goal

pub returns-in-Ok-clause-held : goal.returns-in-Ok-clause-held
returns-in-Ok-clause-held g c =
    let S = served_as c.args.self.now.store.now.cut c.args.self.now.export in
    let old = c.args.session.now in
    let mid = c.see.new.self in
    let new = c.flush.new.session in
    let front = c.args.again.front in
    let bytes = c.args.sent.now.bytes.now in
    let text = c.args.again.reply.items in
    let caller = c.args.caller in
    let asked = request_of c.args.requested.now in
    let now = time_of c.args.moment in
    let xid = c.args.sent.now.xid in
    let extends : OnlyExtends old new = extends_trans old mid new c.see.ensures.extends c.flush.ensures.session in
    let stands : IsPrefix front new.seen = prefix_trans front mid.seen new.seen c.see.ensures.all c.flush.ensures.session.seen in
    let covered : count front ≤ floor new.seen = covered_by front mid.seen _ new c.see.ensures.all c.in-Ok.ensures.stable in
    held_again S now xid (files caller asked) old new text c.args.writer.now c.raw.new.self c.at_once.result
    (repeats S bytes text front c.requires.kept now old new extends stands xid caller asked c.requires.sent covered)
    (c.in_ok-raw-in-Ok.ensures.ok ∙ ap (λ (t : List ℕ). c.args.writer.now ++ t) c.deref.ensures.value) c.at_once.ensures

pub returns-in_err-raw-in-Ok-clause-lost : goal.returns-in_err-raw-in-Ok-clause-lost
returns-in_err-raw-in-Ok-clause-lost g c =
    let S = served_as c.args.self.now.store.now.cut c.args.self.now.export in
    let old = c.args.session.now in
    let mid = c.see.new.self in
    let new = c.flush.new.session in
    let front = c.args.again.front in
    let text = c.args.again.reply.items in
    let caller = c.args.caller in
    let asked = request_of c.args.requested.now in
    let now = time_of c.args.moment in
    let xid = c.args.sent.now.xid in
    let extends : OnlyExtends old new = extends_trans old mid new c.see.ensures.extends c.flush.ensures.session in
    let stands : IsPrefix front new.seen = prefix_trans front mid.seen new.seen c.see.ensures.all c.flush.ensures.session.seen in
    let covered : count front ≤ floor new.seen = covered_by front mid.seen _ new c.see.ensures.all c.in-Ok.ensures.stable in
    on_err _ (repeats_lost S c.args.sent.now.bytes.now text front c.requires.kept now old new extends stands xid caller asked c.requires.sent covered)

pub returns-in_err-tell-in-Err-clause-lost : goal.returns-in_err-tell-in-Err-clause-lost
returns-in_err-tell-in-Err-clause-lost g c =
    let S = served_as c.args.self.now.store.now.cut c.args.self.now.export in
    let old = c.args.session.now in
    let mid = c.see.new.self in
    let new = c.flush.new.session in
    let front = c.args.again.front in
    on_err _ (unsure_lost S c.args.sent.now.bytes.now c.args.again.reply.items front c.requires.kept (time_of c.args.moment) old new
    (extends_trans old mid new c.see.ensures.extends c.flush.ensures.session) (prefix_trans front mid.seen new.seen c.see.ensures.all c.flush.ensures.session.seen)
    c.args.sent.now.xid c.args.caller (request_of c.args.requested.now) c.requires.sent)

pub returns-clause-held : goal.returns-clause-held
returns-clause-held g c =
    let S = served_as c.args.self.now.store.now.cut c.args.self.now.export in
    let old = c.args.session.now in
    let mid = c.see.new.self in
    let new = c.flush.new.session in
    let front = c.args.again.front in
    let caller = c.args.caller in
    let asked = request_of c.args.requested.now in
    let now = time_of c.args.moment in
    let xid = c.args.sent.now.xid in
    let why = c.wait_error.result in
    let outcome = unsure_outcome S c.args.sent.now.bytes.now c.args.again.reply.items front c.requires.kept now old new
    (extends_trans old mid new c.see.ensures.extends c.flush.ensures.session) (prefix_trans front mid.seen new.seen c.see.ensures.all c.flush.ensures.session.seen)
    xid caller asked c.requires.sent why (told_wait_error_is c.in-Err.why _ c.wait_error.ensures) in
    let text = outcome_text S.disk xid (told (refused_request asked why)) in
    held_again S now xid (files caller asked) old new text c.args.writer.now c.tell.new.writer c.at_once-in-Err.result
    (record { outcome = told (refused_request asked why); comes = outcome; is_sent = refl })
    (c.in_ok-tell-in-Err.ensures ∙ ap (λ (r : Results). c.args.writer.now ++ outcome_text S.disk xid (told r)) (c.refused-results.ensures S.disk)) c.at_once-in-Err.ensures
