use Rattle.std.proofs.Common.{List, ℕ, refl, sym, ap, subst, ◌∙◌}
use Rattle.std.specs.Prelude.{OnErr}
use Rattle.journal_world.specs.Histories.{Entry}
use Rattle.journal_mount_wire.specs.Arguments.{mount_call_of}
use Rattle.journal_protocol.specs.Moments.{time_of}
use Rattle.journal_rpc.specs.CallViews.{message_of}
use Rattle.journal_treeserver.specs.Asking.{Wanted, mount, denied, refused}
use Rattle.journal_treeserver.specs.Answers.{marked, mounted, none_told, Replies}
use Rattle.journal_treeserver.specs.CodeViews.{served_as, wanted_of}
use Rattle.journal_treeserver.proofs.Holding.{held_at_once, lost_at_once, on_err}
use Rattle.journal_treeserver.proofs.server.TreeServer.answer.Goals as goal

pub returns-in_err-mounted-in-Mount-clause-lost : goal.returns-in_err-mounted-in-Mount-clause-lost
returns-in_err-mounted-in-Mount-clause-lost g c =
    on_err _ (lost_at_once (served_as c.args.self.now.store.now.cut c.args.self.now.export) (time_of c.args.moment) c.args.call.now.xid c.args.session.now (mount (mount_call_of c.in-Mount.mount)) _ (mounted (mount_call_of c.in-Mount.mount)) (sym c.decide.ensures ∙ ap wanted_of c.in-Mount.is) (refl, refl, refl))

pub returns-in_ok-mounted-in-Mount-clause-held : goal.returns-in_ok-mounted-in-Mount-clause-held
returns-in_ok-mounted-in-Mount-clause-held g c =
    held_at_once (served_as c.args.self.now.store.now.cut c.args.self.now.export) (time_of c.args.moment) c.args.call.now.xid c.args.session.now (mount (mount_call_of c.in-Mount.mount)) _ (mounted (mount_call_of c.in-Mount.mount)) c.args.writer.now _ c.at_once.result (sym c.decide.ensures ∙ ap wanted_of c.in-Mount.is) (refl, refl, refl)
    c.in_ok-mounted-in-Mount.ensures c.at_once.ensures

pub returns-in_err-write_denial-in-Denied-clause-lost : goal.returns-in_err-write_denial-in-Denied-clause-lost
returns-in_err-write_denial-in-Denied-clause-lost g c =
    on_err _ (lost_at_once (served_as c.args.self.now.store.now.cut c.args.self.now.export) (time_of c.args.moment) c.args.call.now.xid c.args.session.now denied _ (none_told denied) (sym c.decide.ensures ∙ ap wanted_of c.in-Denied.is) (refl, refl, refl))

pub returns-in_ok-write_denial-in-Denied-clause-held : goal.returns-in_ok-write_denial-in-Denied-clause-held
returns-in_ok-write_denial-in-Denied-clause-held g c =
    held_at_once (served_as c.args.self.now.store.now.cut c.args.self.now.export) (time_of c.args.moment) c.args.call.now.xid c.args.session.now denied _ (none_told denied) c.args.writer.now _ c.at_once-in-Denied.result (sym c.decide.ensures ∙ ap wanted_of c.in-Denied.is) (refl, refl, refl)
    c.in_ok-write_denial-in-Denied.ensures c.at_once-in-Denied.ensures

pub returns-in_err-refused-in-Refused-clause-lost : goal.returns-in_err-refused-in-Refused-clause-lost
returns-in_err-refused-in-Refused-clause-lost g c =
    on_err _ (lost_at_once (served_as c.args.self.now.store.now.cut c.args.self.now.export) (time_of c.args.moment) c.args.call.now.xid c.args.session.now (refused c.in-Refused.why) _ (none_told (refused c.in-Refused.why)) (sym c.decide.ensures ∙ ap wanted_of c.in-Refused.is) (refl, refl, refl))

pub returns-in_ok-refused-in-Refused-clause-held : goal.returns-in_ok-refused-in-Refused-clause-held
returns-in_ok-refused-in-Refused-clause-held g c =
    held_at_once (served_as c.args.self.now.store.now.cut c.args.self.now.export) (time_of c.args.moment) c.args.call.now.xid c.args.session.now (refused c.in-Refused.why) _ (none_told (refused c.in-Refused.why)) c.args.writer.now _ c.at_once-in-Refused.result (sym c.decide.ensures ∙ ap wanted_of c.in-Refused.is) (refl, refl, refl)
    (c.in_ok-refused-in-Refused.ensures c.args.self.now.export.disk) c.at_once-in-Refused.ensures

pub returns-in-Files-clause-lost : goal.returns-in-Files-clause-lost
returns-in-Files-clause-lost g c =
    subst (λ (w : Wanted). OnErr c.answer_sent.result ((history : List Entry) → (reply : List ℕ) × Replies (served_as c.args.self.now.store.now.cut c.args.self.now.export) (marked history) (time_of c.args.moment) c.args.call.now.xid w c.args.session.now c.answer_sent.new.session reply))
    (sym (ap wanted_of c.in-Files.is) ∙ c.decide.ensures) c.answer_sent.ensures.lost

pub answer_sent-requires : goal.answer_sent-requires
answer_sent-requires g c = record { sent = message_of c.args.call.now; reads = c.requires; number = refl; asks_so = sym c.decide.ensures ∙ ap wanted_of c.in-Files.is }
