use Rattle.journal_protocol.specs.declared.connection.Served.{Served}
use Rattle.journal_server.specs.FileProtocols.{service_by}
use Rattle.journal_server.specs.Output.{nine}
use Rattle.journal_server.proofs.Telling.{if_ok, on_err_so, tells_replies, tells_count, tells_end, tells_beginning}
use Rattle.journal_server.proofs.serving.serve.Goals as goal

pub returns-clause-replies : goal.returns-clause-replies
returns-clause-replies g c =
    if_ok c.serve_protocol.result _ _ (λ (served : Served) k.
    let e = tells_replies (service_by (nine g.V.Version.VERSION c.args.verifier.0)) (g.C.Clock.tells c.args.clock.now) (λ text h. h) _ _ _ _ c.args.session.now served.end k.0 served.answered k.2 in
    (e.0, e.1, e.2, e.3, (k.0, k.1, e.4))) c.serve_protocol.ensures.replies

pub returns-clause-counted : goal.returns-clause-counted
returns-clause-counted g c =
    if_ok c.serve_protocol.result _ _ (λ (served : Served) k. tells_count (service_by (nine g.V.Version.VERSION c.args.verifier.0)) (g.C.Clock.tells c.args.clock.now) (λ text h. h) _ _ _ _ c.args.session.now served.end k.0 served.answered k.2) c.serve_protocol.ensures.replies

pub returns-clause-ended : goal.returns-clause-ended
returns-clause-ended g c =
    if_ok c.serve_protocol.result _ _ (λ (served : Served) k. tells_end (service_by (nine g.V.Version.VERSION c.args.verifier.0)) (g.C.Clock.tells c.args.clock.now) (λ text h. h) _ _ _ _ c.args.session.now served.end k.0 served.answered k.2) c.serve_protocol.ensures.replies

pub returns-clause-given_up : goal.returns-clause-given_up
returns-clause-given_up g c =
    on_err_so c.serve_protocol.result _ _ (λ k. tells_beginning (service_by (nine g.V.Version.VERSION c.args.verifier.0)) (g.C.Clock.tells c.args.clock.now) (λ text h. h) _ _ _ _ c.args.session.now _ k) c.serve_protocol.ensures.given_up
