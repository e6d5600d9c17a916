use Rattle.std.proofs.Common.{inl, inr, subst}
use Rattle.std.proofs.KnownBytes.{Appends-nil}
use Rattle.journal_rpc.proofs.Streams.{on_err}
use Rattle.journal_protocol.specs.declared.connection.End.{End}
use Rattle.journal_protocol.specs.Connections.{IsBefore}
use Rattle.journal_protocol.specs.Serving.{Start, Pauses, Finished}
use Rattle.journal_protocol.proofs.Serving.{progresses, is_told}
use Rattle.journal_port.specs.Answers.{offer}
use Rattle.journal_port.specs.Served.{always, service, Breaks}
use Rattle.journal_port.proofs.serving.serve_to_pause.Goals as goal

pub returns-in_err-progress-clause-given_up : goal.returns-in_err-progress-clause-given_up
returns-in_err-progress-clause-given_up g c =
    let lost : (start : Start) → Pauses (service g.J.Naming.layout (offer c.args.port.now.terms (g.C.Counting.tells c.args.port.now.counting.now))) always start (g.R.Read.remaining c.args.reader.now) (g.W.Write.contents c.args.writer.now) c.args.session.now c.args.answered.now
    → Breaks (service g.J.Naming.layout (offer c.args.port.now.terms (g.C.Counting.tells c.args.port.now.counting.now))) start (g.R.Read.remaining c.serve_to_pause.new.reader) (g.W.Write.contents c.serve_to_pause.new.writer) c.serve_to_pause.new.session = λ start h. inl (c.in_err-progress.ensures.given_up start h) in
    on_err _ _ lost

pub returns-in-Paused-clause-served : goal.returns-in-Paused-clause-served
returns-in-Paused-clause-served g c = λ start h.
    (g.W.Write.contents c.serve_to_pause.new.writer, progresses _ _ c.in_ok-progress.progress _ start _ _ _ _ c.in-Paused.is (c.in_ok-progress.ensures.served start h), Appends-nil _)

pub returns-clause-served : goal.returns-clause-served
returns-clause-served g c = λ start h.
    (g.W.Write.contents c.serve_to_pause.new.writer, progresses _ _ c.in_ok-progress.progress _ start _ _ _ _ c.in-Ended.is (c.in_ok-progress.ensures.served start h), c.in_ok-write_end-in-Ended.ensures.whole)

pub returns-clause-fenced : goal.returns-clause-fenced
returns-clause-fenced g c = is_told c.in_ok-progress.progress _ _ c.in-Ended.is c.in_ok-progress.ensures.fenced

pub returns-in_err-write_end-in-Ended-clause-given_up : goal.returns-in_err-write_end-in-Ended-clause-given_up
returns-in_err-write_end-in-Ended-clause-given_up g c =
    let lost : (start : Start) → Pauses (service g.J.Naming.layout (offer c.args.port.now.terms (g.C.Counting.tells c.args.port.now.counting.now))) always start (g.R.Read.remaining c.args.reader.now) (g.W.Write.contents c.args.writer.now) c.args.session.now c.args.answered.now
    → Breaks (service g.J.Naming.layout (offer c.args.port.now.terms (g.C.Counting.tells c.args.port.now.counting.now))) start (g.R.Read.remaining c.serve_to_pause.new.reader) (g.W.Write.contents c.write_end.new.writer) c.serve_to_pause.new.session = λ start h.
    let ended = progresses _ _ c.in_ok-progress.progress _ start _ _ _ _ c.in-Ended.is (c.in_ok-progress.ensures.served start h) in
    let wrote = c.in_err-write_end-in-Ended.ensures.in_part in
    inr (
      g.W.Write.contents c.serve_to_pause.new.writer,
      c.in-Ended.served.answered,
      (ended.0, ended.1, subst (λ (e : End). Finished (service g.J.Naming.layout (offer c.args.port.now.terms (g.C.Counting.tells c.args.port.now.counting.now))) always start (g.R.Read.remaining c.serve_to_pause.new.reader) (g.W.Write.contents c.serve_to_pause.new.writer) e ended.0 c.in-Ended.served.answered) wrote.0 ended.2),
      wrote.1,
    ) in
    on_err _ _ lost
