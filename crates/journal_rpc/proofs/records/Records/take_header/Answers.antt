use Rattle.std.proofs.Common.{ap, sym, subst, ◌∙◌, refl}
use Rattle.journal_rpc.specs.Stream.{Stream, stream_opened, ExtendsStream}
use Rattle.journal_rpc.proofs.Streams.{takes_header, Extends-refl, on_err}
use Rattle.journal_rpc.proofs.records.Records.take_header.Goals as goal

pub returns-clause-ok : goal.returns-clause-ok
returns-clause-ok c = (
  refl,
  c.in_ok-open_fragment.ensures.ok
      ∙ ap (stream_opened c.args.self.now.marking c.args.self.now.records c.args.self.now.begun) c.from_be_bytes.ensures
      ∙ takes_header c.args.self.now c.args.self.now.marking c.args.self.now.records c.args.self.now.begun c.args.self.now.part c.args.bytes.now refl c.requires.here c.requires.whole,
)

pub returns-in_err-open_fragment-clause-err : goal.returns-in_err-open_fragment-clause-err
returns-in_err-open_fragment-clause-err c =
    on_err c.from_residual.result _ (subst (λ (s : Stream). ExtendsStream c.args.self.now s) (sym c.in_err-open_fragment.ensures.err) (Extends-refl c.args.self.now))
