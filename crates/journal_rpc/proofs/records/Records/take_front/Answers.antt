use Rattle.std.proofs.Common.{ap, sym, subst, ◌∙◌, arith, refl}
use Rattle.journal_rpc.specs.Stream.{Stream, stream_opened, ExtendsStream}
use Rattle.journal_rpc.proofs.Streams.{takes_one, too_long_stays, Extends-refl, on_err}
use Rattle.journal_rpc.proofs.records.Records.take_front.Goals as goal

pub returns-in-Start-clause-ok : goal.returns-in-Start-clause-ok
returns-in-Start-clause-ok c = (omega arith, omega arith, takes_one _ _ _ _ _ _ _ c.self-2.view_is c.in-Start.is c.requires)

pub returns-in-First-clause-ok : goal.returns-in-First-clause-ok
returns-in-First-clause-ok c = (omega arith, omega arith, takes_one _ _ _ _ _ _ _ c.self-2.view_is c.in-First.is c.requires)

pub returns-in-Second-clause-ok : goal.returns-in-Second-clause-ok
returns-in-Second-clause-ok c = (omega arith, omega arith, takes_one _ _ _ _ _ _ _ c.self-2.view_is c.in-Second.is c.requires)

pub returns-in_ok-open_fragment-in-Third-clause-ok : goal.returns-in_ok-open_fragment-in-Third-clause-ok
returns-in_ok-open_fragment-in-Third-clause-ok c =
    let here = ap (λ (s : Stream). s.part) (sym c.self-2.view_is) ∙ c.in-Third.is in
    (omega arith, omega arith, c.in_ok-open_fragment-in-Third.ensures.ok ∙ ap (stream_opened c.args.self.now.marking c.args.self.now.records c.args.self.now.begun) c.from_be_bytes.ensures ∙ takes_one c.args.self.now c.args.self.now.marking c.args.self.now.records c.args.self.now.begun c.args.self.now.part _ c.args.bytes.now refl here c.requires)

pub returns-in_err-open_fragment-in-Third-clause-err : goal.returns-in_err-open_fragment-in-Third-clause-err
returns-in_err-open_fragment-in-Third-clause-err c =
    on_err c.from_residual.result _ (subst (λ (s : Stream). ExtendsStream c.args.self.now s) (sym c.in_err-open_fragment-in-Third.ensures.err) (Extends-refl c.args.self.now))

pub returns-in-TooLong-clause-ok : goal.returns-in-TooLong-clause-ok
returns-in-TooLong-clause-ok c = (c.requires, omega arith, too_long_stays c.args.self.now _ (ap (λ (s : Stream). s.part) (sym c.self-2.view_is) ∙ c.in-TooLong.is))
