use Rattle.std.proofs.Common.{◌∙◌, ap, subst}
use Rattle.journal_inode.specs.declared.node.Time.{Time}
use Rattle.journal_inode.specs.declared.version.FormatVersion.{FormatVersion}
use Rattle.journal_filestore.specs.Handles.{time_of}
use Rattle.journal_nfs3_wire.specs.Arguments.{operation_of}
use Rattle.journal_nfs3_wire.specs.Profile.{results_of}
use Rattle.journal_nfs3_wire.specs.Results.{IsResult}
use Rattle.journal_mount3.specs.Roots.{results_at}
use Rattle.journal_mount3.proofs.Answering.{nine_comes, nine_waits}
use Rattle.journal_mount3.proofs.Short.{short_so}
use Rattle.journal_mount3.proofs.replying.serve_nine.Goals as goal

pub returns-clause-comes : goal.returns-clause-comes
returns-clause-comes g c = λ blocks.
    let plain = c.serve_no_wait-results.result in
    let same = ap (λ (v : FormatVersion). results_of v c.set_results_at.new.results) c.version.ensures ∙ c.set_results_at.ensures g.V.Version.VERSION ∙ ap (λ (now : Time). results_at now (results_of g.V.Version.VERSION plain.value)) c.at.ensures in
    nine_comes g.V.Version.VERSION blocks c.args.verifier.0 (time_of c.args.moment) (operation_of c.args.operation.now) _ _ (results_of g.V.Version.VERSION plain.value) _ same plain.wait c.serve_no_wait-results.ensures.serves c.serve_no_wait-results.ensures.procedure
    (subst (λ (v : FormatVersion). IsResult (results_of v plain.value)) c.version.ensures c.prove_grammar.ensures)

pub returns-clause-short : goal.returns-clause-short
returns-clause-short g c = short_so _ c.prove_grammar-2.ensures.short

pub returns-clause-wait : goal.returns-clause-wait
returns-clause-wait g c =
    let plain = c.serve_no_wait-results.result in
    let same = ap (λ (v : FormatVersion). results_of v c.set_results_at.new.results) c.version.ensures ∙ c.set_results_at.ensures g.V.Version.VERSION ∙ ap (λ (now : Time). results_at now (results_of g.V.Version.VERSION plain.value)) c.at.ensures in
    nine_waits g.V.Version.VERSION 0 c.args.verifier.0 (time_of c.args.moment) (operation_of c.args.operation.now) c.args.session.now c.args.session.now (results_of g.V.Version.VERSION plain.value) _ same plain.wait c.serve_no_wait-results.ensures.procedure
