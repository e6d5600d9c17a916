use Rattle.std.proofs.Common.{◌≡◌, ◌++◌, List, ℕ, Ok, ap, ◌∙◌}
use Rattle.std.proofs.lemmas.Result.{on_ok_weaker}
use Rattle.journal_inode.specs.declared.version.FormatVersion.{FormatVersion}
use Rattle.journal_nfs3.proofs.Pendings.{on_err}
use Rattle.journal_mount3.specs.declared.results.Told.TheVariants as code_tellings
use Rattle.journal_mount3.specs.Results.{query_text}
use Rattle.journal_mount3.specs.CodeViews.{query_results_of}
use Rattle.journal_mount3.proofs.Answering.{sent_seen}
use Rattle.journal_mount3.proofs.Short.{query_short, short_so}
use Rattle.journal_mount3.proofs.reader.grant.Goals as goal

pub write_reply-requires : goal.write_reply-requires
write_reply-requires g c = short_so _ (query_short c.version.result c.serve_query-results.result)

pub returns-clause-granted : goal.returns-clause-granted
returns-clause-granted g c =
    let results = c.serve_query-results.result in
    let text = query_text (query_results_of c.version.result results) in
    let told = ap (λ (v : FormatVersion). query_text (query_results_of v results)) c.version.ensures in
    on_ok_weaker c.write_reply.result
    (λ is. (text, (query_results_of g.V.Version.VERSION results, c.serve_query-results.ensures, told), is ∙ ap (λ (t : List ℕ). c.args.writer.now ++ t) (sent_seen c.args.xid (Ok (code_tellings.Query c.version.result results)))))
    c.write_reply.ensures

pub returns-clause-lost : goal.returns-clause-lost
returns-clause-lost g c =
    let results = c.serve_query-results.result in
    let text = query_text (query_results_of c.version.result results) in
    let told = ap (λ (v : FormatVersion). query_text (query_results_of v results)) c.version.ensures in
    on_err c.write_reply.result (text, (query_results_of g.V.Version.VERSION results, c.serve_query-results.ensures, told))
