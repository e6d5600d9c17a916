use Rattle.std.proofs.Common.{arith}
use Rattle.journal_rpc.specs.CallViews.{asked_of}
use Rattle.journal_filestore.specs.Handles.{time_of}
use Rattle.journal_nfs3.specs.Served.{awaiting}
use Rattle.journal_mount3.specs.Calls.{asks}
use Rattle.journal_mount3.specs.CodeViews.{texts_of}
use Rattle.journal_mount3.proofs.Answering.{refused_comes, mount_comes, query_comes, asked_comes, asked_waits}
use Rattle.journal_mount3.proofs.Short.{query_short, short_so}
use Rattle.journal_mount3.proofs.replying.run_no_wait.Goals as goal

pub returns-in-Err-clause-comes : goal.returns-in-Err-clause-comes
returns-in-Err-clause-comes g c =
    rw (c.ready.ensures.value, c.ready.ensures.wait) (refused_comes g.V.Version.VERSION c.args.exported.now.layout.blocks c.args.exported.now.verifier.0 (time_of c.args.moment) _ _ c.in-Err.why c.in-Err.ensures)

pub returns-in-Ok-Mount-clause-comes : goal.returns-in-Ok-Mount-clause-comes
returns-in-Ok-Mount-clause-comes g c =
    rw (c.ready-in-Ok-Mount.ensures.value, c.ready-in-Ok-Mount.ensures.wait)
    (mount_comes g.V.Version.VERSION c.args.exported.now.layout.blocks c.args.exported.now.verifier.0 (time_of c.args.moment) _ _ _ _ (rw c.in-Ok-Mount.field-0-is at c.in-Ok-Mount.ensures) c.serve_mount.ensures.exact)

pub returns-in-Ok-Mount-clause-short : goal.returns-in-Ok-Mount-clause-short
returns-in-Ok-Mount-clause-short g c = rw c.ready-in-Ok-Mount.ensures.value (short_so _ (omega (arith, c.serve_mount.ensures.short)))

pub returns-in-Ok-Query-clause-comes : goal.returns-in-Ok-Query-clause-comes
returns-in-Ok-Query-clause-comes g c =
    rw (c.ready-in-Ok-Query.ensures.value, c.ready-in-Ok-Query.ensures.wait, c.version.ensures)
    (query_comes g.V.Version.VERSION c.args.exported.now.layout.blocks c.args.exported.now.verifier.0 (time_of c.args.moment) _ _ _ _ _ (rw c.in-Ok-Query.field-0-is at c.in-Ok-Query.ensures) (rw c.at-now.ensures at c.serve_query-results.ensures))

pub returns-in-Ok-Query-clause-short : goal.returns-in-Ok-Query-clause-short
returns-in-Ok-Query-clause-short g c = rw c.ready-in-Ok-Query.ensures.value (short_so _ (query_short c.version.result c.serve_query-results.result))

pub returns-in-Ok-Nine-clause-comes : goal.returns-in-Ok-Nine-clause-comes
returns-in-Ok-Nine-clause-comes g c =
    asked_comes g.V.Version.VERSION c.args.exported.now.layout.blocks c.args.exported.now.verifier.0 (time_of c.args.moment) (asks (asked_of c.args.call.now.asked)) _ c.args.session.now c.serve_nine.new.session (awaiting c.serve_nine.result.wait) (texts_of c.serve_nine.result.value) (rw c.in-Ok-Nine.field-0-is at c.in-Ok-Nine.ensures) (c.serve_nine.ensures.comes c.args.exported.now.layout.blocks)

pub returns-in-Ok-Nine-clause-wait : goal.returns-in-Ok-Nine-clause-wait
returns-in-Ok-Nine-clause-wait g c = asked_waits (asked_of c.args.call.now.asked) _ c.serve_nine.result.value c.serve_nine.result.wait (rw c.in-Ok-Nine.field-0-is at c.in-Ok-Nine.ensures) c.serve_nine.ensures.wait
