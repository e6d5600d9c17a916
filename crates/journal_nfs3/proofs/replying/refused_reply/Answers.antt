use Rattle.journal_nfs3.proofs.Pendings.{takes_place}
use Rattle.journal_nfs3.proofs.replying.refused_reply.Goals as goal

pub returns-in_err-write_reply-clause-takes_place : goal.returns-in_err-write_reply-clause-takes_place
returns-in_err-write_reply-clause-takes_place g c = takes_place c.args.xid c.args.procedure c.args.why.now

pub returns-clause-takes_place : goal.returns-clause-takes_place
returns-clause-takes_place g c = takes_place c.args.xid c.args.procedure c.args.why.now
