use Rattle.std.proofs.Common.{ap, length, arith}
use Rattle.journal_protocol.proofs.Sends.{free_fits, sends_none_behind}
use Rattle.journal_protocol.proofs.reply_batch.send_refused.Goals as goal

pub returns-in_default-clause-in_part : goal.returns-in_default-clause-in_part
returns-in_default-clause-in_part g c = sends_none_behind (g.P.Protocol.replaces c.args.answerer.now.protocol.now) g.P.Receipt.Counted.commits (g.met.P.Protocol.refusable c.args.answerer.now.protocol.now) _ c.args.batch.now _ c.requires

pub split_at-requires : goal.split_at-requires
split_at-requires g c =
    let fits = free_fits (g.P.Protocol.replaces c.args.answerer.now.protocol.now) g.P.Receipt.Counted.commits (g.met.P.Protocol.refusable c.args.answerer.now.protocol.now) _ c.args.batch.now c.requires c.in-Ok.told c.in-Ok.ensures.settles in
    omega (arith, fits, ap length c.as_bytes.ensures)
