use Rattle.std.proofs.Common.{◌≡◌, length}
use Rattle.journal_history.specs.Tokens.{OnlyExtends}
use Rattle.journal_protocol.specs.ReplyBatches.{total}
use Rattle.journal_protocol.proofs.Settling.{ToldSoFar}
use Rattle.journal_protocol.proofs.reply_batch.settled.Given as goal

abbrev pub invariant-loop-held : goal.invariant-loop-held
invariant-loop-held g l =
    (total l.replies ≡ length l.bytes)
    × OnlyExtends (g.P.Protocol.seen l.fn.session) (g.P.Protocol.seen l.session)
    × ToldSoFar (g.P.Protocol.replaces l.fn.answerer.protocol.now) l.fn.batch.replies.items l.fn.batch.bytes (g.P.Protocol.seen l.session) l.replies l.bytes l.told

abbrev pub decreases-loop-held : goal.decreases-loop-held
decreases-loop-held g l = length l.replies
