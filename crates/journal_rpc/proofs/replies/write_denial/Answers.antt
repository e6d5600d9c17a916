use Rattle.journal_rpc.proofs.Replying.{denies}
use Rattle.journal_rpc.proofs.Streams.{on_ok_then}
use Rattle.journal_rpc.proofs.replies.write_denial.Goals as goal

pub returns : goal.returns
returns c = on_ok_then _ _ c.write_words.ensures (λ words. denies c.args.xid c.args.writer.now c.word.new.self c.write_words.new.writer c.in_ok-word.ensures.ok words)
