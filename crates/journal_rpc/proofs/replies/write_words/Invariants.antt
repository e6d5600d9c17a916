use Rattle.std.proofs.Common.{◌≡◌, ◌++◌, take}
use Rattle.journal_rpc.specs.Replies.{words}
use Rattle.journal_rpc.proofs.replies.write_words.Given as goal

abbrev pub invariant-loop-number : goal.invariant-loop-number
invariant-loop-number l = l.writer ≡ l.fn.writer ++ words (take l.number-index l.numbers)
