use Rattle.std.proofs.Common.{arith, ap, ◌∙◌, ◌++◌, take, drop, ◌+◌, ◌-◌, ◌^◌, ℕ}
use Rattle.journal_xdr.specs.Basic.{word}
use Rattle.journal_rpc.proofs.Replying.{holds}
use Rattle.journal_rpc.proofs.replies.write_reply.Goals as goal

pub overflow_sub-length-2 : goal.overflow_sub-length-2
overflow_sub-length-2 g c =
    let h = holds g.R.Results.spelling c.args.xid c.args.outcome.now c.args.writer.now _ _ c.requires c.in_ok-word.ensures.ok c.in_ok-write_message.ensures in
    omega (arith, h.long, c.len.ensures, c.len-begun.ensures)

pub overflow_cast-length : goal.overflow_cast-length
overflow_cast-length g c =
    let h = holds g.R.Results.spelling c.args.xid c.args.outcome.now c.args.writer.now _ _ c.requires c.in_ok-word.ensures.ok c.in_ok-write_message.ensures in
    omega (arith, h.long, h.short, c.len.ensures, c.len-begun.ensures)

pub overflow_add-length : goal.overflow_add-length
overflow_add-length g c =
    let h = holds g.R.Results.spelling c.args.xid c.args.outcome.now c.args.writer.now _ _ c.requires c.in_ok-word.ensures.ok c.in_ok-write_message.ensures in
    omega (arith, h.long, h.short, c.len.ensures, c.len-begun.ensures)

pub replace_word-requires : goal.replace_word-requires
replace_word-requires g c =
    let h = holds g.R.Results.spelling c.args.xid c.args.outcome.now c.args.writer.now _ _ c.requires c.in_ok-word.ensures.ok c.in_ok-write_message.ensures in
    omega (arith, h.long, c.len-begun.ensures)

pub returns : goal.returns
returns g c =
    let h = holds g.R.Results.spelling c.args.xid c.args.outcome.now c.args.writer.now _ _ c.requires c.in_ok-word.ensures.ok c.in_ok-write_message.ensures in
    c.replace_word.ensures
    ∙ ap (λ (n : ℕ). take n c.write_message.new.writer ++ word.spelling (2 ^ 31 + (c.len.result - c.len-begun.result - 4)) ++ drop (n + 4) c.write_message.new.writer) c.len-begun.ensures
    ∙ h.whole _ (omega (arith, h.long, c.len.ensures, c.len-begun.ensures))
