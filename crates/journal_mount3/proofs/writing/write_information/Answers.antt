use Rattle.std.proofs.lemmas.Result.{on_ok_weaker}
use Rattle.journal_xdr.specs.Items.{Writes}
use Rattle.journal_xdr.specs.Basic.{word}
use Rattle.journal_mount3.proofs.Written.{wrote_information}
use Rattle.journal_mount3.proofs.writing.write_information.Goals as goal

pub returns : goal.returns
returns c =
    rw c.in-Ok.is
    (on_ok_weaker c.word-8.result
    (λ (e : Writes word 24 c.write_time.new.writer c.word-8.new.self). wrote_information c.args.version _ _ _ _ _ _ _ _ _ _ _ _ _ _ _ c.most_bytes.ensures (rw c.in-Ok.is at c.in_ok-write_status.ensures) c.in_ok-write_after.ensures.ok
    c.in_ok-word.ensures.ok c.in_ok-word-2.ensures.ok c.in_ok-word-3.ensures.ok c.in_ok-word-4.ensures.ok c.in_ok-word-5.ensures.ok c.in_ok-word-6.ensures.ok c.in_ok-word-7.ensures.ok c.in_ok-hyper.ensures.ok c.in_ok-write_time.ensures.ok e)
    c.word-8.ensures.ok)
