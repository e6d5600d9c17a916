use Rattle.std.proofs.lemmas.Result.{on_ok_weaker}
use Rattle.journal_xdr.specs.Items.{Writes}
use Rattle.journal_xdr.specs.Basic.{word}
use Rattle.journal_treewire.proofs.Written.{wrote_information}
use Rattle.journal_treewire.proofs.space.write_information.Goals as goal

pub returns : goal.returns
returns c =
    rw c.in-Ok.is
    (on_ok_weaker c.word-8.result
    (λ (e : Writes word c.in-Ok.facts.properties c.write_time.new.writer c.word-8.new.self). wrote_information c.args.disk c.in-Ok.facts _ _ _ _ _ _ _ _ _ _ _ _ _ _ c.word_of-multiple.ensures (rw c.in-Ok.is at c.in_ok-write_status.ensures) c.in_ok-write_some_told.ensures
    c.in_ok-word.ensures.ok c.in_ok-word-2.ensures.ok c.in_ok-word-3.ensures.ok c.in_ok-word-4.ensures.ok c.in_ok-word-5.ensures.ok c.in_ok-word-6.ensures.ok c.in_ok-word-7.ensures.ok c.in_ok-hyper.ensures.ok c.in_ok-write_time.ensures.ok e)
    c.word-8.ensures.ok)
