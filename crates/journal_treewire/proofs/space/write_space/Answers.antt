use Rattle.std.proofs.lemmas.Result.{on_ok_weaker}
use Rattle.journal_xdr.specs.Items.{Writes}
use Rattle.journal_xdr.specs.Basic.{word}
use Rattle.journal_treewire.proofs.Written.{wrote_space}
use Rattle.journal_treewire.proofs.space.write_space.Goals as goal

pub returns : goal.returns
returns c =
    rw c.in-Ok.is
    (on_ok_weaker c.word.result
    (λ (e : Writes word 0 c.hyper-6.new.self c.word.new.self). wrote_space c.args.disk c.in-Ok.space _ _ _ _ _ _ _ _ _ _ (rw c.in-Ok.is at c.in_ok-write_status.ensures) c.in_ok-write_some_told.ensures
    c.in_ok-hyper.ensures.ok c.in_ok-hyper-2.ensures.ok c.in_ok-hyper-3.ensures.ok c.in_ok-hyper-4.ensures.ok c.in_ok-hyper-5.ensures.ok c.in_ok-hyper-6.ensures.ok e)
    c.word.ensures.ok)
