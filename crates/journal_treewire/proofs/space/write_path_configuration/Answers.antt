use Rattle.std.proofs.lemmas.Result.{on_ok_weaker}
use Rattle.journal_xdr.specs.Items.{Writes}
use Rattle.journal_xdr.specs.Basic.{boolean}
use Rattle.journal_treewire.proofs.Written.{wrote_configuration}
use Rattle.journal_treewire.proofs.space.write_path_configuration.Goals as goal

pub returns : goal.returns
returns c =
    rw c.in-Ok.is
    (on_ok_weaker c.boolean-4.result
    (λ (e : Writes boolean c.in-Ok.facts.keeps_case c.boolean-3.new.self c.boolean-4.new.self). wrote_configuration c.args.disk c.in-Ok.facts _ _ _ _ _ _ _ _ _ _ c.word_of.ensures (rw c.in-Ok.is at c.in_ok-write_status.ensures) c.in_ok-write_some_told.ensures
    c.in_ok-word.ensures.ok c.in_ok-word-2.ensures.ok c.in_ok-boolean.ensures.ok c.in_ok-boolean-2.ensures.ok c.in_ok-boolean-3.ensures.ok e)
    c.boolean-4.ensures.ok)
