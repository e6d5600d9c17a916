use Rattle.std.proofs.lemmas.Result.{on_err_weaker, on_ok_weaker}
use Rattle.journal_xdr.specs.Items.{Writes}
use Rattle.journal_rpc.proofs.Streams.{on_err}
use Rattle.journal_nfs3_wire.specs.Arguments.{time}
use Rattle.journal_nfs3_wire.specs.Attributes.{attributes_told}
use Rattle.journal_nfs3_wire.proofs.Fronts.{Extends, then_extends, eleven_extend, wrote_fattr}
use Rattle.journal_nfs3_wire.proofs.attributes.write_file_attributes.Goals as goal

pub returns-in_err-write_time-clause-err : goal.returns-in_err-write_time-clause-err
returns-in_err-write_time-clause-err c = on_err _ _ (then_extends _ _ _ (eleven_extend _ _ _ _ _ _ _ _ _ _ _ _
    (_, c.in_ok-word.ensures.ok) (_, c.in_ok-word-2.ensures.ok) (_, c.in_ok-word-3.ensures.ok) (_, c.in_ok-word-4.ensures.ok) (_, c.in_ok-word-5.ensures.ok) (_, c.in_ok-hyper.ensures.ok) (_, c.in_ok-hyper-2.ensures.ok) (_, c.in_ok-word-6.ensures.ok) (_, c.in_ok-word-7.ensures.ok) (_, c.in_ok-hyper-3.ensures.ok) (_, c.in_ok-hyper-4.ensures.ok)) c.in_err-write_time.ensures.err)

pub returns-in_err-write_time-2-clause-err : goal.returns-in_err-write_time-2-clause-err
returns-in_err-write_time-2-clause-err c =
    on_err _ _ (then_extends _ _ _ (then_extends _ _ _ (eleven_extend _ _ _ _ _ _ _ _ _ _ _ _
    (_, c.in_ok-word.ensures.ok) (_, c.in_ok-word-2.ensures.ok) (_, c.in_ok-word-3.ensures.ok) (_, c.in_ok-word-4.ensures.ok) (_, c.in_ok-word-5.ensures.ok) (_, c.in_ok-hyper.ensures.ok) (_, c.in_ok-hyper-2.ensures.ok) (_, c.in_ok-word-6.ensures.ok) (_, c.in_ok-word-7.ensures.ok) (_, c.in_ok-hyper-3.ensures.ok) (_, c.in_ok-hyper-4.ensures.ok)) (_, c.in_ok-write_time.ensures.ok)) c.in_err-write_time-2.ensures.err)

pub returns-clause-ok : goal.returns-clause-ok
returns-clause-ok c =
    let mid = c.write_time-2.new.writer in
    let new = c.write_time-3.new.writer in
    on_ok_weaker c.write_time-3.result (λ (e : Writes time c.args.attributes.now.ctime mid new). wrote_fattr (attributes_told c.args.attributes.now) _ _ _ _ _ _ _ _ _ _ _ _ _ _ _
    c.in_ok-word.ensures.ok c.in_ok-word-2.ensures.ok c.in_ok-word-3.ensures.ok c.in_ok-word-4.ensures.ok c.in_ok-word-5.ensures.ok c.in_ok-hyper.ensures.ok c.in_ok-hyper-2.ensures.ok c.in_ok-word-6.ensures.ok c.in_ok-word-7.ensures.ok c.in_ok-hyper-3.ensures.ok c.in_ok-hyper-4.ensures.ok
    c.in_ok-write_time.ensures.ok c.in_ok-write_time-2.ensures.ok e) c.write_time-3.ensures.ok

pub returns-clause-err : goal.returns-clause-err
returns-clause-err c =
    let old = c.args.writer.now in
    let mid = c.write_time-2.new.writer in
    let new = c.write_time-3.new.writer in
    let all : Extends old mid = then_extends _ _ _ (then_extends _ _ _ (eleven_extend _ _ _ _ _ _ _ _ _ _ _ _
    (_, c.in_ok-word.ensures.ok) (_, c.in_ok-word-2.ensures.ok) (_, c.in_ok-word-3.ensures.ok) (_, c.in_ok-word-4.ensures.ok) (_, c.in_ok-word-5.ensures.ok) (_, c.in_ok-hyper.ensures.ok) (_, c.in_ok-hyper-2.ensures.ok) (_, c.in_ok-word-6.ensures.ok) (_, c.in_ok-word-7.ensures.ok) (_, c.in_ok-hyper-3.ensures.ok) (_, c.in_ok-hyper-4.ensures.ok)) (_, c.in_ok-write_time.ensures.ok)) (_, c.in_ok-write_time-2.ensures.ok) in
    on_err_weaker c.write_time-3.result (λ (e : Extends mid new). then_extends old mid new all e) c.write_time-3.ensures.err
