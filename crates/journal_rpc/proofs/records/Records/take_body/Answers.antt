use Rattle.std.proofs.Common.{[], sym, ◌∙◌, refl, arith}
use Rattle.std.proofs.lemmas.List.{append-nil}
use Rattle.journal_rpc.proofs.Streams.{body_goes, body_done, has_grown, on_err, on_err_then, on_ok_then}
use Rattle.journal_rpc.proofs.records.Records.take_body.Goals as goal

pub returns-in_err-extend_from_slice-clause-err : goal.returns-in_err-extend_from_slice-clause-err
returns-in_err-extend_from_slice-clause-err c =
    on_err c.from_residual.result _ (has_grown c.args.self.now _ _ _ _ [] _ _ c.self.view_is (c.in_err-extend_from_slice.ensures.items ∙ sym (append-nil _)) refl)

pub returns-then-bytes-left-clause-ok : goal.returns-then-bytes-left-clause-ok
returns-then-bytes-left-clause-ok c =
    on_ok_then c.end_fragment.result _ c.end_fragment.ensures.ok
    (λ e. e ∙ body_done c.args.self.now _ _ _ _ _ c.args.last c.args.left c.args.bytes.now c.self.view_is c.requires.here (omega (arith, c.requires.some, c.requires.within)) c.if-bytes-left.true c.in_ok-extend_from_slice.ensures.items)

pub returns-then-bytes-left-clause-err : goal.returns-then-bytes-left-clause-err
returns-then-bytes-left-clause-err c =
    on_err_then c.end_fragment.result _ c.end_fragment.ensures.err
    (λ e. has_grown c.args.self.now _ _ _ _ c.args.bytes.now _ _ c.self.view_is c.in_ok-extend_from_slice.ensures.items e)

pub returns-clause-ok : goal.returns-clause-ok
returns-clause-ok c =
    body_goes c.args.self.now _ _ _ _ _ c.args.last c.args.left c.args.bytes.now c.self.view_is c.requires.here (omega (arith, c.requires.within, c.if-bytes-left.false)) c.in_ok-extend_from_slice.ensures.items
