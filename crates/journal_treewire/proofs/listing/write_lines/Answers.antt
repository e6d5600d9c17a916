use Rattle.std.proofs.Common.{◌≡◌, ◌++◌, false}
use Rattle.std.specs.Prelude.{flat_map}
use Rattle.std.proofs.lemmas.Result.{on_ok_weaker}
use Rattle.journal_xdr.specs.Items.{Writes}
use Rattle.journal_xdr.specs.Basic.{boolean}
use Rattle.journal_treewire.specs.CodeViews.{line_text}
use Rattle.journal_treewire.proofs.Written.{wrote_list}
use Rattle.journal_treewire.proofs.listing.write_lines.Goals as goal

pub returns : goal.returns
returns c =
    let each : c.write_each.new.writer ≡ c.fixed.new.self ++ (flat_map line_text c.in-Ok.lines.reply.lines.items ++ boolean.spelling false) = cc (c.deref.ensures.value, c.in_ok-write_each.ensures) in
    rw c.in-Ok.is
    (on_ok_weaker c.boolean.result
    (λ (e : Writes boolean c.in-Ok.lines.reply.is_end c.write_each.new.writer c.boolean.new.self). wrote_list c.args.disk c.in-Ok.lines _ _ _ _ _ _ (rw c.in-Ok.is at c.in_ok-write_status.ensures) c.in_ok-write_some_told.ensures
    c.in_ok-fixed.ensures.ok each e)
    c.boolean.ensures.ok)
