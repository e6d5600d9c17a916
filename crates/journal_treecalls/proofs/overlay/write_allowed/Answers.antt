use Rattle.std.proofs.Common.{◌<◌, length, sym, ◌∙◌, arith}
use Rattle.std.proofs.lemmas.Bool.{eqb-true, eqb-false}
use Rattle.journal_treecalls.proofs.Learned.{IfOk-like}
use Rattle.journal_treecalls.proofs.Writes.{allowed-none, allowed-some}
use Rattle.journal_treecalls.proofs.Learning.{none-few}
use Rattle.journal_treecalls.proofs.overlay.write_allowed.Goals as goal

pub returns-then-is_empty-clause-writes : goal.returns-then-is_empty-clause-writes
returns-then-is_empty-clause-writes g c = allowed-none _ _ c.args.caller.now c.args.data.now.offset c.args.data.now.bytes.now c.args.now c.args.number c.args.target.now c.told-same.result c.requires.first (eqb-true (length c.args.data.now.bytes.now) 0 (sym c.is_empty.ensures ∙ c.if-is_empty.true)) c.told-same.ensures

pub returns-clause-writes : goal.returns-clause-writes
returns-clause-writes g c =
    let other = eqb-false (length c.args.data.now.bytes.now) 0 (sym c.is_empty.ensures ∙ c.if-is_empty.false) in
    let some : 0 < length c.args.data.now.bytes.now = omega (arith, other) in
    IfOk-like c.write_room.result _ _ (λ reply k. allowed-some _ _ _ c.args.caller.now c.args.data.now.offset c.args.data.now.bytes.now c.args.now c.args.number c.args.target.now reply some (c.requires.fits some) k) c.write_room.ensures.writes

pub returns-then-is_empty-clause-few : goal.returns-then-is_empty-clause-few
returns-then-is_empty-clause-few g c = none-few _ _ c.requires.first
