use Rattle.std.proofs.Common.{rules, ◌≡◌, None}
use Rattle.journal_xdr.specs.Items.{ReadsItem}
use Rattle.journal_xdr.specs.Basic.{opaque}
use Rattle.journal_xdr.specs.BasicLaws.{opaque_laws}
use Rattle.journal_xdr.specs.ItemLaws.{finds, none_is_spelled}
use Rattle.journal_xdr.proofs.reader.Reader.opaque.Goals as goal

pub returns-then-length-limit-clause-grammar : goal.returns-then-length-limit-clause-grammar
unfolding opaque
returns-then-length-limit-clause-grammar c =
    let read : (opaque c.args.limit).reading c.args.self.now ≡ None = search rules in
    none_is_spelled (opaque c.args.limit) (opaque_laws c.args.limit) _ read

pub returns-clause-grammar : goal.returns-clause-grammar
unfolding opaque
returns-clause-grammar c =
    let read : ReadsItem (opaque c.args.limit) (λ bytes. bytes.now) c.args.self.now c.fixed.new.self c.fixed.result = search rules in
    finds (opaque c.args.limit) (opaque_laws c.args.limit) (λ bytes. bytes.now) _ _ _ read
