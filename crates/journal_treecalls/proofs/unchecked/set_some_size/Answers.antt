use Rattle.std.proofs.Common.{subst}
use Rattle.journal_tree.specs.declared.settings.Settings.{Settings}
use Rattle.journal_treecalls.specs.Sizes.{IsSetHead}
use Rattle.journal_treecalls.proofs.Takeovers.{size-set}
use Rattle.journal_treecalls.proofs.unchecked.set_some_size.Goals as goal

pub returns-clause-sizes : goal.returns-clause-sizes
returns-clause-sizes g c = size-set _ _ _ c.args.caller.now c.args.hit.now c.args.name.now c.args.size c.args.now c.record_of-record.result c.set_head-head.result _ c.record_of-record.ensures
    (subst (λ (s : Settings). IsSetHead c.args.caller.now s c.args.now c.args.hit.now.head c.set_head-head.result) c.size_alone-settings.ensures c.set_head-head.ensures) c.in_ok-put_head.ensures.sets
