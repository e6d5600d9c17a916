use Rattle.std.proofs.Common.{refl}
use Rattle.journal_tree.specs.Attributes.{set_attributes}
use Rattle.std.proofs.Common.{◌∙◌}
use Rattle.journal_treecalls.proofs.setting.set_head.Goals as goal

pub returns : goal.returns
returns c = record {
  kind = refl;
  generation = refl;
  attributes = λ time. c.set.ensures ∙ (λ i. set_attributes c.args.caller.now c.args.settings.now c.args.head.now.kind (record {
    mode = c.args.head.now.attributes.mode;
    owner = c.args.head.now.attributes.owner;
    group = c.args.head.now.attributes.group;
    mtime = c.args.head.now.attributes.mtime;
    ctime = c.bounded.ensures.same time i;
    verifier = c.args.head.now.attributes.verifier;
  }) c.args.now);
  directory = refl;
  place = refl;
  size = c.unwrap_or-size.ensures;
  blocks = c.cut_at.ensures;
  index = c.cut_one.ensures;
}
