use Rattle.std.proofs.Common.{refl, ◌∙◌}
use Rattle.journal_tree.specs.Contents.{written_attributes}
use Rattle.journal_treecalls.proofs.overlay.written_head.Goals as goal

pub returns : goal.returns
returns c = record {
  kind = refl;
  generation = refl;
  attributes = λ time. c.written.ensures ∙ (λ i. written_attributes c.args.caller.now (record {
    mode = c.args.head.now.attributes.mode;
    owner = c.args.head.now.attributes.owner;
    group = c.args.head.now.attributes.group;
    mtime = c.args.head.now.attributes.mtime;
    ctime = c.bounded.ensures.same time i;
    verifier = c.args.head.now.attributes.verifier;
  }) c.args.now);
  directory = refl;
  place = refl;
  size = c.max-size.ensures;
  blocks = refl;
  index = refl;
}
