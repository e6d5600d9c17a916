use Rattle.std.proofs.Common.{◌≡◌, rules}
use Rattle.journal_treestore.specs.Views.{held_of}
use Rattle.journal_treerule.proofs.ListingScans.{hangs-there}
use Rattle.journal_treerule.proofs.entries.hangs_at.Goals as goal

pub returns-then-entry-tag : goal.returns-then-entry-tag
returns-then-entry-tag c =
    let directory : c.args.head.now.directory ≡ c.args.at.directory = search rules in
    let tag : c.args.entry.tag ≡ c.tag_of-tag.result = search rules in
    hangs-there c.args.at c.args.entry (held_of c.args.head.now c.args.name.now) c.tag_of-tag.result c.may_stand.result c.tag_of-tag.ensures directory tag c.may_stand.ensures
