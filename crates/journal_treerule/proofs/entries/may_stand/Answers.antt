use Rattle.std.proofs.Common.{◌/◌}
use Rattle.journal_treestore.specs.Levels.{IsBlockFor}
use Rattle.journal_treerule.proofs.ListingScans.{stands-none, stands-second}
use Rattle.journal_treerule.proofs.entries.may_stand.Goals as goal

pub returns-then-not-is_home_for : goal.returns-then-not-is_home_for
returns-then-not-is_home_for c = stands-none c.args.home c.args.place _ (IsBlockFor c.args.tag (c.args.home / 512)) c.is_home_for.result c.if-home-place.false c.is_home_for.ensures c.if-not-is_home_for.true

pub returns : goal.returns
returns c = stands-second c.args.home c.args.place _ _ c.is_home_for.result c.if-home-place.false c.is_home_for.ensures c.is_home_for-2.result c.is_home_for-2.ensures c.if-not-is_home_for.false
