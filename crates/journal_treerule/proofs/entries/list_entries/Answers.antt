use Rattle.std.proofs.Common.{◌∙◌, ◌≡◌, ◌+◌, refl, subst, sym, arith, ap}
use Rattle.journal_treeobjects.specs.Maps.{view_of}
use Rattle.journal_treerule.specs.Directories.{IsListed}
use Rattle.journal_treerule.proofs.ListingScans.{entries-more, entries-fail}
use Rattle.journal_world.specs.Maps.{Map}
use Rattle.journal_treerule.proofs.entries.list_entries.Goals as goal

pub list_entry-requires-clause-layout : goal.list_entry-requires-clause-layout
list_entry-requires-clause-layout g c = ap (λ (m : Map). m.layout) c.loop-at.invariant.same_map ∙ c.requires.layout

pub loop-at-init : goal.loop-at-init
loop-at-init g c = record {
  same_map = refl;
  same_trust = refl;
  stays_failed = λ f. f;
  lists = λ trusted has listed. subst (λ k. IsListed (view_of c.args.cut (g.O.ObjectReader.map c.args.reader.now)) c.args.first.directory k c.args.children.now) (let q : c.args.first.place ≡ c.args.first.place + 0 = omega arith in q) listed;
  in_range = λ below. below;
}

pub returns-then-not-branch-clause-lists : goal.returns-then-not-branch-clause-lists
returns-then-not-branch-clause-lists g c = λ trusted has. entries-fail c.args.cut _ _ _ _ c.loop-at.invariant.same_map c.loop-at.invariant.same_trust _ _ _ _ _ _ _ _ _ _ c.in_ok-list_entry.ensures.lists (omega arith) c.read.ensures (omega arith) c.loop-at.invariant.lists c.if-not-branch.true trusted has

pub loop-at-preserved : goal.loop-at-preserved
loop-at-preserved g c = record {
  same_map = c.list_entry.ensures.same_map ∙ c.loop-at.invariant.same_map;
  same_trust = c.list_entry.ensures.same_trust ∙ c.loop-at.invariant.same_trust;
  stays_failed = λ f. c.list_entry.ensures.stays_failed (c.loop-at.invariant.stays_failed f);
  lists = entries-more c.args.cut _ _ _ _ c.loop-at.invariant.same_map c.loop-at.invariant.same_trust _ _ _ _ _ _ _ _ _ _ c.in_ok-list_entry.ensures.lists (omega arith) c.read.ensures (omega arith) c.loop-at.invariant.lists c.if-not-branch.false;
  in_range = λ below. c.in_ok-list_entry.ensures.in_range (c.loop-at.invariant.in_range below);
}

pub returns-clause-lists : goal.returns-clause-lists
returns-clause-lists g c = λ trusted has listed.
    subst (λ k. IsListed (view_of c.args.cut (g.O.ObjectReader.map c.args.reader.now)) c.args.first.directory (c.args.first.place + k) c.loop-at.children) (let all : c.loop-at.at ≡ 512 = omega arith in all) (c.loop-at.invariant.lists trusted has listed)
