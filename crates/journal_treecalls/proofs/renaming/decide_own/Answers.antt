use Rattle.std.proofs.Common.{Ok, Some, sym, subst}
use Rattle.journal_treecalls.specs.declared.room.NewPlace.TheVariants.{Here}
use Rattle.journal_treecalls.specs.declared.renaming.Destination.TheVariants.{Own}
use Rattle.journal_treecalls.specs.declared.renaming.Decision.TheVariants.{Goes}
use Rattle.journal_treecalls.specs.Renamings.{DecidesOwn}
use Rattle.journal_treecalls.specs.Rooms.{HasPlaceFor, IsPlaceFor}
use Rattle.journal_treecalls.proofs.Learning.{learns-as}
use Rattle.journal_treecalls.proofs.Deciding.{needs-as, block-as, place-inside, own-alone, own-full, own-before, own-second}
use Rattle.journal_treecalls.proofs.renaming.decide_own.Goals as goal

pub returns-then-not-needs_second-clause-learns : goal.returns-then-not-needs_second-clause-learns
returns-then-not-needs_second-clause-learns g c = record {
  before = λ V m. m;
  now = λ V m new_name is. own-alone V c.args.way.now c.args.hit.now (g.T.TreeDisk.are_sound c.args.disk.now V m) new_name c.requires.within (needs-as c.args.tag c.args.hit.now _ _ new_name c.needs_second.ensures c.if-not-needs_second.true is);
}

pub returns-then-is_block_for-clause-learns : goal.returns-then-is_block_for-clause-learns
returns-then-is_block_for-clause-learns g c = record {
  before = λ V m. m;
  now = λ V m new_name is. subst (λ p. DecidesOwn V c.args.way.now c.args.hit.now new_name (Ok (Goes c.args.hit.now (Own (Some (Here p))))))
      (sym c.found_place.ensures)
      (own-before V c.args.way.now c.args.hit.now (g.T.TreeDisk.are_sound c.args.disk.now V m) new_name c.requires.within (needs-as c.args.tag c.args.hit.now _ _ new_name c.needs_second.ensures c.if-not-needs_second.false is)
      (block-as c.args.tag c.args.hit.now.j _ new_name c.is_block_for.ensures c.if-is_block_for.true is));
}

pub returns-then-is_block_for-clause-inside : goal.returns-then-is_block_for-clause-inside
returns-then-is_block_for-clause-inside g c = (c.requires.inside, place-inside c.args.tag c.args.hit.now c.is_block_for.result c.found_place.result c.is_block_for.ensures c.if-is_block_for.true c.found_place.ensures c.requires.inside)

pub returns-in-None-clause-learns : goal.returns-in-None-clause-learns
returns-in-None-clause-learns g c = learns-as _ _ _ _ c.in_ok-find_place.ensures.learns (λ V m p new_name is.
    own-full V c.args.way.now c.args.hit.now (g.T.TreeDisk.are_sound c.find_place.new.disk V m) new_name c.requires.within (needs-as c.args.tag c.args.hit.now _ _ new_name c.needs_second.ensures c.if-not-needs_second.false is))

pub returns-in-Some-clause-learns : goal.returns-in-Some-clause-learns
returns-in-Some-clause-learns g c = learns-as _ _ _ _ c.in_ok-find_place.ensures.learns (λ V m p new_name is.
    own-second V c.args.way.now c.args.hit.now (g.T.TreeDisk.are_sound c.find_place.new.disk V m) new_name c.requires.within (needs-as c.args.tag c.args.hit.now _ _ new_name c.needs_second.ensures c.if-not-needs_second.false is)
    c.in-Some.place (subst (λ t. HasPlaceFor V c.args.way.now.source.inode.head t c.in-Some.place) (sym is) (subst (IsPlaceFor V c.args.way.now.source.inode.head c.args.tag) c.in-Some.is p)))
