use Rattle.std.proofs.Common.{◌≡◌, ◌<◌, ◌≤◌, true, false, [], length, refl, sym, ap, subst, ◌∙◌, arith}
use Rattle.std.specs.Prelude.{IfSome, MatchOption, IsTrue}
use Rattle.std.proofs.lemmas.Bool.{false≢true}
use Rattle.std.proofs.lemmas.List.{length-set}
use Rattle.std.proofs.lemmas.List.Elements.{Contains-get_or}
use Rattle.journal_tree.specs.declared.limits.TheConstants.{MOST_PLACES}
use Rattle.journal_treeobjects.specs.Maps.{view_of}
use Rattle.journal_treerule.specs.Parts.{AreInodesRight}
use Rattle.journal_treerule.specs.Directories.{AreChildren, AreBelow}
use Rattle.journal_treerule.specs.Walks.{IsQueueBelow, queue_after}
use Rattle.journal_treerule.proofs.Disks.{disk-of-map}
use Rattle.journal_treerule.proofs.Scanning.{not-within}
use Rattle.journal_treerule.proofs.Meeting.{listing-none, listing-some, queue-below-one, queue-below-all, length-after-all, walk-first, walk-next}
use Rattle.journal_treerule.proofs.Reaching.{directory-sound, walk-answers}
use Rattle.journal_world.specs.Maps.{Map}
use Rattle.journal_treerule.proofs.walk.are_all_reached.Goals as goal

pub meet-requires : goal.meet-requires
meet-requires g c = let whole = c.requires.whole in let rooted = c.requires.cut.rooted in omega (arith, whole, rooted)

pub children_of-requires-clause-layout : goal.children_of-requires-clause-layout
children_of-requires-clause-layout g c = ap (λ (m : Map). m.layout) c.loop-done.invariant.same_map ∙ c.requires.layout

pub loop-done-init : goal.loop-done-init
loop-done-init g c = record {
  same_map = refl;
  same_trust = refl;
  stays_failed = λ f. f;
  long = ap length c.in_ok-meet.ensures.waiting ∙ length-set c.args.waiting.items 1 false ∙ c.requires.whole;
  below = subst (IsQueueBelow c.args.cut.numbers) (sym (c.in_ok-meet.ensures.queue ∙ ap (λ q. queue_after c.args.waiting.items q (record { number = 1; is_directory = true })) c.new.ensures.items))
      (queue-below-one c.args.cut.numbers c.args.waiting.items [] (record { number = 1; is_directory = true }) (λ n has. absurd (let low : has.0 < 0 = has.1 in omega (arith, low))) c.requires.cut.rooted);
  walked = λ trusted right in_use.
      walk-first (view_of c.args.cut (g.O.ObjectReader.map c.args.reader.now)) c.args.waiting.items _ _ (record { number = 1; is_directory = true }) (disk-of-map c.args.cut (g.O.ObjectReader.map c.args.reader.now) c.requires.cut c.requires.layout (g.O.ObjectReader.objects c.args.reader.now)) right in_use c.requires.whole refl
      c.in_ok-meet.ensures.waiting (c.in_ok-meet.ensures.queue ∙ ap (λ q. queue_after c.args.waiting.items q (record { number = 1; is_directory = true })) c.new.ensures.items);
}

pub returns-then-is_read-clause-sound : goal.returns-then-is_read-clause-sound
returns-then-is_read-clause-sound g c = λ trusted right in_use.
    walk-answers (view_of c.args.cut (g.O.ObjectReader.map c.args.reader.now)) (disk-of-map c.args.cut (g.O.ObjectReader.map c.args.reader.now) c.requires.cut c.requires.layout (g.O.ObjectReader.objects c.args.reader.now)) right _ _ c.loop-done.done (c.loop-done.invariant.walked trusted right in_use) (c.is_read.ensures.0 c.if-is_read.true) c.is_done.result c.is_done.ensures

pub directory_at-directory-requires : goal.directory_at-directory-requires
directory_at-directory-requires g c = (not-within _ c.loop-done.done c.is_read.result c.is_read.ensures c.if-is_read.false)

pub children_of-requires-clause-inside : goal.children_of-requires-clause-inside
children_of-requires-clause-inside g c = subst (λ k. k < c.args.cut.numbers) (sym c.directory_at-directory.ensures) (c.loop-done.invariant.below _ (Contains-get_or _ c.loop-done.done 0 (not-within _ c.loop-done.done c.is_read.result c.is_read.ensures c.if-is_read.false)))

pub returns-in_default-clause-sound : goal.returns-in_default-clause-sound
returns-in_default-clause-sound g c = λ trusted right in_use. (
  (λ no. absurd (false≢true no)),
  (λ sound. absurd (listing-none (λ v. v.items) c.args.cut _ _ _ _ c.loop-done.invariant.same_map c.loop-done.invariant.same_trust c.directory_at-directory.result _ c.in_ok-children.ensures.sound c.in_default.is trusted right (directory-sound (view_of c.args.cut (g.O.ObjectReader.map c.args.reader.now)) sound c.directory_at-directory.result))),
)

pub meet_all-requires : goal.meet_all-requires
meet_all-requires g c = subst (λ n. AreBelow n c.deref.result.now) (sym c.loop-done.invariant.long) (subst (AreBelow c.args.cut.numbers) (sym c.deref.ensures.value) (subst (λ o. IfSome o (λ children. AreBelow c.args.cut.numbers children.items)) c.in-Some.is c.in_ok-children.ensures.in_range))

pub loop-done-preserved : goal.loop-done-preserved
loop-done-preserved g c = record {
  same_map = c.children_of.ensures.same_map ∙ c.loop-done.invariant.same_map;
  same_trust = c.children_of.ensures.same_trust ∙ c.loop-done.invariant.same_trust;
  stays_failed = λ f. c.children_of.ensures.stays_failed (c.loop-done.invariant.stays_failed f);
  long = ap length c.in_ok-meet_all.ensures.waiting ∙ length-after-all _ c.deref.result.now ∙ c.loop-done.invariant.long;
  below = subst (IsQueueBelow c.args.cut.numbers) (sym c.in_ok-meet_all.ensures.queue) (queue-below-all c.args.cut.numbers _ _ c.deref.result.now c.loop-done.invariant.below (subst (AreBelow c.args.cut.numbers) (sym c.deref.ensures.value) (subst (λ o. IfSome o (λ children. AreBelow c.args.cut.numbers children.items)) c.in-Some.is c.in_ok-children.ensures.in_range)));
  walked = λ trusted right in_use.
      let found = listing-some (λ v. v.items) c.args.cut _ _ _ _ c.loop-done.invariant.same_map c.loop-done.invariant.same_trust c.directory_at-directory.result _ c.in_ok-children.ensures.sound _ c.in-Some.is trusted right in
      walk-next (view_of c.args.cut (g.O.ObjectReader.map c.args.reader.now)) _ _ _ _ c.loop-done.done c.directory_at-directory.result c.deref.result.now (c.loop-done.invariant.walked trusted right in_use) (not-within _ c.loop-done.done c.is_read.result c.is_read.ensures c.if-is_read.false) c.directory_at-directory.ensures
      (found.0, subst (AreChildren (view_of c.args.cut (g.O.ObjectReader.map c.args.reader.now)) c.directory_at-directory.result MOST_PLACES) (sym c.deref.ensures.value) found.1)
      c.in_ok-meet_all.ensures.waiting c.in_ok-meet_all.ensures.queue;
}

pub returns-clause-sound : goal.returns-clause-sound
returns-clause-sound g c = λ trusted right in_use.
    let w = c.loop-done.invariant.walked trusted right in_use in
    let few = w.met.few in
    walk-answers (view_of c.args.cut (g.O.ObjectReader.map c.args.reader.now)) (disk-of-map c.args.cut (g.O.ObjectReader.map c.args.reader.now) c.requires.cut c.requires.layout (g.O.ObjectReader.objects c.args.reader.now)) right _ _ c.loop-done.done w (omega (arith, few)) c.is_done-2.result c.is_done-2.ensures
