use Rattle.std.proofs.Common.{◌≡◌, ◌+◌, ◌*◌, ◌∙◌, refl, sym, subst, arith, ap}
use Rattle.journal_treeobjects.specs.Maps.{view_of}
use Rattle.journal_treerule.specs.Directories.{IsListed, HasBlockAt, HasLevelsIn}
use Rattle.journal_treerule.proofs.ListingScans.{blocks-listed, blocks-unsound}
use Rattle.journal_world.specs.Maps.{Map}
use Rattle.journal_treerule.proofs.directory.list_numbered.Goals as goal

pub list_block-requires-clause-layout : goal.list_block-requires-clause-layout
list_block-requires-clause-layout g c = ap (λ (m : Map). m.layout) c.loop-k.invariant.same_map ∙ c.requires.layout

pub loop-k-init : goal.loop-k-init
loop-k-init g c = record {
  same_map = refl;
  same_trust = refl;
  stays_failed = λ f. f;
  lists = λ trusted has listed. subst (λ k. IsListed (view_of c.args.cut (g.O.ObjectReader.map c.args.reader.now)) c.args.directory k c.args.children.now) (let q : 24576 ≡ 24576 + 512 * 0 = omega arith in q) listed;
  in_range = λ below. below;
}

pub returns-then-not-is_sound-clause-lists : goal.returns-then-not-is_sound-clause-lists
returns-then-not-is_sound-clause-lists g c = λ trusted has. blocks-unsound (λ m. HasLevelsIn (view_of c.args.cut m) c.args.directory c.args.numbers.now) c.args.cut _ _ _ _ c.loop-k.invariant.same_map c.loop-k.invariant.same_trust c.args.directory 24576 c.loop-k.k _ _ c.args.children.now _ _ _
    c.in_ok-is_sound.ensures.lists (omega arith) (λ blocks. subst (HasBlockAt (view_of c.args.cut (g.O.ObjectReader.map c.args.reader.now)) c.args.directory (24576 + 512 * c.loop-k.k)) (sym c.number_at-block.ensures) (blocks c.loop-k.k (omega arith))) c.loop-k.invariant.lists c.if-not-is_sound.true 198656 (omega arith) trusted has

pub loop-k-preserved : goal.loop-k-preserved
loop-k-preserved g c = record {
  same_map = c.list_block.ensures.same_map ∙ c.loop-k.invariant.same_map;
  same_trust = c.list_block.ensures.same_trust ∙ c.loop-k.invariant.same_trust;
  stays_failed = λ f. c.list_block.ensures.stays_failed (c.loop-k.invariant.stays_failed f);
  lists = blocks-listed (λ m. HasLevelsIn (view_of c.args.cut m) c.args.directory c.args.numbers.now) c.args.cut _ _ _ _ c.loop-k.invariant.same_map c.loop-k.invariant.same_trust c.args.directory 24576 c.loop-k.k _ _ c.args.children.now _ _ _
      c.in_ok-is_sound.ensures.lists (omega arith) (λ blocks. subst (HasBlockAt (view_of c.args.cut (g.O.ObjectReader.map c.args.reader.now)) c.args.directory (24576 + 512 * c.loop-k.k)) (sym c.number_at-block.ensures) (blocks c.loop-k.k (omega arith))) c.loop-k.invariant.lists c.if-not-is_sound.false;
  in_range = λ below. c.in_ok-is_sound.ensures.in_range (c.loop-k.invariant.in_range below);
}

pub returns-clause-lists : goal.returns-clause-lists
returns-clause-lists g c = λ trusted has listed.
    subst (λ k. IsListed (view_of c.args.cut (g.O.ObjectReader.map c.args.reader.now)) c.args.directory k c.loop-k.children) (let all : 24576 + 512 * c.loop-k.k ≡ 198656 = omega arith in all) (c.loop-k.invariant.lists trusted has listed)
