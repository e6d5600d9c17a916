use Rattle.std.proofs.Common.{ℕ, ◌≡◌, ◌+◌, ◌*◌, ◌∙◌, get_or, refl, subst, arith, ap}
use Rattle.journal_treeobjects.specs.Maps.{view_of}
use Rattle.journal_treerule.specs.Directories.{IsListed, HasBlockAt, HasFirstBlocks}
use Rattle.journal_treerule.proofs.ListingScans.{blocks-listed, blocks-unsound}
use Rattle.journal_world.specs.Maps.{Map}
use Rattle.journal_treerule.proofs.directory.list_first.Goals as goal

pub list_block-requires-clause-layout : goal.list_block-requires-clause-layout
list_block-requires-clause-layout g c = ap (λ (m : Map). m.layout) c.loop-j.invariant.same_map ∙ c.requires.layout

pub loop-j-init : goal.loop-j-init
loop-j-init g c = record {
  same_map = refl;
  same_trust = refl;
  stays_failed = λ f. f;
  lists = λ trusted has listed. listed;
  in_range = λ below. below;
}

pub returns-then-not-is_sound-clause-lists : goal.returns-then-not-is_sound-clause-lists
returns-then-not-is_sound-clause-lists g c = λ trusted has. blocks-unsound (λ m. HasFirstBlocks (view_of c.args.cut m) c.args.directory c.args.blocks.now) c.args.cut _ _ _ _ c.loop-j.invariant.same_map c.loop-j.invariant.same_trust c.args.directory 0 c.loop-j.j _ _ c.args.children.now _ _ _
    c.in_ok-is_sound.ensures.lists (omega arith) (λ blocks. subst (λ p. HasBlockAt (view_of c.args.cut (g.O.ObjectReader.map c.args.reader.now)) c.args.directory p (get_or c.args.blocks.now c.loop-j.j 0)) (let q : 512 * c.loop-j.j ≡ 0 + 512 * c.loop-j.j = omega arith in q) (blocks c.loop-j.j (omega arith))) c.loop-j.invariant.lists c.if-not-is_sound.true 24576 (omega arith) trusted has

pub loop-j-preserved : goal.loop-j-preserved
loop-j-preserved g c = record {
  same_map = c.list_block.ensures.same_map ∙ c.loop-j.invariant.same_map;
  same_trust = c.list_block.ensures.same_trust ∙ c.loop-j.invariant.same_trust;
  stays_failed = λ f. c.list_block.ensures.stays_failed (c.loop-j.invariant.stays_failed f);
  lists = blocks-listed (λ m. HasFirstBlocks (view_of c.args.cut m) c.args.directory c.args.blocks.now) c.args.cut _ _ _ _ c.loop-j.invariant.same_map c.loop-j.invariant.same_trust c.args.directory 0 c.loop-j.j _ _ c.args.children.now _ _ _
      c.in_ok-is_sound.ensures.lists (omega arith) (λ blocks. subst (λ p. HasBlockAt (view_of c.args.cut (g.O.ObjectReader.map c.args.reader.now)) c.args.directory p (get_or c.args.blocks.now c.loop-j.j 0)) (let q : 512 * c.loop-j.j ≡ 0 + 512 * c.loop-j.j = omega arith in q) (blocks c.loop-j.j (omega arith))) c.loop-j.invariant.lists c.if-not-is_sound.false;
  in_range = λ below. c.in_ok-is_sound.ensures.in_range (c.loop-j.invariant.in_range below);
}

pub returns-clause-lists : goal.returns-clause-lists
returns-clause-lists g c = λ trusted has listed.
    subst (λ k. IsListed (view_of c.args.cut (g.O.ObjectReader.map c.args.reader.now)) c.args.directory k c.loop-j.children) (let all : 0 + 512 * c.loop-j.j ≡ 24576 = omega arith in all) (c.loop-j.invariant.lists trusted has listed)
