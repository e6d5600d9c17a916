use Rattle.std.proofs.Common.{◌≡◌, ◌≢◌, ◌∙◌, ◌<◌, List, Some, length, refl, sym, ap, subst, arith, below_more, get_or-set_other, get_or-set_same}
use Rattle.std.proofs.lemmas.Grind.{common_steps}
use Rattle.journal_world.specs.declared.layout.Region.{Region}
use Rattle.journal_world.specs.declared.layout.TheConstants.{REGIONS}
use Rattle.journal_program.specs.Labels.{HasRegions}
use Rattle.journal_program.proofs.Numbers.{same_regions}
use Rattle.journal_program.proofs.label.read_regions.Goals as goal

-- the region at the index is written, and those below it stay
pub loop-index-preserved : goal.loop-index-preserved
loop-index-preserved c =
    let many : length c.loop-index.regions ≡ REGIONS = c.loop-index.invariant.many in
    let in_range : c.loop-index.index < length c.loop-index.regions = omega arith in
    record {
      many = grind (arith, common_steps, many);
      firsts = below_more _ _
          (λ k h. let ne : k ≢ c.loop-index.index = omega arith in rw get_or-set_other (c.loop-index.invariant.firsts k h))
          (rw get_or-set_same (sym c.get_u64-first.ensures));
      kinds = below_more _ _
          (λ k h. let ne : k ≢ c.loop-index.index = omega arith in rw get_or-set_other (c.loop-index.invariant.kinds k h))
          (rw get_or-set_same (sym (((c.in_ok-kind.ensures c.in_ok-kind.kind).0 refl) ∙ c.get_u64.ensures)));
    }

-- a block tells no other regions than those that were read
pub returns : goal.returns
returns c =
    let many : length c.loop-index.regions ≡ REGIONS = c.loop-index.invariant.many in
    let own : HasRegions c.args.block.now c.loop-index.regions = record {
      many = many;
      firsts = λ k lt. c.loop-index.invariant.firsts k (omega arith);
      kinds = λ k lt. c.loop-index.invariant.kinds k (omega arith);
    } in
    λ regions. (
      λ e. let same : c.loop-index.regions ≡ regions = cc in subst (λ (xs : List Region). HasRegions c.args.block.now xs) same own,
      λ h. ap Some (same_regions c.args.block.now c.loop-index.regions regions own h),
    )
