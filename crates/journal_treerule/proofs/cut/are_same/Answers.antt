use Rattle.std.proofs.Common.{◌∷◌, refl, sym, ◌∙◌, arith}
use Rattle.std.proofs.lemmas.List.{drop_more, drop_all}
use Rattle.journal_treerule.proofs.cut.are_same.Goals as goal

pub loop-index-preserved : goal.loop-index-preserved
loop-index-preserved c = λ rest.
    let here = c.is_same_region.ensures.0 c.if-not-is_same_region.false in
    c.loop-index.invariant (drop_more c.args.regions.now c.loop-index.index _ (omega (arith, c.told-regions, c.loop-index-test.true))
    ∙ (λ i. here i ∷ rest i)
    ∙ sym (drop_more c.args.others.now c.loop-index.index _ (omega (arith, c.told-others, c.loop-index-test.true))))

pub returns : goal.returns
returns c = (
  λ _. c.loop-index.invariant (drop_all c.loop-index.index c.args.regions.now (omega (arith, c.told-regions, c.loop-index-test.false))
      ∙ sym (drop_all c.loop-index.index c.args.others.now (omega (arith, c.told-others, c.loop-index-test.false)))),
  λ _. refl,
)
