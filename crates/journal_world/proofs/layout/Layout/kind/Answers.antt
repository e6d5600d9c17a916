use Rattle.std.proofs.Common.{rules, ◌≡◌, ◌-◌, ◌∙◌, ℕ, suc, Option, length, drop, nat_le, nat_lt, cond, true, ◌&&◌, None, arith, ap, sym, subst}
use Rattle.std.proofs.lemmas.Bool.Decides.{nat_tests}
use Rattle.journal_world.specs.declared.address.Kind.{Kind}
use Rattle.journal_world.specs.declared.address.Kind.TheVariants.{Bit}
use Rattle.journal_world.specs.Addresses.{kind_among}
use Rattle.journal_world.proofs.Regions.{last_has}
use Rattle.journal_world.proofs.layout.Layout.kind.Goals as goal

pub returns-then-self-index : goal.returns-then-self-index
returns-then-self-index c =
    let regions = c.args.self.now.regions in
    let block = c.args.block in
    let all : length regions ≡ 8 = search rules in
    let next : c.loop-index.index ≡ suc (c.loop-index.index - 1) = omega (c.loop-index-test.true, arith) in
    let others = subst (λ (n : ℕ). (found : Option Kind) → kind_among (drop n regions) block found ≡ found) next c.loop-index.invariant in
    let last = last_has regions block (c.loop-index.index - 1) (record { first = 0; kind = Bit }) None
    (omega (all, c.loop-index-test.true, c.loop-index.auto.index, arith)) c.if-self-index.true others in
    let above : nat_le 513 block ≡ true = grind (arith, nat_tests, c.if-block-lt-SUPERBLOCK.false) in
    let below : nat_lt block c.args.self.now.blocks ≡ true = grind (arith, nat_tests, c.if-block-self.false) in
    sym (ap (λ b. cond (b && nat_lt block c.args.self.now.blocks) (kind_among regions block None) None) above
    ∙ ap (λ b. cond b (kind_among regions block None) None) below
    ∙ last)
