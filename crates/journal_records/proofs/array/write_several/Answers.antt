use Rattle.std.proofs.Common.{◌≡◌, ◌++◌, take, ap, subst, ◌∙◌, rules}
use Rattle.std.specs.List.{flat_map, AllByRecursion}
use Rattle.std.proofs.lemmas.List.{take_all}
use Rattle.journal_records.proofs.Lists.{adds_several}
use Rattle.journal_records.proofs.array.write_several.Goals as goal

pub returns : goal.returns
returns g c =
    let all : take c.loop-value.value-index c.args.values.now ≡ c.args.values.now = take_all c.loop-value.value-index c.args.values.now (search rules) in
    adds_several g.T.Element.item c.args.values.now _ _
    (c.loop-value.invariant.0 ∙ ap (λ xs. c.args.writer.now ++ flat_map g.T.Element.item.spelling xs) all)
    (subst (λ xs. AllByRecursion g.T.Element.item.Has xs) all c.loop-value.invariant.1)
