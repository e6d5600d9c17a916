use Rattle.std.proofs.Common.{◌≡◌, ◌<◌, ◌≤◌, ◌∷◌, List, length, refl, sym, subst, ◌∙◌, arith}
use Rattle.std.specs.List.{All}
use Rattle.journal_tail.specs.Tails.{TailState}
use Rattle.journal_tail.specs.declared.tail.CutPoint.{CutPoint}
use Rattle.journal_tail.proofs.Comparing.{above, at_most}
use Rattle.journal_tail.proofs.Tailing.{first_cut, rises_first, rises_past}
use Rattle.journal_tail.proofs.tail.Tail.has_cut_by.Goals as goal

pub returns-in-Some-clause-yes : goal.returns-in-Some-clause-yes
returns-in-Some-clause-yes c by =
    let some : 0 < length c.self.inside.cuts.items = omega (arith, c.self.inside.cuts.ok.0, c.in-Some.ensures.variant.0 refl) in
    let first = first_cut c.self.inside.cuts.items c.in-Some.cut.now some c.in-Some.ensures.lookup in
    let rises = rises_first c.self.inside.memory.start c.self.inside.memory.cut c.self.inside.cuts.items c.in-Some.cut.now first.0 first.1 c.self.invariant.cuts in
    subst (λ (t : TailState). (d : CutPoint) × (later : List CutPoint) × (t.cuts ≡ d ∷ later) × (t.log.start ≤ d.end) × (d.end ≤ c.args.upto)) c.self.view_is
    (c.in-Some.cut.now, first.0, first.1, rises.0, at_most c.in-Some.cut.now.end c.args.upto (sym by ∙ c.le.ensures))

pub returns-in-Some-clause-no : goal.returns-in-Some-clause-no
returns-in-Some-clause-no c past =
    let some : 0 < length c.self.inside.cuts.items = omega (arith, c.self.inside.cuts.ok.0, c.in-Some.ensures.variant.0 refl) in
    let first = first_cut c.self.inside.cuts.items c.in-Some.cut.now some c.in-Some.ensures.lookup in
    subst (λ (t : TailState). All (λ d. c.args.upto < d.end) t.cuts) c.self.view_is
    (rises_past c.self.inside.memory.start c.self.inside.memory.cut c.args.upto c.self.inside.cuts.items c.in-Some.cut.now first.0 first.1 c.self.invariant.cuts
    (above c.in-Some.cut.now.end c.args.upto (sym past ∙ c.le.ensures)))
