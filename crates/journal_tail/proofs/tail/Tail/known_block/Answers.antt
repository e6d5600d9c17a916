use Rattle.std.proofs.Common.{◌≡◌, IfSome, sym, ap, subst, ◌∙◌}
use Rattle.journal_block.specs.Block.{Bytes}
use Rattle.journal_block.specs.Updates.{updated, updates_block}
use Rattle.journal_tail.specs.Tails.{TailState, known_blocks}
use Rattle.journal_tail.proofs.Kept.{home_later, home_later_value, home_before, home_before_value}
use Rattle.journal_tail.proofs.tail.Tail.known_block.Goals as goal

pub returns-in-Some-clause-found : goal.returns-in-Some-clause-found
returns-in-Some-clause-found c =
    home_later c.self.inside.cache c.self.inside.memory.updates c.args.block c.in-Some.ensures.found
    ∙ ap (λ (t : TailState). updates_block (known_blocks t) c.args.block) c.self.view_is

pub returns-in-Some-clause-content : goal.returns-in-Some-clause-content
returns-in-Some-clause-content c =
    subst (λ (t : TailState). (before : Bytes) → updated (known_blocks t) c.args.block before ≡ c.in-Some.found.now) c.self.view_is
    (home_later_value c.self.inside.cache c.self.inside.memory.updates c.args.block c.in-Some.found.now c.in-Some.ensures.content)

pub returns-in-None-clause-found : goal.returns-in-None-clause-found
returns-in-None-clause-found c =
    c.find.ensures.found
    ∙ sym (home_before c.self.inside.cache c.self.inside.memory.updates c.args.block (sym c.in-None.ensures.found))
    ∙ ap (λ (t : TailState). updates_block (known_blocks t) c.args.block) c.self.view_is

pub returns-in-None-clause-content : goal.returns-in-None-clause-content
returns-in-None-clause-content c =
    subst (λ (t : TailState). IfSome c.find.result (λ found. (before : Bytes) → updated (known_blocks t) c.args.block before ≡ found.now)) c.self.view_is
    (home_before_value c.self.inside.cache c.self.inside.memory.updates c.args.block (sym c.in-None.ensures.found) c.find.result c.find.ensures.content)
