use Rattle.std.proofs.Common.{◌≡◌, ◌∷◌, ◌++◌, [], true, false, List, sym, ap, subst, ◌∙◌}
use Rattle.std.proofs.lemmas.Bool.{false≢true}
use Rattle.journal_block.specs.declared.update.Update.{Update}
use Rattle.journal_block.specs.Updates.{updates_block}
use Rattle.journal_tail.specs.CachedUpdates.{cached_updates}
use Rattle.journal_tail.specs.Tails.{MakeTheSame, MakesNoOther}
use Rattle.journal_tail.proofs.Kept.{home_named, put_kept, put_made, left_out}
use Rattle.journal_tail.proofs.block_cache.BlockCache.replace.Goals as goal

pub returns-then-contains-clause-replaces : goal.returns-then-contains-clause-replaces
returns-then-contains-clause-replaces c = λ there.
    let es = c.self.inside.blocks.entries in
    let here : updates_block (cached_updates es) c.args.update.block ≡ true = home_named es c.args.update.block ∙ (sym c.contains.ensures ∙ c.if-contains.true) in
    subst (λ (us : List Update). MakeTheSame (cached_updates c.put-before.new.self.entries) (us ++ c.args.update ∷ [])) c.self.view_is
    (put_made c.self.inside.blocks c.args.update.block c.args.update.bytes here c.put-before.new.self c.put-before.result c.put-before.ensures.entries c.put-before.ensures.succeeds)

pub returns-then-contains-clause-leaves : goal.returns-then-contains-clause-leaves
returns-then-contains-clause-leaves c = λ out.
    let es = c.self.inside.blocks.entries in
    let here : updates_block (cached_updates es) c.args.update.block ≡ true = home_named es c.args.update.block ∙ (sym c.contains.ensures ∙ c.if-contains.true) in
    absurd (false≢true (sym out ∙ sym (ap (λ (us : List Update). updates_block us c.args.update.block) c.self.view_is) ∙ here))

pub returns-then-contains-clause-known : goal.returns-then-contains-clause-known
returns-then-contains-clause-known c =
    subst (λ (us : List Update). MakesNoOther (us ++ c.args.update ∷ []) (cached_updates c.put-before.new.self.entries)) c.self.view_is
    (put_kept c.self.inside.blocks c.args.update.block c.args.update.bytes c.put-before.new.self c.put-before.result c.put-before.ensures.entries c.put-before.ensures.err
    c.put-before.ensures.succeeds)

pub returns-else-contains-clause-replaces : goal.returns-else-contains-clause-replaces
returns-else-contains-clause-replaces c = λ there.
    let es = c.self.inside.blocks.entries in
    let out : updates_block (cached_updates es) c.args.update.block ≡ false = home_named es c.args.update.block ∙ (sym c.contains.ensures ∙ c.if-contains.false) in
    absurd (false≢true (sym out ∙ ap (λ (us : List Update). updates_block us c.args.update.block) c.self.view_is ∙ there))

pub returns-else-contains-clause-known : goal.returns-else-contains-clause-known
returns-else-contains-clause-known c =
    let es = c.self.inside.blocks.entries in
    let out : updates_block (cached_updates es) c.args.update.block ≡ false = home_named es c.args.update.block ∙ (sym c.contains.ensures ∙ c.if-contains.false) in
    subst (λ (us : List Update). MakesNoOther (us ++ c.args.update ∷ []) us) c.self.view_is
    (left_out c.self.inside.blocks c.args.update.block c.args.update.bytes out)
