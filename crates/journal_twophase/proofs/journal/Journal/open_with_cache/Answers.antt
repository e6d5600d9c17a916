use Rattle.std.proofs.Common.{◌∙◌, ap, sym, subst, rules}
use Rattle.journal_world.specs.Addresses.{Shape}
use Rattle.journal_world.specs.Files.{files}
use Rattle.journal_parts.specs.Openings.{IsInRange, IsOpenRefusal, IsLayoutRefusal}
use Rattle.journal_parts.specs.OpenLaws.{refuses_files}
use Rattle.journal_twophase.proofs.Opening.{told_as, on_any}
use Rattle.journal_twophase.proofs.journal.Journal.open_with_cache.Goals as goal

pub open_layout-requires-clause-layout : goal.open_layout-requires-clause-layout
open_layout-requires-clause-layout g c = c.in-Some.ensures.value ∙ ap files c.size.ensures ∙ sym c.requires.layout

pub returns-clause-range : goal.returns-clause-range
returns-clause-range g c =
    let range : IsInRange (g.D.BlockDisk.state c.args.disk) = search rules in
    on_any c.open_layout.result range

pub returns-clause-refusal : goal.returns-clause-refusal
returns-clause-refusal g c =
    let old = g.D.BlockDisk.state c.args.disk in
    let rule = g.R.MapRule.statement in
    let range : IsInRange old = search rules in
    told_as (λ refused. IsLayoutRefusal rule g.J.Naming.layout old (g.D.BlockDisk.state refused.disk) refused.refusal)
    (λ refused. IsOpenRefusal rule old (g.D.BlockDisk.state refused.disk) refused.refusal) c.open_layout.result
    (λ refused is. refuses_files rule old (g.D.BlockDisk.state refused.disk) refused.refusal range
    (subst (λ (s : Shape). IsLayoutRefusal rule s old (g.D.BlockDisk.state refused.disk) refused.refusal) c.requires.layout is))
    c.open_layout.ensures.refusal
