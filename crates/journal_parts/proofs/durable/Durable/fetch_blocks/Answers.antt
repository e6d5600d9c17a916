use Rattle.std.proofs.Common.{◌≡◌, ◌<◌, ℕ, IsTrue, length, get_or, length-set, sym, ap, subst, ◌∙◌, arith}
use Rattle.std.proofs.Math.Seq.{map-set_same}
use Rattle.std.proofs.lemmas.List.Elements.{All-set, AllWithin-more_set}
use Rattle.journal_world.specs.Histories.{is_trusted}
use Rattle.journal_block.specs.declared.update.Update.{Update}
use Rattle.journal_objlog.proofs.Openings.{OnlyReads-trans}
use Rattle.journal_parts.specs.Durables.{DurableState}
use Rattle.journal_memory.specs.Fetches.{IsBlockAfter}
use Rattle.journal_parts.proofs.Enduring.{crashes_reads}
use Rattle.journal_parts.proofs.durable.Durable.fetch_blocks.Goals as goal

pub returns-in_err-fetch_block-clause-crash : goal.returns-in_err-fetch_block-clause-crash
returns-in_err-fetch_block-clause-crash g c =
    crashes_reads g.J.Naming.layout _ c.args.self.now c.fetch_block.new.self c.self.invariant c.self.view_is
    (OnlyReads-trans c.args.self.now.objects c.loop-place.self.objects c.fetch_block.new.self.objects c.loop-place.invariant.1 c.fetch_block.ensures.reads)
    (c.fetch_block.ensures.others ∙ ap (λ (d : DurableState). record d { objects = c.fetch_block.new.self.objects }) c.loop-place.invariant.0)

pub loop-place-preserved : goal.loop-place-preserved
loop-place-preserved g c =
    let same : c.fetch_block.new.update.block ≡ (get_or c.loop-place.updates.items c.loop-place.place c.index_mut.result.now).block =
    c.fetch_block.ensures.block ∙ ap (λ (u : Update). u.block) c.index_mut.ensures.value in
    let after : IsTrue (is_trusted c.args.self.now.front) → IsBlockAfter g.J.Naming.layout c.args.self.now.front c.args.self.now.logged c.fetch_block.new.update =
    subst (λ (d : DurableState). IsTrue (is_trusted d.front) → IsBlockAfter g.J.Naming.layout d.front d.logged c.fetch_block.new.update) c.loop-place.invariant.0
    c.in_ok-fetch_block.ensures.after in (
      c.fetch_block.ensures.others ∙ ap (λ (d : DurableState). record d { objects = c.fetch_block.new.self.objects }) c.loop-place.invariant.0,
      OnlyReads-trans c.args.self.now.objects c.loop-place.self.objects c.fetch_block.new.self.objects c.loop-place.invariant.1 c.fetch_block.ensures.reads,
      λ fine. c.in_ok-fetch_block.ensures.fine,
      c.loop-place.invariant.3,
      length-set c.loop-place.updates.items c.loop-place.place c.fetch_block.new.update ∙ c.loop-place.invariant.4,
      map-set_same (λ (u : Update). u.block) c.loop-place.updates.items c.loop-place.place c.fetch_block.new.update c.index_mut.result.now same ∙ c.loop-place.invariant.5,
      All-set (λ (u : Update). u.block < g.J.Naming.layout.blocks) c.loop-place.updates.items c.loop-place.place c.fetch_block.new.update
          (subst (λ (b : ℕ). b < g.J.Naming.layout.blocks) (sym same) (c.loop-place.invariant.6 c.loop-place.place c.index_mut.result.now (within c))) c.loop-place.invariant.6,
      λ trusted. AllWithin-more_set c.loop-place.updates.items c.loop-place.place c.fetch_block.new.update (within c)
          (IsBlockAfter g.J.Naming.layout c.args.self.now.front c.args.self.now.logged) (c.loop-place.invariant.7 trusted) (after trusted),
    )
  where
    within : (c : goal.In_ok-fetch_block g) → c.loop-place.place < length c.loop-place.updates.items
    within c = omega (arith, c.loop-place-test.true, c.loop-place.invariant.4)

pub returns-clause-crash : goal.returns-clause-crash
returns-clause-crash g c =
    crashes_reads g.J.Naming.layout _ c.args.self.now c.loop-place.self c.self.invariant c.self.view_is c.loop-place.invariant.1 c.loop-place.invariant.0
