use Rattle.std.proofs.Common.{◌∙◌, drop, sym, ap, subst, arith, refl}
use Rattle.std.specs.Prelude.{IsTrue}
use Rattle.std.proofs.lemmas.List.{take_rest}
use Rattle.journal_world.specs.Addresses.{Shape}
use Rattle.journal_world.specs.Maps.{value_at, is_object}
use Rattle.journal_inode.proofs.Tails.{length-block}
use Rattle.journal_inode.proofs.Blocks.{block_decides, block_full}
use Rattle.journal_inode.proofs.rule.is_block_sound.Goals as goal

pub returns-then-size-clause-sound : goal.returns-then-size-clause-sound
returns-then-size-clause-sound g c = λ trusted. (
  (λ is. block_full (g.O.ObjectReader.map c.args.reader.now) c.args.block c.args.size c.requires (g.O.ObjectReader.objects c.args.reader.now)
      (omega arith, omega (arith, ap (λ (s : Shape). s.blocks) c.layout-blocks.ensures)) (omega arith)),
  (λ sound. refl),
)

pub returns-clause-sound : goal.returns-clause-sound
returns-clause-sound g c = λ trusted.
    let m = g.O.ObjectReader.map c.args.reader.now in
    block_decides m c.args.block c.args.size _ _ _
    (sym (c.in_ok-value.ensures.value trusted ∙ ap (value_at m) c.block_addr.ensures))
    (length-block m.layout c.args.block _ c.requires (omega arith) (omega (arith, ap (λ (s : Shape). s.blocks) c.layout-blocks.ensures))
    (subst (λ a. IsTrue (is_object m.layout (a, c.in_ok-value.value))) c.block_addr.ensures c.in_ok-value.ensures.object))
    (omega arith, omega (arith, ap (λ (s : Shape). s.blocks) c.layout-blocks.ensures))
    (take_rest c.bytes.result.now c.args.size ∙ ap (drop c.args.size) c.bytes.ensures) c.are_zero.ensures
