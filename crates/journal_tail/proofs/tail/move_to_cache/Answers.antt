use Rattle.std.proofs.Common.{◌<◌, ◌++◌, refl, ap, ◌∙◌, arith}
use Rattle.journal_memlog.specs.Logs.{LogState, trimmed}
use Rattle.journal_memlog.specs.declared.bounds.Bounds.{Bounds}
use Rattle.journal_tail.proofs.Kept.{home_first, no_other_same}
use Rattle.journal_tail.proofs.Tailing.{trimmed_first}
use Rattle.journal_tail.proofs.tail.move_to_cache.Goals as goal

pub loop-cache-init : goal.loop-cache-init
loop-cache-init c = (c.bounds-bounds.ensures.sound, c.requires.from_start, c.requires.to_logged, refl, no_other_same (c.args.cache.now ++ c.args.memory.now.updates))

pub loop-cache-preserved : goal.loop-cache-preserved
loop-cache-preserved c =
    let log = c.loop-cache.memory in
    let lt : log.start < c.args.upto = omega (arith, c.loop-cache-test.true, ap (λ (b : Bounds). b.start) c.bounds.ensures.bounds) in (
      c.take_first.ensures.sound,
      omega (arith, lt, ap (λ (l : LogState). l.start) c.take_first.ensures.log),
      omega (arith, c.loop-cache.invariant.2, ap (λ (l : LogState). l.logged) c.take_first.ensures.log),
      ap (λ (l : LogState). trimmed l c.args.upto) c.take_first.ensures.log ∙ trimmed_first log c.args.upto lt ∙ c.loop-cache.invariant.3,
      home_first (c.args.cache.now ++ c.args.memory.now.updates) c.loop-cache.cache c.replace.new.self log.updates c.take_first.result c.take_first.new.self.updates c.loop-cache.invariant.4
          c.take_first.ensures.first c.replace.ensures.known,
    )
