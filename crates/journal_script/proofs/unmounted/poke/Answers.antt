use Rattle.std.proofs.Common.{arith, ◌<◌}
use Rattle.journal_disk.specs.Laws.{settled_lost_none}
use Rattle.journal_script.proofs.Poking.{poked, reads_kept}
use Rattle.journal_script.proofs.unmounted.poke.Goals as goal

pub returns-in-Ok-clause-poked : goal.returns-in-Ok-clause-poked
returns-in-Ok-clause-poked c =
    let lt : c.args.block < c.args.disk.past.size = omega (arith, c.size.ensures, c.if-block-size.false) in (
      lt,
      poked c.args.disk.past c.overwrite.new.disk.past c.crash.result c.args.block c.args.at c.args.value.now _ lt (settled_lost_none c.args.disk.past c.requires.whole.1)
          c.in-Ok.ensures.poked c.crash.ensures.image c.crash.ensures.disk,
    )

pub returns-in-Err-clause-poked : goal.returns-in-Err-clause-poked
returns-in-Err-clause-poked c = (
  omega (arith, c.size.ensures, c.if-block-size.false),
  c.in-Err.ensures.refusal,
  reads_kept c.args.disk.past c.overwrite.new.disk.past c.crash-in-Err.result c.args.block _ c.requires.whole.1
      c.in-Err.ensures.left c.crash-in-Err.ensures.disk,
)
