use Rattle.std.proofs.Common.{◌≡◌, ◌+◌}
use Rattle.journal_block.specs.declared.update.Update.{Update}
use Rattle.journal_memlog.specs.Logs.{with_logged}
use Rattle.journal_wal.specs.Recovery.{IsRecovered}
use Rattle.journal_wal.proofs.Opening.{recovered_on, on_ok}
use Rattle.journal_wal.proofs.open.recover_update.Goals as goal

pub returns-clause-memory : goal.returns-clause-memory
returns-clause-memory g c =
    let u : Update = record { block = c.in_ok-block.block; bytes = c.read_logged.new.into } in
    on_ok (c.push_logged.new.self ≡ with_logged c.args.memory.now u c.push_logged.new.self.room)
    (IsRecovered c.args.circ.now (c.args.position + 1) c.push_logged.new.self)
    c.push_logged.result c.push_logged.ensures.ok
    (recovered_on c.args.circ.now c.args.position c.args.memory.now c.push_logged.new.self u c.requires.recovered c.requires.from_start
    c.in_ok-block.ensures.home c.in_ok-block.ensures.update)
