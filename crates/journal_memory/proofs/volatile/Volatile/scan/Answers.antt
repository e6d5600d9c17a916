use Rattle.journal_memory.proofs.Answering.{answers_scan}
use Rattle.journal_memory.proofs.volatile.Volatile.scan.Goals as goal

pub returns : goal.returns
returns g c =
    let it = c.copy_bits.ensures in
    record {
      event =
          answers_scan g.J.Naming.layout c.args.self.now c.args.session.now c.copy_bits.new.session c.args.scan c.args.fetched.now c.copy_bits.result c.copy_bits.new.into
          c.in_ok-check_scan.ensures.may it.bits it.lacks it.shown it.extends it.stays it.same it.refusal;
    }
