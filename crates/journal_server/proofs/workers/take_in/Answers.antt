use Rattle.crossbeam_channel.specs.Claims.{view}
use Rattle.journal_server.proofs.Steps.{took_in}
use Rattle.journal_server.proofs.workers.take_in.Goals as goal

pub returns-clause-taken : goal.returns-clause-taken
returns-clause-taken g c same =
    took_in _ (view c.args.pass.now) (view c.args.work.pass) (view c.absorb.new.pass) c.args.notes.now.items c.args.work.notes.items _
    c.absorb.ensures.both (c.requires.2.3 c.if-not-is_whole.false) c.in_ok-append.ensures.items same
