use Rattle.journal_twophase.proofs.Finding.{scan_bits, scan_valid, scan_below, scan_extends, scan_refused}
use Rattle.journal_twophase.proofs.locked_parts.LockedParts.copy_in.Goals as goal

pub returns-clause-bits : goal.returns-clause-bits
returns-clause-bits g c =
    scan_bits g.J.Naming.layout _ c.args.session.now c.scan-answer.new.session c.args.scan c.args.fetched.now c.scan-answer.new.into c.scan-answer.result c.scan-answer.ensures.event

pub returns-clause-valid : goal.returns-clause-valid
returns-clause-valid g c =
    scan_valid g.J.Naming.layout _ c.args.session.now c.scan-answer.new.session c.args.scan c.args.fetched.now c.scan-answer.new.into c.scan-answer.result c.scan-answer.ensures.event

pub returns-clause-below : goal.returns-clause-below
returns-clause-below g c =
    scan_below g.J.Naming.layout _ c.args.session.now c.scan-answer.new.session c.args.scan c.args.fetched.now c.scan-answer.new.into c.scan-answer.result c.scan-answer.ensures.event

pub returns-clause-session : goal.returns-clause-session
returns-clause-session g c =
    scan_extends g.J.Naming.layout _ c.args.session.now c.scan-answer.new.session c.args.scan c.args.fetched.now c.scan-answer.new.into c.scan-answer.result c.scan-answer.ensures.event

pub returns-clause-refusal : goal.returns-clause-refusal
returns-clause-refusal g c =
    scan_refused g.J.Naming.layout _ c.args.session.now c.scan-answer.new.session c.args.scan c.args.fetched.now c.scan-answer.new.into c.scan-answer.result c.scan-answer.ensures.event
