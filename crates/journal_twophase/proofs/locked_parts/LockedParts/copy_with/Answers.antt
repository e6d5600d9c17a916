use Rattle.std.proofs.Common.{Ok, rules}
use Rattle.journal_twophase.proofs.Finding.{scan_bits, scan_extends, scan_refused}
use Rattle.journal_twophase.proofs.locked_parts.LockedParts.copy_with.Goals as goal

pub returns-clause-bits : goal.returns-clause-bits
returns-clause-bits g c =
    scan_bits g.J.Naming.layout _ c.args.session.now c.scan.new.session c.args.scan _ c.scan.new.into (Ok c.in_ok-found.found) c.in_ok-found.ensures.event

pub returns-clause-session : goal.returns-clause-session
returns-clause-session g c =
    scan_extends g.J.Naming.layout _ c.args.session.now c.scan.new.session c.args.scan _ c.scan.new.into c.scan.result c.scan.ensures.event

pub returns-in_err-found-clause-session : goal.returns-in_err-found-clause-session
returns-in_err-found-clause-session g c =
    scan_extends g.J.Naming.layout _ c.args.session.now c.scan.new.session c.args.scan _ c.scan.new.into c.scan.result c.scan.ensures.event

pub returns-in_err-found-clause-refusal : goal.returns-in_err-found-clause-refusal
returns-in_err-found-clause-refusal g c =
    let refused = scan_refused g.J.Naming.layout _ c.args.session.now c.scan.new.session c.args.scan _ c.scan.new.into c.scan.result c.scan.ensures.event in
    search (rules, refused)
