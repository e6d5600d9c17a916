use Rattle.journal_twophase.proofs.Finding.{checked_valid, checked_refused}
use Rattle.journal_twophase.proofs.locked_parts.LockedParts.check_scan.Goals as goal

pub returns-clause-bits : goal.returns-clause-bits
returns-clause-bits g c = checked_valid g.J.Naming.layout _ c.args.session.now c.args.scan c.check_scan.result c.check_scan.ensures.may

pub returns-clause-refusal : goal.returns-clause-refusal
returns-clause-refusal g c = checked_refused g.J.Naming.layout _ c.args.session.now c.args.scan c.check_scan.result c.check_scan.ensures.may c.check_scan.ensures.refusal
