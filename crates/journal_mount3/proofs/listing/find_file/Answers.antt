use Rattle.journal_mount3.proofs.Finding.{looked_up, root_in}
use Rattle.journal_mount3.proofs.listing.find_file.Goals as goal

pub returns-in-Ok : goal.returns-in-Ok
returns-in-Ok g c = looked_up g.V.Version.VERSION _ _ c.args.number _ _ _ root_in c.file_name-name.ensures c.in-Ok.ensures

pub returns-in-NoEntry : goal.returns-in-NoEntry
returns-in-NoEntry g c = looked_up g.V.Version.VERSION _ _ c.args.number _ _ _ root_in c.file_name-name.ensures (rw c.in-NoEntry.is at c.in-Err.ensures)

pub returns-in_default : goal.returns-in_default
returns-in_default g c = (looked_up g.V.Version.VERSION _ _ c.args.number _ _ _ root_in c.file_name-name.ensures c.in-Err.ensures, c.in_default.not-NoEntry)
