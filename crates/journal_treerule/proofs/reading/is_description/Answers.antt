use Rattle.journal_treerule.proofs.Scanning.{described-decides}
use Rattle.journal_treerule.proofs.reading.is_description.Goals as goal

pub returns : goal.returns
returns c = described-decides c.args.cut c.args.block.now c.read-found.result c.description_with-wanted.result c.is_written_in.result c.requires.cut c.description_with-wanted.ensures.fits c.description_with-wanted.ensures.is c.read-found.ensures.read_back c.is_written_in.ensures
