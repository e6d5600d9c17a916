use Rattle.journal_inode.specs.Places.Object.{block}
use Rattle.journal_filestore.proofs.Fitting.{block_whole}
use Rattle.journal_filestore.proofs.Doings.{IfOk-like, Tells-object}
use Rattle.journal_filestore.proofs.objects.read_block.Goals as goal

pub returns-clause-told : goal.returns-clause-told
returns-clause-told g c =
    IfOk-like c.read.result _ _
    (λ value reads. Tells-object _ _ _ (block c.args.number) _ value c.block_addr.ensures c.requires.writes (c.requires.unread c.if-number-lt-FIRST_DATA.false) reads)
    c.read.ensures.reads

pub returns-clause-whole : goal.returns-clause-whole
returns-clause-whole g c =
    IfOk-like c.read.result _ _
    (λ value object. block_whole _ c.requires.cut c.args.number _ value c.block_addr.ensures c.if-number-lt-FIRST_DATA.false object)
    c.read.ensures.object
