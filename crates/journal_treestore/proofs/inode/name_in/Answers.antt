use Rattle.std.proofs.Common.{◌+◌, ◌-◌, take, drop, ap, ◌∙◌, arith}
use Rattle.std.proofs.lemmas.List.{length-take}
use Rattle.journal_treestore.specs.Inodes.{name_from}
use Rattle.journal_treestore.proofs.Fields.{name_read}
use Rattle.journal_treestore.proofs.inode.name_in.Goals as goal

pub returns-clause-read : goal.returns-clause-read
unfolding name_from
returns-clause-read c = ap (λ n. take (256 + n - 256) (drop 256 c.args.bytes.now)) c.from.ensures

pub returns-clause-read_back : goal.returns-clause-read_back
returns-clause-read_back c = λ head name many few is. returns-clause-read c ∙ ap name_from is ∙ name_read head name many

pub returns-clause-few : goal.returns-clause-few
returns-clause-few c = grind (arith, length-take)
