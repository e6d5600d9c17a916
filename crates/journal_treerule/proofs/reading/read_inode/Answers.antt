use Rattle.std.proofs.Common.{◌≡◌, rules, ap, ◌∙◌, length, []}
use Rattle.journal_treestore.specs.Places.{addr_of}
use Rattle.journal_treestore.specs.Places.Object.{inode_of}
use Rattle.journal_treerule.proofs.Disks.{valid-at, inode-shown, inode-has}
use Rattle.journal_treerule.proofs.reading.read_inode.Goals as goal

pub read-requires : goal.read-requires
read-requires g c =
    let at : c.inode_addr-addr.result ≡ addr_of c.args.cut (inode_of c.args.number) = search rules in
    record { valid = valid-at c.args.cut (g.O.ObjectReader.map c.args.reader.now) c.inode_addr-addr.result [] (inode_of c.args.number) c.requires.cut c.requires.layout c.requires.inside at }

pub returns-clause-inode : goal.returns-clause-inode
returns-clause-inode g c = λ trusted.
    let at : c.inode_addr-addr.result ≡ addr_of c.args.cut (inode_of c.args.number) = search rules in
    inode-shown c.args.cut (g.O.ObjectReader.map c.args.reader.now) c.inode_addr-addr.result c.in_ok-value.value c.args.number c.requires.inside at (c.in_ok-value.ensures.value trusted)

pub returns-clause-length : goal.returns-clause-length
returns-clause-length g c =
    let at : c.inode_addr-addr.result ≡ addr_of c.args.cut (inode_of c.args.number) = search rules in
    inode-has c.args.cut (g.O.ObjectReader.map c.args.reader.now) c.inode_addr-addr.result c.in_ok-value.value c.args.number c.requires.cut c.requires.layout c.requires.inside at c.in_ok-value.ensures.object
