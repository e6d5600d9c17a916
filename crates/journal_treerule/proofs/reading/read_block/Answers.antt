use Rattle.std.proofs.Common.{◌≡◌, rules, ap, ◌∙◌, length, []}
use Rattle.journal_treestore.specs.Places.{addr_of}
use Rattle.journal_treestore.specs.Places.Object.{data_block}
use Rattle.journal_treerule.proofs.Disks.{valid-at, block-shown, block-has}
use Rattle.journal_treerule.proofs.reading.read_block.Goals as goal

pub read-requires : goal.read-requires
read-requires g c =
    let at : c.block_addr-addr.result ≡ addr_of c.args.cut (data_block c.args.block) = search rules in
    record { valid = valid-at c.args.cut (g.O.ObjectReader.map c.args.reader.now) c.block_addr-addr.result [] (data_block c.args.block) c.requires.cut c.requires.layout (c.requires.first, c.requires.last) at }

pub returns-clause-block : goal.returns-clause-block
returns-clause-block g c = λ trusted.
    let at : c.block_addr-addr.result ≡ addr_of c.args.cut (data_block c.args.block) = search rules in
    block-shown c.args.cut (g.O.ObjectReader.map c.args.reader.now) c.block_addr-addr.result c.in_ok-value.value c.args.block (c.requires.first, c.requires.last) at (c.in_ok-value.ensures.value trusted)

pub returns-clause-length : goal.returns-clause-length
returns-clause-length g c =
    let at : c.block_addr-addr.result ≡ addr_of c.args.cut (data_block c.args.block) = search rules in
    block-has c.args.cut (g.O.ObjectReader.map c.args.reader.now) c.block_addr-addr.result c.in_ok-value.value c.args.block c.requires.cut c.requires.layout (c.requires.first, c.requires.last) at c.in_ok-value.ensures.object
