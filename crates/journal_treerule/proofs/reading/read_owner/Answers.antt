use Rattle.std.proofs.Common.{◌≡◌, rules, ap, ◌∙◌, length, []}
use Rattle.journal_treestore.specs.Places.{addr_of}
use Rattle.journal_treestore.specs.Places.Object.{owner_of}
use Rattle.journal_treerule.proofs.Disks.{valid-at, owner-shown, owner-has}
use Rattle.journal_treerule.proofs.reading.read_owner.Goals as goal

pub read-requires : goal.read-requires
read-requires g c =
    let at : c.owner_addr-addr.result ≡ addr_of c.args.cut (owner_of c.args.block) = search rules in
    record { valid = valid-at c.args.cut (g.O.ObjectReader.map c.args.reader.now) c.owner_addr-addr.result [] (owner_of c.args.block) c.requires.cut c.requires.layout c.requires.inside at }

pub read-owner-requires : goal.read-owner-requires
read-owner-requires g c =
    let at : c.owner_addr-addr.result ≡ addr_of c.args.cut (owner_of c.args.block) = search rules in
    ap length c.bytes.ensures ∙ owner-has c.args.cut (g.O.ObjectReader.map c.args.reader.now) c.owner_addr-addr.result c.in_ok-value.value c.args.block c.requires.cut c.requires.layout c.requires.inside at c.in_ok-value.ensures.object

pub returns-clause-owner : goal.returns-clause-owner
returns-clause-owner g c = λ trusted.
    let at : c.owner_addr-addr.result ≡ addr_of c.args.cut (owner_of c.args.block) = search rules in
    owner-shown c.args.cut (g.O.ObjectReader.map c.args.reader.now) c.owner_addr-addr.result c.in_ok-value.value c.args.block c.bytes.result.now c.read-owner.result c.requires.inside at (c.in_ok-value.ensures.value trusted) c.bytes.ensures c.read-owner.ensures.read
