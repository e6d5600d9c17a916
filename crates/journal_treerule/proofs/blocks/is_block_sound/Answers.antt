use Rattle.std.proofs.lemmas.Bool.{false≢true}
use Rattle.journal_treerule.proofs.Scanning.{no-block-passes, behind-fails, elsewhere-fails, record-decides}
use Rattle.journal_treerule.proofs.blocks.is_block_sound.Goals as goal

pub read_owner-requires-clause-inside : goal.read_owner-requires-clause-inside
read_owner-requires-clause-inside g c = (c.is_data.ensures.0 c.if-not-is_data.false).1

pub returns-then-block-eq0-clause-sound : goal.returns-then-block-eq0-clause-sound
returns-then-block-eq0-clause-sound g c = λ trusted. no-block-passes c.args.cut (g.O.ObjectReader.map c.args.reader.now) c.args.size c.args.owner c.args.block c.requires.cut c.if-block-eq0.true

pub returns-then-not-is_inside-clause-sound : goal.returns-then-not-is_inside-clause-sound
returns-then-not-is_inside-clause-sound g c = λ trusted. behind-fails c.args.cut (g.O.ObjectReader.map c.args.reader.now) c.args.size c.args.owner c.args.block c.requires.cut c.is_inside.result c.is_inside.ensures c.if-not-is_inside.true c.if-block-eq0.false

pub returns-then-not-is_data-clause-sound : goal.returns-then-not-is_data-clause-sound
returns-then-not-is_data-clause-sound g c = λ trusted. elsewhere-fails c.args.cut (g.O.ObjectReader.map c.args.reader.now) c.args.size c.args.owner c.args.block c.requires.cut c.is_data.result c.is_data.ensures c.if-not-is_data.true c.if-block-eq0.false

pub returns-clause-sound : goal.returns-clause-sound
returns-clause-sound g c = λ trusted.
    record-decides c.args.cut (g.O.ObjectReader.map c.args.reader.now) c.args.size c.args.owner c.args.block c.requires.cut c.in_ok-found.found c.is_owner.result (c.is_inside.ensures.0 c.if-not-is_inside.false) (c.is_data.ensures.0 c.if-not-is_data.false) c.if-block-eq0.false
    (c.in_ok-found.ensures.owner trusted) c.is_owner.ensures

pub returns-then-block-eq0-clause-in_data : goal.returns-then-block-eq0-clause-in_data
returns-then-block-eq0-clause-in_data g c = λ _ some. absurd (some c.if-block-eq0.true)

pub returns-then-not-is_inside-clause-in_data : goal.returns-then-not-is_inside-clause-in_data
returns-then-not-is_inside-clause-in_data g c = λ no. absurd (false≢true no)

pub returns-then-not-is_data-clause-in_data : goal.returns-then-not-is_data-clause-in_data
returns-then-not-is_data-clause-in_data g c = λ no. absurd (false≢true no)

pub returns-clause-in_data : goal.returns-clause-in_data
returns-clause-in_data g c = λ _ _. c.is_data.ensures.0 c.if-not-is_data.false
