use Rattle.std.proofs.Common.{refl}
use Rattle.journal_treecalls.proofs.Rooming.{further-first, further-none, further-hole, hole-low}
use Rattle.journal_treecalls.proofs.room.further_block.Goals as goal

pub returns-clause-learns : goal.returns-clause-learns
returns-clause-learns g c = further-hole _ _ _ c.args.directory.now c.args.tag c.in_ok-number.number c.in_ok-numbers.numbers c.bytes.result.now c.hole_in.result
    c.in_ok-number.ensures.learns c.if-number-eq0.false c.bytes.ensures c.in_ok-numbers.ensures.learns c.hole_in.ensures

pub returns-clause-few : goal.returns-clause-few
returns-clause-few g c = hole-low c.bytes.result.now c.args.tag c.hole_in.result c.hole_in.ensures

pub returns-then-directory-eq0-clause-learns : goal.returns-then-directory-eq0-clause-learns
returns-then-directory-eq0-clause-learns g c = further-first _ c.args.directory.now c.args.tag _ refl c.if-directory-eq0.true

pub returns-then-number-eq0-clause-learns : goal.returns-then-number-eq0-clause-learns
returns-then-number-eq0-clause-learns g c = further-none _ _ c.args.directory.now c.args.tag c.in_ok-number.number c.level_block.result c.in_ok-number.ensures.learns c.if-number-eq0.true c.level_block.ensures
