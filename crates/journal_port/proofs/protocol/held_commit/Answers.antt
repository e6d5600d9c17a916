use Rattle.std.proofs.Common.{refl}
use Rattle.journal_port.proofs.protocol.held_commit.Goals as goal

pub returns : goal.returns
returns c =
    let written = c.in_ok-write_answer.ensures.record in
    (written.0, written.1, (_, record { waits = refl; held = written.2; replaced = refl; fits = c.answers_are_spellings.ensures.unsure _ _ c.ranges.place.fits c.ranges.commits.fits; enough = refl; goes_on = refl }))
