use Rattle.journal_twophase.proofs.journal.Journal.close.Goals as goal

pub returns-clause-left : goal.returns-clause-left
returns-clause-left g c =
    rw (← c.self.view_is)
    (record {
      front = c.in-Err.field-0.left.front;
      later = c.prove_goes_on.ensures;
      images = c.in-Err.ensures.left_images;
    })
