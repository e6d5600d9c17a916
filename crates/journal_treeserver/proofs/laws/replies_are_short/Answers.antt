use Rattle.journal_treeserver.proofs.Short.{no_reply_is_long, results_are_answers}
use Rattle.journal_treeserver.proofs.laws.replies_are_short.Goals as goal

pub returns : goal.returns
returns c =
    let bounds = c.answers_are_bounded.ensures in
    record { short = no_reply_is_long bounds.parts bounds.texts bounds.plain bounds.plus; answers = results_are_answers bounds.parts bounds.texts bounds.plain bounds.plus }
