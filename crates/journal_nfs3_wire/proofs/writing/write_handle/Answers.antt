use Rattle.std.proofs.lemmas.Result.{on_ok_weaker}
use Rattle.journal_nfs3_wire.proofs.HandleText.{wrote_handle}
use Rattle.journal_nfs3_wire.proofs.writing.write_handle.Goals as goal

pub returns-clause-ok : goal.returns-clause-ok
returns-clause-ok c = on_ok_weaker _ (wrote_handle (record { number = c.args.number; generation = c.args.generation }) _ _ _ _ _ c.in_ok-word.ensures.ok c.in_ok-word-2.ensures.ok c.in_ok-word-3.ensures.ok) c.word-4.ensures.ok
