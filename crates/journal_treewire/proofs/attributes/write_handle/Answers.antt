use Rattle.std.proofs.lemmas.Result.{on_ok_weaker}
use Rattle.journal_treewire.specs.Profile.{handle_of}
use Rattle.journal_treewire.proofs.Written.{wrote_handle}
use Rattle.journal_treewire.proofs.attributes.write_handle.Goals as goal

pub returns : goal.returns
returns c = on_ok_weaker _ (wrote_handle (handle_of c.args.disk c.args.number c.args.generation) _ _ _ _ _ c.in_ok-word.ensures.ok c.in_ok-hyper.ensures.ok c.in_ok-word-2.ensures.ok) c.word-3.ensures.ok
