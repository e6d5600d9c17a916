use Rattle.journal_nfs3_wire.specs.Handles.{used_handle}
use Rattle.journal_nfs3_wire.proofs.WholeLaws.{whole_is, is_whole}
use Rattle.journal_nfs3_wire.proofs.ResultLaws.{used_handle_laws}
use Rattle.journal_nfs3_wire.proofs.laws.handles_are_spellings.Goals as goal

pub returns : goal.returns
returns c = record {
  item = used_handle_laws;
  named = λ bytes h. (whole_is used_handle used_handle_laws bytes h, is_whole used_handle used_handle_laws bytes h);
}
