use Rattle.std.proofs.Common.{refl}
use Rattle.journal_xdr.specs.Basic.{word, hyper}
use Rattle.journal_treewire.specs.Handles.{disk_handle}
use Rattle.journal_treeserver.proofs.replying.root_handle.Goals as goal

pub returns : goal.returns
unfolding disk_handle hyper word
returns c = rw (c.to_be_bytes.ensures, c.to_be_bytes-2.ensures, c.to_be_bytes-3.ensures) refl
