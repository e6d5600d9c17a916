use Rattle.std.proofs.Common.{◌≡◌, [], ◌∷◌, ◌++◌, refl, arith}
use Rattle.std.proofs.lemmas.Slice.Eq.{text_from_reads}
use Rattle.journal_mount_wire.specs.Mounts.{slash_files}
use Rattle.journal_mount_wire.proofs.answering.is_exported.Goals as goal

pub returns-in-47-3 : goal.returns-in-47-3
returns-in-47-3 c =
    let same : c.args.path.now ≡ slash_files = text_from_reads c.args.path.now slash_files (omega arith) (omega arith, (omega arith, (omega arith, (omega arith, (omega arith, (omega arith, tt)))))) in
    rw same refl

pub returns-in-47-4 : goal.returns-in-47-4
returns-in-47-4 c =
    let same : c.args.path.now ≡ slash_files ++ 47 ∷ [] =
    text_from_reads c.args.path.now (slash_files ++ 47 ∷ []) (omega arith) (omega arith, (omega arith, (omega arith, (omega arith, (omega arith, (omega arith, (omega arith, tt))))))) in
    rw same refl
