use Rattle.std.proofs.Common.{rules, ◌++◌, take, drop, w64, ap, sym, ◌∙◌}
use Rattle.std.specs.Prelude.{flat_map}
use Rattle.std.specs.Int.{to_le_bytes}
use Rattle.journal_inode.specs.declared.node.Node.TheVariants.{Free, Root, File}
use Rattle.journal_inode.specs.Nodes.{inode_bytes, node_of, Fits}
use Rattle.journal_inode.proofs.Fields.{node_of-bytes_of}
use Rattle.journal_inode.proofs.Splicing.{fields_more}
use Rattle.journal_inode.proofs.node.Node.bytes.Goals as goal

pub returns-in-Free-clause-read_back : goal.returns-in-Free-clause-read_back
returns-in-Free-clause-read_back c =
    let fits : Fits (Free c.in-Free.generation) = search rules in
    ap node_of c.fields.ensures ∙ node_of-bytes_of (Free c.in-Free.generation) fits ∙ sym c.in-Free.is

pub returns-in-Root-clause-read_back : goal.returns-in-Root-clause-read_back
returns-in-Root-clause-read_back c =
    let fits : Fits (Root c.in-Root.mtime) = search rules in
    ap node_of c.fields-in-Root.ensures ∙ node_of-bytes_of (Root c.in-Root.mtime) fits ∙ sym c.in-Root.is

pub returns-in-File-clause-bytes : goal.returns-in-File-clause-bytes
returns-in-File-clause-bytes c =
    c.put_more.ensures.written
    ∙ ap (λ bytes. take 32 bytes ++ flat_map (to_le_bytes w64) c.in-File.file.more ++ drop 120 bytes) c.fields-bytes.ensures
    ∙ fields_more 2 c.in-File.file.generation c.in-File.file.size c.in-File.file.block c.in-File.file.mtime c.in-File.file.more
    ∙ ap inode_bytes (sym c.in-File.is)

pub returns-in-File-clause-read_back : goal.returns-in-File-clause-read_back
returns-in-File-clause-read_back c =
    let fits : Fits (File c.in-File.file) = (search rules, search rules, search rules, (search rules, search rules), search rules, c.put_more.ensures.fits) in
    ap node_of (returns-in-File-clause-bytes c ∙ ap inode_bytes c.in-File.is) ∙ node_of-bytes_of (File c.in-File.file) fits ∙ sym c.in-File.is
