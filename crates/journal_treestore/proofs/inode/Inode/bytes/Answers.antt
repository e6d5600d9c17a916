use Rattle.std.proofs.Common.{rules, ◌≡◌, ◌<◌, ◌^◌, ◌++◌, [], length, None, sym, ap, ◌∙◌, arith}
use Rattle.journal_treestore.specs.declared.inode.Inode.TheVariants.{Free, Used}
use Rattle.journal_treestore.specs.Views.{seen}
use Rattle.journal_treestore.specs.Inodes.{front_of, rest_bytes, no_blocks, inode_bytes, inode_from, name_from, HasRoom}
use Rattle.journal_treestore.proofs.Fields.{inode_read, name_read}
use Rattle.journal_treestore.proofs.inode.Inode.bytes.Goals as goal

pub returns-in-Free-clause-shown : goal.returns-in-Free-clause-shown
returns-in-Free-clause-shown c =
    let fits : c.in-Free.generation < 2 ^ 32 = search rules in
    let written : c.whole.result ≡ inode_bytes (Free c.in-Free.generation) [] = c.whole.ensures.is ∙ ap (λ f. f ++ rest_bytes no_blocks 0 None []) (c.front.ensures ∙ ap (front_of 0 0) c.no_node.ensures) in
    ap (λ x. seen x (name_from c.whole.result)) (ap inode_from written ∙ inode_read (Free c.in-Free.generation) [] fits (omega arith))
    ∙ ap (λ x. seen x c.args.name.now) (sym c.in-Free.is)

pub returns-in-Used-clause-shown : goal.returns-in-Used-clause-shown
returns-in-Used-clause-shown c =
    let head = c.in-Used.head in
    let room : HasRoom c.in-Used.head = record {
      mode = search rules;
      generation = search rules;
      size = search rules;
      owner = search rules;
      group = search rules;
      directory = search rules;
      place = search rules;
      mtime = search rules;
      ctime = search rules;
      verifier = c.whole-in-Used.ensures.fits;
      count = search rules;
      blocks = search rules;
      index = search rules;
    } in
    let written : c.whole-in-Used.result ≡ inode_bytes (Used c.in-Used.head) c.args.name.now =
    c.whole-in-Used.ensures.is ∙ ap (λ f. f ++ rest_bytes c.in-Used.head.blocks c.in-Used.head.index c.in-Used.head.attributes.verifier c.args.name.now) (c.front-front.ensures ∙ ap (λ k. front_of k (length c.args.name.now) c.in-Used.head) c.kind_byte.ensures) in
    let inode = ap inode_from written ∙ inode_read (Used c.in-Used.head) c.args.name.now room c.requires in
    let name = ap name_from written ∙ name_read c.in-Used.head c.args.name.now room.count in
    (λ i. seen (inode i) (name i)) ∙ ap (λ x. seen x c.args.name.now) (sym c.in-Used.is)
