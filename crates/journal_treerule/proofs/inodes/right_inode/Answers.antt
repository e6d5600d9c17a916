use Rattle.std.proofs.Common.{◌∙◌, ap, length}
use Rattle.std.specs.Prelude.{◌↔◌, IsTrue}
use Rattle.journal_treestore.specs.Views.{held_of}
use Rattle.journal_treeobjects.specs.Maps.{view_of}
use Rattle.journal_treerule.specs.Parts.{IsNode}
use Rattle.journal_treerule.proofs.Scanning.{at-before, seen-free, seen-used, free-fails, free-passes, used-fails, used-passes}
use Rattle.journal_treerule.proofs.inodes.right_inode.Goals as goal

pub read-requires : goal.read-requires
read-requires g c = ap length c.bytes-bytes.ensures ∙ c.in_ok-value.ensures.length

pub returns-then-not-may_be_free-clause-right : goal.returns-then-not-may_be_free-clause-right
returns-then-not-may_be_free-clause-right g c = λ trusted. free-fails (view_of c.args.cut (g.O.ObjectReader.map c.args.reader.now)) c.args.number _ c.may_be_free.result (c.in_ok-value.ensures.inode trusted ∙ seen-free c.in_ok-value.value c.bytes-bytes.result.now c.read.result _ c.bytes-bytes.ensures c.read.ensures.read c.in-Free.is) c.may_be_free.ensures c.if-not-may_be_free.true

pub returns-in-Free-clause-right : goal.returns-in-Free-clause-right
returns-in-Free-clause-right g c = λ trusted. free-passes (view_of c.args.cut (g.O.ObjectReader.map c.args.reader.now)) c.args.number _ c.may_be_free.result (c.in_ok-value.ensures.inode trusted ∙ seen-free c.in_ok-value.value c.bytes-bytes.result.now c.read.result _ c.bytes-bytes.ensures c.read.ensures.read c.in-Free.is) c.may_be_free.ensures c.if-not-may_be_free.false

pub returns-then-not-is_right-clause-right : goal.returns-then-not-is_right-clause-right
returns-then-not-is_right-clause-right g c = λ trusted.
    used-fails (view_of c.args.cut (g.O.ObjectReader.map c.args.reader.now)) c.args.number (held_of c.in-Used.head c.name_in.result.now) c.in_ok-is_right-in-Used.is_right (c.in_ok-value.ensures.inode trusted ∙ seen-used c.in_ok-value.value c.bytes-bytes.result.now c.name_in.result.now c.read.result c.in-Used.head c.bytes-bytes.ensures c.read.ensures.read c.in-Used.is c.name_in.ensures.read)
    (at-before (λ m. IsTrue c.in_ok-is_right-in-Used.is_right ↔ IsNode (view_of c.args.cut m) c.args.number (held_of c.in-Used.head c.name_in.result.now)) _ _ _ _ c.read_inode.ensures.same_map c.read_inode.ensures.same_trust c.in_ok-is_right-in-Used.ensures.right trusted)
    c.if-not-is_right.true

pub returns-clause-right : goal.returns-clause-right
returns-clause-right g c = λ trusted.
    used-passes (view_of c.args.cut (g.O.ObjectReader.map c.args.reader.now)) c.args.number (held_of c.in-Used.head c.name_in.result.now) c.in_ok-is_right-in-Used.is_right (c.in_ok-value.ensures.inode trusted ∙ seen-used c.in_ok-value.value c.bytes-bytes.result.now c.name_in.result.now c.read.result c.in-Used.head c.bytes-bytes.ensures c.read.ensures.read c.in-Used.is c.name_in.ensures.read)
    (at-before (λ m. IsTrue c.in_ok-is_right-in-Used.is_right ↔ IsNode (view_of c.args.cut m) c.args.number (held_of c.in-Used.head c.name_in.result.now)) _ _ _ _ c.read_inode.ensures.same_map c.read_inode.ensures.same_trust c.in_ok-is_right-in-Used.ensures.right trusted)
    c.if-not-is_right.false
