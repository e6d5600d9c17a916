use Rattle.std.proofs.Common.{ℕ, ◌≡◌, ◌+◌, [], ◌∷◌, length, drop, replicate, slice_range, refl, sym, ap, subst, ◌∙◌, arith}
use Rattle.std.specs.Prelude.{unwrap_or}
use Rattle.std.specs.List.{AllByRecursion}
use Rattle.journal_inode.specs.declared.node.FileNode.{FileNode}
use Rattle.journal_inode.specs.Versions.{extra_count}
use Rattle.journal_filestore.specs.Handles.{time_of}
use Rattle.journal_filestore.specs.Operations.{is_too_big, time_after}
use Rattle.journal_filestore.specs.Doing.{WritesEach, HasBit, AreFresh, file_written}
use Rattle.journal_filestore.specs.Changes.{extra_blocks_of}
use Rattle.journal_filestore.proofs.Numbering.{first_and_rest, rest_range}
use Rattle.journal_filestore.proofs.Creations.{Makes-too_big, Makes-worn, Makes-no_space, Makes-new_taken, time_of_new}
use Rattle.journal_filestore.proofs.create.Create.make.Goals as goal

pub returns-then-is_too_big-clause-makes : goal.returns-then-is_too_big-clause-makes
returns-then-is_too_big-clause-makes g c =
    let big : is_too_big g.V.Version.VERSION c.args.settings.size ≡ c.is_too_big.result = sym (c.is_too_big.ensures ∙ ap (λ v. is_too_big v c.args.settings.size) c.VERSION.ensures) in
    Makes-too_big g.V.Version.VERSION _ c.args.settings (time_of c.args.self.now.moment) c.args.number c.args.last c.args.root c.requires.number c.requires.timed c.args.txn.now c.requires.writes
    (big ∙ c.if-is_too_big.true)

pub returns-then-last-eq4294967295-clause-makes : goal.returns-then-last-eq4294967295-clause-makes
returns-then-last-eq4294967295-clause-makes g c =
    let big : is_too_big g.V.Version.VERSION c.args.settings.size ≡ c.is_too_big.result = sym (c.is_too_big.ensures ∙ ap (λ v. is_too_big v c.args.settings.size) c.VERSION.ensures) in
    Makes-worn g.V.Version.VERSION _ c.args.settings (time_of c.args.self.now.moment) c.args.number c.args.last c.args.root c.requires.number c.requires.timed c.args.txn.now c.requires.writes
    (big ∙ c.if-is_too_big.false) c.if-last-eq4294967295.true

pub returns-then-not-branch-clause-makes : goal.returns-then-not-branch-clause-makes
returns-then-not-branch-clause-makes g c =
    let big : is_too_big g.V.Version.VERSION c.args.settings.size ≡ c.is_too_big.result = sym (c.is_too_big.ensures ∙ ap (λ v. is_too_big v c.args.settings.size) c.VERSION.ensures) in
    Makes-no_space g.V.Version.VERSION _ c.args.settings (time_of c.args.self.now.moment) c.args.number c.args.last c.args.root c.requires.number c.requires.timed c.args.txn.now c.requires.writes
    _ _ (big ∙ c.if-is_too_big.false) c.in_ok-take_blocks.ensures.told

pub returns-clause-makes : goal.returns-clause-makes
returns-clause-makes g c =
    let s = c.args.settings in
    let now = time_of c.args.self.now.moment in
    let taken = c.take_blocks.new.space.taken.items in
    let rest = drop 1 taken in
    let file : FileNode = record { generation = c.args.last + 1; size = c.unwrap_or-size.result; block = c.index.result.now; more = c.extra_blocks_of.result; mtime = c.time_after.result } in
    let big : is_too_big g.V.Version.VERSION s.size ≡ c.is_too_big.result = sym (c.is_too_big.ensures ∙ ap (λ v. is_too_big v s.size) c.VERSION.ensures) in
    let count : 1 + c.extra_count-count.result ≡ 1 + extra_count g.V.Version.VERSION (unwrap_or s.size 0) =
    ap (λ k. 1 + k) (c.extra_count-count.ensures ∙ ap (λ v. extra_count v c.unwrap_or-size.result) c.VERSION-2.ensures ∙ ap (extra_count g.V.Version.VERSION) c.unwrap_or-size.ensures) in
    let fresh : AreFresh (1 + extra_count g.V.Version.VERSION (unwrap_or s.size 0)) taken = subst (λ k. AreFresh k taken) count (c.in_ok-take_blocks.ensures.fresh c.if-not-branch.false) in
    let taken_is : taken ≡ c.index.result.now ∷ rest = first_and_rest taken c.index.result.now (omega (arith, fresh.count)) ∙ ap (λ b. b ∷ rest) (sym c.index.ensures) in
    let bits : AllByRecursion HasBit (c.index.result.now ∷ rest) = subst (AllByRecursion HasBit) taken_is fresh.bits in
    Makes-new_taken g.V.Version.VERSION _ s now c.args.number c.args.last c.args.root c.requires.number c.requires.timed c.args.txn.now c.requires.writes
    taken rest c.in_ok-zeros.zeros.items file c.found.result _ c.take_blocks.new.txn c.write_file.new.txn (big ∙ c.if-is_too_big.false) c.if-last-eq4294967295.false c.args.self.now.moment.in_second
    c.if-not-branch.false c.in_ok-take_blocks.ensures.told
    taken_is fresh
    (subst (λ xs. WritesEach g.J.Naming.layout c.take_blocks.new.txn c.write_file.new.txn (file_written c.args.number file taken taken xs)) c.deref-4.ensures.value
    (subst (λ xs. WritesEach g.J.Naming.layout c.take_blocks.new.txn c.write_file.new.txn (file_written c.args.number file taken xs c.deref-4.result.now)) c.deref-3.ensures.value
    (subst (λ xs. WritesEach g.J.Naming.layout c.take_blocks.new.txn c.write_file.new.txn (file_written c.args.number file xs c.deref-3.result.now c.deref-4.result.now)) c.deref-2.ensures.value c.in_ok-write_file.ensures.writes)))
    (c.in_ok-zeros.ensures.items_if_clones_equal (λ y same. same) ∙ ap (λ k. replicate {A = ℕ} k 0) (omega (arith, count)))
    refl c.unwrap_or-size.ensures
    (c.time_after.ensures.value ∙ ap (λ t. time_after s.size s.mtime now t) c.at.ensures ∙ time_of_new s.size s.mtime now now refl)
    (c.extra_blocks_of.ensures.numbers ∙ ap (λ xs. extra_blocks_of xs []) (ap (λ ys. slice_range ys 1 (length ys)) c.deref.ensures.value ∙ rest_range taken (length taken) refl))
    (omega (arith, c.ranges.last.fits, c.if-last-eq4294967295.false), c.unwrap_or-size.type_inv, omega (arith, bits.0.1), c.time_after.ensures.fits, omega (arith, c.extra_blocks_of.type_inv), c.extra_blocks_of.ensures.fits)
    c.found.ensures
