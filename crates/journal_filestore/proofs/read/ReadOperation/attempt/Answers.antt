use Rattle.std.proofs.Common.{◌≡◌, ◌+◌, ◌*◌, ◌-◌, ◌/◌, nat_le, slice_range, refl, ap, subst, ◌∙◌, arith}
use Rattle.journal_world.specs.declared.layout.TheConstants.{BLOCK_BYTES}
use Rattle.journal_inode.specs.Sound.{held}
use Rattle.journal_filestore.specs.Handles.{IsTarget}
use Rattle.journal_filestore.specs.Operations.{portion_length, read_case}
use Rattle.journal_filestore.specs.Doing.{LearnsThat}
use Rattle.journal_filestore.specs.declared.find.Target.TheVariants.{Regular}
use Rattle.journal_filestore.proofs.Answering.{Does-gone, Does-directory, Does-regular, Does-changed}
use Rattle.journal_filestore.proofs.Portions.{read-portion, bytes-none, Makes-read}
use Rattle.journal_filestore.proofs.read.ReadOperation.attempt.Goals as goal

pub returns-in-Gone : goal.returns-in-Gone
returns-in-Gone g c =
    let w = c.args.self.now in
    record { does = Does-gone _ (read_case g.V.Version.VERSION w.offset w.count) w.handle.number w.handle.generation _ _ _ c.requires.writes c.in_ok-find.ensures.told _ c.in-Gone.is (λ F. refl); refusal = tt }

pub returns-in-Directory : goal.returns-in-Directory
returns-in-Directory g c =
    let w = c.args.self.now in
    record { does = Does-directory _ (read_case g.V.Version.VERSION w.offset w.count) w.handle.number w.handle.generation _ _ _ c.requires.writes c.in_ok-find.ensures.told _ _ c.in-Directory.is (λ F is. refl); refusal = tt }

pub returns-then-length-eq0 : goal.returns-then-length-eq0
returns-then-length-eq0 g c =
    let w = c.args.self.now in
    let n = c.length_read-length.result in
    let length_is : n ≡ portion_length g.V.Version.VERSION w.count (c.in-Regular.file.size - w.offset) = c.length_read-length.ensures.value ∙ ap (λ v. portion_length v w.count (c.in-Regular.file.size - w.offset)) c.VERSION.ensures in
    record {
      does = Does-regular _ (read_case g.V.Version.VERSION w.offset w.count) w.handle.number w.handle.generation _ _ _ c.requires.writes c.in_ok-find.ensures.told _ c.in-Regular.file c.in-Regular.is
          (λ m whole. read-portion g.V.Version.VERSION m w.handle.number w.offset w.count c.in-Regular.file c.new.result n whole length_is
          (ap (λ p. p.file) c.new.ensures ∙ c.attributes_of-read.ensures)
          (ap (λ p. p.bytes) c.new.ensures
          ∙ ap (λ b. slice_range b 0 0) c.new-nothing.ensures.items
          ∙ bytes-none g.V.Version.VERSION m c.in-Regular.file w.offset n c.if-length-eq0.true)
          (ap (λ p. p.is_end) c.new.ensures
          ∙ ap (nat_le c.in-Regular.file.size) (let e : w.offset ≡ w.offset + n = omega (arith, c.if-length-eq0.true) in e)));
      refusal = tt;
    }

pub returns : goal.returns
returns g c =
    let w = c.args.self.now in
    let f = c.in-Regular.file in
    let n = c.length_read-length.result in
    let first = w.offset / BLOCK_BYTES in
    let after = (w.offset + n - 1) / BLOCK_BYTES + 1 in
    let bytes = c.in_ok-blocks.blocks.items in
    let place : IsTarget g.V.Version.VERSION w.handle.number (Regular f) = subst (IsTarget g.V.Version.VERSION w.handle.number) c.in-Regular.is c.in_ok-find.ensures.fits in
    let length_is : n ≡ portion_length g.V.Version.VERSION w.count (f.size - w.offset) = c.length_read-length.ensures.value ∙ ap (λ v. portion_length v w.count (f.size - w.offset)) c.VERSION.ensures in
    let from_is : w.offset - first * BLOCK_BYTES ≡ w.offset - BLOCK_BYTES * first = omega arith in
    record {
      does = Does-changed _ (read_case g.V.Version.VERSION w.offset w.count) w.handle.number w.handle.generation _ _ _ c.requires.writes c.in_ok-find.ensures.told _ f _ _ c.in-Regular.is
          (Makes-read g.V.Version.VERSION _ w.handle.number w.offset w.count f c.new-2.result c.attributes_of-read.result n first after bytes c.find.new.txn c.read_blocks.new.txn (c.in_ok-find.ensures.told.writes ∙ c.requires.writes)
          (subst (λ xs. LearnsThat g.V.Version.VERSION g.J.Naming.layout c.find.new.txn c.read_blocks.new.txn (λ m. held m (slice_range xs first after) ≡ bytes)) c.numbers.ensures c.in_ok-blocks.ensures.told)
          length_is c.if-length-eq0.false (omega (arith, c.length_read-length.ensures.within, c.if-length-eq0.false)) place.0.4 refl refl c.attributes_of-read.ensures
          (c.new-2.ensures ∙ ap (λ k. record { file = c.attributes_of-read.result; bytes = slice_range bytes k (k + n); is_end = nat_le f.size (w.offset + n) }) from_is))
          (λ m n sound whole number here leads. leads whole);
      refusal = tt;
    }
