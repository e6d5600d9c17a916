use Rattle.std.proofs.Common.{ℕ, ◌≤◌, ◌∙◌, ap, sym, subst}
use Rattle.journal_world.specs.declared.layout.TheConstants.{MIN_BLOCKS}
use Rattle.journal_world.specs.Addresses.{Shape}
use Rattle.journal_world.specs.Files.{files}
use Rattle.journal_inode.specs.Sound.{HasSoundFiles}
use Rattle.journal_twophase.specs.Journals.{BeginsWith}
use Rattle.journal_filestore.proofs.store.FileStore.mount_with_cache.Goals as goal

pub invariant_of-result : goal.invariant_of-result
invariant_of-result g c =
    let blocks = ap (λ (s : Shape). s.blocks) c.requires.layout in
    (c.requires.layout ∙ ap files (sym blocks), subst (λ (k : ℕ). MIN_BLOCKS ≤ k) (sym blocks) c.in_ok-journal.ensures.range.0)

pub returns-clause-begun : goal.returns-clause-begun
returns-clause-begun g c =
    subst (λ (s : Shape). BeginsWith (HasSoundFiles g.V.Version.VERSION) s (g.D.BlockDisk.state c.args.disk) c.in_ok-journal.journal.start) c.requires.layout c.in_ok-journal.ensures.begun
