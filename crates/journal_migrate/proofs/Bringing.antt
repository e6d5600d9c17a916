-- What is left where a mount is brought to version 2, and where that is refused.
use Rattle.std.proofs.Common.{◌≡◌, inl, inr, IsTrue, [], ◌∷◌, ◌++◌, sym, ap, subst, ◌∙◌, arith}
use Rattle.journal_world.specs.Addresses.{Shape}
use Rattle.journal_world.specs.Maps.{Transaction, overwritten}
use Rattle.journal_world.specs.Histories.{opened, is_trusted, latest, count}
use Rattle.journal_world.specs.Histories.Entry.{opening, commit, stable}
use Rattle.journal_disk.specs.Disks.{DiskState, Keeps}
use Rattle.journal_inode.specs.declared.version.FormatVersion.TheVariants.{One, Two}
use Rattle.journal_inode.specs.Sound.{HasSoundFiles}
use Rattle.journal_history.specs.Tokens.{SessionState, next_transaction}
use Rattle.journal_parts.specs.CoreStates.{CoreState, disk_of}
use Rattle.journal_memory.specs.Transactions.{TransactionState}
use Rattle.journal_parts.specs.Beginnings.{Begins}
use Rattle.journal_core.specs.Commits.{IsCommitted}
use Rattle.journal_filestore.specs.Files.{Files}
use Rattle.journal_migrate.specs.Either.{HasEitherFiles}
use Rattle.journal_migrate.specs.Holding.{HasFiles, HasFilesOfEither, LeavesMaps}
use Rattle.journal_migrate.specs.Superblocks.{DraftsUpgrade}
use Rattle.journal_migrate.specs.Marking.{AddsMark}
use Rattle.journal_migrate.proofs.Leaving.{leaves_opening, leaves_either, leaves_marked}
use Rattle.journal_migrate.proofs.Drafting.{IsAtOutset, keeps_files, not_drafted}

pub Keeps-trans : (a b c : DiskState) → Keeps a b → Keeps b c → Keeps a c
Keeps-trans a b c first second = record {
  size = second.size ∙ first.size;
  honest = second.honest ∙ first.honest;
  failures = omega (arith, first.failures, second.failures);
}

module _ (layout : Shape) (disk : DiskState) (first : CoreState) (begins : Begins HasEitherFiles layout disk first) where
  -- the history is trusted where the disk is honest
  pub trusted_honest : IsTrue (is_trusted first.history) → IsTrue (disk_of first).honest
  trusted_honest trusted = subst IsTrue (ap is_trusted begins.history ∙ sym begins.keeps.honest) trusted

  same_map : (now : CoreState) → IsAtOutset first now → latest now.history ≡ opened first.history
  same_map now at = ap latest (at.history ∙ begins.history) ∙ sym (ap opened begins.history)

  still_trusted : (now : CoreState) → IsAtOutset first now → IsTrue (is_trusted first.history) → IsTrue (is_trusted now.history)
  still_trusted now at trusted = subst (λ h. IsTrue (is_trusted h)) (sym at.history) trusted

  -- before the commit
  module _ (now : CoreState) (at : IsAtOutset first now) (trusted : IsTrue (is_trusted first.history)) (files : Files) (has : HasFilesOfEither files (opened first.history)) where
    pub left_at_outset : LeavesMaps (HasFilesOfEither files) now.history
    left_at_outset = leaves_opening (HasFilesOfEither files) begins.map disk.honest now.history (at.history ∙ begins.history)
        (subst (HasFilesOfEither files) (ap opened begins.history) has)

    -- where the files are not of version 1
    pub two_at_outset : (IsTrue (is_trusted now.history) → HasSoundFiles One (latest now.history) → ⊥) → LeavesMaps (HasFiles Two files) now.history
    two_at_outset not_one = by has
      where
        by : HasFilesOfEither files (opened first.history) → LeavesMaps (HasFiles Two files) now.history
        by (inl one) = absurd (not_one (still_trusted now at trusted) (subst (HasSoundFiles One) (sym (same_map now at)) one.sound))
        by (inr two) = leaves_opening (HasFiles Two files) begins.map disk.honest now.history (at.history ∙ begins.history)
            (subst (HasFiles Two files) (ap opened begins.history) two)

  -- where the files are of version 2 nothing is committed
  pub no_commit : (now : CoreState) (t : TransactionState) → IsAtOutset first now → IsTrue (is_trusted first.history) → DraftsUpgrade now.history t
      → HasSoundFiles Two (opened first.history) → ⊥
  no_commit now t at trusted drafts two =
      not_drafted now.history t (still_trusted now at trusted) drafts (subst (HasSoundFiles Two) (sym (same_map now at)) two)

  -- after it
  module _ (old now : CoreState) (session after : SessionState) (t : TransactionState) (at : IsAtOutset first old) (drafts : DraftsUpgrade old.history t)
      (committed : IsCommitted t.reads t.writes session after old now) (trusted : IsTrue (is_trusted first.history)) (files : Files)
      (has : HasFilesOfEither files (opened first.history)) where
    abbrev made : Transaction
    made = next_transaction session t.reads t.writes

    is : now.history ≡ opening begins.map disk.honest ∷ commit made ∷ []
    is = committed.committed.added ∙ ap (λ h. h ++ commit made ∷ []) (at.history ∙ begins.history)

    upgraded : HasFiles Two files (overwritten begins.map t.writes)
    upgraded = subst (λ m. HasFiles Two files (overwritten m t.writes)) (ap latest (at.history ∙ begins.history))
        (keeps_files old.history t files (still_trusted old at trusted) drafts (subst (HasFilesOfEither files) (sym (same_map old at)) has))

    pub left_committed : (last : CoreState) → last.history ≡ now.history → LeavesMaps (HasFilesOfEither files) last.history
    left_committed last same = leaves_either (HasFilesOfEither files) begins.map disk.honest made last.history (same ∙ is)
        (subst (HasFilesOfEither files) (ap opened begins.history) has) (inr upgraded)

    pub two_marked : (last : CoreState) → AddsMark now last → LeavesMaps (HasFiles Two files) last.history
    two_marked last marked = leaves_marked (HasFiles Two files) begins.map disk.honest made last.history
        (marked ∙ ap (λ h. h ++ stable (count h) ∷ []) is) upgraded
