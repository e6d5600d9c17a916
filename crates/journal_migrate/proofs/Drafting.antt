-- A mount from its beginning to the commit of its superblock.
use Rattle.std.proofs.Common.{ℕ, zero, suc, ◌≡◌, ◌≢◌, ◌⊎◌, inl, inr, ◌<◌, ◌≤◌, ◌+◌, ◌^◌, ◌==◌, ◌||◌, Bool, false, IsTrue, List, [], ◌∷◌, ◌++◌, length, slice_get, eq-eqb, refl, sym, ap, subst, ◌∙◌, arith}
use Rattle.std.proofs.lemmas.Bool.{false≢true}
use Rattle.std.proofs.lemmas.List.Elements.{All-nil, All-head}
use Rattle.journal_world.specs.declared.address.Addr.{Addr}
use Rattle.journal_world.specs.Addresses.{slot_of, is_valid, Shape}
use Rattle.journal_world.specs.Maps.{Pair, Map, Agrees, overwritten}
use Rattle.journal_world.specs.Histories.{Entry, opened, is_trusted, latest, count, floor, touched, commits_of, is_fenced}
use Rattle.journal_world.specs.Histories.Entry.{opening, commit}
use Rattle.journal_world.specs.declared.refusal.Refusal.{Refusal}
use Rattle.journal_world.specs.declared.refusal.Refusal.TheVariants.{NoMemory, BadAddress, BadSize, TooLarge, Busy, DeviceFailed, BadLog, BadSuper, Stale, Stranger, Worn, Full, Closed, Fenced}
use Rattle.journal_disk.specs.Disks.{DiskState, Keeps, HasFailed}
use Rattle.journal_memlog.specs.Logs.{next_position}
use Rattle.journal_wal.specs.Wal.{WalState, Installing, install_none, install_homes, install_start, install_sync, install_spent, log_steps, install_steps_by}
use Rattle.journal_tail.specs.Writes.{fresh_among, written_blocks}
use Rattle.journal_inode.specs.declared.version.FormatVersion.TheVariants.{Two}
use Rattle.journal_inode.specs.Places.{addr_of, object}
use Rattle.journal_inode.specs.Places.Object.{superblock}
use Rattle.journal_inode.specs.Sound.{HasSoundFiles}
use Rattle.journal_inode.proofs.Upgrading.{Sound-upgraded}
use Rattle.journal_lockmap.specs.Numbers.{HeldState, slots_of, is_held, HoldsSlots, AreApart}
use Rattle.journal_history.specs.Tokens.{SessionState, next_transaction}
use Rattle.journal_memory.specs.declared.refusal_number.RefusalNumber.TheVariants.{J9}
use Rattle.journal_memory.specs.Causes.{CauseState, IsExplained}
use Rattle.journal_memory.specs.Ledgers.{IsUnknown, IsStale, IsBehind, IsNumberRefusal}
use Rattle.journal_memory.specs.Outsets.{IsWorn, IsFull}
use Rattle.journal_parts.specs.CoreStates.{CoreState, IsRunning, OnlyReads, disk_of, is_faulted, next_of, tail_length}
use Rattle.journal_parts.specs.CoreParts.{outset}
use Rattle.journal_memory.specs.SlotCounts.{AgreeWith, IsUnder, AreUnder}
use Rattle.journal_memory.specs.Transactions.{TransactionState}
use Rattle.journal_memory.proofs.Remembering.{of_both}
use Rattle.journal_core.specs.Steps.{BeginsSession, MayRead, IsReadRefusal}
use Rattle.journal_parts.specs.Beginnings.{Begins}
use Rattle.journal_core.specs.Commits.{IsCommitted, CanCommit, IsCommitRefusal}
use Rattle.journal_filestore.specs.Files.{Files}
use Rattle.journal_migrate.specs.Either.{HasEitherFiles}
use Rattle.journal_migrate.specs.Holding.{HasFiles, HasFilesOfEither}
use Rattle.journal_migrate.specs.Superblocks.{in_version_two, DraftsUpgrade}
use Rattle.journal_migrate.specs.Marking.{upto_of, AwaitsCut, AwaitsMark, IsRunningRefusal}
use Rattle.journal_migrate.specs.Migrations.{IsUpgradeRefusal}
use Rattle.journal_migrate.proofs.FilesOfMaps.{HasFiles-upgraded}
use Rattle.journal_migrate.proofs.Upgraded.{gives_read, not_one, upgraded-overwritten}
use Rattle.journal_migrate.proofs.Small.{written-one, fresh-one, absorbed-one}

-- The maps

-- the commit keeps the rule
pub keeps_rule : (history : List Entry) (t : TransactionState) (m : Map) → DraftsUpgrade history t → HasEitherFiles m → Agrees m t.reads → HasEitherFiles (overwritten m t.writes)
keeps_rule history t m drafts sound agrees = by sound
  where
    here : object m superblock ≡ drafts.found
    here = gives_read m t.reads drafts.found drafts.reads agrees

    by : HasEitherFiles m → HasEitherFiles (overwritten m t.writes)
    by (inl one) = inr (Sound-upgraded m (overwritten m t.writes) one (upgraded-overwritten m t.writes drafts.found drafts.writes here one))
    by (inr two) = absurd (not_one m drafts.found drafts.of_version_one here two)

-- and the files, and leaves version 2
pub keeps_files : (history : List Entry) (t : TransactionState) (files : Files) → IsTrue (is_trusted history) → DraftsUpgrade history t
    → HasFilesOfEither files (latest history) → HasFiles Two files (overwritten (latest history) t.writes)
keeps_files history t files trusted drafts has = by has
  where
    m : Map
    m = latest history

    by : HasFilesOfEither files (latest history) → HasFiles Two files (overwritten (latest history) t.writes)
    by (inl one) = HasFiles-upgraded files (latest history) (overwritten (latest history) t.writes)
        (upgraded-overwritten (latest history) t.writes drafts.found drafts.writes (drafts.agrees trusted) one.sound) one
    by (inr two) = absurd (not_one (latest history) drafts.found drafts.of_version_one (drafts.agrees trusted) two.sound)

-- What it read and overwrites lies under the one slot that is held

module _ (layout : Shape) (held : List HeldState) (one : slots_of held ≡ slot_of layout (addr_of superblock) ∷ []) where
  only : (h : HeldState) × (held ≡ h ∷ []) × (h.slot ≡ slot_of layout (addr_of superblock))
  only = by held one
    where
      by : (hs : List HeldState) → slots_of hs ≡ slot_of layout (addr_of superblock) ∷ [] → (h : HeldState) × (hs ≡ h ∷ []) × (h.slot ≡ slot_of layout (addr_of superblock))
      by [] is = absurd (cc is)
      by (h ∷ []) is = (h, refl, cc is)
      by (h ∷ g ∷ hs) is = absurd (cc is)

  pub under : (history : List Entry) (t : TransactionState) → DraftsUpgrade history t → AgreeWith layout history held → AreUnder layout held t.seen t.reads
  under history t drafts agree = subst (λ h. AreUnder layout held h t.reads) (sym drafts.seen)
      (of_both (λ a. IsUnder layout held history (a, drafts.found)) (addr_of superblock) drafts.found [] t.reads drafts.reads
      (0, only.0, ap (λ hs. slice_get hs 0) only.1, only.2, at) (All-nil (IsUnder layout held history)))
    where
      at : only.0.count ≡ touched layout history (slot_of layout (addr_of superblock))
      at = All-head (λ (h : HeldState). h.count ≡ touched layout history h.slot) only.0 [] (subst (AgreeWith layout history) only.1 agree) ∙ ap (touched layout history) only.2

  pub covered : (history : List Entry) (t : TransactionState) → DraftsUpgrade history t → HoldsSlots layout held t.writes
  covered history t drafts =
      of_both (λ a. IsTrue (is_held held (slot_of layout a))) (addr_of superblock) (in_version_two drafts.found) [] t.writes drafts.writes
      (ap (λ hs. is_held hs (slot_of layout (addr_of superblock))) only.1 ∙ ap (λ (n : ℕ). (n == slot_of layout (addr_of superblock)) || false) only.2
      ∙ ap (λ b. b || false) (eq-eqb (slot_of layout (addr_of superblock)) (slot_of layout (addr_of superblock)) refl))
      (All-nil (λ (p : Pair). IsTrue (is_held held (slot_of layout p.0))))

  pub apart : AreApart held
  apart = λ i j lt_i lt_j same. omega (arith, lt_i, lt_j, ap length only.1)

-- so where the files are of version 2 already nothing is drafted
pub not_drafted : (history : List Entry) (t : TransactionState) → IsTrue (is_trusted history) → DraftsUpgrade history t → HasSoundFiles Two (latest history) → ⊥
not_drafted history t trusted drafts two = not_one (latest history) drafts.found drafts.of_version_one (drafts.agrees trusted) two

-- The core

upto-none : (i : Installing) (n : ℕ) → install_steps_by i ≡ 0 → upto_of i n ≡ n
upto-none install_none n is = refl
upto-none (install_homes upto plan) n is = absurd (omega (arith, is))
upto-none (install_start upto) n is = absurd (omega (arith, is))
upto-none (install_sync upto) n is = absurd (omega (arith, is))
upto-none install_spent n is = refl

-- A core that has made no step of its logger or installer since a mount began, and no commit
pub record IsAtOutset (first now : CoreState) : Type 0 where
  pub history : now.history ≡ first.history
  pub tail : now.objects.tail ≡ []
  pub rest : log_steps now.objects.wal ≡ 0
  pub whole : upto_of now.objects.wal.installing now.objects.wal.log.logged ≡ now.objects.wal.log.logged
  pub position : next_of now.objects ≡ next_of first.objects
  pub keeps : Keeps (disk_of first) (disk_of now)
  pub past : IsTrue (disk_of first).honest → (disk_of now).past ≡ (disk_of first).past

pub begun_at : (layout : Shape) (disk : DiskState) (first : CoreState) → Begins HasEitherFiles layout disk first → IsAtOutset first first
begun_at layout disk first begins = record {
  history = refl;
  tail = begins.tail;
  rest = begins.rest.logging;
  whole = upto-none first.objects.wal.installing first.objects.wal.log.logged begins.rest.installing;
  position = refl;
  keeps = record { size = refl; honest = refl; failures = omega arith };
  past = λ honest. refl;
}

pub at_session : (first old new : CoreState) (session : SessionState) → IsAtOutset first old → BeginsSession old session new → IsAtOutset first new
at_session first old new session at begins = subst (IsAtOutset first) (sym begins.others) (record {
  history = at.history;
  tail = at.tail;
  rest = at.rest;
  whole = at.whole;
  position = at.position;
  keeps = at.keeps;
  past = at.past;
})

pub at_read : (first old new : CoreState) → IsAtOutset first old → OnlyReads old.objects new.objects → new ≡ record old { objects = new.objects } → IsAtOutset first new
at_read first old new at reads others = record {
  history = ap (λ (c : CoreState). c.history) others ∙ at.history;
  tail = reads.tail ∙ at.tail;
  rest = ap log_steps reads.wal.same ∙ at.rest;
  whole = subst (λ (w : WalState). upto_of w.installing w.log.logged ≡ w.log.logged) (sym reads.wal.same) at.whole;
  position = ap (λ (w : WalState). next_position w.log + length new.objects.tail) reads.wal.same
      ∙ ap (λ t. next_position old.objects.wal.log + length t) reads.tail ∙ at.position;
  keeps = record {
    size = reads.wal.keeps.size ∙ at.keeps.size;
    honest = reads.wal.keeps.honest ∙ at.keeps.honest;
    failures = omega (arith, reads.wal.keeps.failures, at.keeps.failures);
  };
  past = λ honest. reads.wal.past (subst IsTrue (sym at.keeps.honest) honest) ∙ at.past honest;
}

-- so it is where the superblock is drafted
pub at_draft : (layout : Shape) (disk : DiskState) (first mid old : CoreState) (session : SessionState) (t : TransactionState) → Begins HasEitherFiles layout disk first
    → BeginsSession first session mid → OnlyReads mid.objects old.objects → old ≡ record mid { objects = old.objects } → DraftsUpgrade mid.history t
    → IsAtOutset first old × DraftsUpgrade old.history t
at_draft layout disk first mid old session t begins begun reads others drafts =
    let at = at_session first first mid session (begun_at layout disk first begins) begun in
    let later = at_read first mid old at reads others in
    (later, subst (λ h. DraftsUpgrade h t) (at.history ∙ sym later.history) drafts)

-- The history at its outset, and once the commit is added

zero_or_one : (n : ℕ) → n ≤ 1 → (n ≡ 0) ⊎ (n ≡ 1)
zero_or_one zero few = inl refl
zero_or_one (suc zero) few = inr refl
zero_or_one (suc (suc n)) few = absurd (omega (arith, few))

-- the mount's map
pub opened_is : (first : CoreState) (m : Map) (trusted : Bool) → first.history ≡ opening m trusted ∷ [] → opened first.history ≡ m
opened_is first m trusted is = ap opened is

-- the commit awaits its mark
pub awaits : (first old new : CoreState) (session after : SessionState) (t : TransactionState) (m : Map) (trusted : Bool)
    → first.history ≡ opening m trusted ∷ [] → IsAtOutset first old → DraftsUpgrade old.history t
    → IsCommitted t.reads t.writes session after old new → IsRunning new → AwaitsMark new
awaits first old new session after t m trusted begun at drafts committed running = record {
  running = running;
  one = subst (λ h. count h ≡ floor h + 1) (sym is) refl;
  short = subst (λ h. length h + 1 < 2 ^ 62) (sym is) (omega arith);
  stage = by (zero_or_one (tail_length new.objects) few);
}
  where
    is : new.history ≡ opening m trusted ∷ commit (next_transaction session t.reads t.writes) ∷ []
    is = committed.committed.added ∙ ap (λ h. h ++ commit (next_transaction session t.reads t.writes) ∷ []) (at.history ∙ begun)

    few : tail_length new.objects ≤ 1
    few = subst (λ us. length us ≤ 1) (sym committed.logs.appends)
        (absorbed-one old.objects.tail committed.logs.updates at.tail (omega (arith, committed.logs.number, written-one t.writes _ drafts.writes)))

    by : (tail_length new.objects ≡ 0) ⊎ (tail_length new.objects ≡ 1) → (tail_length new.objects ≡ 0) ⊎ AwaitsCut new
    by (inl none) = inl none
    by (inr one) = inr (record {
      one = one;
      rest = ap log_steps committed.logs.reads.same ∙ at.rest;
      whole = subst (λ (w : WalState). upto_of w.installing w.log.logged ≡ w.log.logged) (sym committed.logs.reads.same) at.whole;
    })

-- Refusals

module _ (first old new : CoreState) (keeps : Keeps (disk_of first) (disk_of old)) where
  pub failed_since : HasFailed (disk_of old) (disk_of new) → HasFailed (disk_of first) (disk_of new)
  failed_since (inl more) = inl (omega (arith, more, keeps.failures))
  failed_since (inr most) = inr most

  -- a core that runs is refused nothing else
  pub running_refused : (end : ℕ) (why : Refusal CauseState) → IsRunningRefusal old new why → IsUpgradeRefusal end (disk_of first) (disk_of new) why
  running_refused end NoMemory is = tt
  running_refused end BadAddress is = is
  running_refused end BadSize is = is
  running_refused end TooLarge is = is
  running_refused end Busy is = is
  running_refused end (DeviceFailed cause) is = (failed_since is.0, is.1)
  running_refused end BadLog is = is
  running_refused end BadSuper is = is
  running_refused end (Stale cause) is = (is.0, is.1, λ empty. omega (arith, is.2.1, ap length empty))
  running_refused end (Stranger cause) is = is
  running_refused end (Worn cause) is = absurd is
  running_refused end (Full cause) is = is
  running_refused end (Closed cause) is = is
  running_refused end Fenced is = is

-- a further session is not refused
pub no_session : (first : CoreState) (why : Refusal CauseState) → first.next ≡ 0 → IsNumberRefusal first.next why → ⊥
no_session first NoMemory none is = is
no_session first BadAddress none is = is
no_session first BadSize none is = is
no_session first TooLarge none is = is
no_session first Busy none is = is
no_session first (DeviceFailed cause) none is = is
no_session first BadLog none is = is
no_session first BadSuper none is = is
no_session first (Stale cause) none is = is
no_session first (Stranger cause) none is = is
no_session first (Worn cause) none is = omega (arith, is.0, none)
no_session first (Full cause) none is = is
no_session first (Closed cause) none is = is
no_session first Fenced none is = is

module _ (first old new : CoreState) (session : SessionState) (t : TransactionState) (m : Map) (trusted : Bool) (begun : first.history ≡ opening m trusted ∷ [])
    (at : IsAtOutset first old) (running : IsRunning old) (drafts : DraftsUpgrade old.history t) (mine : session.mine ≡ old.history) (number : session.number ≡ 0) where
  short : length old.history ≡ 1
  short = ap length (at.history ∙ begun)

  fresh : fresh_among old.objects.tail t.writes ≤ 1
  fresh = fresh-one old.objects.tail t.writes _ at.tail drafts.writes

  worn : IsWorn (outset old) session t.writes → 2 ^ 62 ≤ next_of first.objects + 1
  worn (inl long) = absurd (omega (arith, long, short))
  worn (inr (inl many)) = absurd (omega (arith, many, number))
  worn (inr (inr far)) = omega (arith, far, fresh, at.position)

  known : (cause : CauseState) → IsUnknown old.history session cause → ⊥
  known cause strange = omega (arith, strange.1, ap (λ h. length (commits_of session.number h)) mine)

  full : IsFull (outset old) t.writes → ⊥
  full over = omega (arith, over, fresh, ap length at.tail)

  longer : {cause : CauseState} → IsStale old.history cause → (front : List Entry) × IsExplained J9 front cause × (front ≢ [])
  longer is = (is.0, is.1, λ empty. omega (arith, is.2.1, ap length empty))

  large : 128 < written_blocks t.writes → ⊥
  large many = omega (arith, many, written-one t.writes _ drafts.writes)

  -- a commit is refused for want of memory, by the device, by a longer history, and where the log
  -- is at its end
  pub commit_refused : (why : Refusal CauseState) → IsCommitRefusal old session t new why → IsUpgradeRefusal (next_of first.objects) (disk_of first) (disk_of new) why
  commit_refused NoMemory is = tt
  commit_refused BadAddress is = is
  commit_refused BadSize is = is
  commit_refused TooLarge is = absurd (large is.1)
  commit_refused Busy is = is
  commit_refused (DeviceFailed cause) is = (by is.fault, is.unexplained)
    where
      by : IsTrue (is_faulted old) ⊎ (CanCommit old session t × HasFailed (disk_of old) (disk_of new)) → HasFailed (disk_of first) (disk_of new)
      by (inl before) = absurd (false≢true (sym (sym before ∙ running.1)))
      by (inr now) = failed_since first old new at.keeps now.1
  commit_refused BadLog is = is
  commit_refused BadSuper is = is
  commit_refused (Stale cause) is = longer is.1
  commit_refused (Stranger cause) is = absurd (known cause is.2)
  commit_refused (Worn cause) is = (worn is.2, is.3)
  commit_refused (Full cause) is = absurd (full is.3)
  commit_refused (Closed cause) is = absurd (false≢true (sym (sym is.closed ∙ running.0)))
  commit_refused Fenced is = absurd (false≢true (sym (ap (is_fenced session.number) (at.history ∙ begun)) ∙ is.1.fenced))

behind : (history : List Entry) (t : TransactionState) (cause : CauseState) → IsBehind history t cause → length history < length t.seen
behind history t cause is = is.1.1

-- a read of a transaction that begins now is refused by the device alone
pub read_refused : (layout : Shape) (old new : CoreState) (t : TransactionState) (a : Addr) (why : Refusal CauseState) → IsRunning old → t.seen ≡ old.history → IsTrue (is_valid layout a)
    → IsReadRefusal layout old t a new why → IsRunningRefusal old new why
read_refused layout old new t a NoMemory running seen valid is = tt
read_refused layout old new t a BadAddress running seen valid is = absurd (false≢true (sym (sym valid ∙ is.1)))
read_refused layout old new t a BadSize running seen valid is = is
read_refused layout old new t a TooLarge running seen valid is = is
read_refused layout old new t a Busy running seen valid is = is
read_refused layout old new t a (DeviceFailed cause) running seen valid is = (by is.fault, is.unexplained)
  where
    by : IsTrue (is_faulted old) ⊎ (MayRead layout old t a × HasFailed (disk_of old) (disk_of new)) → HasFailed (disk_of old) (disk_of new)
    by (inl before) = absurd (false≢true (sym (sym before ∙ running.1)))
    by (inr now) = now.1
read_refused layout old new t a BadLog running seen valid is = is
read_refused layout old new t a BadSuper running seen valid is = is
read_refused layout old new t a (Stale cause) running seen valid is = absurd (omega (arith, behind old.history t cause is.2, ap length seen))
read_refused layout old new t a (Stranger cause) running seen valid is = is
read_refused layout old new t a (Worn cause) running seen valid is = is
read_refused layout old new t a (Full cause) running seen valid is = is
read_refused layout old new t a (Closed cause) running seen valid is = absurd (false≢true (sym (sym is.closed ∙ running.0)))
read_refused layout old new t a Fenced running seen valid is = is
