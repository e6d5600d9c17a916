-- A run by hand: a fetch, two writes in one transaction, the group that logs them, a crash, and the
-- next opening. A program that calls the steps of the core has such a run, for each step's contract
-- says that it is its event.
use Rattle.std.proofs.Common.{◌≡◌, ◌+◌, ◌*◌, ◌%◌, ℕ, Bool, true, IsTrue, inr, ap, sym, subst, List, [], ◌∷◌, Option, Some, None, Ok, refl}
use mathlib.Core.List.{IsPrefix}
use Rattle.journal_world.specs.declared.address.Addr.{Addr}
use Rattle.journal_parts.specs.declared.step.LogStep.{LogStep}
use Rattle.journal_parts.specs.declared.step.LogStep.TheVariants.{Cut, Put, Logged, Marked}
use Rattle.journal_world.specs.declared.layout.TheConstants.{BLOCK_BITS, SLOTS}
use Rattle.journal_world.specs.Addresses.{Value, slot_of, Shape}
use Rattle.journal_world.specs.Files.{files}
use Rattle.journal_world.specs.Maps.{Map, Pair, is_object}
use Rattle.journal_world.specs.Histories.{opened}
use Rattle.journal_block.specs.Block.{Bytes}
use Rattle.journal_disk.specs.Disks.{DiskState}
use Rattle.journal_history.specs.Tokens.{SessionState, next_transaction}
use Rattle.journal_memory.specs.Fetches.{FetchedState}
use Rattle.journal_parts.specs.CoreStates.{CoreState, Crashes, disk_of}
use Rattle.journal_memory.specs.Transactions.{TransactionState, begun, Overwrites}
use Rattle.journal_parts.specs.Beginnings.{Begins}
use Rattle.journal_core.specs.Interleavings.{Event, Mount, Machine, mounted, with_core, with_transaction, with_slot, with_fetched, ended, FetchesBlocks, CommitsTransaction, LogsStep, Joins, OverwritesUnderSlot, Run, holds}
use Rattle.journal_core.specs.Outcomes.{Answer, IsLeftBetween, HoldsImage, is_actor}
use Rattle.journal_core.specs.Interleavings.Event.{joins, fetches, begins, takes, overwrites, logs, crashes, opens}
use Rattle.journal_core.specs.Interleavings.Event.{commits as finishes}
use Rattle.journal_core.specs.Outcomes.Answer.{nothing, committed, marked, crashed, reopened}
use Rattle.journal_core.specs.Interleavings.Machine.{up, down}

-- two inodes of one block
abbrev pub first : Addr
first = record { block = 515; off = 0 }

abbrev pub second : Addr
second = record { block = 515; off = 1024 }

-- their slots, where there are 257
abbrev first_slot : ℕ
first_slot = slot_of (files 600) first

abbrev second_slot : ℕ
second_slot = slot_of (files 600) second

-- A step of the logger that moved, and left the history
pub record Moves (step : LogStep) (old new : CoreState) : Type 0 where
  pub did : LogsStep old step new
  pub same : new.history ≡ old.history

-- what the core and the transaction answered, step by step
pub record Steps (rule : Map → Type 0) (layout : Shape) (disk : DiskState) (image : List Bytes) (v w : Value) : Type 0 where
  pub at_first : CoreState
  pub joined : CoreState
  pub ready : CoreState
  pub at_commit : CoreState
  pub cut : CoreState
  pub block : CoreState
  pub synced : CoreState
  pub put : CoreState
  pub logged : CoreState
  pub marks : CoreState
  pub last : CoreState
  pub next : CoreState
  pub blocks : FetchedState
  pub session : SessionState
  pub after : SessionState
  pub one : TransactionState
  pub both : TransactionState
  pub begins_first : Begins rule layout disk at_first
  pub joins_one : Joins at_first session joined
  pub fetch : FetchesBlocks (opened joined.history).layout joined (531 ∷ []) blocks ready
  pub seen : IsPrefix session.seen ready.history
  pub slots : (opened ready.history).layout.slots ≡ SLOTS
  pub first_object : IsTrue (is_object (opened ready.history).layout (first, v))
  pub writes_first : Overwrites (begun session.seen) first v one
  pub second_object : IsTrue (is_object (opened ready.history).layout (second, w))
  pub writes_second : Overwrites one second w both
  pub commits_both : CommitsTransaction ready session both at_commit after
  pub cuts : Moves Cut at_commit cut
  pub puts_block : Moves Put cut block
  pub syncs_block : Moves Put block synced
  pub puts_end : Moves Put synced put
  pub syncs_end : Moves Logged put logged
  pub marks_one : LogsStep logged (Marked 1) marks
  pub crash : Crashes marks last
  pub left : IsLeftBetween (disk_of marks).past (disk_of last).past image
  pub again : DiskState
  pub holds : HoldsImage again image
  pub begins_next : Begins rule (opened marks.history).layout again next

module _ (rule : Map → Type 0) (layout : Shape) (disk : DiskState) (image : List Bytes) (v w : Value) (s : Steps rule layout disk image v w) where
  -- the mount before each event of the transaction
  abbrev before : Mount
  before = record { core = s.joined; transactions = λ actor. None; holders = λ slot. None; fetched = λ actor. [] }

  abbrev here : Mount
  here = with_fetched (with_core before s.ready) 0 s.blocks

  abbrev begun_one : Mount
  begun_one = with_transaction here 0 (Some (begun s.session.seen))

  abbrev held_first : Mount
  held_first = with_slot begun_one 0 first_slot

  abbrev wrote_first : Mount
  wrote_first = with_transaction held_first 0 (Some s.one)

  abbrev held_second : Mount
  held_second = with_slot wrote_first 0 second_slot

  abbrev wrote_second : Mount
  wrote_second = with_transaction held_second 0 (Some s.both)

  abbrev done : CoreState → Mount
  done c = ended (with_core wrote_second c) 0

  -- both slots are held when the objects are overwritten
  holds_first : holds held_first 0 first ≡ true
  holds_first = ap (λ (n : ℕ). is_actor (held_first.holders ((515 * BLOCK_BITS + 0) % n)) 0) s.slots

  holds_second : holds held_second 0 second ≡ true
  holds_second = ap (λ (n : ℕ). is_actor (held_second.holders ((515 * BLOCK_BITS + 1024) % n)) 0) s.slots

  under : (m : Mount) (p : Pair) (draft : Option TransactionState) (new : Machine) → holds m 0 p.0 ≡ true → OverwritesUnderSlot m 0 p draft true nothing new
      → OverwritesUnderSlot m 0 p draft (holds m 0 p.0) nothing new
  under m p draft new held it = subst (λ (b : Bool). OverwritesUnderSlot m 0 p draft b nothing new) (sym held) it

  -- a step of the logger between two others
  logs_on : (step : LogStep) (old new : CoreState) → Moves step old new → (events : List Event) → (answers : List Answer)
      → Run rule (up (done new)) events answers (mounted s.next) → Run rule (up (done old)) (logs ∷ events) (nothing ∷ answers) (mounted s.next)
  logs_on step old new moves events answers run = (up (done new), (Ok step, (new, moves.did, moves.same, refl)), run)

  pub is_run : Run rule (mounted s.at_first)
      (joins ∷ fetches 0 (531 ∷ []) ∷ begins 0 ∷ takes 0 first_slot ∷ overwrites 0 first v ∷ takes 0 second_slot ∷ overwrites 0 second w ∷ finishes 0
      ∷ logs ∷ logs ∷ logs ∷ logs ∷ logs ∷ logs ∷ crashes image ∷ opens ∷ [])
      (nothing ∷ nothing ∷ nothing ∷ nothing ∷ nothing ∷ nothing ∷ nothing ∷ committed (next_transaction s.session s.both.reads s.both.writes)
      ∷ nothing ∷ nothing ∷ nothing ∷ nothing ∷ nothing ∷ marked 1 ∷ crashed ∷ reopened ∷ [])
      (mounted s.next)
  is_run = (
    up before,
    (refl, (Ok s.session, (s.joined, s.joins_one, refl))),
    (
      up here,
      (refl, (Ok s.blocks, (s.ready, s.fetch, refl))),
      (
        up begun_one,
        (refl, (s.session.seen, s.seen, refl)),
        (
          up held_first,
          (refl, refl),
          (
            up wrote_first,
            under held_first (first, v) (Some (begun s.session.seen)) (up wrote_first) holds_first (refl, inr (s.first_object, (s.one, s.writes_first, refl))),
            (
              up held_second,
              (refl, refl),
              (
                up wrote_second,
                under held_second (second, w) (Some s.one) (up wrote_second) holds_second (refl, inr (s.second_object, (s.both, s.writes_second, refl))),
                (
                  up (done s.at_commit),
                  (s.session, (s.after, (s.at_commit, refl, s.commits_both, refl))),
                  logs_on Cut s.at_commit s.cut s.cuts (logs ∷ logs ∷ logs ∷ logs ∷ logs ∷ crashes image ∷ opens ∷ []) (nothing ∷ nothing ∷ nothing ∷ nothing ∷ marked 1 ∷ crashed ∷ reopened ∷ [])
                      (logs_on Put s.cut s.block s.puts_block (logs ∷ logs ∷ logs ∷ logs ∷ crashes image ∷ opens ∷ []) (nothing ∷ nothing ∷ nothing ∷ marked 1 ∷ crashed ∷ reopened ∷ [])
                      (logs_on Put s.block s.synced s.syncs_block (logs ∷ logs ∷ logs ∷ crashes image ∷ opens ∷ []) (nothing ∷ nothing ∷ marked 1 ∷ crashed ∷ reopened ∷ [])
                      (logs_on Put s.synced s.put s.puts_end (logs ∷ logs ∷ crashes image ∷ opens ∷ []) (nothing ∷ marked 1 ∷ crashed ∷ reopened ∷ [])
                      (logs_on Logged s.put s.logged s.syncs_end (logs ∷ crashes image ∷ opens ∷ []) (marked 1 ∷ crashed ∷ reopened ∷ []) (
                        up (done s.marks),
                        (s.marks, s.marks_one, refl),
                        (
                          down (opened s.marks.history).layout image,
                          (refl, (s.last, s.crash, s.left, refl)),
                          (
                            mounted s.next,
                            (s.again, s.holds, (s.next, s.begins_next, refl)),
                            refl,
                          ),
                        ),
                      ))))),
                ),
              ),
            ),
          ),
        ),
      ),
    ),
  )
