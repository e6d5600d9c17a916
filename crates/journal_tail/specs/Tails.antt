-- A tail as contracts see it: the updates in memory, and the cuts whose updates are still there.
use Rattle.std.specs.Prelude.{ℕ, ◌≡◌, ◌⊎◌, ◌<◌, ◌≤◌, ◌+◌, ◌-◌, ◌^◌, true, List, [], ◌∷◌, ◌++◌, length, drop}
use Rattle.journal_world.specs.declared.refusal.Refusal.{Refusal}
use Rattle.journal_world.specs.declared.refusal.Refusal.TheVariants.{TooLarge, Worn, Full}
use Rattle.journal_block.specs.declared.update.Update.{Update}
use Rattle.journal_block.specs.Block.{Bytes}
use Rattle.journal_block.specs.Updates.{updated, updates_block}
use Rattle.journal_memlog.specs.Logs.{LogState, IsMemLog, next_position, tail_of, absorbed, fresh_count, empty_log, trimmed, CanTake}
use Rattle.journal_tail.specs.Homes.{AreHomes}
use Rattle.journal_tail.specs.declared.limits.TheConstants.{MAX_TAIL, MAX_UPDATES}
use Rattle.journal_tail.specs.declared.tail.CutPoint.{CutPoint}

pub record TailState : Type 0 where
  -- the updates in memory
  pub log : LogState
  -- how many commits there were at the last cut whose updates were dropped; all that later commits
  -- wrote is in memory
  pub trimmed : ℕ
  -- the later cuts, the oldest first
  pub cuts : List CutPoint
  -- copies of blocks that are at home, but for the updates in memory
  pub cache : List Update

-- the cuts from the last one whose updates were dropped
abbrev pub cut_points : TailState → List CutPoint
cut_points t = record { end = t.log.start; commits = t.trimmed } ∷ t.cuts

-- memory's knowledge of blocks: their copies, and then the updates
abbrev pub known_blocks : TailState → List Update
known_blocks t = t.cache ++ t.log.updates

-- the updates from a position on
abbrev pub updates_from : LogState → ℕ → List Update
updates_from log from = drop (from - log.start) log.updates

-- Two lists of updates are of the same blocks, and make the same of each
pub record MakeTheSame (us vs : List Update) : Type 0 where
  pub blocks : (b : ℕ) → updates_block us b ≡ updates_block vs b
  pub content : (b : ℕ) (before : Bytes) → updated us b before ≡ updated vs b before

-- Of each block that the later updates are of, the earlier ones make the same
pub record MakesNoOther (earlier later : List Update) : Type 0 where
  pub blocks : (b : ℕ) → updates_block later b ≡ true → updates_block earlier b ≡ true
  pub content : (b : ℕ) (before : Bytes) → updates_block later b ≡ true → updated later b before ≡ updated earlier b before

-- The ends of the cuts never fall from one position to another, which is the last
abbrev pub RisesTo : ℕ → ℕ → List CutPoint → Type 0
RisesTo from to [] = from ≡ to
RisesTo from to (c ∷ cuts) = (from ≤ c.end) × RisesTo c.end to cuts

-- The invariant of every tail
pub record IsTail (t : TailState) : Type 0 where
  pub log : IsMemLog t.log
  pub few : length (tail_of t.log) ≤ MAX_TAIL
  pub homes : AreHomes t.log.blocks t.log.updates
  -- the number of positions that the disk has logged is not known here
  pub logged : t.log.logged ≡ t.log.start
  pub cuts : RisesTo t.log.start t.log.cut t.cuts

-- The tail after each call

-- one of a disk with this many blocks, which begins at a position and knows no block
abbrev pub empty_tail : ℕ → ℕ → ℕ → TailState
empty_tail blocks start room = record { log = empty_log blocks start room; trimmed = 0; cuts = []; cache = [] }

-- with all updates cut, after this many commits
abbrev pub cut_after : TailState → ℕ → TailState
cut_after t commits = record t {
  log = record t.log { cut = next_position t.log };
  cuts = t.cuts ++ record { end = next_position t.log; commits = commits } ∷ [];
}

-- without the updates of the first cut, and with these copies
abbrev pub without_first : TailState → CutPoint → List CutPoint → List Update → TailState
without_first t c later cache =
    record { log = trimmed (record t.log { logged = c.end }) c.end; trimmed = c.commits; cuts = later; cache = cache }

-- The updates of some first cuts were dropped, of none that ends past the position
pub record DropsCuts (old : TailState) (upto : ℕ) (new : TailState) : Type 0 where
  pub earlier : List CutPoint
  pub points : cut_points old ≡ earlier ++ cut_points new
  pub above : old.log.start ≤ new.log.start
  pub by : (new ≡ old) ⊎ (new.log.start ≤ upto)
  pub log : new.log ≡ record (trimmed old.log new.log.start) { logged = new.log.logged }

-- Room

-- Nothing but memory refuses updates of `blocks` blocks, `fresh` of which are not in the tail
pub record AdmitsBlocks (log : LogState) (blocks fresh : ℕ) : Type 0 where
  pub few : blocks ≤ MAX_UPDATES
  pub small : next_position log + fresh < 2 ^ 62
  pub tail : length (tail_of log) + fresh ≤ MAX_TAIL

-- Why they are refused without asking for memory: the first of these that holds
abbrev pub IsTailRefusal : LogState → ℕ → ℕ → Refusal Unit → Type 0
IsTailRefusal log blocks fresh TooLarge = MAX_UPDATES < blocks
IsTailRefusal log blocks fresh (Worn cause) = (blocks ≤ MAX_UPDATES) × (2 ^ 62 ≤ next_position log + fresh)
IsTailRefusal log blocks fresh (Full cause) =
    (blocks ≤ MAX_UPDATES) × (next_position log + fresh < 2 ^ 62) × (MAX_TAIL < length (tail_of log) + fresh)
IsTailRefusal log blocks fresh other = ⊥

-- The updates can be appended without memory
pub record TakesUpdates (log : LogState) (updates : List Update) : Type 0 where
  pub can : CanTake log updates
  pub tail : length (absorbed (tail_of log) updates) ≤ MAX_TAIL

-- so can any updates, this many of whose blocks are not in the tail
abbrev pub TakesFresh : LogState → ℕ → Type 0
TakesFresh log fresh = (updates : List Update) → AreHomes log.blocks updates → fresh_count (tail_of log) updates ≡ fresh → TakesUpdates log updates
