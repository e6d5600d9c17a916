-- A group that was cut elsewhere and is handed in whole.
use Rattle.std.proofs.Common.{◌≡◌, ◌≢◌, inl, ⊎_elim, ◌<◌, ◌≤◌, ◌+◌, ◌-◌, ℕ, zero, suc, ◌||◌, Bool, false, List, [], ◌∷◌, ◌++◌, take, length, length-append, length-drop, append_assoc, IsTrue, refl, sym, ap, subst, ◌∙◌, arith}
use Rattle.std.proofs.lemmas.Bool.{cond-false, ne_eqb}
use Rattle.std.proofs.lemmas.List.{append-nil, take-append-drop, take-append-le, take_all}
use Rattle.std.proofs.lemmas.List.Elements.{All-append}
use Rattle.std.proofs.Math.Seq.{get_or-append_seam}
use Rattle.journal_block.specs.declared.update.Update.{Update}
use Rattle.journal_block.specs.Updates.{updated, updates_block}
use Rattle.journal_block.specs.UpdateLaws.{updated-append}
use Rattle.journal_disk.specs.Images.{EveryImage}
use Rattle.journal_disk.specs.Laws.{leaves_none}
use Rattle.journal_circ.specs.Log.{HasLabel}
use Rattle.journal_circ.specs.StandsFor.{StandsFor}
use Rattle.journal_circ.specs.Ring.{Ring, home_of}
use Rattle.journal_memlog.specs.Logs.{LogState, HasDistinctBlocks, next_position, head_of, tail_of, absorbed, appended, CanTake}
use Rattle.journal_tail.specs.Homes.{AreHomes}
use Rattle.journal_wal.specs.Wal.{WalState, Logging, log_blocks, log_end, log_sync, log_spent, Crashes, MayStandFor, with_room, size_of, blocks_at, blocks_logged, log_steps, log_steps_by}
use Rattle.journal_wal.specs.States.{updates_to, AreTied, IsWal, IsLogging}
use Rattle.journal_wal.specs.Groups.{HasGroupRoom, TakesGroup}
use Rattle.journal_wal.proofs.Frames.{KeepsInstalling, installing_stays}
use Rattle.journal_wal.proofs.Logger.{Leaves, nothing_waits, steps_in_group}

-- Updates of distinct blocks are absorbed one after the other

-- none before it is of the block of an update
unnamed : (tail : List Update) (u : Update) (later : List Update) → HasDistinctBlocks (tail ++ u ∷ later) → updates_block tail u.block ≡ false
unnamed [] u later distinct = refl
unnamed (t ∷ tail) u later distinct =
    ap (λ (b : Bool). b || updates_block tail u.block) (ne_eqb t.block u.block other)
    ∙ unnamed tail u later (λ i j d lt within. distinct (suc i) (suc j) d (omega (arith, lt)) (omega (arith, within)))
  where
    within : suc (length tail) < length (t ∷ tail ++ u ∷ later)
    within = omega (arith, length-append tail (u ∷ later))

    other : t.block ≢ u.block
    other = subst (λ (v : Update). t.block ≢ v.block) (get_or-append_seam tail u later t) (distinct zero (suc (length tail)) t (omega arith) within)

pub absorbed_distinct : (tail updates : List Update) → HasDistinctBlocks (tail ++ updates) → absorbed tail updates ≡ tail ++ updates
absorbed_distinct tail [] distinct = sym (append-nil tail)
absorbed_distinct tail (u ∷ later) distinct =
    ap (λ (us : List Update). absorbed us later) (cond-false (updates_block tail u.block) _ (tail ++ u ∷ []) (unnamed tail u later distinct))
    ∙ absorbed_distinct (tail ++ u ∷ []) later (subst (λ (us : List Update). HasDistinctBlocks us) (sym same) distinct)
    ∙ same
  where
    same : (tail ++ u ∷ []) ++ later ≡ tail ++ u ∷ later
    same = append_assoc tail (u ∷ []) later

-- a list without elements
none_of : {X : Type 0} (xs : List X) → length xs ≡ 0 → xs ≡ []
none_of [] none = refl
none_of (x ∷ xs) none = absurd (omega (arith, none))

-- The logger rests where it has no step left and the device did not fail
no_group : (sealed : Bool) (group left : ℕ) → log_steps_by sealed log_blocks group left ≡ 0 → group ≡ 0
no_group sealed zero left none = refl
no_group sealed (suc group) left none = absurd (omega (arith, none))

pub at_rest : (w : WalState) → IsWal w → w.ring.faulted ≡ false → log_steps w ≡ 0 → (w.logging ≡ log_blocks) × (w.log.logged ≡ w.log.cut)
at_rest w is fine none = by w.logging refl
  where
    steps : (p : Logging) → w.logging ≡ p → log_steps_by w.ring.sealed p (w.log.cut - w.log.logged) (w.log.cut - w.ring.next) ≡ 0
    steps p is_p = ap (λ (q : Logging). log_steps_by w.ring.sealed q (w.log.cut - w.log.logged) (w.log.cut - w.ring.next)) (sym is_p) ∙ none

    by : (p : Logging) → w.logging ≡ p → (w.logging ≡ log_blocks) × (w.log.logged ≡ w.log.cut)
    by log_blocks is_p = (is_p, omega (arith, no_group w.ring.sealed (w.log.cut - w.log.logged) (w.log.cut - w.ring.next) (steps log_blocks is_p), is.tied.end_to_next, is.tied.next_to_cut))
    by log_end is_p = absurd (omega (arith, steps log_end is_p))
    by log_sync is_p = absurd (omega (arith, steps log_sync is_p))
    by log_spent is_p =
        let failed : IsTrue w.ring.faulted = subst (IsLogging w.ring w.log) is_p is.logging in
        let wrong : IsTrue false = subst IsTrue fine failed in
        let impossible : ⊥ = cc in absurd impossible

module _ (w : WalState) (updates : List Update) (is : IsWal w) (room : HasGroupRoom w (length updates))
    (homes : AreHomes (size_of w) updates) (distinct : HasDistinctBlocks updates) where
  abbrev mid : WalState
  mid = record w { log = appended w.log updates }

  no_tail : tail_of w.log ≡ []
  no_tail = none_of (tail_of w.log) (nothing_waits w is)

  -- they are appended one after the other
  all : absorbed (tail_of w.log) updates ≡ updates
  all = ap (λ (us : List Update). absorbed us updates) no_tail ∙ absorbed_distinct [] updates distinct

  width : length (absorbed (tail_of w.log) updates) ≡ length updates
  width = ap (λ (us : List Update). length us) all

  whole : head_of w.log ≡ w.log.updates
  whole = sym (append-nil (head_of w.log)) ∙ ap (λ (us : List Update). head_of w.log ++ us) (sym no_tail)
      ∙ take-append-drop (w.log.cut - w.log.start) w.log.updates

  same : mid.log.updates ≡ w.log.updates ++ updates
  same = (λ i. whole i ++ all i)

  next : next_position mid.log ≡ next_position w.log + length updates
  next = omega (arith, ap (λ (us : List Update). length us) same, length-append w.log.updates updates)

  pub can_take : CanTake w.log updates
  can_take = record {
    on_disk = λ k d lt. omega (arith, (homes k d lt).1, is.tied.size);
    room = omega (arith, width, room.room);
    below = omega (arith, next, room.small);
  }

  rest : (w.logging ≡ log_blocks) × (w.log.logged ≡ w.log.cut)
  rest = at_rest w is room.fine room.place.rest

  at_blocks : w.ring.extent.coming ≡ w.ring.extent.end
  at_blocks = subst (IsLogging w.ring w.log) rest.0 is.logging

  -- what was cut before is as it was
  before : (to : ℕ) → to ≤ w.log.cut → take (to - w.log.start) (w.log.updates ++ updates) ≡ updates_to w.log to
  before to le = take-append-le (to - w.log.start) w.log.updates updates (omega (arith, le, is.tied.no_tail))

  -- with the updates as the group in flight, and so much room
  module _ (r : ℕ) where
    abbrev log : LogState
    log = record w.log { cut = next_position w.log + length updates; updates = w.log.updates ++ updates; room = r }

    abbrev new : WalState
    new = record w { log = log }

    long : length (w.log.updates ++ updates) ≡ length w.log.updates + length updates
    long = length-append w.log.updates updates

    tied : AreTied w.ring log
    tied = record {
      size = is.tied.size;
      start = is.tied.start;
      end = is.tied.end;
      start_to_end = is.tied.start_to_end;
      end_to_next = is.tied.end_to_next;
      next_to_cut = omega (arith, is.tied.next_to_cut, is.tied.no_tail);
      no_tail = omega (arith, long);
      fits = omega (arith, rest.1, room.place.fits, room.place.some, is.tied.start_to_end, is.tied.fits, is.tied.no_tail);
      group = omega (arith, rest.1, room.few, is.tied.no_tail);
      small = omega (arith, long, room.small);
      blocks = All-append (λ (u : Update). (513 ≤ u.block) × (u.block < w.log.blocks)) w.log.updates updates is.tied.blocks
          (subst (λ (n : ℕ). AreHomes n updates) is.tied.size homes);
      coming = inl (at_blocks ∙ is.tied.end);
    }

    images : IsTrue w.ring.disk.honest → EveryImage w.ring.disk.past (MayStandFor new)
    images honest image one = ⊎_elim
        (λ logged. inl (stands logged))
        (λ cut. inl (stands (subst (λ (n : ℕ). StandsFor (size_of w) (blocks_at w n) image) (sym rest.1) cut)))
        (is.images honest image one)
      where
        stands : StandsFor (size_of w) (blocks_logged w) image → StandsFor (size_of w) (blocks_logged new) image
        stands = subst (λ (us : List Update). StandsFor (size_of w) (λ b. updated us b (home_of w.ring b)) image) (sym (before w.log.logged (omega (arith, rest.1))))

    keeps : KeepsInstalling w.ring w.ring w.log log
    keeps = record {
      size = refl;
      honest = refl;
      start = refl;
      freed = refl;
      homes = refl;
      faulted = λ was. was;
      home = λ honest b home lt. refl;
      first = refl;
      logged = omega arith;
      updates = λ upto le. before upto (omega (arith, le, rest.1));
    }

    leaves : Leaves w new
    leaves = record {
      sound = record {
        tied = tied;
        log = λ honest. is.log honest ∙ sym (before w.ring.next is.tied.next_to_cut);
        images = images;
        label = is.label;
        logging = subst (IsLogging w.ring log) (sym rest.0) at_blocks;
        installing = installing_stays w.ring w.ring w.log log keeps w.installing is.installing;
      };
      crash = record {
        keeps = record { size = refl; honest = refl; failures = omega arith };
        moments = λ honest. leaves_none w.ring.disk.past w.ring.disk.past (MayStandFor w) refl (is.images honest);
        label = record { same = refl; moments = λ honest. leaves_none w.ring.disk.past w.ring.disk.past (HasLabel w.ring.label) refl (is.label honest) };
        images = images;
      };
    }

    takes : TakesGroup w updates new
    takes = record {
      disk = refl;
      log = refl;
      steps = (λ i. log_steps_by w.ring.sealed (rest.0 i) (log.cut - w.log.logged) (log.cut - w.ring.next))
          ∙ steps_in_group w.ring.sealed (log.cut - w.log.logged) (log.cut - w.ring.next) (omega (arith, rest.1, room.place.some, is.tied.no_tail))
          ∙ omega (arith, rest.1, is.tied.no_tail, is.tied.end_to_next, is.tied.next_to_cut);
      tail = length-drop (log.cut - w.log.start) (w.log.updates ++ updates) ∙ omega (arith, long);
      now = λ b home lt. updated-append w.log.updates updates b (home_of w.ring b);
      cut = λ b home lt. ap (λ (us : List Update). updated us b (home_of w.ring b)) (take_all (log.cut - w.log.start) (w.log.updates ++ updates) (omega (arith, long)))
          ∙ updated-append w.log.updates updates b (home_of w.ring b);
      logged = λ b home lt. ap (λ (us : List Update). updated us b (home_of w.ring b)) (before w.log.logged (omega (arith, rest.1)));
      installing = refl;
    }

  pub group_taken : (later : LogState) → later ≡ record mid.log { cut = next_position mid.log }
      → Leaves w (record w { log = later }) × TakesGroup w updates (record w { log = later })
  group_taken later later_is =
      subst (λ (l : LogState). Leaves w (record w { log = l }) × TakesGroup w updates (record w { log = l })) (sym is_taken)
      (leaves later.room, takes later.room)
    where
      is_taken : later ≡ log later.room
      is_taken = later_is ∙ (λ i. record w.log { cut = next i; updates = same i; room = sym (ap (λ (l : LogState). l.room) later_is) i })

-- the logger relies on the marks alone
same_marks : (ring : Ring) (log later : LogState) → later.cut ≡ log.cut → later.logged ≡ log.logged
    → (phase : Logging) → IsLogging ring log phase → IsLogging ring later phase
same_marks ring log later cut logged log_blocks is = is
same_marks ring log later cut logged log_end is = (is.0, is.1, is.2 ∙ sym cut, omega (arith, is.3, cut, logged), is.4)
same_marks ring log later cut logged log_sync is = (is.0 ∙ sym cut, is.1 ∙ sym cut, omega (arith, is.2, cut, logged))
same_marks ring log later cut logged log_spent is = is

-- other room in memory changes nothing else
pub room_made : (w : WalState) (room : ℕ) → IsWal w → IsWal (with_room w room)
room_made w room is = record {
  tied = record {
    size = is.tied.size;
    start = is.tied.start;
    end = is.tied.end;
    start_to_end = is.tied.start_to_end;
    end_to_next = is.tied.end_to_next;
    next_to_cut = is.tied.next_to_cut;
    no_tail = is.tied.no_tail;
    fits = is.tied.fits;
    group = is.tied.group;
    small = is.tied.small;
    blocks = is.tied.blocks;
    coming = is.tied.coming;
  };
  log = is.log;
  images = is.images;
  label = is.label;
  logging = same_marks w.ring w.log later refl refl w.logging is.logging;
  installing = installing_stays w.ring w.ring w.log later (record {
    size = refl;
    honest = refl;
    start = refl;
    freed = refl;
    homes = refl;
    faulted = λ was. was;
    home = λ honest b home lt. refl;
    first = refl;
    logged = omega arith;
    updates = λ upto le. refl;
  }) w.installing is.installing;
}
  where
    later : LogState
    later = record w.log { room = room }

-- nor what a crash may leave
pub crashes_room : (w : WalState) (room : ℕ) → IsWal w → Crashes w (with_room w room)
crashes_room w room is = record {
  keeps = record { size = refl; honest = refl; failures = omega arith };
  moments = λ honest. leaves_none w.ring.disk.past w.ring.disk.past (MayStandFor w) refl (is.images honest);
  label = record { same = refl; moments = λ honest. leaves_none w.ring.disk.past w.ring.disk.past (HasLabel w.ring.label) refl (is.label honest) };
  images = is.images;
}
