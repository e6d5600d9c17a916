-- The steps of the installer's cycle.
use Rattle.std.proofs.Common.{◌≡◌, ◌≢◌, inl, inr, ⊎_elim, ◌<◌, ◌≤◌, ◌+◌, ◌-◌, ℕ, suc, Bool, true, false, cond, List, [], ◌∷◌, ◌++◌, take, drop, length-drop, length-take, Some, None, IsTrue, refl, sym, ap, subst, ◌∙◌, arith}
use Rattle.std.specs.List.{slice_get}
use Rattle.std.specs.BTreeMap.{is_at}
use Rattle.std.specs.Ordering.{nat_cmp}
use Rattle.std.specs.Cmp.{unsigned_ties}
use Rattle.std.proofs.lemmas.Bool.{cases_eq, cond-false, ne_eqb}
use Rattle.std.proofs.lemmas.List.{drop-take, get_or-take, take-append-drop, take_all, take-take}
use Rattle.std.proofs.lemmas.List.Elements.{All-drop}
use Rattle.std.proofs.lemmas.Option.{get_or_from_slice_get, slice_get-get_or, slice_get_within}
use Rattle.journal_block.specs.declared.update.Update.{Update}
use Rattle.journal_block.specs.Block.{Bytes}
use Rattle.journal_block.specs.Updates.{updated, updates_block}
use Rattle.journal_block.specs.UpdateLaws.{updated-append, updated-unnamed}
use Rattle.journal_disk.specs.Disks.{write, DiskState}
use Rattle.journal_disk.specs.Images.{EveryImage}
use Rattle.journal_circ.specs.Ring.{Ring, log_of, home_of, Crashes, KeepsLog, SameHome, SameHomeBut, IsLogged, IsInstalled, MakesCall}
use Rattle.journal_memlog.specs.Logs.{LogState, next_position, trimmed}
use Rattle.journal_tail.specs.Homes.{SameBlocks}
use Rattle.journal_wal.specs.Wal.{WalState, planned, IsPlanOf, MakesDueCall, install_call, after_call, Logging, log_blocks, log_end, log_sync, log_spent, Installing, install_none, install_homes, install_start, install_sync, install_spent, Fails, KeepsBlocks, MayStandFor, size_of, blocks_now, blocks_at, Installs, InstallMoves, install_steps_by, log_steps_by, InstallAnswers, install_steps}
use Rattle.journal_wal.specs.declared.step.InstallStep.TheVariants.{Freed}
use Rattle.journal_wal.specs.States.{updates_to, IsInLog, IsHomeOf, PutsHomes, AreTied, IsWal, IsLogging, IsInstalling}
use Rattle.journal_wal.proofs.Lists.{updates_block-longer}
use Rattle.journal_wal.proofs.Crashes.{labels_of, images_of, moments_of, ring_updates}
use Rattle.journal_wal.proofs.Frames.{keeps_homes, keeps_covered, tied_by}
use Rattle.journal_wal.proofs.Homes.{home_at}
use Rattle.journal_wal.proofs.Logger.{Leaves, stepped}

-- a step of the installer leaves the logger what it relies on
pub logging_stays : (ring now : Ring) (log later : LogState) → now.extent.coming ≡ ring.extent.coming → now.extent.end ≡ ring.extent.end
    → now.extent.stable ≡ ring.extent.stable → now.next ≡ ring.next → now.sealed ≡ ring.sealed → (IsTrue ring.faulted → IsTrue now.faulted)
    → later.cut ≡ log.cut → later.logged ≡ log.logged → (phase : Logging) → IsLogging ring log phase → IsLogging now later phase
logging_stays ring now log later coming end stable next form faulted cut logged log_blocks is = coming ∙ is ∙ sym end
logging_stays ring now log later coming end stable next form faulted cut logged log_end is =
    (coming ∙ is.0 ∙ sym end, stable ∙ is.1 ∙ sym next, next ∙ is.2 ∙ sym cut, omega (arith, is.3, cut, logged), form ∙ is.4)
logging_stays ring now log later coming end stable next form faulted cut logged log_sync is =
    (coming ∙ is.0 ∙ sym cut, next ∙ is.1 ∙ sym cut, omega (arith, is.2, cut, logged))
logging_stays ring now log later coming end stable next form faulted cut logged log_spent is = faulted is

none : Update
none = record { block = 0; bytes = [] }

-- the update at a position is that of the beginning that has it
found_before : (us : List Update) (n k : ℕ) (u : Update) → k < n → slice_get us k ≡ Some u → slice_get (take n us) k ≡ Some u
found_before us n k u lt found =
    slice_get-get_or (take n us) k none (omega (arith, lt, slice_get_within us k u found, length-take n us))
    ∙ ap Some (get_or-take n us k none lt ∙ get_or_from_slice_get us k u none found)

-- later updates, where the first of them are at home
updated_later : (us : List Update) (n m b : ℕ) (home : Bytes) → n ≤ m → updated (take n us) b home ≡ home
    → updated (take (m - n) (drop n us)) b home ≡ updated (take m us) b home
updated_later us n m b home le is =
    ap (updated (take (m - n) (drop n us)) b) (sym is)
    ∙ sym (updated-append (take n us) (take (m - n) (drop n us)) b home)
    ∙ ap (λ (ws : List Update). updated ws b home) (sym split)
  where
    sum : n + (m - n) ≡ m
    sum = omega (arith, le)

    split : take m us ≡ take n us ++ take (m - n) (drop n us)
    split = sym (take-append-drop n (take m us))
        ∙ (λ i. take-take n m us le i ++ drop n (take (sym sum i) us))
        ∙ ap (λ (ws : List Update). take n us ++ ws) (drop-take n (m - n) us)

module _ (ring now : Ring) (log : LogState) (logging : Logging) where
  abbrev pub at : Ring → Installing → WalState
  at r phase = record { ring = r; log = log; logging = logging; installing = phase }

  -- What a device call of the installer keeps of the numbers
  record Same : Type 0 where
    next : now.next ≡ ring.next
    start : now.extent.start ≡ ring.extent.start
    end : now.extent.end ≡ ring.extent.end
    coming : now.extent.coming ≡ ring.extent.coming
    stable : now.extent.stable ≡ ring.extent.stable
    sealed : now.sealed ≡ ring.sealed
    faulted : IsTrue ring.faulted → IsTrue now.faulted

  same_by : (freed : ℕ) (homes faulted : Bool) → now ≡ record ring { disk = now.disk; extent = record ring.extent { freed = freed; homes = homes }; faulted = faulted }
      → (IsTrue ring.faulted → IsTrue faulted) → Same
  same_by freed homes faulted is_now stays = record {
    next = ap (λ (r : Ring). r.next) is_now;
    start = ap (λ (r : Ring). r.extent.start) is_now;
    end = ap (λ (r : Ring). r.extent.end) is_now;
    coming = ap (λ (r : Ring). r.extent.coming) is_now;
    stable = ap (λ (r : Ring). r.extent.stable) is_now;
    sealed = ap (λ (r : Ring). r.sealed) is_now;
    faulted = λ was. subst IsTrue (sym (ap (λ (r : Ring). r.faulted) is_now)) (stays was);
  }

  -- a device call of the installer, done or failed, that keeps start and end
  called : (phase after : Installing) → IsWal (at ring phase) → Crashes ring.extent.coming ring now → Same
      → (IsTrue ring.disk.honest → log_of now ≡ log_of ring) → IsInstalling now log after → Leaves (at ring phase) (at now after)
  called phase after is steps same log_is after_is =
      stepped (at ring phase) now logging after ring.extent.coming is steps is.tied.coming
      (tied_by ring now log is.tied steps.keeps.size same.start same.end (omega (arith, same.next)) (omega (arith, same.next, is.tied.next_to_cut))
      (⊎_elim (λ (e : ring.extent.coming ≡ log.logged). inl (same.coming ∙ e)) (λ e. inr (same.coming ∙ e.0, same.next ∙ e.1)) is.tied.coming))
      (λ honest. log_is honest ∙ is.log honest ∙ (λ i. take (sym same.next i - log.start) log.updates))
      (logging_stays ring now log log same.coming same.end same.stable same.next same.sealed same.faulted refl refl logging is.logging)
      after_is

  module _ (upto : ℕ) (plan : List (ℕ × ℕ)) (b q : ℕ) (puts : PutsHomes ring log upto plan) (has : planned plan b ≡ Some q) where
    -- the block is logged
    pub is_logged : updates_block (updates_to log log.logged) b ≡ true
    is_logged = updates_block-longer (upto - log.start) (log.logged - log.start) log.updates b (omega (arith, puts.position.below))
        (puts.last b q has).named

    bytes_of : (u : Update) → slice_get log.updates (q - log.start) ≡ Some u
        → (u.block ≡ b) × ((x : Bytes) → updated (updates_to log upto) b x ≡ u.bytes)
    bytes_of u found = (puts.last b q has).here u
        (found_before log.updates (upto - log.start) (q - log.start) u
        (omega (arith, (puts.last b q has).above, (puts.last b q has).below, length-take (upto - log.start) log.updates)) found)

    -- its home lies on the disk
    pub planned_home : AreTied ring log → (u : Update) → slice_get log.updates (q - log.start) ≡ Some u
        → (513 ≤ b) × (b < ring.disk.past.size)
    planned_home tied u found = subst (λ (n : ℕ). (513 ≤ n) × (n < ring.disk.past.size)) (bytes_of u found).0
        (home_at ring log tied (q - log.start) u found)

    -- what the write asks
    pub logged_on_disk : (phase : Installing) → IsWal (at ring phase) → IsTrue ring.disk.honest → IsLogged ring b
    logged_on_disk phase is honest =
        ap (λ (us : List Update). updates_block us b)
        ((λ i. take (is.tied.end i - ring.extent.start) (log_of ring))
        ∙ ring_updates ring log is.tied.start (is.log honest) log.logged is.tied.end_to_next)
        ∙ is_logged

    -- a home block
    pub home_put : (rest : List (ℕ × ℕ)) (u : Update) (phase : Installing) → IsWal (at ring phase)
        → ((c : ℕ) → planned rest c ≡ cond (is_at (nat_cmp b) c) None (planned plan c))
        → slice_get log.updates (q - log.start) ≡ Some u
        → Crashes ring.extent.coming ring now → (IsTrue ring.disk.honest → log_of now ≡ log_of ring)
        → (IsTrue ring.disk.honest → home_of now b ≡ u.bytes) → (IsTrue ring.disk.honest → SameHomeBut b ring now)
        → now ≡ record ring { disk = now.disk; extent = record ring.extent { homes = false } }
        → Leaves (at ring phase) (at now (install_homes upto rest))
        × (IsTrue ring.disk.honest → KeepsBlocks (at ring phase) (at now (install_homes upto rest)))
    home_put rest u phase is rest_is found steps log_is home others is_now = (
      called phase (install_homes upto rest) is steps same log_is (record {
        idle = ap (λ (r : Ring). r.extent.freed) is_now ∙ puts.idle ∙ sym same.start;
        position = puts.position;
        last = λ c p at_c. puts.last c p (left c p at_c);
        done = λ honest c home_c lt gone. done (subst IsTrue steps.keeps.honest honest) c home_c lt gone;
      }),
      λ honest. keeps_covered (at ring phase) (at now (install_homes upto rest)) b refl (others honest)
          (omega (arith, is.tied.end_to_next, is.tied.next_to_cut)) is_logged,
    )
      where
        same : Same
        same = same_by ring.extent.freed false ring.faulted is_now (λ was. was)

        elsewhere : (c : ℕ) → c ≢ b → planned rest c ≡ planned plan c
        elsewhere c other = rest_is c ∙ cond-false (is_at (nat_cmp b) c) None (planned plan c)
            (sym (unsigned_ties b c) ∙ ne_eqb b c (λ e. other (sym e)))

        left : (c p : ℕ) → planned rest c ≡ Some p → planned plan c ≡ Some p
        left c p at_c = taken (is_at (nat_cmp b) c) (sym (rest_is c) ∙ at_c)
          where
            taken : (t : Bool) → cond t None (planned plan c) ≡ Some p → planned plan c ≡ Some p
            taken true e = let impossible : ⊥ = cc in absurd impossible
            taken false e = e

        done : IsTrue ring.disk.honest → (c : ℕ) → 513 ≤ c → c < now.disk.past.size → planned rest c ≡ None → IsHomeOf now log upto c
        done honest c home_c lt gone = ⊎_elim
            (λ (here : c ≡ b). subst (IsHomeOf now log upto) (sym here) ((bytes_of u found).1 (home_of now b) ∙ sym (home honest)))
            (λ (other : c ≢ b).
            let at_home : home_of now c ≡ home_of ring c = others honest c home_c (omega (arith, lt, steps.keeps.size)) other in
            ap (updated (updates_to log upto) c) at_home
            ∙ puts.done honest c home_c (omega (arith, lt, steps.keeps.size)) (sym (elsewhere c other) ∙ gone)
            ∙ sym at_home)
            (cases_eq c b)

    -- one that failed
    pub home_failed : (phase : Installing) → IsWal (at ring phase)
        → Crashes ring.extent.coming ring now → (IsTrue ring.disk.honest → log_of now ≡ log_of ring)
        → (IsTrue ring.disk.honest → SameHomeBut b ring now)
        → now ≡ record ring { disk = now.disk; extent = record ring.extent { homes = false }; faulted = true }
        → Leaves (at ring phase) (at now install_spent) × Fails (at ring phase) (at now install_spent)
    home_failed phase is steps log_is others is_now = (
      called phase install_spent is steps (same_by ring.extent.freed false true is_now (λ _. refl)) log_is (ap (λ (r : Ring). r.faulted) is_now),
      record {
        faulted = ap (λ (r : Ring). r.faulted) is_now;
        log = refl;
        blocks = λ honest. keeps_covered (at ring phase) (at now install_spent) b refl (others honest)
            (omega (arith, is.tied.end_to_next, is.tied.next_to_cut)) is_logged;
      },
    )

  -- the barrier after the home blocks
  pub homes_synced : (upto : ℕ) (phase : Installing) → IsWal (at ring phase) → PutsHomes ring log upto []
      → Crashes ring.extent.coming ring now → (IsTrue ring.disk.honest → KeepsLog ring now)
      → now ≡ record ring { disk = now.disk; extent = record ring.extent { homes = true } }
      → Leaves (at ring phase) (at now (install_start upto))
      × (IsTrue ring.disk.honest → KeepsBlocks (at ring phase) (at now (install_start upto)))
  homes_synced upto phase is puts steps same is_now = (
    called phase (install_start upto) is steps (same_by ring.extent.freed true ring.faulted is_now (λ was. was)) (λ honest. (same honest).log) (
      record {
        idle = ap (λ (r : Ring). r.extent.freed) is_now ∙ puts.idle ∙ sym (ap (λ (r : Ring). r.extent.start) is_now);
        position = puts.position;
        done = λ honest c home_c lt.
            let was : IsTrue ring.disk.honest = subst IsTrue steps.keeps.honest honest in
            let at_home : home_of now c ≡ home_of ring c = (same was).home c home_c (omega (arith, lt, steps.keeps.size)) in
            ap (updated (updates_to log upto) c) at_home
            ∙ puts.done was c home_c (omega (arith, lt, steps.keeps.size)) refl
            ∙ sym at_home;
      },
      ap (λ (r : Ring). r.extent.homes) is_now,
    ),
    λ honest. keeps_homes (at ring phase) (at now (install_start upto)) refl ((same honest).home),
  )

  -- a call of a cycle that changes no home block, and failed
  pub installer_failed : (phase : Installing) → IsWal (at ring phase)
      → Crashes ring.extent.coming ring now → (IsTrue ring.disk.honest → KeepsLog ring now) → (freed : ℕ)
      → now ≡ record ring { disk = now.disk; extent = record ring.extent { freed = freed }; faulted = true }
      → Leaves (at ring phase) (at now install_spent) × Fails (at ring phase) (at now install_spent)
  installer_failed phase is steps same freed is_now = (
    called phase install_spent is steps (same_by freed ring.extent.homes true is_now (λ _. refl)) (λ honest. (same honest).log) (ap (λ (r : Ring). r.faulted) is_now),
    record {
      faulted = ap (λ (r : Ring). r.faulted) is_now;
      log = refl;
      blocks = λ honest. keeps_homes (at ring phase) (at now install_spent) refl ((same honest).home);
    },
  )

  -- what the write of block 1 asks
  pub is_installed : (upto : ℕ) → IsWal (at ring (install_start upto)) → IsTrue ring.disk.honest → IsInstalled ring upto
  is_installed upto is honest c home_c lt =
      ap (λ (us : List Update). updated us c (home_of ring c))
      (ring_updates ring log is.tied.start (is.log honest) upto (omega (arith, is.installing.0.position.below, is.tied.end_to_next)))
      ∙ is.installing.0.done honest c home_c lt

  -- the write of block 1
  pub start_written : (upto : ℕ) → IsWal (at ring (install_start upto))
      → Crashes ring.extent.coming ring now → (IsTrue ring.disk.honest → KeepsLog ring now)
      → now ≡ record ring { disk = now.disk; extent = record ring.extent { freed = upto } }
      → Leaves (at ring (install_start upto)) (at now (install_sync upto))
      × (IsTrue ring.disk.honest → KeepsBlocks (at ring (install_start upto)) (at now (install_sync upto)))
  start_written upto is steps same is_now = (
    called (install_start upto) (install_sync upto) is steps (same_by upto ring.extent.homes ring.faulted is_now (λ was. was)) (λ honest. (same honest).log) (record {
      idle = ap (λ (r : Ring). r.extent.freed) is_now;
      position = is.installing.0.position;
      done = λ honest c home_c lt.
          let was : IsTrue ring.disk.honest = subst IsTrue steps.keeps.honest honest in
          let at_home : home_of now c ≡ home_of ring c = (same was).home c home_c (omega (arith, lt, steps.keeps.size)) in
          ap (updated (updates_to log upto) c) at_home
          ∙ is.installing.0.done was c home_c (omega (arith, lt, steps.keeps.size))
          ∙ sym at_home;
    }),
    λ honest. keeps_homes (at ring (install_start upto)) (at now (install_sync upto)) refl ((same honest).home),
  )

-- the barrier after block 1: the positions are free
module _ (ring now : Ring) (log : LogState) (logging : Logging) (upto : ℕ)
    (is : IsWal (record { ring = ring; log = log; logging = logging; installing = install_sync upto }))
    (steps : Crashes ring.extent.coming ring now) (home : IsTrue ring.disk.honest → SameHome ring now)
    (is_now : now ≡ record ring { disk = now.disk; extent = record ring.extent { start = ring.extent.freed } }) where
  abbrev pub old : WalState
  old = record { ring = ring; log = log; logging = logging; installing = install_sync upto }

  abbrev pub new : WalState
  new = record { ring = now; log = trimmed log upto; logging = logging; installing = install_none }

  position : IsInLog log upto
  position = is.installing.position

  start : now.extent.start ≡ upto
  start = ap (λ (r : Ring). r.extent.start) is_now ∙ is.installing.idle

  next : now.next ≡ ring.next
  next = ap (λ (r : Ring). r.next) is_now

  end : now.extent.end ≡ ring.extent.end
  end = ap (λ (r : Ring). r.extent.end) is_now

  coming : now.extent.coming ≡ ring.extent.coming
  coming = ap (λ (r : Ring). r.extent.coming) is_now

  last : next_position (trimmed log upto) ≡ next_position log
  last = omega (arith, length-drop (upto - log.start) log.updates, position.above, position.below, is.tied.end_to_next, is.tied.next_to_cut, is.tied.no_tail)

  tied : AreTied now (trimmed log upto)
  tied = record {
    size = steps.keeps.size ∙ is.tied.size;
    start = start;
    end = end ∙ is.tied.end;
    start_to_end = position.below;
    end_to_next = omega (arith, next, is.tied.end_to_next);
    next_to_cut = omega (arith, next, is.tied.next_to_cut);
    no_tail = last ∙ is.tied.no_tail;
    fits = omega (arith, is.tied.fits, position.above);
    group = is.tied.group;
    small = omega (arith, last, is.tied.small);
    blocks = All-drop (λ (u : Update). (513 ≤ u.block) × (u.block < log.blocks)) (upto - log.start) log.updates is.tied.blocks;
    coming = ⊎_elim (λ (e : ring.extent.coming ≡ log.logged). inl (coming ∙ e)) (λ e. inr (coming ∙ e.0, next ∙ e.1)) is.tied.coming;
  }

  log_is : (IsTrue ring.disk.honest → log_of now ≡ drop (ring.extent.freed - ring.extent.start) (log_of ring)) → IsTrue ring.disk.honest
      → log_of now ≡ take (now.next - upto) (drop (upto - log.start) log.updates)
  log_is dropped honest =
      dropped honest
      ∙ (λ i. drop (is.installing.idle i - is.tied.start i) (is.log honest i))
      ∙ (λ i. drop (upto - log.start) (take (sum i) log.updates))
      ∙ drop-take (upto - log.start) (now.next - upto) log.updates
    where
      sum : ring.next - log.start ≡ (upto - log.start) + (now.next - upto)
      sum = omega (arith, next, position.above, position.below, is.tied.end_to_next)

  -- the blocks at a position that stays
  later : IsTrue ring.disk.honest → (to : ℕ) → upto ≤ to → SameBlocks (size_of old) (blocks_at new to) (blocks_at old to)
  later honest to le b home_b lt =
      ap (λ (x : Bytes). updated (take (to - upto) (drop (upto - log.start) log.updates)) b x) (home honest b home_b lt)
      ∙ (λ i. updated (take (width i) (drop (upto - log.start) log.updates)) b (home_of ring b))
      ∙ updated_later log.updates (upto - log.start) (to - log.start) b (home_of ring b) (omega (arith, le, position.above))
      (is.installing.done honest b home_b lt)
    where
      width : to - upto ≡ (to - log.start) - (upto - log.start)
      width = omega (arith, le, position.above)

  pub start_synced : (IsTrue ring.disk.honest → log_of now ≡ drop (ring.extent.freed - ring.extent.start) (log_of ring))
      → now.extent.freed ≡ ring.extent.freed
      → Leaves old new × (IsTrue ring.disk.honest → KeepsBlocks old new)
  start_synced dropped freed = (
    record {
      sound = record {
        tied = tied;
        log = λ honest. log_is dropped (subst IsTrue steps.keeps.honest honest);
        images = images;
        label = labels_of ring now steps;
        logging = logging_stays ring now log (trimmed log upto) coming end (ap (λ (r : Ring). r.extent.stable) is_now) next (ap (λ (r : Ring). r.sealed) is_now)
            (subst IsTrue (sym (ap (λ (r : Ring). r.faulted) is_now))) refl refl logging is.logging;
        installing = freed ∙ is.installing.idle ∙ sym start;
      };
      crash = record {
        keeps = steps.keeps;
        moments = λ honest. moments_of old is.tied (is.log honest) now.disk.past ring.extent.coming is.tied.coming (steps.moments honest);
        label = steps.label;
        images = images;
      };
    },
    λ honest. record {
      now = λ b home_b lt. all_now honest b home_b lt;
      cut = later honest log.cut (omega (arith, position.below, is.tied.end_to_next, is.tied.next_to_cut));
      logged = later honest log.logged position.below;
    },
  )
    where
      images : IsTrue now.disk.honest → EveryImage now.disk.past (MayStandFor new)
      images honest = images_of new tied (log_is dropped (subst IsTrue steps.keeps.honest honest)) (steps.images honest)

      all_now : IsTrue ring.disk.honest → SameBlocks (size_of old) (blocks_now new) (blocks_now old)
      all_now honest b home_b lt =
          ap (λ (us : List Update). updated us b (home_of now b)) (sym (take_all (next_position log - upto) (drop (upto - log.start) log.updates) (omega (arith, last))))
          ∙ later honest (next_position log) (omega (arith, position.below, is.tied.end_to_next, is.tied.next_to_cut, is.tied.no_tail)) b home_b lt
          ∙ ap (λ (us : List Update). updated us b (home_of ring b)) (take_all (next_position log - log.start) log.updates (omega arith))

-- the device call of a plan is that of its first block
pub call_home : (label : Bytes) (log : LogState) (upto : ℕ) (plan rest : List (ℕ × ℕ)) (b q : ℕ) (u : Update) (disk now : DiskState) → plan ≡ (b, q) ∷ rest
    → slice_get log.updates (q - log.start) ≡ Some u → MakesCall (write b u.bytes) disk now → MakesDueCall (install_call label log (install_homes upto plan)) disk now
call_home label log upto plan rest b q u disk now is found happened =
    subst (λ (es : List (ℕ × ℕ)). MakesDueCall (install_call label log (install_homes upto es)) disk now) (sym is)
    (subst (λ (v : Update). MakesCall (write b v.bytes) disk now) (sym (get_or_from_slice_get log.updates (q - log.start) u (record { block = 0; bytes = [] }) found)) happened)

-- a step of an installing that goes on
pub installs_on : (ring now : Ring) (log : LogState) (logging : Logging) (before after : Installing) (left : ℕ) → now.next ≡ ring.next → now.sealed ≡ ring.sealed
    → install_steps_by before ≡ suc (suc left) → install_steps_by after ≡ suc left
    → MakesDueCall (install_call ring.label log before) ring.disk now.disk → after ≡ after_call before
    → (IsTrue ring.disk.honest → KeepsBlocks (record { ring = ring; log = log; logging = logging; installing = before })
    (record { ring = now; log = log; logging = logging; installing = after }))
    → let new : WalState = record { ring = now; log = log; logging = logging; installing = after } in
    Installs (record { ring = ring; log = log; logging = logging; installing = before }) new × (0 < install_steps new)
installs_on ring now log logging before after left next form was is call is_next blocks = (
  record {
    ahead = before;
    is_ahead = record { begins = λ none_left. absurd (omega (arith, was, none_left)); goes_on = λ some. refl };
    call = call;
    next = is_next;
    blocks = blocks;
    logging = λ i. log_steps_by (form i) logging (log.cut - log.logged) (log.cut - next i);
    moves = subst (λ (n : ℕ). InstallMoves n old new) (sym was) (record { steps = omega (arith, was, is); log = refl });
  },
  omega (arith, is),
)
  where
    old : WalState
    old = record { ring = ring; log = log; logging = logging; installing = before }

    new : WalState
    new = record { ring = now; log = log; logging = logging; installing = after }

-- the step that frees positions
pub installs_freed : (ring now : Ring) (log : LogState) (logging : Logging) (upto : ℕ) → now.next ≡ ring.next → now.sealed ≡ ring.sealed → IsInLog log upto
    → MakesDueCall (install_call ring.label log (install_sync upto)) ring.disk now.disk
    → (IsTrue ring.disk.honest → KeepsBlocks (record { ring = ring; log = log; logging = logging; installing = install_sync upto })
    (record { ring = now; log = trimmed log upto; logging = logging; installing = install_none }))
    → InstallAnswers (record { ring = ring; log = log; logging = logging; installing = install_sync upto }) (Freed upto)
    (record { ring = now; log = trimmed log upto; logging = logging; installing = install_none })
installs_freed ring now log logging upto next form position call blocks = (
  record {
    ahead = install_sync upto;
    is_ahead = record { begins = λ none_left. absurd (omega (arith, none_left)); goes_on = λ some. refl };
    call = call;
    next = refl;
    blocks = blocks;
    logging = λ i. log_steps_by (form i) logging (log.cut - log.logged) (log.cut - next i);
    moves = record { steps = refl; upto = upto; upto_is = refl; above = position.above; below = position.below; log = refl };
  },
  refl,
)

-- what is logged is planned
pub plan_made : (w : WalState) → IsWal w → w.installing ≡ install_none → (plan : List (ℕ × ℕ))
    → IsPlanOf (updates_to w.log w.log.logged) w.log.start plan
    → IsWal (record w { installing = install_homes w.log.logged plan })
plan_made w is none_yet plan planned_is = record {
  tied = is.tied;
  log = is.log;
  images = is.images;
  label = is.label;
  logging = is.logging;
  installing = record {
    idle = subst (λ (i : Installing). IsInstalling w.ring w.log i) none_yet is.installing;
    position = record { above = is.tied.start_to_end; below = omega arith };
    last = planned_is.last;
    done = λ honest b home lt gone. updated-unnamed (updates_to w.log w.log.logged) b (home_of w.ring b) (planned_is.none b gone);
  };
}
