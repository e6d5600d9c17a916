-- What a step of one cycle leaves of the other.
use Rattle.std.proofs.Common.{◌≡◌, ◌≢◌, ◌⊎◌, ⊎_elim, ◌<◌, ◌≤◌, ◌-◌, ℕ, true, List, IsTrue, refl, sym, ap, subst, ◌∙◌, arith}
use Rattle.std.proofs.lemmas.Bool.{cases_eq}
use Rattle.journal_block.specs.declared.update.Update.{Update}
use Rattle.journal_block.specs.Updates.{updated, with_updates, updates_block}
use Rattle.journal_block.specs.UpdateLaws.{updated-named}
use Rattle.journal_disk.specs.Disks.{Keeps}
use Rattle.journal_circ.specs.Ring.{Ring, home_of, SameHome, SameHomeBut}
use Rattle.journal_memlog.specs.Logs.{LogState}
use Rattle.journal_tail.specs.Homes.{SameBlocks}
use Rattle.journal_wal.specs.Wal.{WalState, IsLast, Installing, install_none, install_homes, install_start, install_sync, install_spent, KeepsBlocks, size_of}
use Rattle.journal_wal.specs.States.{AreTied, IsInLog, IsHomeOf, HasHomes, IsInstalling, updates_to}
use Rattle.journal_wal.proofs.Lists.{updates_block-longer, updates_block-all}

-- where home blocks and updates are as before, so are all blocks
pub keeps_homes : (old new : WalState) → new.log ≡ old.log → SameHome old.ring new.ring → KeepsBlocks old new
keeps_homes old new log homes = record {
  now = λ b home lt. (λ i. updated (log i).updates b (homes b home lt i));
  cut = λ b home lt. (λ i. updated (updates_to (log i) (log i).cut) b (homes b home lt i));
  logged = λ b home lt. (λ i. updated (updates_to (log i) (log i).logged) b (homes b home lt i));
}

-- the home block of a block that is logged does not show
pub keeps_covered : (old new : WalState) (c : ℕ) → new.log ≡ old.log → SameHomeBut c old.ring new.ring
    → old.log.logged ≤ old.log.cut → updates_block (updates_to old.log old.log.logged) c ≡ true → KeepsBlocks old new
keeps_covered old new c log homes order named = record {
  now = covered (λ (l : LogState). l.updates) (updates_block-all (old.log.logged - old.log.start) old.log.updates c named);
  cut = covered (λ (l : LogState). updates_to l l.cut)
      (updates_block-longer (old.log.logged - old.log.start) (old.log.cut - old.log.start) old.log.updates c (omega (arith, order)) named);
  logged = covered (λ (l : LogState). updates_to l l.logged) named;
}
  where
    covered : (part : LogState → List Update) → updates_block (part old.log) c ≡ true
        → SameBlocks (size_of old) (with_updates (home_of new.ring) (part new.log)) (with_updates (home_of old.ring) (part old.log))
    covered part has b home lt = ⊎_elim
        (λ (here : b ≡ c).
        (λ i. updated (part (log i)) b (home_of new.ring b))
        ∙ updated-named (part old.log) b (home_of new.ring b) (home_of old.ring b)
        (ap (updates_block (part old.log)) here ∙ has))
        (λ (other : b ≢ c). λ i. updated (part (log i)) b (homes b home lt other i))
        (cases_eq b c)

-- What the installer relies on stays: the start, its home blocks, and the updates up to a position
-- that is logged
pub record KeepsInstalling (ring now : Ring) (log later : LogState) : Type 0 where
  pub size : now.disk.past.size ≡ ring.disk.past.size
  pub honest : now.disk.honest ≡ ring.disk.honest
  pub start : now.extent.start ≡ ring.extent.start
  pub freed : now.extent.freed ≡ ring.extent.freed
  pub homes : now.extent.homes ≡ ring.extent.homes
  pub faulted : IsTrue ring.faulted → IsTrue now.faulted
  pub home : IsTrue ring.disk.honest → SameHome ring now
  pub first : later.start ≡ log.start
  pub logged : log.logged ≤ later.logged
  pub updates : (upto : ℕ) → upto ≤ log.logged → updates_to later upto ≡ updates_to log upto

module _ (ring now : Ring) (log later : LogState) (keeps : KeepsInstalling ring now log later) where
  in_log : (upto : ℕ) → IsInLog log upto → IsInLog later upto
  in_log upto is = record { above = omega (arith, is.above, keeps.first); below = omega (arith, is.below, keeps.logged) }

  is_home : (upto b : ℕ) → IsTrue now.disk.honest → upto ≤ log.logged → 513 ≤ b → b < now.disk.past.size
      → IsHomeOf ring log upto b → IsHomeOf now later upto b
  is_home upto b honest le home lt is =
      let same : home_of now b ≡ home_of ring b = keeps.home (subst IsTrue keeps.honest honest) b home (omega (arith, lt, keeps.size)) in
      (λ i. updated (keeps.updates upto le i) b (same i)) ∙ is ∙ sym same

  has_homes : (upto freed freed2 : ℕ) → now.extent.freed ≡ freed2 → HasHomes ring log upto freed → HasHomes now later upto freed2
  has_homes upto freed freed2 idle is = record {
    idle = idle;
    position = in_log upto is.position;
    done = λ honest b home lt. is_home upto b honest is.position.below home lt
        (is.done (subst IsTrue keeps.honest honest) b home (omega (arith, lt, keeps.size)));
  }

  pub installing_stays : (phase : Installing) → IsInstalling ring log phase → IsInstalling now later phase
  installing_stays install_none idle = keeps.freed ∙ idle ∙ sym keeps.start
  installing_stays (install_homes upto plan) is = record {
    idle = keeps.freed ∙ is.idle ∙ sym keeps.start;
    position = in_log upto is.position;
    last = λ b q has. subst (λ (us : List Update). IsLast us later.start b q) (sym (keeps.updates upto is.position.below))
        (subst (λ (p : ℕ). IsLast (updates_to log upto) p b q) (sym keeps.first) (is.last b q has));
    done = λ honest b home lt none. is_home upto b honest is.position.below home lt
        (is.done (subst IsTrue keeps.honest honest) b home (omega (arith, lt, keeps.size)) none);
  }
  installing_stays (install_start upto) is = (has_homes upto ring.extent.start now.extent.start (keeps.freed ∙ is.0.idle ∙ sym keeps.start) is.0, subst IsTrue (sym keeps.homes) is.1)
  installing_stays (install_sync upto) is = has_homes upto upto upto (keeps.freed ∙ is.idle) is
  installing_stays install_spent faulted = keeps.faulted faulted

-- the log on the disk went on, from the same start to the same end
pub tied_by : (ring now : Ring) (log : LogState) → AreTied ring log → now.disk.past.size ≡ ring.disk.past.size
    → now.extent.start ≡ ring.extent.start → now.extent.end ≡ ring.extent.end → ring.next ≤ now.next → now.next ≤ log.cut
    → (now.extent.coming ≡ log.logged) ⊎ ((now.extent.coming ≡ log.cut) × (now.next ≡ log.cut)) → AreTied now log
tied_by ring now log tied size start end more less coming = record {
  size = size ∙ tied.size;
  start = start ∙ tied.start;
  end = end ∙ tied.end;
  start_to_end = tied.start_to_end;
  end_to_next = omega (arith, tied.end_to_next);
  next_to_cut = less;
  no_tail = tied.no_tail;
  fits = tied.fits;
  group = tied.group;
  small = tied.small;
  blocks = tied.blocks;
  coming = coming;
}

-- a step of the logger leaves the installer what it relies on
pub keeps_installing : (ring now : Ring) (log : LogState) → Keeps ring.disk now.disk → now.extent.start ≡ ring.extent.start
    → now.extent.freed ≡ ring.extent.freed → now.extent.homes ≡ ring.extent.homes → (IsTrue ring.faulted → IsTrue now.faulted)
    → (IsTrue ring.disk.honest → SameHome ring now) → KeepsInstalling ring now log log
keeps_installing ring now log keeps start freed homes faulted home = record {
  size = keeps.size;
  honest = keeps.honest;
  start = start;
  freed = freed;
  homes = homes;
  faulted = faulted;
  home = home;
  first = refl;
  logged = omega arith;
  updates = λ upto le. refl;
}
