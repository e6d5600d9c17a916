-- A recovery, position by position.
use Rattle.std.proofs.Common.{◌≡◌, inl, ◌<◌, ◌≤◌, ◌+◌, ◌-◌, ◌^◌, ℕ, suc, false, List, [], ◌∷◌, ◌++◌, take, length-append, length-drop, Some, Result, Ok, Err, OnOk, IsTrue, refl, sym, ap, subst, ◌∙◌, arith}
use Rattle.std.specs.List.{slice_get}
use Rattle.std.proofs.Math.Seq.{take-suc}
use Rattle.std.proofs.lemmas.List.{take_all}
use Rattle.std.proofs.lemmas.List.Elements.{All-push}
use Rattle.std.proofs.lemmas.Option.{get_or_from_slice_get, slice_get_within}
use Rattle.journal_block.specs.declared.update.Update.{Update}
use Rattle.journal_block.specs.Block.{Bytes}
use Rattle.journal_block.specs.Updates.{updated}
use Rattle.journal_disk.specs.Disks.{Past, read_of}
use Rattle.journal_disk.specs.Images.{IsImage, EveryImage}
use Rattle.journal_circ.specs.Log.{updates_from, HasLabel}
use Rattle.journal_circ.specs.StandsFor.{StandsFor}
use Rattle.journal_circ.specs.Ring.{Ring, log_of, home_of, blocks_to, at_rest}
use Rattle.journal_circ.specs.Laws.{log_length, stands_same}
use Rattle.journal_memlog.specs.Logs.{LogState, next_position, with_logged}
use Rattle.journal_tail.specs.Homes.{AreHomes}
use Rattle.journal_wal.specs.Wal.{WalState, log_blocks, install_none, MayStandFor, IsAtRest, size_of, blocks_now, blocks_logged, log_steps_by}
use Rattle.journal_wal.specs.States.{AreTied, IsWal}
use Rattle.journal_wal.specs.Recovery.{OnlyReadsRing, IsRecovered}

-- one position more
pub recovered_on : (ring : Ring) (position : ℕ) (log later : LogState) (u : Update) → IsRecovered ring position log
    → ring.extent.start ≤ position → (513 ≤ u.block) × (u.block < ring.disk.past.size)
    → (IsTrue ring.disk.honest → slice_get (log_of ring) (position - ring.extent.start) ≡ Some u)
    → later ≡ with_logged log u later.room → IsRecovered ring (position + 1) later
recovered_on ring position log later u is from home found same = record {
  blocks = ap (λ (l : LogState). l.blocks) same ∙ is.blocks;
  start = ap (λ (l : LogState). l.start) same ∙ is.start;
  logged = ap (λ (l : LogState). l.logged) same ∙ (λ i. is.next i + 1);
  cut = ap (λ (l : LogState). l.cut) same ∙ (λ i. is.next i + 1);
  next = ap (λ (l : LogState). next_position l) same ∙ omega (arith, length-append log.updates (u ∷ []), is.next);
  homes = subst (λ (l : LogState). AreHomes l.blocks l.updates) (sym same)
      (All-push (λ (v : Update). (513 ≤ v.block) × (v.block < log.blocks)) log.updates u is.homes (home.0, omega (arith, home.1, is.blocks)));
  updates = λ honest. ap (λ (l : LogState). l.updates) same
      ∙ (λ i. is.updates honest i ++ sym (get_or_from_slice_get (log_of ring) (position - ring.extent.start) u u (found honest)) i ∷ [])
      ∙ sym (take-suc (log_of ring) (position - ring.extent.start) u (slice_get_within (log_of ring) (position - ring.extent.start) u (found honest)))
      ∙ (λ i. take (place i) (log_of ring));
}
  where
    place : suc (position - ring.extent.start) ≡ (position + 1) - ring.extent.start
    place = omega (arith, from)

pub on_ok : {E : Type 0} (X Y : Type 0) (result : Result Unit E) → OnOk result X → (X → Y) → OnOk result Y
on_ok X Y (Ok unit) x f = f x
on_ok X Y (Err error) x f = tt

-- what is read of a disk does not change its log
log_same : (old new : Ring) → OnlyReadsRing old new → IsTrue old.disk.honest → log_of new ≡ log_of old
log_same old new recovers honest =
    ap log_of recovers.same
    ∙ (λ i. updates_from old.header (read_of (recovers.past honest i)) old.extent.start (old.next - old.extent.start))

-- A log that was recovered
module _ (first ring : Ring) (log : LogState) (rest : first ≡ at_rest first.disk first.header first.tags first.label first.extent.start first.extent.end)
    (recovers : OnlyReadsRing first ring) (is : IsRecovered first first.extent.end log) (fine : ring.faulted ≡ false)
    (ordered : first.extent.start ≤ first.extent.end) (fits : first.extent.end ≤ first.extent.start + 511) (small : first.extent.end < 2 ^ 62)
    (labels : IsTrue first.disk.honest → EveryImage first.disk.past (HasLabel first.label))
    (stands : IsTrue first.disk.honest → EveryImage first.disk.past (StandsFor first.disk.past.size (blocks_to first first.extent.end))) where
  abbrev pub opened : WalState
  opened = record { ring = ring; log = log; logging = log_blocks; installing = install_none }

  start : ring.extent.start ≡ first.extent.start
  start = ap (λ (r : Ring). r.extent.start) recovers.same

  end : ring.extent.end ≡ first.extent.end
  end = ap (λ (r : Ring). r.extent.end) recovers.same

  coming : ring.extent.coming ≡ first.extent.end
  coming = ap (λ (r : Ring). r.extent.coming) recovers.same ∙ ap (λ (r : Ring). r.extent.coming) rest ∙ sym (ap (λ (r : Ring). r.extent.end) rest)

  next : ring.next ≡ first.extent.end
  next = ap (λ (r : Ring). r.next) recovers.same ∙ ap (λ (r : Ring). r.next) rest ∙ sym (ap (λ (r : Ring). r.extent.end) rest)

  tied : AreTied ring log
  tied = record {
    size = recovers.keeps.size ∙ sym is.blocks;
    start = start ∙ sym is.start;
    end = end ∙ sym is.logged;
    start_to_end = omega (arith, ordered, is.start, is.logged);
    end_to_next = omega (arith, next, is.logged);
    next_to_cut = omega (arith, next, is.cut);
    no_tail = is.next ∙ sym is.cut;
    fits = omega (arith, fits, is.cut, is.start);
    group = omega (arith, is.cut, is.logged);
    small = omega (arith, small, is.next);
    blocks = is.homes;
    coming = inl (coming ∙ sym is.logged);
  }

  whole : IsTrue first.disk.honest → log_of ring ≡ log.updates
  whole honest = log_same first ring recovers honest
      ∙ sym (take_all (first.extent.end - first.extent.start) (log_of first) (omega (
        arith,
        log_length first,
        next,
        ap (λ (r : Ring). r.next) recovers.same,
      )))
      ∙ sym (is.updates honest)

  same : IsTrue ring.disk.honest → log_of ring ≡ take (ring.next - log.start) log.updates
  same honest = whole (subst IsTrue recovers.keeps.honest honest)
      ∙ sym (take_all (ring.next - log.start) log.updates (omega (arith, next, is.next)))

  pub stands_now : IsTrue ring.disk.honest → EveryImage ring.disk.past (StandsFor (size_of opened) (blocks_now opened))
  stands_now honest image one =
      let was : IsTrue first.disk.honest = subst IsTrue recovers.keeps.honest honest in
      stands_same first.disk.past.size (size_of opened) (blocks_to first first.extent.end) (blocks_now opened) image (sym recovers.keeps.size) (λ b home lt.
      (λ i. updated (sym (is.updates was) i) b (read_of (sym (recovers.past was) i) b)))
      (stands was image (subst (λ (p : Past). IsImage p image) (recovers.past was) one))

  labels_now : IsTrue ring.disk.honest → EveryImage ring.disk.past (HasLabel ring.label)
  labels_now honest =
      let was : IsTrue first.disk.honest = subst IsTrue recovers.keeps.honest honest in
      subst (λ (l : Bytes). EveryImage ring.disk.past (HasLabel l)) (sym (ap (λ (r : Ring). r.label) recovers.same))
      (subst (λ (p : Past). EveryImage p (HasLabel first.label)) (sym (recovers.past was)) (labels was))

  images : IsTrue ring.disk.honest → EveryImage ring.disk.past (MayStandFor opened)
  images honest image one = inl (stands_same (size_of opened) (size_of opened) (blocks_now opened) (blocks_logged opened) image refl
      (λ b home lt. ap (λ (us : List Update). updated us b (home_of ring b))
      (sym (take_all (log.logged - log.start) log.updates (omega (arith, is.logged, is.next)))))
      (stands_now honest image one))

  pub opened_sound : IsWal opened × IsAtRest opened
  opened_sound = (
    record {
      tied = tied;
      log = same;
      images = images;
      label = labels_now;
      logging = coming ∙ sym end;
      installing = ap (λ (r : Ring). r.extent.freed) recovers.same ∙ ap (λ (r : Ring). r.extent.freed) rest ∙ sym start;
    },
    record {
      fine = fine;
      logging = λ i. log_steps_by ring.sealed log_blocks (nothing i) (log.cut - ring.next);
      installing = refl;
      tail = length-drop (log.cut - log.start) log.updates ∙ omega (arith, is.cut, is.next, is.start, ordered);
      cut = is.logged ∙ sym is.cut;
      next = is.next ∙ sym is.cut;
      small = omega (arith, small, is.next);
    },
  )
    where
      nothing : log.cut - log.logged ≡ 0
      nothing = omega (arith, is.cut, is.logged)
