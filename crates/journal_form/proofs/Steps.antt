-- What the steps that bring a log home leave of its blocks.
use Rattle.std.proofs.Common.{◌≡◌, ◌≢◌, ⊎_elim, ◌<◌, ◌≤◌, ◌+◌, ◌-◌, ◌==◌, ℕ, Bool, true, false, cond, List, take, Option, Some, refl, sym, ap, subst, ◌∙◌, arith, slice_get, IsTrue}
use Rattle.std.proofs.lemmas.Bool.{eq-eqb, eqb-true, cond-true, cond-false}
use Rattle.journal_block.specs.declared.update.Update.{Update}
use Rattle.journal_block.specs.Block.{Bytes}
use Rattle.journal_block.specs.Updates.{Content, updated, updates_block}
use Rattle.journal_disk.specs.Disks.{Past, DiskState, Keeps, IsSettled, read_of}
use Rattle.journal_disk.specs.Images.{EveryImage, reading}
use Rattle.journal_disk.specs.Moments.{LeavesOnly}
use Rattle.journal_disk.specs.Laws.{leaves_also, leaves_now, leaves_none, settled_reads, reading_is_image}
use Rattle.journal_circ.specs.StandsFor.{StandsFor}
use Rattle.journal_circ.specs.Ring.{Ring, log_of, home_of, blocks_to, StandsForEither, SameHomeBut, IsLogged, IsInstalled, KeepsLog, Crashes, IsHomeAndLabel, ChangesForm}
use Rattle.journal_circ.specs.Log.{updates_from, label_of, HasLabel}
use Rattle.journal_form.specs.Forms.{HoldsThroughout, HoldsLabelThroughout}
use Rattle.journal_form.specs.Inspections.{HasFormat, TellsFiles}
use Rattle.journal_form.specs.declared.inspecting.FileFormat.{FileFormat}
use Rattle.journal_form.specs.Emptying.{Rests, IsLogAndLabel, StaysThroughout, HasHomesTo, BringsUpdate, BringsHome, IsEmptied}
use Rattle.journal_form.proofs.Moments.{leaves_then}
use Rattle.journal_form.proofs.Updating.{updated_again, updated_more, named_at}

-- On a disk of as many blocks, with the same label, the log stands for the same
pub record SameBlocks (old r : Ring) : Type 0 where
  pub size : r.disk.past.size ≡ old.disk.past.size
  pub label : r.label ≡ old.label
  pub each : (b : ℕ) → 513 ≤ b → b < old.disk.past.size → blocks_to r r.extent.end b ≡ blocks_to old old.extent.end b

-- what an image stands for, it stands for in other words
pub stands_as : (n m : ℕ) (f g : Content) → n ≡ m → ((b : ℕ) → 513 ≤ b → b < m → f b ≡ g b)
    → (image : List Bytes) → StandsFor n f image → StandsFor m g image
stands_as n m f g sizes same image stands = record {
  size = stands.size ∙ sizes;
  well_formed = stands.well_formed;
  each = λ b home lt. stands.each b home (omega (arith, sizes, lt)) ∙ same b home lt;
}

module _ (old r : Ring) (same : SameBlocks old r) where
  -- one more call is made, which leaves only what the log stands for
  pub stays_on : (new : Past) → StaysThroughout old r.disk.past → StaysThroughout r new → StaysThroughout old new
  stays_on new before step = leaves_then old.disk.past r.disk.past new _ before (leaves_also r.disk.past new _ _ step (λ image both. (
    stands_as r.disk.past.size old.disk.past.size (blocks_to r r.extent.end) (blocks_to old old.extent.end) same.size same.each image both.0,
    both.1 ∙ same.label,
  )))

  -- each image stands for the blocks of the log, and has the label
  pub stands_now : StaysThroughout old r.disk.past → EveryImage r.disk.past (IsLogAndLabel r)
  stands_now before image is = let both = leaves_now old.disk.past r.disk.past _ before image is in (
    stands_as old.disk.past.size r.disk.past.size (blocks_to old old.extent.end) (blocks_to r r.extent.end) (sym same.size)
        (λ b home lt. sym (same.each b home (omega (arith, same.size, lt)))) image both.0,
    both.1 ∙ sym same.label,
  )

-- a step of a log whose end does not change leaves what the log stands for
pub leaves_end : (r : Ring) (new : Past) (coming : ℕ) → coming ≡ r.extent.end → LeavesOnly r.disk.past new (StandsForEither r r.extent.end coming)
    → LeavesOnly r.disk.past new (HasLabel r.label) → StaysThroughout r new
leaves_end r new coming at_end leaves labels = record {
  extends = leaves.extends;
  each = λ m from to image is. (
    ⊎_elim
        (λ here. here)
        (λ there. subst (λ (to : ℕ). StandsFor r.disk.past.size (blocks_to r to) image) at_end there)
        (leaves.each m from to image is),
    labels.each m from to image is,
  );
}

-- The updates up to a position are at home
module _ (old r : Ring) (q : ℕ) (brought : BringsHome old q r) (ge : old.extent.start ≤ q) (le : q ≤ old.extent.end) (honest : IsTrue old.disk.honest) where
  pub same_blocks : SameBlocks old r
  same_blocks = record {
    size = brought.keeps.size;
    label = brought.label;
    each = λ b home lt.
        (λ i. updated (take (brought.end i - brought.start i) (brought.log honest i)) b (brought.homes honest b home lt i))
        ∙ updated_again (log_of old) (old.extent.end - old.extent.start) (q - old.extent.start) b (home_of old b) (omega (arith, le));
  }

-- where nothing happened each image stands for the blocks of the log, and has the label
pub stays_at_rest : (r : Ring) (new : Past) → Rests r → IsTrue r.disk.honest → new ≡ r.disk.past → StaysThroughout r new
stays_at_rest r new rests honest same = leaves_none r.disk.past new (IsLogAndLabel r) same (λ image is. (rests.stands honest image is, rests.labels honest image is))

-- nothing is at home yet
pub none_home : (r : Ring) → Rests r → BringsHome r r.extent.start r
none_home r rests = record {
  start = refl;
  end = refl;
  coming = refl;
  next = refl;
  fine = rests.fine;
  label = refl;
  keeps = record { size = refl; honest = refl; failures = omega arith };
  log = λ _. refl;
  homes = λ _ b home lt. (λ i. updated (take (none i) (log_of r)) b (home_of r b));
  crash = λ honest. stays_at_rest r r.disk.past rests honest refl;
}
  where
    none : 0 ≡ r.extent.start - r.extent.start
    none = omega arith

keeps_on : (a b c : DiskState) → Keeps a b → Keeps b c → Keeps a c
keeps_on a b c first second = record {
  size = second.size ∙ first.size;
  honest = second.honest ∙ first.honest;
  failures = omega (arith, first.failures, second.failures);
}

-- the update at the position comes to what the log up to the next one makes of each block
one_more : (old r new : Ring) (q : ℕ) → old.extent.start ≤ q → (u : Update) → slice_get (log_of old) (q - old.extent.start) ≡ Some u
    → HasHomesTo old q r → home_of new u.block ≡ u.bytes → ((b : ℕ) → 513 ≤ b → b < old.disk.past.size → b ≢ u.block → home_of new b ≡ home_of r b)
    → HasHomesTo old (q + 1) new
one_more old r new q ge u here homes put others b home lt = by_case (u.block == b) refl
    ∙ sym (updated_more (log_of old) (q - old.extent.start) b u (home_of old b) here)
    ∙ (λ i. updated (take (next i) (log_of old)) b (home_of old b))
  where
    next : q - old.extent.start + 1 ≡ q + 1 - old.extent.start
    next = omega (arith, ge)

    was : Bytes
    was = updated (take (q - old.extent.start) (log_of old)) b (home_of old b)

    apart : false ≡ true → ⊥
    apart e = let impossible : ⊥ = cc in impossible

    by_case : (is : Bool) → (u.block == b) ≡ is → home_of new b ≡ cond (u.block == b) u.bytes was
    by_case true is = ap (home_of new) (sym (eqb-true u.block b is)) ∙ put ∙ sym (cond-true (u.block == b) u.bytes was is)
    by_case false is = others b home lt (λ (same : b ≡ u.block). apart (sym is ∙ eq-eqb u.block b (sym same)))
        ∙ homes b home lt ∙ sym (cond-false (u.block == b) u.bytes was is)

-- one more update is at home
pub one_home : (old r new : Ring) (q : ℕ) → BringsHome old q r → old.extent.start ≤ q → q < old.extent.end
    → Keeps r.disk new.disk → (IsTrue r.disk.honest → StaysThroughout r new.disk.past) → BringsUpdate r q new → BringsHome old (q + 1) new
one_home old r new q brought ge lt keeps stays brings = record {
  start = ap (λ (s : Ring). s.extent.start) brings.same ∙ brought.start;
  end = ap (λ (s : Ring). s.extent.end) brings.same ∙ brought.end;
  coming = ap (λ (s : Ring). s.extent.coming) brings.same ∙ brought.coming;
  next = ap (λ (s : Ring). s.next) brings.same ∙ brought.next;
  fine = ap (λ (s : Ring). s.faulted) brings.same ∙ brought.fine;
  label = ap (λ (s : Ring). s.label) brings.same ∙ brought.label;
  keeps = keeps_on old.disk r.disk new.disk brought.keeps keeps;
  log = λ honest. brings.log (as_honest honest) ∙ brought.log honest;
  homes = λ honest. homes_on honest (brings.update (as_honest honest));
  crash = λ honest. stays_on old r (same_blocks old r q brought ge (omega (arith, lt)) honest) new.disk.past (brought.crash honest) (stays (as_honest honest));
}
  where
    as_honest : IsTrue old.disk.honest → IsTrue r.disk.honest
    as_honest honest = brought.keeps.honest ∙ honest

    homes_on : IsTrue old.disk.honest → (u : Update) × (slice_get (log_of r) (q - r.extent.start) ≡ Some u) × (home_of new u.block ≡ u.bytes) × SameHomeBut u.block r new
        → HasHomesTo old (q + 1) new
    homes_on honest (u, here, put, others) = one_more old r new q ge u
        ((λ i. slice_get (sym (brought.log honest) i) (q - sym brought.start i)) ∙ here)
        (brought.homes honest) put (λ b home b_lt. others b home (omega (arith, b_lt, brought.keeps.size)))

-- the log stands for the same after a read
module _ (old mid : Ring) (same : mid ≡ record old { disk = mid.disk }) (past : mid.disk.past ≡ old.disk.past) where
  log_read : log_of mid ≡ log_of old
  log_read = ap log_of same ∙ (λ i. updates_from old.header (read_of (past i)) old.extent.start (old.next - old.extent.start))

  pub same_read : SameBlocks old mid
  same_read = record {
    size = ap (λ (p : Past). p.size) past;
    label = ap (λ (s : Ring). s.label) same;
    each = λ b home lt. (λ i. updated (take ((same i).extent.end - (same i).extent.start) (log_read i)) b (read_of (past i) b));
  }

  -- the block of the update at a position is one that the log has
  pub is_logged : (position : ℕ) (u : Update) → old.extent.start ≤ position → position < old.extent.end
      → slice_get (log_of old) (position - old.extent.start) ≡ Some u → IsLogged mid u.block
  is_logged position u ge lt here =
      (λ i. updates_block (take ((same i).extent.end - (same i).extent.start) (log_read i)) u.block)
      ∙ named_at (log_of old) (old.extent.end - old.extent.start) (position - old.extent.start) u (omega (arith, ge, lt)) here

-- All updates are at home

-- the bounds of the log, and that no call failed
record SameBounds (r new : Ring) : Type 0 where
  pub start : new.extent.start ≡ r.extent.start
  pub end : new.extent.end ≡ r.extent.end
  pub coming : new.extent.coming ≡ r.extent.coming
  pub next : new.next ≡ r.next
  pub fine : new.faulted ≡ r.faulted

module _ (old r : Ring) (rests : Rests old) (order : old.extent.start ≤ old.extent.end) (brought : BringsHome old old.extent.end r) where
  same_all : IsTrue old.disk.honest → SameBlocks old r
  same_all honest = same_blocks old r old.extent.end brought order (omega arith) honest

  -- one more call of the installer leaves what the log stands for
  pub stepped : (new : Ring) → IsTrue old.disk.honest → Crashes r.extent.coming r new → StaysThroughout old new.disk.past
  stepped new honest crashes = let now : IsTrue r.disk.honest = brought.keeps.honest ∙ honest in
      stays_on old r (same_all honest) new.disk.past (brought.crash honest)
      (leaves_end r new.disk.past r.extent.coming (brought.coming ∙ rests.coming ∙ sym brought.end) (crashes.moments now) (crashes.label.moments now))

  -- and keeps it at home
  brought_on : (new : Ring) → SameBounds r new → Crashes r.extent.coming r new → (IsTrue r.disk.honest → KeepsLog r new) → BringsHome old old.extent.end new
  brought_on new bounds crashes keeps = record {
    start = bounds.start ∙ brought.start;
    end = bounds.end ∙ brought.end;
    coming = bounds.coming ∙ brought.coming;
    next = bounds.next ∙ brought.next;
    fine = bounds.fine ∙ brought.fine;
    label = crashes.label.same ∙ brought.label;
    keeps = keeps_on old.disk r.disk new.disk brought.keeps crashes.keeps;
    log = λ honest. (keeps (brought.keeps.honest ∙ honest)).log ∙ brought.log honest;
    homes = λ honest b home lt. (keeps (brought.keeps.honest ∙ honest)).home b home (omega (arith, lt, brought.keeps.size)) ∙ brought.homes honest b home lt;
    crash = λ honest. stepped new honest crashes;
  }

  pub brought_synced : (new : Ring) → new ≡ record r { disk = new.disk; extent = record r.extent { homes = true } }
      → Crashes r.extent.coming r new → (IsTrue r.disk.honest → KeepsLog r new) → BringsHome old old.extent.end new
  brought_synced new ok = brought_on new (record {
    start = ap (λ (s : Ring). s.extent.start) ok;
    end = ap (λ (s : Ring). s.extent.end) ok;
    coming = ap (λ (s : Ring). s.extent.coming) ok;
    next = ap (λ (s : Ring). s.next) ok;
    fine = ap (λ (s : Ring). s.faulted) ok;
  })

  pub brought_started : (new : Ring) (upto : ℕ) → new ≡ record r { disk = new.disk; extent = record r.extent { freed = upto } }
      → Crashes r.extent.coming r new → (IsTrue r.disk.honest → KeepsLog r new) → BringsHome old old.extent.end new
  brought_started new upto ok = brought_on new (record {
    start = ap (λ (s : Ring). s.extent.start) ok;
    end = ap (λ (s : Ring). s.extent.end) ok;
    coming = ap (λ (s : Ring). s.extent.coming) ok;
    next = ap (λ (s : Ring). s.next) ok;
    fine = ap (λ (s : Ring). s.faulted) ok;
  })

  -- each home block is as the whole log has it
  pub installed : (to : ℕ) → to ≡ old.extent.end → IsTrue r.disk.honest → IsInstalled r to
  installed to at_end honest b home lt =
      (λ i. blocks_to r ((at_end ∙ sym brought.end) i) b)
      ∙ (same_all was).each b home (omega (arith, lt, brought.keeps.size))
      ∙ sym (brought.homes was b home (omega (arith, lt, brought.keeps.size)))
    where
      was : IsTrue old.disk.honest
      was = sym brought.keeps.honest ∙ honest

-- the form of the log that was emptied is changed
pub formed : (old r : Ring) (new : Past) → Keeps old.disk r.disk → StaysThroughout old r.disk.past → IsEmptied old r → IsTrue old.disk.honest → ChangesForm r new
    → StaysThroughout old new
formed old r new keeps before emptied honest changes = leaves_then old.disk.past changes.0 new _
    (leaves_then old.disk.past r.disk.past changes.0 _ before (leaves_also r.disk.past changes.0 _ _ changes.1.0 weaker))
    (leaves_also changes.0 new _ _ changes.1.1 weaker)
  where
    weaker : (image : List Bytes) → IsHomeAndLabel r image → IsLogAndLabel old image
    weaker image both = (
      stands_as r.disk.past.size old.disk.past.size (home_of r) (blocks_to old old.extent.end) keeps.size (emptied.homes honest) image both.0,
      both.1 ∙ emptied.label,
    )

-- where each image stands for some blocks, what leaves them leaves whatever each stands for
pub holds_by : (r : Ring) → EveryImage r.disk.past (StandsFor r.disk.past.size (blocks_to r r.extent.end)) → (new : Past) → StaysThroughout r new → HoldsThroughout r.disk.past new
holds_by r stands new stays blocks all = leaves_also p new _ _ stays
    (λ image both. stands_as p.size p.size (blocks_to r r.extent.end) blocks refl (λ b home lt.
    sym ((stands (reading p) (reading_is_image p)).each b home lt) ∙ (all (reading p) (reading_is_image p)).each b home lt) image both.0)
  where
    p : Past
    p = r.disk.past

-- where nothing is pending each image has the label that block 1 reads
pub keeps_settled : (p new : Past) → IsSettled p → 1 < p.size → new ≡ p → HoldsLabelThroughout p new
keeps_settled p new settled large same = leaves_none p new (HasLabel (label_of (read_of p 1))) same (λ image is. ap label_of (settled_reads p settled image is 1 large))

-- what leaves the label of the log that was opened leaves that of block 1
pub keeps_by : (p new : Past) (r : Ring) → r.disk.past ≡ p → r.label ≡ label_of (read_of p 1) → StaysThroughout r new → HoldsLabelThroughout p new
keeps_by p new r past label stays = subst (λ (q : Past). LeavesOnly q new (HasLabel (label_of (read_of p 1)))) past
    (leaves_also r.disk.past new _ _ stays (λ image both. both.1 ∙ label))

-- what each image stands for tells the format of the first home block
pub tells : (p : Past) (f : Content) (files : Option FileFormat) → 513 < p.size → EveryImage p (StandsFor p.size f)
    → HasFormat (f 513) files → TellsFiles p files
tells p f files lt stands told blocks all =
    subst (λ (first : Bytes). HasFormat first files)
    (sym ((stands (reading p) (reading_is_image p)).each 513 (omega arith) lt) ∙ (all (reading p) (reading_is_image p)).each 513 (omega arith) lt) told
