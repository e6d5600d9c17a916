-- Each call keeps what the durable part keeps, and leaves of its disk only what it may leave.
use Rattle.std.proofs.Common.{◌≡◌, inr, ⊎_elim, ◌<◌, ◌≤◌, ℕ, Bool, true, false, cond, List, [], ◌∷◌, length, IsTrue, Some, None, refl, sym, ap, subst, ◌∙◌, arith, length-append}
use mathlib.Core.List.{IsPrefix}
use Rattle.journal_world.specs.declared.address.Addr.{Addr}
use Rattle.journal_world.specs.Addresses.{is_valid, Shape}
use Rattle.journal_world.specs.Maps.{Map, SameMap, value_at}
use Rattle.journal_world.specs.Histories.{Entry, opened, is_trusted, commits, count, floor, at, latest}
use Rattle.journal_world.specs.Histories.Entry.{opening}
use Rattle.journal_world.proofs.SameMaps.{SameMap-refl, SameMap-trans}
use Rattle.journal_world.proofs.LongerHistories.{after-layout, at-count}
use Rattle.journal_block.specs.declared.update.Update.{Update}
use Rattle.journal_block.specs.Block.{Bytes}
use Rattle.journal_block.specs.Updates.{updated, with_updates, updates_block}
use Rattle.journal_block.specs.UpdateLaws.{updated-named, updated-unnamed}
use Rattle.journal_disk.specs.Disks.{Past, DiskState, Keeps}
use Rattle.journal_disk.specs.Images.{IsImage, EveryImage}
use Rattle.journal_disk.specs.Laws.{leaves_also, leaves_none}
use Rattle.journal_memlog.specs.Logs.{LogState, next_position, tail_of}
use Rattle.journal_wal.specs.Wal.{WalState, size_of, blocks_now, blocks_logged, log_steps, tail_length, IsAtRest, EndsGroup}
use Rattle.journal_wal.specs.Groups.{TakesGroup, HasGroupRoom}
use Rattle.journal_objlog.specs.Groups.{TakesMap}
use Rattle.journal_tail.specs.Maps.{object_or_zeros, map_of}
use Rattle.journal_objlog.specs.Maps.{OpensAs}
use Rattle.journal_tail.specs.MapLaws.{map_of-layout}
use Rattle.journal_objlog.specs.CutLaws.{cut_is_now, logged_is_cut}
use Rattle.journal_tail.specs.ObjectTails.{known_object}
use Rattle.journal_objlog.specs.ObjectLogs.{map_now, map_cut, map_logged, IsCutLogged, MayOpenAs, Crashes as MapCrashes, KeepsMaps, EndsMap, OnlyReads, is_faulted as is_log_faulted, disk_of as log_disk}
use Rattle.journal_tail.proofs.MapsOfBlocks.{law_of, HasObjects-map_of}
use Rattle.journal_memory.specs.Updates.{IsSince, IsLastSince, HaveAllSince}
use Rattle.journal_parts.specs.Durables.{DurableState, disk_of, Leaves, Crashes, IsDurable, begun_durable}
use Rattle.journal_memory.specs.Fetches.{IsBlockAfter}
use Rattle.journal_memory.proofs.Fronts.{at-longer, count-longer, some-longer, opened-longer, trusted-longer}

-- what a crash may leave is the map after the commits that are logged, or after those that come
leaves_of : (layout : Shape) (d : DurableState) → IsDurable layout d → IsTrue (disk_of d).honest → (image : List Bytes)
    → MayOpenAs layout d.objects image → Leaves d image
leaves_of layout d kept honest image may = ⊎_elim
    (λ (opens : OpensAs (map_logged layout d.objects) image). record {
      commits = d.logged;
      marked = kept.marked_to_logged;
      coming = kept.logged_to_coming;
      map = map_logged layout d.objects;
      opens = opens;
      same = (kept.maps honest).logged;
    })
    (λ (opens : OpensAs (map_cut layout d.objects) image). record {
      commits = d.coming;
      marked = omega (arith, kept.marked_to_logged, kept.logged_to_coming);
      coming = omega arith;
      map = map_cut layout d.objects;
      opens = opens;
      same = (kept.maps honest).coming;
    })
    may

-- a call of the object log, before and after which the durable part is in order
crashes_of : (layout : Shape) (old new : DurableState) → IsDurable layout old → IsDurable layout new → MapCrashes old.objects new.objects
    → Crashes old new
crashes_of layout old new before kept crash = record {
  keeps = crash.keeps;
  moments = λ honest. leaves_also (disk_of old).past (disk_of new).past (MayOpenAs layout old.objects) (Leaves old)
      (crash.moments honest layout (sym before.size)) (λ image may. leaves_of layout old before honest image may);
  images = λ honest image one. leaves_of layout new kept honest image (crash.images honest layout (sym kept.size) image one);
}

-- the same, seen from outside
pub crashes_call : (layout : Shape) (inside now new : DurableState) → IsDurable layout inside → inside ≡ now → IsDurable layout new
    → MapCrashes inside.objects new.objects → Crashes now new
crashes_call layout inside now new before is kept crash =
    subst (λ (d : DurableState). Crashes d new) is (crashes_of layout inside new before kept crash)

crashes_same : (layout : Shape) (old new : DurableState) → IsDurable layout old → IsDurable layout new → new.objects ≡ old.objects → Crashes old new
crashes_same layout old new before kept same = record {
  keeps = subst (λ (w : WalState). Keeps (disk_of old) (log_disk w)) (sym same) (record { size = refl; honest = refl; failures = omega arith });
  moments = λ honest. leaves_none (disk_of old).past (disk_of new).past (Leaves old) (ap (λ (w : WalState). (log_disk w).past) same)
      (λ image one. leaves_of layout old before honest image (before.images honest image one));
  images = λ honest image one. leaves_of layout new kept honest image (kept.images honest image one);
}

-- a call without a device call, seen from outside
pub crashes_noted : (layout : Shape) (inside now new : DurableState) → IsDurable layout inside → inside ≡ now → IsDurable layout new
    → new.objects ≡ inside.objects → Crashes now new
crashes_noted layout inside now new before is kept same =
    subst (λ (d : DurableState). Crashes d new) is (crashes_same layout inside new before kept same)

-- each image of the disk, lent or given up
pub leaves_disk : (layout : Shape) (inside now : DurableState) (disk : DiskState) → IsDurable layout inside → inside ≡ now → disk ≡ disk_of inside
    → IsTrue disk.honest → EveryImage disk.past (Leaves now)
leaves_disk layout inside now disk kept is same =
    subst (λ (s : DiskState). IsTrue s.honest → EveryImage s.past (Leaves now)) (sym same)
    (λ honest image one. subst (λ (d : DurableState). Leaves d image) is (leaves_of layout inside kept honest image (kept.images honest image one)))

-- it was only read
pub crashes_read : (layout : Shape) (inside now : DurableState) (objects : WalState) → IsDurable layout inside → inside ≡ now
    → OnlyReads inside.objects objects → Crashes now (record inside { objects = objects })
crashes_read layout inside now objects kept is reads = subst (λ (d : DurableState). Crashes d (record inside { objects = objects })) is (record {
  keeps = reads.keeps;
  moments = λ honest. leaves_none (disk_of inside).past (log_disk objects).past (Leaves inside) (reads.past honest) (left honest);
  images = λ honest image one.
      let was : IsTrue (disk_of inside).honest = subst IsTrue reads.keeps.honest honest in
      let leaves : Leaves inside image = left was image (subst (λ (past : Past). IsImage past image) (reads.past was) one) in record {
        commits = leaves.commits;
        marked = leaves.marked;
        coming = leaves.coming;
        map = leaves.map;
        opens = leaves.opens;
        same = leaves.same;
      };
})
  where
    left : IsTrue (disk_of inside).honest → EveryImage (disk_of inside).past (Leaves inside)
    left honest image one = leaves_of layout inside kept honest image (kept.images honest image one)

pub crashes_reads : (layout : Shape) (inside now new : DurableState) → IsDurable layout inside → inside ≡ now → OnlyReads now.objects new.objects
    → new ≡ record now { objects = new.objects } → Crashes now new
crashes_reads layout inside now new kept is reads same =
    let held : IsDurable layout now = subst (IsDurable layout) is kept in
    subst (λ (d : DurableState). Crashes now d) (sym same) (crashes_read layout now now new.objects held refl reads)

-- No group came or went, and no tail
pub record StaysCut (old new : WalState) : Type 0 where
  pub tail : tail_length old ≡ 0 → old.log.logged ≤ old.log.cut → tail_length new ≡ 0
  pub logged : new.log.logged ≡ old.log.logged
  pub cut : new.log.cut ≡ old.log.cut
  pub next : next_position old.log ≡ old.log.cut → old.log.logged ≤ old.log.cut → next_position new.log ≡ new.log.cut
  pub idle : is_log_faulted new ≡ false → log_steps new ≡ 0 → (is_log_faulted old ≡ false) × (log_steps old ≡ 0)

module _ (layout : Shape) (d : DurableState) (kept : IsDurable layout d) where
  -- the maps stay
  pub kept_call : (objects : WalState) → MapCrashes d.objects objects → (IsTrue (disk_of d).honest → KeepsMaps d.objects objects)
      → StaysCut d.objects objects → IsDurable layout (record d { objects = objects })
  kept_call objects crash maps stays = record {
    size = crash.keeps.size ∙ kept.size;
    begun = kept.begun;
    on_disk = kept.on_disk;
    trusted = kept.trusted ∙ sym crash.keeps.honest;
    floored = kept.floored;
    marked_to_logged = kept.marked_to_logged;
    logged_to_coming = kept.logged_to_coming;
    coming_to_count = kept.coming_to_count;
    tail = stays.tail kept.tail kept.ends;
    ends = omega (arith, stays.logged, stays.cut, kept.ends);
    next = stays.next kept.next kept.ends;
    idle = λ fine none. let was = stays.idle fine none in stays.logged ∙ kept.idle was.0 was.1 ∙ sym stays.cut;
    rest = λ none. kept.rest (sym stays.logged ∙ none ∙ stays.cut);
    maps = λ honest. let was : IsTrue (disk_of d).honest = subst IsTrue crash.keeps.honest honest in record {
      logged = SameMap-trans (map_logged layout objects) (map_logged layout d.objects) (at d.front d.logged) ((maps was).logged layout (sym kept.size)) (kept.maps was).logged;
      coming = SameMap-trans (map_cut layout objects) (map_cut layout d.objects) (at d.front d.coming) ((maps was).cut layout (sym kept.size)) (kept.maps was).coming;
    };
    images = λ honest. crash.images honest layout (sym (crash.keeps.size ∙ kept.size));
  }

  -- the cycle of the group in flight ends
  pub kept_logged : (objects : WalState) → MapCrashes d.objects objects → (IsTrue (disk_of d).honest → EndsMap d.objects objects)
      → EndsGroup d.objects objects → IsDurable layout (record d { objects = objects; logged = d.coming })
  kept_logged objects crash maps end = record {
    size = crash.keeps.size ∙ kept.size;
    begun = kept.begun;
    on_disk = kept.on_disk;
    trusted = kept.trusted ∙ sym crash.keeps.honest;
    floored = kept.floored;
    marked_to_logged = omega (arith, kept.marked_to_logged, kept.logged_to_coming);
    logged_to_coming = omega arith;
    coming_to_count = kept.coming_to_count;
    tail = ap (λ (log : LogState). length (tail_of log)) end.end ∙ kept.tail;
    ends = omega (arith, ends);
    next = ap next_position end.end ∙ kept.next ∙ sym (ap (λ (log : LogState). log.cut) end.end);
    idle = λ fine none. ends;
    rest = λ none. refl;
    maps = λ honest. let was : IsTrue (disk_of d).honest = subst IsTrue crash.keeps.honest honest in record {
      logged = SameMap-trans (map_logged layout objects) (map_cut layout d.objects) (at d.front d.coming) ((maps was).logged layout (sym kept.size)) (kept.maps was).coming;
      coming = SameMap-trans (map_cut layout objects) (map_cut layout d.objects) (at d.front d.coming) ((maps was).cut layout (sym kept.size)) (kept.maps was).coming;
    };
    images = λ honest. crash.images honest layout (sym (crash.keeps.size ∙ kept.size));
  }
    where
      ends : objects.log.logged ≡ objects.log.cut
      ends = ap (λ (log : LogState). log.logged) end.end ∙ sym (ap (λ (log : LogState). log.cut) end.end)

  -- only the marks and the front change
  pub kept_mark : (front : List Entry) → IsPrefix d.front front → floor front ≤ d.logged → IsDurable layout (record d { front = front; marked = d.logged })
  kept_mark front longer floored = record {
    size = kept.size;
    begun = some-longer d.front front kept.begun longer;
    on_disk = ap (λ (m : Map). m.layout) (opened-longer d.front front kept.begun longer) ∙ kept.on_disk;
    trusted = trusted-longer d.front front kept.begun longer ∙ kept.trusted;
    floored = floored;
    marked_to_logged = omega arith;
    logged_to_coming = kept.logged_to_coming;
    coming_to_count = omega (arith, kept.coming_to_count, count-longer d.front front kept.begun longer);
    tail = kept.tail;
    ends = kept.ends;
    next = kept.next;
    idle = kept.idle;
    rest = kept.rest;
    maps = λ honest. record {
      logged = later d.logged (omega (arith, kept.logged_to_coming, kept.coming_to_count)) (map_logged layout d.objects) (kept.maps honest).logged;
      coming = later d.coming kept.coming_to_count (map_cut layout d.objects) (kept.maps honest).coming;
    };
    images = kept.images;
  }
    where
      later : (n : ℕ) → n ≤ count d.front → (m : Map) → SameMap m (at d.front n) → SameMap m (at front n)
      later n le m same = subst (λ (k : Map). SameMap m k) (sym (at-longer d.front front kept.begun longer n le)) same

-- What the blocks that are logged make with a group that has all that was written since: the map
-- after all commits
module _ (n : Shape) (w : WalState) (empty : tail_length w ≡ 0) (none : IsCutLogged w) where
  module _ (front : List Entry) (c : ℕ) (same : SameMap (map_logged n w) (at front c)) (made : c ≤ count front) (group : List Update) where
    value_now : (a : Addr) → IsTrue (is_valid n a) → object_or_zeros n (blocks_now w a.block) a ≡ value_at (at front c) a
    unfolding map_of
    value_now a valid =
        let now : SameMap (map_now n w) (at front c) = subst (λ (m : Map). SameMap m (at front c)) (logged_is_cut n w none ∙ cut_is_now n w empty) same in
        let here : value_at (map_now n w) a ≡ object_or_zeros n (blocks_now w a.block) a =
        (HasObjects-map_of n (law_of n) (blocks_now w)).values a valid in
        sym here ∙ now.values a valid

    value_with : (a : Addr) → IsTrue (is_valid n a) → IsLastSince front c a (known_object n group a)
        → object_or_zeros n (with_updates (blocks_now w) group a.block) a ≡ value_at (latest front) a
    value_with a valid last = by (updates_block group a.block) refl
      where
        by : (named : Bool) → updates_block group a.block ≡ named
            → object_or_zeros n (with_updates (blocks_now w) group a.block) a ≡ value_at (latest front) a
        by true named =
            let known : object_or_zeros n (updated group a.block []) a ≡ value_at (latest front) a = subst (IsLastSince front c a)
            (ap (λ (t : Bool). cond t (Some (object_or_zeros n (updated group a.block []) a)) None) named) last in
            ap (λ (bytes : Bytes). object_or_zeros n bytes a) (updated-named group a.block (blocks_now w a.block) [] named) ∙ known
        by false unnamed =
            let since : IsSince front c a = subst (IsLastSince front c a)
            (ap (λ (t : Bool). cond t (Some (object_or_zeros n (updated group a.block []) a)) None) unnamed) last in
            ap (λ (bytes : Bytes). object_or_zeros n bytes a) (updated-unnamed group a.block (blocks_now w a.block) unnamed)
            ∙ value_now a valid ∙ since c (omega arith) made

    map_with : (opened front).layout ≡ n → HaveAllSince n front c group → SameMap (map_of n (with_updates (blocks_now w) group)) (latest front)
    unfolding map_of
    map_with on_disk all = record {
      layout = sym on_disk ∙ sym (after-layout (opened front) (commits front));
      values = λ a valid.
          (HasObjects-map_of n (law_of n) (with_updates (blocks_now w) group)).values a valid ∙ value_with a valid (all.last a valid);
    }

module _ (layout : Shape) (d : DurableState) (kept : IsDurable layout d) (front : List Entry) (longer : IsPrefix d.front front) where
  open_layout : (opened front).layout ≡ layout
  open_layout = ap (λ (m : Map). m.layout) (opened-longer d.front front kept.begun longer) ∙ kept.on_disk

  logged_later : IsTrue (disk_of d).honest → SameMap (map_logged layout d.objects) (at front d.logged)
  logged_later honest = subst (λ (m : Map). SameMap (map_logged layout d.objects) m)
      (sym (at-longer d.front front kept.begun longer d.logged (omega (arith, kept.logged_to_coming, kept.coming_to_count))))
      (kept.maps honest).logged

  trusts : IsTrue (disk_of d).honest → IsTrue (is_trusted front)
  trusts honest = subst IsTrue (sym (trusted-longer d.front front kept.begun longer ∙ kept.trusted)) honest

  made_later : d.logged ≤ count front
  made_later = omega (arith, kept.logged_to_coming, kept.coming_to_count, count-longer d.front front kept.begun longer)

  -- a group is taken
  pub kept_take : (objects : WalState) (group : List Update) (commits : ℕ) → MapCrashes d.objects objects → TakesGroup d.objects group objects
      → TakesMap d.objects group objects → HasGroupRoom d.objects (length group) → objects.log.logged < objects.log.cut
      → commits ≡ count front → floor front ≤ d.marked → (IsTrue (is_trusted front) → HaveAllSince layout front d.logged group)
      → IsDurable layout (record d { objects = objects; front = front; coming = commits })
  kept_take objects group commits crash takes maps room flies counted floored all = record {
    size = crash.keeps.size ∙ kept.size;
    begun = some-longer d.front front kept.begun longer;
    on_disk = open_layout;
    trusted = trusted-longer d.front front kept.begun longer ∙ kept.trusted ∙ sym crash.keeps.honest;
    floored = floored;
    marked_to_logged = kept.marked_to_logged;
    logged_to_coming = omega (arith, made_later, counted);
    coming_to_count = omega (arith, counted);
    tail = takes.tail;
    ends = omega (arith, flies);
    next = omega (arith, ap next_position takes.log, ap (λ (log : LogState). log.cut) takes.log, length-append d.objects.log.updates group);
    idle = λ fine none. absurd (omega (arith, takes.steps, none));
    rest = λ none. absurd (omega (arith, flies, none));
    maps = λ honest. let was : IsTrue (disk_of d).honest = subst IsTrue crash.keeps.honest honest in record {
      logged = SameMap-trans (map_logged layout objects) (map_logged layout d.objects) (at front d.logged) (maps.logged layout (sym kept.size)) (logged_later was);
      coming = subst (λ (m : Map). SameMap (map_cut layout objects) m) (sym (ap (at front) counted ∙ at-count front))
          (SameMap-trans (map_cut layout objects) (map_of layout (with_updates (blocks_now d.objects) group)) (latest front) (maps.cut layout (sym kept.size))
          (map_with layout d.objects kept.tail (kept.idle room.fine room.place.rest) front d.logged (logged_later was) made_later group
          open_layout (all (trusts was))));
    };
    images = λ honest. crash.images honest layout (sym (crash.keeps.size ∙ kept.size));
  }

  -- commits that wrote nothing are logged, and all are marked
  pub kept_reach : (commits : ℕ) → IsCutLogged d.objects → commits ≡ count front → floor front ≤ commits → (IsTrue (is_trusted front) → HaveAllSince layout front d.logged [])
      → IsDurable layout (record d { front = front; marked = commits; logged = commits; coming = commits })
  kept_reach commits none counted floored all = record {
    size = kept.size;
    begun = some-longer d.front front kept.begun longer;
    on_disk = open_layout;
    trusted = trusted-longer d.front front kept.begun longer ∙ kept.trusted;
    floored = floored;
    marked_to_logged = omega arith;
    logged_to_coming = omega arith;
    coming_to_count = omega (arith, counted);
    tail = kept.tail;
    ends = kept.ends;
    next = kept.next;
    idle = kept.idle;
    rest = λ _. refl;
    maps = λ honest. record {
      logged = reached honest;
      coming = subst (λ (m : Map). SameMap m (at front commits)) (logged_is_cut layout d.objects none) (reached honest);
    };
    images = kept.images;
  }
    where
      reached : IsTrue (disk_of d).honest → SameMap (map_logged layout d.objects) (at front commits)
      reached honest = subst (λ (m : Map). SameMap (map_logged layout d.objects) m) (sym (ap (at front) counted ∙ at-count front))
          (subst (λ (m : Map). SameMap m (latest front)) (sym (logged_is_cut layout d.objects none ∙ cut_is_now layout d.objects kept.tail))
          (map_with layout d.objects kept.tail none front d.logged (logged_later honest) made_later []
          open_layout (all (trusts honest))))

-- what was opened is kept
pub kept_begun : (layout : Shape) (objects : WalState) (front : List Entry) → size_of objects ≡ layout.blocks → IsAtRest objects
    → front ≡ opening (map_now layout objects) (log_disk objects).honest ∷ []
    → (IsTrue (log_disk objects).honest → EveryImage (log_disk objects).past (OpensAs (map_now layout objects)))
    → IsDurable layout (begun_durable objects front)
kept_begun layout objects front size rest begun images =
    subst (λ (h : List Entry). IsDurable layout (begun_durable objects h)) (sym begun) (record {
      size = size;
      begun = λ is. cc (is);
      on_disk = map_of-layout layout (blocks_now objects);
      trusted = refl;
      floored = let none : 0 ≤ 0 = omega arith in none;
      marked_to_logged = omega arith;
      logged_to_coming = omega arith;
      coming_to_count = omega arith;
      tail = rest.tail;
      ends = omega (arith, rest.cut);
      next = rest.next;
      idle = λ fine none. rest.cut;
      rest = λ _. refl;
      maps = λ honest. record {
        logged = subst (λ (m : Map). SameMap m (map_now layout objects)) (sym (logged_is_cut layout objects rest.cut ∙ cut_is_now layout objects rest.tail)) (SameMap-refl (map_now layout objects));
        coming = subst (λ (m : Map). SameMap m (map_now layout objects)) (sym (cut_is_now layout objects rest.tail)) (SameMap-refl (map_now layout objects));
      };
      images = λ honest image one. inr (subst (λ (m : Map). OpensAs m image) (sym (cut_is_now layout objects rest.tail)) (images honest image one));
    })

-- a block as it is logged
pub logged_block : (layout : Shape) (d : DurableState) (u : Update) → IsDurable layout d → IsTrue (is_trusted d.front)
    → u.bytes ≡ blocks_logged d.objects u.block → IsBlockAfter layout d.front d.logged u
unfolding map_of
logged_block layout d u kept trusted is a valid here =
    let honest : IsTrue (disk_of d).honest = subst IsTrue kept.trusted trusted in
    ap (λ (bytes : Bytes). object_or_zeros layout bytes a) (is ∙ ap (blocks_logged d.objects) (sym here))
    ∙ sym ((HasObjects-map_of layout (law_of layout) (blocks_logged d.objects)).values a valid)
    ∙ (kept.maps honest).logged.values a valid
