-- What the places that a record keeps lead to.
use Rattle.std.proofs.Common.{◌≡◌, ◌≢◌, ⊎_elim, ◌<◌, ◌≤◌, ◌-◌, ℕ, zero, suc, List, [], ◌∷◌, length, get_or, map, take, drop, Option, None, unwrap_or, refl, sym, ap, ◌∙◌, arith, subst, add-one}
use Rattle.std.proofs.lemmas.List.{take_more, take_all, map-append, reverse-append, length-reverse, length-map, length-take-le, get_or_read}
use Rattle.std.proofs.lemmas.Bool.{cases_eq}
use Rattle.journal_block.specs.Block.{Bytes}
use Rattle.journal_disk.specs.declared.events.Entry.{Entry}
use Rattle.journal_disk.specs.declared.events.Entry.TheVariants.{Write, Barrier}
use Rattle.journal_disk.specs.declared.events.WriteEntry.{WriteEntry}
use Rattle.journal_disk.specs.Disks.{DiskEvent, write, barrier, newest, pending_in, stable_in, read_in}
use Rattle.journal_disk.specs.MemDisks.{chosen_in}
use Rattle.journal_disk.specs.Records.{event_of, events_of, up_to_write, up_to_barrier, IsWriteAt, WritesAt, IsLinkOf, IsLinked}
use Rattle.journal_disk.specs.Laws.{pending_written}
use Rattle.journal_disk.proofs.Places.{TellsAll, up_to_written, up_to_other, length-up_to_write, length-pending_in, begins_with_write, up_to_write-twice, since_barrier, before_barrier, read_last}

-- The first entries

-- the events of the first k entries
abbrev pub upto : List Entry → ℕ → List DiskEvent
upto entries k = events_of (take k entries)

upto_all : (entries : List Entry) → upto entries (length entries) ≡ events_of entries
upto_all entries = ap events_of (take_all (length entries) entries (omega arith))

upto_more : (entries : List Entry) (k : ℕ) → k < length entries
    → upto entries (suc k) ≡ event_of (get_or entries k Barrier) ∷ upto entries k
upto_more entries k lt = rw (← add-one k) (ap events_of (take_more entries k Barrier lt) ∙ simp (map-append, reverse-append))

length-upto : (entries : List Entry) (k : ℕ) → k ≤ length entries → length (upto entries k) ≡ k
length-upto entries k le =
    length-reverse (map event_of (take k entries)) ∙ length-map (take k entries) event_of ∙ length-take-le k entries le

-- no more writes are pending than there are entries
pub pending_within : (entries : List Entry) (b : ℕ) → length (pending_in (events_of entries) b) ≤ length entries
pending_within entries b =
    omega (arith, length-pending_in (events_of entries) b, length-reverse (map event_of entries), length-map entries event_of)

-- the last write stands at its place
abbrev StandsAtPlace : List Entry → ℕ → List DiskEvent → Type 0
StandsAtPlace entries b now = up_to_write now b ≡ upto entries (length (up_to_write now b))

last_stands : (entries : List Entry) (b k : ℕ) → k ≤ length entries → StandsAtPlace entries b (upto entries k)
last_stands entries b zero le = refl
last_stands entries b (suc k) le =
    subst (StandsAtPlace entries b) (sym more) (by_event (last_stands entries b k (omega arith)) (event_of (get_or entries k Barrier)) more)
  where
    more : upto entries (suc k) ≡ event_of (get_or entries k Barrier) ∷ upto entries k
    more = upto_more entries k (omega arith)

    by_event : StandsAtPlace entries b (upto entries k) → (e : DiskEvent) → upto entries (suc k) ≡ e ∷ upto entries k
        → StandsAtPlace entries b (e ∷ upto entries k)
    by_event older barrier now = older
    by_event older (write c bytes) now = ⊎_elim
        (λ (here : b ≡ c).
        let this = up_to_written (upto entries k) b c bytes here in
        this ∙ sym now ∙ ap (upto entries) (sym (ap length (this ∙ sym now) ∙ length-upto entries (suc k) le)))
        (λ (other : b ≢ c).
        let skips = up_to_other (upto entries k) b c bytes other in
        skips ∙ older ∙ ap (λ (l : List DiskEvent). upto entries (length l)) (sym skips))
        (cases_eq b c)

-- The place of a write

-- The place is one of a write of the block, or 0
pub record IsPlaceOf (entries : List Entry) (b place : ℕ) : Type 0 where
  pub within : place ≤ length entries
  pub ends : up_to_write (upto entries place) b ≡ upto entries place

place_of_last : (entries : List Entry) (b k : ℕ) → k ≤ length entries → IsPlaceOf entries b (length (up_to_write (upto entries k) b))
place_of_last entries b k le = record {
  within = omega (arith, length-up_to_write (upto entries k) b, length-upto entries k le);
  ends = subst (λ (l : List DiskEvent). up_to_write l b ≡ l) (last_stands entries b k le) (up_to_write-twice (upto entries k) b);
}

-- The place is that of this write of the block
record HasWrite (entries : List Entry) (b place : ℕ) : Type 0 where
  pub entry : WriteEntry
  pub at : get_or entries (place - 1) Barrier ≡ Write entry
  pub block : entry.block ≡ b
  pub events : upto entries place ≡ write b entry.bytes ∷ upto entries (place - 1)

has_write : (entries : List Entry) (b place : ℕ) → IsPlaceOf entries b place → 0 < place → HasWrite entries b place
has_write entries b zero of lt = absurd (omega arith)
has_write entries b (suc k) of lt = ⊎_elim
    (λ none. absurd (omega (arith, length-upto entries (suc k) of.within, ap length (sym of.ends ∙ none))))
    (λ some. of_entry (get_or entries k Barrier) refl some.0 some.1 (sym more ∙ sym of.ends ∙ some.2))
    (begins_with_write (upto entries (suc k)) b)
  where
    more : upto entries (suc k) ≡ event_of (get_or entries k Barrier) ∷ upto entries k
    more = upto_more entries k (omega (arith, of.within))

    of_entry : (x : Entry) → get_or entries k Barrier ≡ x → (bytes : Bytes) (older : List DiskEvent)
        → event_of (get_or entries k Barrier) ∷ upto entries k ≡ write b bytes ∷ older → HasWrite entries b (suc k)
    of_entry Barrier at bytes older same = let impossible : ⊥ = cc in absurd impossible
    of_entry (Write w) at bytes older same =
        let this : w.block ≡ b = cc in
        let before : k ≡ suc k - 1 = omega arith in record {
          entry = w;
          at = ap (λ (m : ℕ). get_or entries m Barrier) (sym before) ∙ at;
          block = this;
          events = more ∙ (λ i. event_of (at i) ∷ upto entries (before i)) ∙ ap (λ (n : ℕ). write n w.bytes ∷ upto entries (suc k - 1)) this;
        }

pub is_write_at : {entries : List Entry} {b place : ℕ} → IsPlaceOf entries b place → 0 < place → IsWriteAt entries place
is_write_at {entries = entries} {b = b} {place = place} of lt = let has = has_write entries b place of lt in (lt, (has.entry, has.at))

-- a read up to the place gives the bytes of its write
pub read_at : {entries : List Entry} {b place : ℕ} (bytes : Option Bytes) → IsPlaceOf entries b place
    → (place ≡ 0 → bytes ≡ None) → (0 < place → WritesAt entries place bytes)
    → (first : Bytes) → read_in first (upto entries place) b ≡ unwrap_or bytes first
read_at {place = zero} bytes of none some first = ap (λ (o : Option Bytes). unwrap_or o first) (sym (none refl))
read_at {entries = entries} {b = b} {place = suc k} bytes of none some first =
    let has = has_write entries b (suc k) of (omega arith) in
    let older = upto entries (suc k - 1) in
    let found = some (omega arith) in
    let this : has.entry ≡ found.0 = cc in
    ap (λ (l : List DiskEvent). read_in first l b) has.events
    ∙ ap (λ (ws : List Bytes). newest ws (stable_in first older b)) (pending_written older b b has.entry.bytes refl)
    ∙ ap (λ (w : WriteEntry). w.bytes) this
    ∙ ap (λ (o : Option Bytes). unwrap_or o first) (sym found.2)

-- The place that a record keeps of the block's last write

module _ {entries : List Entry} {synced : ℕ} {last : List ℕ} {now : List DiskEvent} (b : ℕ) {place : ℕ} (linked : IsLinked entries synced last) (is : events_of entries ≡ now) (lt : b < length last) (found : place ≡ get_or last b place) where
  all : upto entries (length entries) ≡ now
  all = upto_all entries ∙ is

  here : length (up_to_write now b) ≡ place
  here = ap (λ (l : List DiskEvent). length (up_to_write l b)) (sym is) ∙ sym (linked.writes b lt) ∙ sym (get_or_read last b place lt found 0)

  barrier_here : length (up_to_barrier now) ≡ synced
  barrier_here = ap (λ (l : List DiskEvent). length (up_to_barrier l)) (sym is) ∙ sym linked.barrier

  stands : up_to_write now b ≡ upto entries place
  stands = subst (StandsAtPlace entries b) all (last_stands entries b (length entries) (omega arith)) ∙ ap (upto entries) here

  pub kept_place : IsPlaceOf entries b place
  kept_place = subst (IsPlaceOf entries b) (ap (λ (l : List DiskEvent). length (up_to_write l b)) all ∙ here) (place_of_last entries b (length entries) (omega arith))

  pub read_there : (first : Bytes) → read_in first now b ≡ read_in first (upto entries place) b
  read_there first = read_last first now b ∙ ap (λ (l : List DiskEvent). read_in first l b) stands

  pub none_pending : place ≤ synced → pending_in now b ≡ []
  none_pending le = before_barrier now b (omega (arith, here, barrier_here))

  pub some_pending : synced < place → pending_in now b ≡ pending_in (upto entries place) b
  some_pending more =
      sym (since_barrier now b (omega (arith, here, barrier_here))).pending ∙ ap (λ (l : List DiskEvent). pending_in l b) stands

-- The walk back over the writes of a block

-- It has come to this place, and what is left of it gives the choice
pub record Walks (entries : List Entry) (synced : ℕ) (now : List DiskEvent) (b k place : ℕ) : Type 0 where
  pub of : IsPlaceOf entries b place
  pub barrier : synced < place → length (up_to_barrier (upto entries place)) ≡ synced
  pub pending : synced < place → (first : Bytes) → chosen_in first now b k ≡ chosen_in first (upto entries place) b k
  pub stable : place ≤ synced → (first : Bytes) → chosen_in first now b k ≡ read_in first (upto entries place) b

drop-nil : (n : ℕ) → drop {A = Bytes} n [] ≡ []
drop-nil zero = refl
drop-nil (suc n) = refl

-- where nothing is pending, a choice is what a read gives
chosen_none : (first : Bytes) (now : List DiskEvent) (b k : ℕ) → pending_in now b ≡ [] → chosen_in first now b k ≡ read_in first now b
chosen_none first now b k none =
    (λ i. newest (drop (length (none i) - k) (none i)) (stable_in first now b))
    ∙ ap (λ (ws : List Bytes). newest ws (stable_in first now b)) (drop-nil (0 - k) ∙ sym none)

chosen_told : (first : Bytes) (older now : List DiskEvent) (b k : ℕ) → TellsAll older now b → chosen_in first older b k ≡ chosen_in first now b k
chosen_told first older now b k tells =
    λ i. newest (drop (length (tells.pending i) - k) (tells.pending i)) (tells.stable first i)

-- at the write that is chosen, and at a later one
module _ (first bytes : Bytes) (older : List DiskEvent) (b k : ℕ) where
  with_write : chosen_in first (write b bytes ∷ older) b k ≡ newest (drop (suc (length (pending_in older b)) - k) (bytes ∷ pending_in older b)) (stable_in first older b)
  with_write =
      let here = pending_written older b b bytes refl in
      λ i. newest (drop (length (here i) - k) (here i)) (stable_in first older b)

  chosen_here : length (pending_in older b) < k → chosen_in first (write b bytes ∷ older) b k ≡ bytes
  chosen_here lt =
      let none : suc (length (pending_in older b)) - k ≡ 0 = omega arith in
      with_write ∙ ap (λ (n : ℕ). newest (drop n (bytes ∷ pending_in older b)) (stable_in first older b)) none

  chosen_earlier : k ≤ length (pending_in older b) → chosen_in first (write b bytes ∷ older) b k ≡ chosen_in first older b k
  chosen_earlier le =
      let more : suc (length (pending_in older b)) - k ≡ suc (length (pending_in older b) - k) = omega arith in
      with_write ∙ ap (λ (n : ℕ). newest (drop n (bytes ∷ pending_in older b)) (stable_in first older b)) more

-- from the last write of the first j entries
walks_from : (entries : List Entry) (synced b k j : ℕ) → j ≤ length entries → length (up_to_barrier (upto entries j)) ≡ synced
    → Walks entries synced (upto entries j) b k (length (up_to_write (upto entries j) b))
walks_from entries synced b k j le is = record {
  of = place_of_last entries b j le;
  barrier = λ lt. ap length (sym (ap up_to_barrier to) ∙ (tells lt).barrier) ∙ is;
  pending = λ lt first. sym (chosen_told first (up_to_write now b) now b k (tells lt)) ∙ ap (λ (l : List DiskEvent). chosen_in first l b k) to;
  stable = λ le first. chosen_none first now b k (before_barrier now b (omega (arith, is))) ∙ read_last first now b ∙ ap (λ (l : List DiskEvent). read_in first l b) to;
}
  where
    now : List DiskEvent
    now = upto entries j

    to : up_to_write (upto entries j) b ≡ upto entries (length (up_to_write (upto entries j) b))
    to = last_stands entries b j le

    tells : synced < length (up_to_write (upto entries j) b) → TellsAll (up_to_write (upto entries j) b) (upto entries j) b
    tells lt = since_barrier (upto entries j) b (omega (arith, is))

pub walk_start : {entries : List Entry} {synced : ℕ} {last : List ℕ} {now : List DiskEvent} (b : ℕ) {place : ℕ} (k : ℕ)
    → IsLinked entries synced last → events_of entries ≡ now → b < length last → place ≡ get_or last b place → Walks entries synced now b k place
walk_start {entries = entries} {synced = synced} {last = last} {now = now} b {place = place} k linked is lt found =
    subst (λ (n : ℕ). Walks entries synced now b k n) (here b linked is lt found)
    (subst (λ (l : List DiskEvent). Walks entries synced l b k (length (up_to_write l b))) now_is
    (walks_from entries synced b k (length entries) (omega arith) (ap (λ (l : List DiskEvent). length (up_to_barrier l)) now_is ∙ barrier_here b linked is lt found)))
  where
    now_is : upto entries (length entries) ≡ now
    now_is = upto_all entries ∙ is

-- at a pending write
module _ {entries : List Entry} {synced : ℕ} {last : List ℕ} {now : List DiskEvent} {b k place : ℕ} {w : WriteEntry} (linked : IsLinked entries synced last) (walks : Walks entries synced now b k place) (pends : synced < place) (at : get_or entries (place - 1) Barrier ≡ Write w) where
  events_there : upto entries place ≡ write b w.bytes ∷ upto entries (place - 1)
  events_there =
      let has = has_write entries b place walks.of (omega arith) in
      let this : has.entry ≡ w = cc in
      has.events ∙ ap (λ (x : WriteEntry). write b x.bytes ∷ upto entries (place - 1)) this

  link : IsLinkOf (upto entries (place - 1)) (Write (record w { block = b }))
  link =
      let has = has_write entries b place walks.of (omega arith) in
      let this : has.entry ≡ w = cc in
      let block : w.block ≡ b = ap (λ (x : WriteEntry). x.block) (sym this) ∙ has.block in
      subst (λ (n : ℕ). IsLinkOf (upto entries (place - 1)) (Write (record w { block = n }))) block
      (subst (IsLinkOf (upto entries (place - 1))) at (linked.links (place - 1) (omega (arith, walks.of.within))))

  pub walk_found : w.number ≤ k → (first : Bytes) → chosen_in first now b k ≡ w.bytes
  walk_found le first = walks.pending pends first
      ∙ ap (λ (l : List DiskEvent). chosen_in first l b k) events_there
      ∙ chosen_here first w.bytes (upto entries (place - 1)) b k (omega (arith, link.1))

  pub walk_more : k < w.number → Walks entries synced now b k w.earlier
  walk_more lt = subst (λ (n : ℕ). Walks entries synced now b k n) (sym link.0) (record {
    of = next.of;
    barrier = next.barrier;
    pending = λ more first. skips first ∙ next.pending more first;
    stable = λ no_more first. skips first ∙ next.stable no_more first;
  })
    where
      next : Walks entries synced (upto entries (place - 1)) b k (length (up_to_write (upto entries (place - 1)) b))
      next = walks_from entries synced b k (place - 1) (omega (arith, walks.of.within))
          (ap (λ (l : List DiskEvent). length (up_to_barrier l)) (sym events_there) ∙ walks.barrier pends)

      skips : (first : Bytes) → chosen_in first now b k ≡ chosen_in first (upto entries (place - 1)) b k
      skips first = walks.pending pends first
          ∙ ap (λ (l : List DiskEvent). chosen_in first l b k) events_there
          ∙ chosen_earlier first w.bytes (upto entries (place - 1)) b k (omega (arith, link.1))

  pub earlier_falls : w.earlier < place
  earlier_falls =
      omega (arith, link.0, length-up_to_write (upto entries (place - 1)) b, length-upto entries (place - 1) (omega (arith, walks.of.within)))

  -- the number of the write counts those pending up to it
  pub number_is : w.number ≡ length (pending_in (upto entries place) b)
  number_is = link.1 ∙ sym (ap (λ (l : List DiskEvent). length (pending_in l b)) events_there ∙ ap length (pending_written (upto entries (place - 1)) b b w.bytes refl))
