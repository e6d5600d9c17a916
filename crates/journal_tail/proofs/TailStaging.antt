-- Staging all writes in memory, from the last on, and what is then prepared.
use Rattle.std.proofs.Common.{◌≡◌, ◌<◌, ◌≤◌, ◌+◌, ◌-◌, ◌==◌, ◌&&◌, ◌||◌, not, cond, ℕ, Bool, true, false, List, [], ◌∷◌, ◌++◌, length, IsTrue, Some, refl, sym, ap, subst, ◌∙◌, arith, append_assoc}
use Rattle.std.proofs.lemmas.Bool.{or_right, eq-eqb, eqb-true, false≢true, cond-true, cond-false}
use Rattle.std.proofs.lemmas.List.{append-nil, take-append-drop}
use Rattle.std.proofs.lemmas.List.Elements.{All-nil}
use Rattle.journal_world.specs.declared.address.Kind.TheVariants.{Block}
use Rattle.journal_world.specs.Addresses.{Shape, kind_of, is_value_of}
use Rattle.journal_world.specs.Maps.{Pair, is_object, are_objects, overwritten}
use Rattle.journal_world.specs.Orders.{HasAscendingBlocks}
use Rattle.journal_block.specs.declared.update.Update.{Update}
use Rattle.journal_block.specs.Updates.{updated, with_updates, updates_block}
use Rattle.journal_object.specs.Objects.{ChangesOnly}
use Rattle.journal_memlog.specs.Logs.{IsMemLog, head_of, tail_of, fresh_count}
use Rattle.journal_memlog.specs.Laws.{updates_block-append}
use Rattle.journal_tail.specs.Homes.{AreHomes}
use Rattle.journal_tail.specs.Tails.{TailState, TakesFresh}
use Rattle.journal_tail.specs.Maps.{map_of}
use Rattle.journal_tail.specs.Writes.{Base, map_in, writes_block, written_blocks, fresh_among, fresh_blocks, CanPrepare, IsPrepared}
use Rattle.journal_tail.specs.ObjectTails.{blocks_of, known_updates, tail_base, is_one_object, is_missing, HasBlocks, OverwritesKnown, TakesPrepared, with_tail_room, updates_with}
use Rattle.journal_tail.specs.Staging.{IsAboveNone, first_update, first_bytes, with_first, IsStaged, IsOpen, StandsWhole, AreInTail}
use Rattle.journal_tail.specs.Applying.{fresh_writes}
use Rattle.journal_tail.proofs.Ascending.{ascending_later, objects_split}
use Rattle.journal_tail.proofs.KnownObjects.{overwrites_known}
use Rattle.journal_tail.proofs.MapsOfBlocks.{law_of, HasObjects-map_of, map_of-is}
use Rattle.journal_tail.proofs.Missing.{written_there}
use Rattle.journal_tail.proofs.InPlace.{fresh_below, fresh_places}
use Rattle.journal_tail.proofs.Whole.{IsWhole, whole, tail_shows}
use Rattle.journal_tail.proofs.Staged.{stored}

pub some_first : (us : List Update) (b : ℕ) → first_update us ≡ Some b → 0 < length us
some_first [] b is = let impossible : ⊥ = cc in absurd impossible
some_first (u ∷ us) b is = omega arith

pub record IsTailStaging (b : Base) (writes left done : List Pair) (updates : List Update) : Type 0 where
  pub split : writes ≡ left ++ done
  pub objects : IsTrue (are_objects b.layout left)
  pub staged : IsStaged b (fresh_writes b.tail done) updates
  pub sizes : StandsWhole b.tail done

module _ (b : Base) (writes left rest done : List Pair) (p : Pair) (updates : List Update)
    (ascending : HasAscendingBlocks writes) (took : left ≡ rest ++ p ∷ []) (staging : IsTailStaging b writes left done updates) where
  split : writes ≡ rest ++ p ∷ done
  split = staging.split ∙ ap (λ (ws : List Pair). ws ++ done) took ∙ append_assoc rest (p ∷ []) done

  pub tail_below : IsAboveNone p.0.block (fresh_writes b.tail done) × HasAscendingBlocks (fresh_writes b.tail done)
  tail_below = fresh_below b.tail p.0.block done (ascending_later rest p done (subst HasAscendingBlocks split ascending))

  parts : IsTrue (are_objects b.layout rest) × IsTrue (is_object b.layout p)
  parts = objects_split b.layout rest p (subst (λ (ws : List Pair). IsTrue (are_objects b.layout ws)) took staging.objects)

  pub tail_present : (known : List Update) → HasBlocks b.layout known writes → is_missing b.layout known p.0.block ≡ false
  tail_present known has = has p.0.block (ap (λ (ws : List Pair). writes_block ws p.0.block) split ∙ written_there rest p done)

  -- a write in a block that does not stand in the tail is stored
  pub tail_staged_on : updates_block b.tail p.0.block ≡ false → (opened later : List Update) → IsOpen b (fresh_writes b.tail done) p.0 opened
      → later ≡ with_first opened (first_bytes later)
      → ChangesOnly b.layout (first_bytes opened) (first_bytes later) p.0 p.1
      → IsTailStaging b writes rest (p ∷ done) later
  tail_staged_on away opened later first is changes = record {
    split = split;
    objects = parts.0;
    staged = subst (λ (ws : List Pair). IsStaged b ws later) (sym (cond-false _ (fresh_writes b.tail done) (p ∷ fresh_writes b.tail done) away))
        (stored b (fresh_writes b.tail done) p.0 p.1 opened later first is changes parts.1);
    sizes = λ k named stands. staging.sizes k (by k named stands (p.0.block == k) refl) stands;
  }
    where
      by : (k : ℕ) → writes_block (p ∷ done) k ≡ true → updates_block b.tail k ≡ true → (here : Bool) → (p.0.block == k) ≡ here → writes_block done k ≡ true
      by k named stands true here = absurd (false≢true (sym away ∙ ap (updates_block b.tail) (eqb-true p.0.block k here) ∙ stands))
      by k named stands false here = sym (ap (λ (t : Bool). t || writes_block done k) here) ∙ named

  -- one in a block that stands there is passed over
  pub tail_passed : updates_block b.tail p.0.block ≡ true → IsTrue (is_value_of Block (updated b.tail p.0.block []))
      → IsTailStaging b writes rest (p ∷ done) updates
  tail_passed stands size = record {
    split = split;
    objects = parts.0;
    staged = subst (λ (ws : List Pair). IsStaged b ws updates) (sym (cond-true _ (fresh_writes b.tail done) (p ∷ fresh_writes b.tail done) stands)) staging.staged;
    sizes = λ k named there. by k named there (p.0.block == k) refl;
  }
    where
      by : (k : ℕ) → writes_block (p ∷ done) k ≡ true → updates_block b.tail k ≡ true → (here : Bool) → (p.0.block == k) ≡ here
          → IsTrue (is_value_of Block (updated b.tail k []))
      by k named there true here = subst (λ (j : ℕ). IsTrue (is_value_of Block (updated b.tail j []))) (eqb-true p.0.block k here) size
      by k named there false here = staging.sizes k (sym (ap (λ (t : Bool). t || writes_block done k) here) ∙ named) there

-- where nothing is to be stored
nothing_staged : (b : Base) → IsStaged b [] []
nothing_staged b = record {
  blocks = record {
    homes = All-nil (λ (u : Update). (513 ≤ u.block) × (u.block < b.layout.blocks));
    distinct = λ i j d lt inside_list. absurd (omega (arith, inside_list));
    first = refl;
    named = λ k. refl;
    number = refl;
    fresh = refl;
  };
  objects = HasObjects-map_of b.layout (law_of b.layout) b.content;
}

-- before the first
pub tail_staging_begins : (n : Shape) (start : TailState) (fetched : List Update) (writes left : List Pair) (updates : List Update)
    → left ≡ writes → updates ≡ [] → IsTrue (are_objects n writes) → IsTailStaging (tail_base n fetched start) writes left [] updates
tail_staging_begins n start fetched writes left updates whole empty objects = record {
  split = sym whole ∙ sym (append-nil left);
  objects = subst (λ (ws : List Pair). IsTrue (are_objects n ws)) (sym whole) objects;
  staged = subst (λ (us : List Update). IsStaged (tail_base n fetched start) [] us) (sym empty) (nothing_staged (tail_base n fetched start));
  sizes = λ b named stands. absurd (false≢true named);
}

module _ (n : Shape) (old new : TailState) (fetched : List Update) (writes : List Pair) (fresh : List Update) (size : n.blocks ≡ blocks_of old)
    (staged : IsStaged (tail_base n fetched old) (fresh_writes (tail_of old.log) writes) fresh) (sizes : StandsWhole (tail_of old.log) writes)
    (objects : IsTrue (are_objects n writes)) (is : new ≡ with_tail_room old new.log.room) where
  abbrev b : Base
  b = tail_base n fetched old

  all_of : IsWhole b writes (updates_with n old writes fresh)
  all_of = whole b writes fresh (tail_shows n fetched old) objects staged sizes

  -- what is staged, and has room, is ready
  pub tail_ready : (places : ℕ) → places ≡ fresh_blocks b writes → TakesFresh new.log places → TakesPrepared n new writes fresh
  tail_ready places number takes = record {
    objects = objects;
    homes = homes;
    room = takes (updates_with n new writes fresh) homes
        (ap (λ (t : TailState). fresh_count (tail_of t.log) (updates_with n t writes fresh)) is ∙ all_of.fresh ∙ sym number);
  }
    where
      homes : AreHomes (blocks_of new) (updates_with n new writes fresh)
      homes = subst (λ (t : TailState). AreHomes (blocks_of t) (updates_with n t writes fresh)) (sym is)
          (subst (λ (k : ℕ). AreHomes k (updates_with n old writes fresh)) size all_of.homes)

  -- and overwrites what memory knows
  pub tail_overwrites : HasBlocks n (known_updates fetched old) writes
      → OverwritesKnown n (known_updates fetched new) (updates_with n new writes fresh) writes
  tail_overwrites present =
      subst (λ (t : TailState). OverwritesKnown n (known_updates fetched t) (updates_with n t writes fresh) writes) (sym is)
      (overwrites_known n (law_of n) (known_updates fetched old) (updates_with n old writes fresh) writes
      all_of.objects all_of.named objects present)

  -- and prepared
  pub tail_prepared : IsPrepared true (tail_base n fetched new) (updates_with n new writes fresh) writes
  unfolding map_of
  tail_prepared =
      subst (λ (t : TailState). IsPrepared true (tail_base n fetched t) (updates_with n t writes fresh) writes) (sym is) (record {
        map = λ honest. map_of-is n (law_of n) (with_updates b.content (updates_with n old writes fresh))
            (overwritten (map_in b) writes) refl all_of.objects;
        named = all_of.named;
        number = all_of.number;
      })

-- Writes in blocks that all stand in the tail

fresh_none : (tail : List Update) (ws : List Pair) → ((b : ℕ) → writes_block ws b ≡ true → updates_block tail b ≡ true) → fresh_writes tail ws ≡ []
fresh_none tail [] stand = refl
fresh_none tail (p ∷ ws) stand =
    cond-true _ (fresh_writes tail ws) (p ∷ fresh_writes tail ws) (stand p.0.block (ap (λ (t : Bool). t || writes_block ws p.0.block) (eq-eqb p.0.block p.0.block refl)))
    ∙ fresh_none tail ws (λ b named. stand b (or_right (p.0.block == b) (writes_block ws b) named))

written_le : (ws : List Pair) → written_blocks ws ≤ length ws
written_le [] = omega arith
written_le (p ∷ ws) = by (writes_block ws p.0.block) (written_le ws)
  where
    by : (t : Bool) → written_blocks ws ≤ length ws → cond t 0 1 + written_blocks ws ≤ length (p ∷ ws)
    by true rest = omega (arith, rest)
    by false rest = omega (arith, rest)

module _ (n : Shape) (t : TailState) (fetched : List Update) (writes : List Pair) (in_tail : AreInTail n (tail_of t.log) writes) where
  no_places : fresh_blocks (tail_base n fetched t) writes ≡ 0
  no_places = sym (fresh_places (tail_of t.log) writes) ∙ ap (fresh_among (tail_of t.log)) (fresh_none (tail_of t.log) writes in_tail.stand)

  pub stand_places : 0 ≡ fresh_blocks (tail_base n fetched t) writes
  stand_places = sym no_places

  -- they can be prepared
  pub stand_can : IsMemLog t.log → length (tail_of t.log) ≤ 255 → CanPrepare (tail_base n fetched t) writes
  stand_can sound few = record {
    objects = in_tail.objects;
    few = omega (arith, in_tail.few, written_le writes);
    small = omega (arith, sound.bounds.below, no_places);
    tail = omega (arith, few, no_places);
  }

  -- with nothing staged
  pub stand_staged : (updates : List Update) → updates ≡ [] → IsStaged (tail_base n fetched t) (fresh_writes (tail_of t.log) writes) updates
  stand_staged updates empty = subst (λ (us : List Update). IsStaged (tail_base n fetched t) (fresh_writes (tail_of t.log) writes) us) (sym empty)
      (subst (λ (ws : List Pair). IsStaged (tail_base n fetched t) ws []) (sym (fresh_none (tail_of t.log) writes in_tail.stand))
      (nothing_staged (tail_base n fetched t)))

  -- and no block is missing
  pub stand_present : HasBlocks n (known_updates fetched t) writes
  stand_present b named =
      ap (λ (v : Bool). not (is_one_object (kind_of n b)) && not v) known ∙ nothing (not (is_one_object (kind_of n b)))
    where
      nothing : (v : Bool) → (v && false) ≡ false
      nothing true = refl
      nothing false = refl

      known : updates_block (known_updates fetched t) b ≡ true
      known = updates_block-append fetched (t.cache ++ t.log.updates) b
          ∙ or_right (updates_block fetched b) (updates_block (t.cache ++ t.log.updates) b)
          (updates_block-append t.cache t.log.updates b
          ∙ or_right (updates_block t.cache b) (updates_block t.log.updates b)
          (ap (λ (us : List Update). updates_block us b) (sym (take-append-drop (t.log.cut - t.log.start) t.log.updates))
          ∙ updates_block-append (head_of t.log) (tail_of t.log) b
          ∙ or_right (updates_block (head_of t.log) b) (updates_block (tail_of t.log) b) (in_tail.stand b named)))
