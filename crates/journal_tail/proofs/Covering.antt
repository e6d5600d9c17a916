-- Updates that cover the written blocks, where one more write comes before.
use Rattle.std.proofs.Common.{◌≡◌, ◌≢◌, ◌<◌, ◌≤◌, ◌+◌, ◌==◌, ◌||◌, not, ℕ, suc, Bool, true, false, cond, List, [], ◌∷◌, length, Some, refl, sym, ap, subst, ◌∙◌, arith}
use Rattle.std.specs.Prelude.{slice_index_or}
use Rattle.std.proofs.lemmas.Bool.{eqb-true}
use Rattle.std.proofs.lemmas.List.Elements.{All-cons, All-head, All-tail}
use Rattle.journal_world.specs.declared.address.Addr.{Addr}
use Rattle.journal_world.specs.Maps.{Pair}
use Rattle.journal_block.specs.declared.update.Update.{Update}
use Rattle.journal_block.specs.Block.{Bytes}
use Rattle.journal_block.specs.Updates.{updates_block}
use Rattle.journal_memlog.specs.Logs.{HasDistinctBlocks, fresh_count}
use Rattle.journal_tail.specs.Writes.{writes_block, fresh_among}
use Rattle.journal_tail.specs.Staging.{CoversBlocks, first_update}
use Rattle.journal_tail.proofs.Updates.{distinct_cons, fresh_cons}
use Rattle.journal_tail.proofs.Ascending.{is_first, written_named, written_fresh, fresh_named, fresh_unnamed}

-- the updates after the first are of other blocks
unnamed_by_place : (b : ℕ) (us : List Update) → ((j : ℕ) (d : Update) → j < length us → b ≢ (slice_index_or us j d).block)
    → updates_block us b ≡ false
unnamed_by_place b [] apart = refl
unnamed_by_place b (u ∷ us) apart = by (u.block == b) refl (unnamed_by_place b us (λ j d lt. apart (suc j) d (omega (arith, lt))))
  where
    by : (same : Bool) → (u.block == b) ≡ same → updates_block us b ≡ false → (same || updates_block us b) ≡ false
    by true is rest = absurd (apart 0 u (omega arith) (sym (eqb-true u.block b is)))
    by false is rest = rest

pub apart_first : (u : Update) (us : List Update) → HasDistinctBlocks (u ∷ us) → updates_block us u.block ≡ false
apart_first u us distinct = unnamed_by_place u.block us (λ j d lt. distinct 0 (suc j) d (omega arith) (omega (arith, lt)))

pub distinct_later : (u : Update) (us : List Update) → HasDistinctBlocks (u ∷ us) → HasDistinctBlocks us
distinct_later u us distinct = λ i j d lt in_list. distinct (suc i) (suc j) d (omega (arith, lt)) (omega (arith, in_list))

module _ (n : ℕ) (tail : List Update) (ws : List Pair) (us : List Update) (covers : CoversBlocks n tail ws us) (a : Addr) where
  -- the first update is of the block
  pub covers_first : first_update us ≡ Some a.block → CoversBlocks n tail ((a, []) ∷ ws) us
  covers_first first = record {
    homes = covers.homes;
    distinct = covers.distinct;
    first = first;
    named = λ b. covers.named b ∙ by_block b (a.block == b) refl;
    number = covers.number ∙ sym (written_named (a, []) ws named);
    fresh = covers.fresh ∙ sym (fresh_named (updates_block tail a.block) (a, []) ws (fresh_among tail ws) named);
  }
    where
      named : writes_block ws a.block ≡ true
      named = is_first a.block ws (sym covers.first ∙ first)

      by_block : (b : ℕ) (same : Bool) → (a.block == b) ≡ same → writes_block ws b ≡ (same || writes_block ws b)
      by_block b true is = subst (λ (c : ℕ). writes_block ws c ≡ true) (eqb-true a.block b is) named
      by_block b false is = refl

  -- no write was in the block, and an update of it goes before the others
  pub covers_more : (bytes : Bytes) → writes_block ws a.block ≡ false → 513 ≤ a.block → a.block < n
      → CoversBlocks n tail ((a, []) ∷ ws) (record { block = a.block; bytes = bytes } ∷ us)
  covers_more bytes unnamed home inside = record {
    homes = All-cons (λ (u : Update). (513 ≤ u.block) × (u.block < n)) (record { block = a.block; bytes = bytes }) us (home, inside) covers.homes;
    distinct = distinct_cons (record { block = a.block; bytes = bytes }) us (covers.named a.block ∙ unnamed) covers.distinct;
    first = refl;
    named = λ b. ap (λ (v : Bool). (a.block == b) || v) (covers.named b);
    number = omega (arith, covers.number, written_fresh (a, []) ws unnamed);
    fresh =
        fresh_cons tail (record { block = a.block; bytes = bytes }) us
        ∙ by (updates_block tail a.block)
        ∙ sym (fresh_unnamed (updates_block tail a.block) (a, []) ws (fresh_among tail ws) unnamed);
  }
    where
      by : (standing : Bool) → cond (not standing) 1 0 + fresh_count tail us ≡ fresh_among tail ws + cond standing 0 1
      by true = omega (arith, covers.fresh)
      by false = omega (arith, covers.fresh)

-- the bytes of the first update, and the value of the first write, do not matter
pub covers_stored : (n : ℕ) (tail : List Update) (ws : List Pair) (a : Addr) (value : List ℕ) (u : Update) (us : List Update) (bytes : Bytes)
    → CoversBlocks n tail ((a, []) ∷ ws) (u ∷ us) → CoversBlocks n tail ((a, value) ∷ ws) (record u { bytes = bytes } ∷ us)
covers_stored n tail ws a value u us bytes covers = record {
  homes = All-cons (λ (v : Update). (513 ≤ v.block) × (v.block < n)) (record u { bytes = bytes }) us
      (All-head (λ (v : Update). (513 ≤ v.block) × (v.block < n)) u us covers.homes)
      (All-tail (λ (v : Update). (513 ≤ v.block) × (v.block < n)) u us covers.homes);
  distinct = distinct_cons (record u { bytes = bytes }) us (apart_first u us covers.distinct) (distinct_later u us covers.distinct);
  first = covers.first;
  named = covers.named;
  number = covers.number;
  fresh =
      fresh_cons tail (record u { bytes = bytes }) us
      ∙ sym (fresh_cons tail u us)
      ∙ covers.fresh;
}
