-- A walk along the chain of a block's bucket that looks for the last of some first updates.
use Rattle.std.proofs.Common.{◌≡◌, ◌≢◌, ℕ, ◌+◌, ◌-◌, ◌<◌, ◌≤◌, true, false, List, length, take, slice_index, sym, ap, ◌∙◌, arith}
use Rattle.std.proofs.lemmas.List.{length-take-le, get_or-take}
use Rattle.journal_block.specs.declared.update.Update.{Update}
use Rattle.journal_block.specs.Block.{Bytes}
use Rattle.journal_block.specs.Updates.{updated, updates_block}
use Rattle.journal_memlog.specs.Logs.{LogState, next_position}
use Rattle.journal_memlog.specs.Buckets.{bucket_of, no_update, update_at}
use Rattle.journal_memlog.specs.Index.{LeadsTo, IsIndexed}
use Rattle.journal_memlog.proofs.Places.{stands_at, stands_nowhere, updated_by_last}
use Rattle.journal_memlog.proofs.Indexed.{Walks}

-- Of the first n updates, all that are of the block are before the place
pub record WalksBefore (log : LogState) (b n place : ℕ) : Type 0 where
  pub within : place ≤ next_position log
  pub same : log.start < place → bucket_of (update_at log.updates (place - 1 - log.start)).block ≡ bucket_of b
  pub last : (k : ℕ) → k < n → (update_at log.updates k).block ≡ b → log.start + k < place

module _ (log : LogState) (b n place : ℕ) (few : n ≤ length log.updates) where
  size : length (take n log.updates) ≡ n
  size = length-take-le n log.updates few

  first : (k : ℕ) → k < n → update_at (take n log.updates) k ≡ update_at log.updates k
  first k lt = get_or-take n log.updates k no_update lt

  block_of_first : (k : ℕ) → k < n → (update_at (take n log.updates) k).block ≡ (update_at log.updates k).block
  block_of_first k lt = ap (λ (u : Update). u.block) (first k lt)

  -- a walk among all updates is one among the first
  pub before_start : Walks log b place → WalksBefore log b n place
  before_start walks = record { within = walks.within; same = walks.same; last = λ k lt. walks.last k (omega (arith, lt, few)) }

  module _ (walks : WalksBefore log b n place) where
    -- it ends at the log's start, where none of them is of the block
    pub before_end : place ≤ log.start → updates_block (take n log.updates) b ≡ false
    before_end end = stands_nowhere (take n log.updates) b
        (λ k lt is. omega (arith, end, walks.last k (omega (arith, lt, size)) (sym (block_of_first k (omega (arith, lt, size))) ∙ is)))

    -- or at one of them that is of the block, which is the last one
    module _ (some : log.start < place) (end : place ≤ log.start + n) (is : (update_at log.updates (place - 1 - log.start)).block ≡ b) where
      inside : place - 1 - log.start < n
      inside = omega (arith, some, end)

      here : (update_at (take n log.updates) (place - 1 - log.start)).block ≡ b
      here = block_of_first (place - 1 - log.start) inside ∙ is

      pub before_stands : updates_block (take n log.updates) b ≡ true
      before_stands = stands_at (take n log.updates) b (place - 1 - log.start) (omega (arith, inside, size)) here

      pub before_content : (before : Bytes) → updated (take n log.updates) b before ≡ (update_at log.updates (place - 1 - log.start)).bytes
      before_content before =
          updated_by_last (take n log.updates) b (place - 1 - log.start) before (omega (arith, inside, size)) here
          (λ j after lt same. omega (arith, some, after, walks.last j (omega (arith, lt, size)) (sym (block_of_first j (omega (arith, lt, size))) ∙ same)))
          ∙ ap (λ (u : Update). u.bytes) (first (place - 1 - log.start) inside)

    -- and goes on at the one before, where that is none of the first, or is of another block
    module _ (earlier heads : List ℕ) (indexed : IsIndexed log earlier heads) (some : log.start < place) where
      abbrev i : ℕ
      i = place - 1 - log.start

      leads : LeadsTo log.start log.updates (bucket_of (update_at log.updates i).block) i (slice_index earlier i)
      leads = indexed.links i (omega (arith, walks.within, some))

      pub before_falls : slice_index earlier i < place
      before_falls = omega (arith, some, leads.within)

      pub before_more : (i < n → (update_at log.updates i).block ≢ b) → WalksBefore log b n (slice_index earlier i)
      before_more other = record {
        within = omega (arith, some, leads.within, walks.within);
        same = λ after. leads.same after ∙ walks.same some;
        last = λ k lt is. leads.last k (below k lt is) (ap bucket_of is ∙ sym (walks.same some));
      }
        where
          below : (k : ℕ) → k < n → (update_at log.updates k).block ≡ b → k < i
          below k lt is =
              let not_here : k ≢ i = λ here. other (omega (arith, here, lt)) (ap (λ (j : ℕ). (update_at log.updates j).block) (sym here) ∙ is) in
              omega (arith, some, walks.last k lt is, not_here)
